-- An extraction by way of a temporary file: its steps in order, and what they need of one another.
use Rattle.std.proofs.Common.{◌≡◌, ◌≢◌, ℕ, ◌+◌, List, length, codes, Bool, map, Option, Result, Ok, Err, refl, sym, ap, subst, inl, inr, arith}
use Rattle.std.proofs.lemmas.List.{length-append}
use Rattle.caibx_codec.specs.Listing.{Listing}
use Rattle.command_outcome.specs.declared.outcome.Outcome.{Outcome}
use Rattle.command_indexes.specs.Gets.{IndexGot}
use Rattle.command_steps.specs.InputFiles.{Listed}
use Rattle.command_steps.specs.Seeds.{AllListed, IndexesRead, image_name}
use Rattle.command_worlds.specs.Steps.{◌>>=◌, Passed}
use Rattle.command_steps.specs.Sources.{Storage, storage}
use Rattle.command_worlds.specs.Worlds.{Step, World, world}
use Rattle.extract_command.proofs.Seeded.{zipped_many}
use Rattle.extract_command.specs.Held.{AllReached}
use Rattle.extract_command.specs.Extract.{ClearedAfter, Clearing, ExtractEnds, ExtractStores, NeverFail, OutMade, temporary_out}
use Rattle.dsy_base.specs.Disk.{Disk, Output}
use Rattle.dsy_base.specs.Links.{DialState}
use Rattle.extract_plan.specs.Deal.{Deal}
use Rattle.extract_plan.specs.Places.{Placed, PlacesKnown}

-- the temporary file is another one than OUT
pub beside_apart : (out : List ℕ) → out ≢ temporary_out out
beside_apart out same =
    let long : length (temporary_out out) ≡ length out + 11 = length-append out (codes ".tmp-desync") in
    let equal : length out ≡ length (temporary_out out) = ap length same in
    absurd (omega (arith, long, equal))

-- ---- the steps in order

-- a step that answered so, and was then cleared
pub clears : (tmp : List ℕ) (step : Step Storage Unit) (w : Storage) (c e : Disk) (k : DialState) (r a : Result Unit Outcome) → step w r (storage c k) → ClearedAfter tmp c r a e → Clearing tmp step w a (storage e k)
clears tmp step w c e k (Ok u) (Ok v) did same = subst (λ x. step w (Ok v) (storage x k)) (sym same) did
clears tmp step w c e k (Ok u) (Err o) did h = absurd h
clears tmp step w c e k (Err p) (Ok v) did h = absurd h
clears tmp step w c e k (Err p) (Err o) did h = (c, subst (λ (q : Outcome). step w (Err q) (storage c k)) (sym h.0) did, h.1)

-- what follows on a step that passed
pub passed_any : {A B : Type 0} (step : Step World A) (next : A → Step World B) (w : World) (r : Result B Outcome) (v : World) → Passed step next w r v → (step >>= next) w r v
passed_any step next w (Ok b) v h = h
passed_any step next w (Err o) v h = inr h

-- OUT was made so after the steps before it
pub ends_with : (sure : NeverFail) (stores : ExtractStores) (cache : Option (List ℕ)) (seeds : List (List ℕ)) (place : Bool) (index out : List ℕ) (l : Listing) (ls : List Listing) (d b c m e : Disk) (i k j : DialState) (p : Output) (r : Result Unit Outcome)
    → IndexGot index (storage d i) (Ok l) (storage b k) → IndexesRead seeds b (Ok ls) c → AllReached stores.groups cache c (Ok tt) m → OutMade sure place stores cache out l (record { images = map image_name seeds; listings = ls }) (world m k p) r (world e j p)
    → ExtractEnds sure stores cache seeds place index out (world d i p) r (world e j p)
ends_with sure stores cache seeds place index out l ls d b c m e i k j p r listed read reached made =
    passed_any _ _ (world d i p) r (world e j p) (record {
      disk = b;
      dial = k;
      out = p;
      gave = l;
      did = (listed, refl);
      then = passed_any _ _ (world b k p) r (world e j p) (record {
        disk = c;
        dial = k;
        out = p;
        gave = ls;
        did = (read, refl, refl);
        then = passed_any _ _ (world c k p) r (world e j p) (record { disk = reached.0; dial = k; out = p; gave = tt; did = (reached.1, refl, refl); then = passed_any _ _ (world reached.0 k p) r (world e j p) (record { disk = m; dial = k; out = p; gave = tt; did = (reached.2, refl, refl); then = made }) });
      });
    })

-- the stores or the cache weren't reached after the indexes were read
pub ends_unreached : (sure : NeverFail) (stores : ExtractStores) (cache : Option (List ℕ)) (seeds : List (List ℕ)) (place : Bool) (index out : List ℕ) (l : Listing) (ls : List Listing) (d b c e : Disk) (i k : DialState) (p : Output) (o : Outcome)
    → IndexGot index (storage d i) (Ok l) (storage b k) → IndexesRead seeds b (Ok ls) c → AllReached stores.groups cache c (Err o) e → ExtractEnds sure stores cache seeds place index out (world d i p) (Err o) (world e k p)
ends_unreached sure stores cache seeds place index out l ls d b c e i k p o listed read refused =
    inr (record {
      disk = b;
      dial = k;
      out = p;
      gave = l;
      did = (listed, refl);
      then = inr (record {
        disk = c;
        dial = k;
        out = p;
        gave = ls;
        did = (read, refl, refl);
        then = elim refused [
          | inl h ↦ inl (h, refl, refl)
          | inr h ↦ inr (record { disk = h.0; dial = k; out = p; gave = tt; did = (h.1, refl, refl); then = inl (h.2, refl, refl) })
        ];
      });
    })

-- ---- what the assembly needs of them

-- the places are in as many seeds as there are names
pub known_places_of : (d : Disk) (seeds : List (List ℕ)) (ls : List Listing) (l k : Listing) (p : Deal) (x : Placed) → AllListed d seeds ls → k ≡ l → PlacesKnown l p x (length ls) → PlacesKnown k p x (length seeds)
known_places_of d seeds ls l k p x listed same known =
    let many = zipped_many (λ q l. Listed d q l) seeds ls listed in
    subst (λ (n : ℕ). PlacesKnown k p x n) (sym many) (subst (λ i. PlacesKnown i p x (length ls)) (sym same) known)
