-- What getting indexes leaves, and whose fault its refusals tell.
use Rattle.std.proofs.Common.{◌≡◌, ◌∙◌, ◌&&◌, ℕ, suc, Bool, true, false, IsTrue, List, [], ◌∷◌, Result, Ok, Err, refl, sym, ap, subst, inr, arith}
use Rattle.std.specs.List.{Contains}
use Rattle.caibx_codec.specs.Listing.{Listing}
use Rattle.command_indexes.proofs.Got.{got_dials, got_file, got_not_spelled, got_reads}
use Rattle.command_indexes.specs.Gets.{IndexGot, IndexesGot}
use Rattle.command_indexes.specs.Places.{are_files, is_file}
use Rattle.command_indexes.specs.Spelled.{NoneServed, NotSpelled, NotSpelledAt}
use Rattle.command_outcome.specs.declared.outcome.Outcome.{Outcome}
use Rattle.command_outcome.specs.declared.outcome.Outcome.TheVariants as ends
use Rattle.command_indexes.proofs.FairSteps.{IsFair, IsLeft, IsStep, behind, bound, on_sources, pure_step, unread_fair, whole}
use Rattle.command_indexes.specs.Blames.{IndexRose, Parts, Spares}
use Rattle.command_steps.specs.Seeds.{CountedWith}
use Rattle.command_steps.specs.Sources.{Storage}
use Rattle.command_words.specs.Locations.{index_place_of}
use Rattle.command_words.specs.declared.location.IndexPlace.{IndexPlace}
use Rattle.command_words.specs.declared.location.IndexPlace.TheVariants as places
use Rattle.command_words.specs.declared.location.NoLocation.{NoLocation}
use Rattle.command_worlds.specs.Worlds.{World}
use Rattle.dsy_base.specs.Disk.{Output}

module _ (x : Parts) (p : Output) (w v : Storage) (q : List ℕ) (has : Contains x.indexes q) where
  unserved_fair : (host : List ℕ) (port : ℕ) (path : List ℕ) → index_place_of q ≡ Ok (places.Http host port path) → (o : Outcome) → NoneServed q host port path w v o → IsFair x o (behind p w) (behind p v)
  unserved_fair host port path is (ends.NoFile name) h = (tt, tt)
  unserved_fair host port path is (ends.BadIndex name fault) h = (tt, tt)
  unserved_fair host port path is (ends.FileFault name) h = (
    tt,
    inr (inr (
      subst (λ (n : List ℕ). Contains x.indexes n) (sym h.0) has,
      subst (λ y. IndexRose w.dial v.dial y) (sym (ap index_place_of h.0 ∙ is)) h.1,
    )),
  )
  unserved_fair host port path is ends.Memory h = (tt, tt)
  unserved_fair host port path is other h = absurd h

  at_place : (y : Result IndexPlace NoLocation) → index_place_of q ≡ y → (o : Outcome) → NotSpelledAt q y w v o → IsFair x o (behind p w) (behind p v)
  at_place (Ok (places.File name)) is o h = unread_fair x (behind p w) (behind p v) q o h
  at_place (Ok (places.Http host port path)) is o h = unserved_fair host port path is o h
  at_place (Err why) is o h = subst (λ r. IsFair x r (behind p w) (behind p v)) (sym h) (tt, tt)

  -- an operand that spelled no index
  pub not_spelled_fair : (o : Outcome) → NotSpelled w v q o → IsFair x o (behind p w) (behind p v)
  not_spelled_fair o h = at_place (index_place_of q) refl o h

-- where the dialer is spared the operand is a file
pub got_step : {s : Spares} {x : Parts} (p : Output) (q : List ℕ) → Contains x.indexes q → (IsTrue s.dial → IsTrue (is_file q)) → IsStep (behind p) s x (IndexGot q)
got_step {s} {x} p q has spared = record { fair = λ w v o h. not_spelled_fair x p w v q has o (got_not_spelled q (index_place_of q) w o v h); leaves = leaves } where
  leaves : (w v : Storage) (r : Result Listing Outcome) → IndexGot q w r v → IsLeft s (behind p w) (behind p v)
  leaves w v r h =
      let reads = got_reads q (index_place_of q) w r v h in
      record {
        keeps = record { files = λ t. reads.files; folders = λ t. reads.folders; dial = λ t. (got_file q w r v (spared t) h).1; out = λ t. refl };
        files = reads.counts;
        folders = reads.folder_counts;
        dial = got_dials q (index_place_of q) w r v h;
        out = omega arith;
      }

counted_fair : (x : Parts) (n : ℕ) (l : Listing) (o : Outcome) (w v : World) → CountedWith n l (Err o) → IsFair x o w v
counted_fair x n l ends.TooManyItems w v h = (tt, tt)
counted_fair x n l ends.Memory w v h = (tt, tt)
counted_fair x n l other w v h = absurd h

both_files : (a b : Bool) → IsTrue (a && b) → IsTrue a × IsTrue b
both_files true b t = (refl, t)
both_files false b t = absurd (cc)

-- of each in order
pub indexes_got_step : {s : Spares} {x : Parts} (n : ℕ) (names : List (List ℕ)) → ((q : List ℕ) → Contains names q → Contains x.indexes q) → (IsTrue s.dial → IsTrue (are_files names)) → IsStep whole s x (IndexesGot n names)
indexes_got_step {s} {x} n [] among spared = pure_step (λ r. r ≡ Ok []) (λ o w v h. absurd (cc))
indexes_got_step {s} {x} n (q ∷ names) among spared =
    bound (on_sources (λ p. got_step p q (among q (0, omega arith, refl)) (λ t. (both_files (is_file q) (are_files names) (spared t)).0))) (λ l.
    bound (pure_step (CountedWith n l) (counted_fair x n l)) (λ m.
    bound (indexes_got_step m names (λ a has. among a (suc has.0, omega (arith, has.1), has.2)) (λ t. (both_files (is_file q) (are_files names) (spared t)).1)) (λ ls.
    pure_step (λ r. r ≡ Ok (l ∷ ls)) (λ o w v h. absurd (cc)))))
