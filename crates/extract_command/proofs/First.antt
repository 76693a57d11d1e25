-- What holds for an assembly with kits, of which the first are known.
use Rattle.std.proofs.Common.{◌≡◌, ◌∙◌, ℕ, ◌<◌, List, length, map, Bool, Option, Some, None, Result, sym, subst}
use Rattle.std.proofs.lemmas.List.{length-map}
use Rattle.std.specs.List.{AllZip}
use Rattle.assembler.specs.Obtainable.{OnlyObtainable}
use Rattle.assembler.specs.OneKit.{lent}
use Rattle.assembler.specs.declared.fault.ExtractFault.{ExtractFault}
use Rattle.cache_store.specs.Shelves.{Shelf}
use Rattle.caibx_codec.specs.Listing.{Listing, count_of}
use Rattle.chunk_sources.specs.Wants.{Task}
use Rattle.chunk_sources.specs.declared.kit.Kit.{Kit}
use Rattle.command_steps.specs.Seeds.{IsViewed, image_name}
use Rattle.dsy_base.specs.Bytes.{Held}
use Rattle.dsy_base.specs.Disk.{Disk}
use Rattle.chunk_store.specs.declared.store.Store.{Ghosts as StoreWords}
use Rattle.dsy_base.specs.declared.view.View.{Ghosts as ViewWords}
use Rattle.extract_command.proofs.Assembled.{only_as}
use Rattle.extract_command.proofs.Seeded.{zipped_many}
use Rattle.extract_plan.specs.Deal.{Deal}
use Rattle.extract_plan.specs.Places.{Placed, PlacesKnown}
use Rattle.extract_plan.specs.Seeds.{seed_held}
use Rattle.extract_plan.specs.declared.seed.Seed.{Seed}
use Rattle.image_workers.specs.Kits.{IsAssembledBy}
use Rattle.range_ledger.specs.Fills.{WhereTold}
use Rattle.range_survey.specs.declared.report.Report.{Report}

-- over lists of kits and a cache that are these
pub by_first : {S V : Type 0} (store : StoreWords S) (view : ViewWords V) (t : Task) (never cache_never : Bool) (o p : Option (List ℕ)) (a b : ℕ) (e u f : Option Shelf) (xs ms ys ns : List (Kit S V)) (r : Result Report ExtractFault) → e ≡ u → xs ≡ ms → ys ≡ ns
    → IsAssembledBy store view t never cache_never o p (lent a xs e) (lent b ys f) r → IsAssembledBy store view t never cache_never o p (lent a ms u) (lent b ns f) r
by_first {S} {V} store view t never cache_never o p a b e u f xs ms ys ns r shelf old new made =
    subst (λ (c : Option Shelf). IsAssembledBy store view t never cache_never o p (lent a ms c) (lent b ns f) r) shelf
    (subst (λ (l : List (Kit S V)). IsAssembledBy store view t never cache_never o p (lent a l e) (lent b ns f) r) old
    (subst (λ (l : List (Kit S V)). IsAssembledBy store view t never cache_never o p (lent a xs e) (lent b l f) r) new made))

-- what holds of the entries that can be obtained over some bytes
pub only_told : (l : Listing) (P Q : List ℕ → ℕ → Type 0) (a b : ℕ) (r : Result Report ExtractFault) (o t : Option (List ℕ)) → ((y : List ℕ) (i : ℕ) → i < count_of l → P y i → Q y i)
    → WhereTold o t (λ y z. OnlyObtainable l (P y) a b r y z) → WhereTold o t (λ y z. OnlyObtainable l (Q y) a b r y z)
only_told l P Q a b r None t f h = tt
only_told l P Q a b r (Some y) None f h = tt
only_told l P Q a b r (Some y) (Some z) f h = only_as l (P y) (Q y) a b a b (f y) (λ xs e. e) r y z h

-- the places are in as many seeds as were opened for the names
pub as_many : {V : Type 0} (d b : Disk) (held : V → Held) (names : List (List ℕ)) (xs : List (Seed V)) → AllZip (IsViewed d b) (map image_name names) (map (seed_held held) xs) → (l : Listing) (p : Deal) (x : Placed) → PlacesKnown l p x (length names) → PlacesKnown l p x (length xs)
as_many d b held names xs zip l p x known =
    let many : length xs ≡ length names = sym (length-map xs (seed_held held)) ∙ sym (zipped_many (IsViewed d b) (map image_name names) (map (seed_held held) xs) zip) ∙ length-map names image_name in
    subst (λ (n : ℕ). PlacesKnown l p x n) (sym many) known
