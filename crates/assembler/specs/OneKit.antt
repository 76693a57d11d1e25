-- What is said of an assembly with one kit, by the plan for one worker.
use Rattle.std.specs.Prelude.{◌≡◌, ℕ, List, [], ◌∷◌, Option}
use Rattle.cache_store.specs.Shelves.{Shelf}
use Rattle.caibx_codec.specs.Listing.{Listing}
use Rattle.chunk_sources.specs.Sources.{Sources, sources}
use Rattle.chunk_sources.specs.Wants.{Task}
use Rattle.chunk_sources.specs.declared.kit.Kit.{Kit}
use Rattle.extract_plan.specs.Deal.{IsPlan}
use Rattle.extract_plan.specs.Places.{Placed}

-- it holds between the one kit handed in and the one handed back
pub record OfKit {K : Type 0} (old new : List K) (So : K → K → Type 0) : Type 0 where
  pub so : (k j : K) → old ≡ k ∷ [] → new ≡ j ∷ [] → So k j

-- what an assembly is lent: how often the target has failed, the kits, and what is seen of the cache
pub record Lent (S V : Type 0) : Type 0 where
  pub faults : ℕ
  pub kits : List (Kit S V)
  pub cache : Option Shelf

-- all of it as one value
abbrev pub lent : {S V : Type 0} → ℕ → List (Kit S V) → Option Shelf → Lent S V
lent faults kits cache = record { faults = faults; kits = kits; cache = cache }

-- what chunks are got from with kit k
abbrev pub with_kit : {S V : Type 0} → Lent S V → Kit S V → Sources S V
with_kit a k = sources a.faults k.seeds.items a.cache k.chain

-- the stores, the seeds and the cache are as they were
abbrev pub AreUnused : {S V : Type 0} → Sources S V → Sources S V → Type 0
AreUnused old new = (new.chain ≡ old.chain) × ((new.seeds ≡ old.seeds) × (new.cache ≡ old.cache))

-- it holds for the plan, and for what chunks are got from before and afterwards
pub record ByPlan {S V : Type 0} (l : Listing) (x : Placed) (old new : Lent S V)
    (So : Task → Sources S V → Sources S V → Type 0) : Type 0 where
  pub so : (t : Task) (k j : Kit S V) → t.listing ≡ l → t.places ≡ x → IsPlan l 1 t.plan → old.kits ≡ k ∷ []
      → new.kits ≡ j ∷ [] → So t (with_kit old k) (with_kit new j)
