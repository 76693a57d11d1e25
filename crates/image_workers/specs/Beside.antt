-- An assembly by several workers, of which the first makes the second pass. `o` are the target's bytes before it, p
-- those after it.
use Rattle.std.specs.Prelude.{◌≡◌, ◌⊎◌, ℕ, ◌<◌, ◌≤◌, List, ◌++◌, Bool, true, Option, Some, IfSome, IsTrue}
use Rattle.std.specs.Prelude.{is_some, Result}
use Rattle.assembler.specs.Assemblies.{After, Assembles, IsObtainable, IsUnobtained, Verdict}
use Rattle.assembler.specs.Obtainable.{OnlyObtainable}
use Rattle.assembler.specs.Passes.{EndsBy, WhereQuiet, want_at}
use Rattle.assembler.specs.Stages.{Stage}
use Rattle.assembler.specs.declared.fault.ExtractFault.{ExtractFault}
use Rattle.cache_store.specs.Shelves.{Shelf}
use Rattle.caibx_codec.specs.Asks.{IsListedGet}
use Rattle.caibx_codec.specs.Listing.{count_of, image_length, kind_of}
use Rattle.chunk_sources.specs.Caches.{Stocked, TakesWants, cache_faults, given_maps}
use Rattle.chunk_sources.specs.Sources.{KeepsSeeds, Sources, Telling, views_of}
use Rattle.chunk_sources.specs.Wants.{Task}
use Rattle.chunk_sources.specs.declared.kit.Kit.{Kit}
use Rattle.chunk_store.specs.Members.{maps_of}
use Rattle.chunk_store.specs.declared.store.Store.{Ghosts as StoreWords}
use Rattle.dsy_base.specs.Bytes.{Held, resized}
use Rattle.dsy_base.specs.Counts.{Rose}
use Rattle.dsy_base.specs.Maps.{Map}
use Rattle.dsy_base.specs.declared.view.View.{Ghosts as ViewWords}
use Rattle.image_workers.specs.Shared.{GivesNoMore}
use Rattle.owned_shards.specs.Wholes.{Whole}
use Rattle.range_ledger.specs.Fills.{WhereTold}
use Rattle.range_ledger.specs.Runs.{Run}
use Rattle.range_survey.specs.declared.report.Report.{Report}
use Rattle.store_chain.specs.Chains.{KeepsStores}

-- what the second pass begins with: the shards that were joined again, the cache, and a kit
abbrev pub joined_stage : {S V : Type 0} → Whole → Option Shelf → Kit S V → Stage S V
joined_stage w cache kit = record { held = w.held; faults = w.faults; fates = w.fates; kit = kit; cache = cache }

-- an entry that is alike to entry i may be filled
abbrev pub MayFillAlike : Run → Task → ℕ → Type 0
MayFillAlike r t i = (j : ℕ) × (j < count_of t.listing) × (want_at t.plan j ≡ want_at t.plan i) × (r.may j ≡ true)

-- with seeds whose views hold this, a cache that gives what is told so, and stores that tell so: an entry may be filled
-- where an alike one may be, or where it can be obtained, as far as that is told
abbrev pub PermitsWith : Bool → Run → Task → List (Option Held) → Option (List (Map (List ℕ)))
    → Option (List (Map (List ℕ))) → Type 0
PermitsWith view_tells r t views given told = (i : ℕ) → i < count_of t.listing
    → (IsTrue r.tells → Telling view_tells views → (cached maps : List (Map (List ℕ))) → given ≡ Some cached
    → told ≡ Some maps → IsObtainable t r.base views (cached ++ maps) i ⊎ MayFillAlike r t i)
    → r.may i ≡ true

-- a target in shards of which the survey is over, and which held this and had failed so often at first
pub record BegunBeside (r : Run) (old : Held) (f : ℕ) (w : Whole) : Type 0 where
  pub before : f ≤ w.faults_before
  pub base : IfSome old.bytes (λ y. r.base ≡ resized y (image_length r.listing))
  pub told : is_some old.bytes ≡ r.tells

module _ {S V : Type 0} (store : StoreWords S) (view : ViewWords V) (r : Run) (t : Task) where
  -- so it permits with this kit, and this door to the cache
  abbrev pub PermitsKit : Option Shelf → Kit S V → Type 0
  PermitsKit e k =
      PermitsWith view.tells r t (views_of view k.seeds.items) (given_maps e) (maps_of store.members k.chain.stores)

  -- the shards, the cache and the kit are those of a target that held these bytes, and of these sources, after the
  -- first pass. The run permits with the sources, and with what the cache may have given meanwhile
  pub record ComesFrom (o : Option (List ℕ)) (given : Option (List (Map (List ℕ)))) (old : Sources S V) (w : Whole)
      (cache : Option Shelf) (kit : Kit S V) : Type 0 where
    pub before : old.faults ≤ w.faults_before
    pub base : IfSome o (λ y. r.base ≡ resized y (image_length t.listing))
    pub told : is_some o ≡ r.tells
    pub tells : is_some w.held.bytes ≡ r.tells
    pub permits : PermitsWith view.tells r t (views_of view old.seeds) given (maps_of store.members old.chain.stores)
    pub gives : GivesNoMore (kind_of t.listing) given cache
    pub falls : cache_faults old.cache ≤ cache_faults cache
    pub seeds : KeepsSeeds view old.seeds kit.seeds.items
    pub stores : KeepsStores store (IsListedGet t.listing) old.chain.stores kit.chain.stores

  -- what may be filled can be obtained from these sources, of which cache and stores hold these maps
  abbrev pub FillsObtainable : Sources S V → List (Map (List ℕ)) → List (Map (List ℕ)) → List ℕ → Type 0
  FillsObtainable old cached maps y = (i : ℕ) → i < count_of t.listing → r.may i ≡ true
      → IsObtainable t (resized y (image_length t.listing)) (views_of view old.seeds) (cached ++ maps) i

  -- what was added to the cache these sources' stores hold
  abbrev pub AddsOwn : Sources S V → Option Shelf → Type 0
  AddsOwn old cache =
      Stocked (TakesWants store t.listing t.plan (λ w. w < t.plan.wants) old.chain.stores) old.cache cache

  -- what such an assembly has done, from these sources of the first worker to those; between the passes this is seen of
  -- the cache. Only what may be filled was made right. What is said of what can be obtained where nothing fails is so
  -- where what was added in the first pass is what the first worker's stores hold, and where what may be filled can be
  -- obtained from its sources
  pub record AssembledBeside (o p : Option (List ℕ)) (old : Sources S V) (between : Option Shelf) (new : Sources S V)
      (answer : Result Report ExtractFault) : Type 0 where
    pub bytes : WhereTold o p (Assembles t.listing ⊥ old.faults new.faults answer)
    pub lost : EndsBy (IsUnobtained store view t o old new) (Rose old.faults new.faults) answer
    pub had : WhereTold o p (OnlyObtainable t.listing (λ i. r.may i ≡ true) old.faults new.faults answer)
    pub exactly : AddsOwn old between → WhereQuiet store view t.listing old new (λ cached maps.
        IfSome o (FillsObtainable old cached maps) → IfSome o (λ y. Verdict t.listing (IsObtainable t
        (resized y (image_length t.listing)) (views_of view old.seeds) (cached ++ maps)) answer))
    pub after : AddsOwn old between → WhereQuiet store view t.listing old new (λ cached maps.
        IfSome o (FillsObtainable old cached maps) → WhereTold o p (λ y z. After t.listing (IsObtainable t
        (resized y (image_length t.listing)) (views_of view old.seeds) (cached ++ maps))
        (resized y (image_length t.listing)) z answer))
