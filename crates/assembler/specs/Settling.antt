-- What settling the entries of one want leaves.
use Rattle.std.specs.Prelude.{◌≡◌, ◌≢◌, ◌⊎◌, ◌++◌, ℕ, List, Some, true, false, Result, Err, OnOk}
use Rattle.assembler.specs.Losses.{IsFirstOpen, Where, lost_want}
use Rattle.assembler.specs.Stages.{Stage, Stretch, from}
use Rattle.assembler.specs.declared.fault.Unsettled.{Unsettled}
use Rattle.assembler.specs.declared.fault.Unsettled.TheVariants as unsettled
use Rattle.caibx_codec.specs.Listing.{id_of, kind_of, size_of}
use Rattle.chunk_sources.specs.Caches.{CacheLacks, IsAlone, given_maps}
use Rattle.chunk_sources.specs.Losses.{AskedLast, Had, MayLack, RefusedBy}
use Rattle.chunk_sources.specs.Sources.{Telling, views_of}
use Rattle.chunk_sources.specs.Wants.{IsAmong, Task, want_chunk}
use Rattle.chunk_store.specs.declared.store.Store.{Ghosts as StoreWords}
use Rattle.chunk_store.specs.Members.{maps_of}
use Rattle.dsy_base.specs.Counts.{Rose}
use Rattle.dsy_base.specs.Maps.{Map}
use Rattle.dsy_base.specs.declared.view.View.{Ghosts as ViewWords}
use Rattle.extract_plan.specs.Deal.{of_want}
use Rattle.range_ledger.specs.Fills.{FillsTorn, WhereTold}
use Rattle.range_survey.specs.Fates.{settled}
use Rattle.store_chain.specs.declared.refused.Refused.TheVariants as refusals

module _ {S V : Type 0} (store : StoreWords S) (view : ViewWords V) (t : Task) (w : ℕ) (a b : Stage S V) where
  -- the open entries of want w were made right, and all others were left
  pub record Settles : Type 0 where
    pub only : (i : ℕ) → settled a.fates i ≡ false → settled b.fates i ≡ true → IsAmong (of_want t.plan w) i
    pub had : Telling view.tells (views_of view a.kit.seeds.items) → (cached maps : List (Map (List ℕ)))
        → given_maps a.cache ≡ Some cached → maps_of store.members a.kit.chain.stores ≡ Some maps
        → (i : ℕ) → settled a.fates i ≡ false → settled b.fates i ≡ true
        → Had a.fates (want_chunk t w) (views_of view a.kit.seeds.items) (cached ++ maps)
    pub asks : (b.kit.chain ≡ a.kit.chain) ⊎ AskedLast store view (want_chunk t w) a.fates (from a) (from b)
    pub stretch : Stretch store view t (λ v. v ≡ w) a b

  -- how that ended. The first open entry is named, which no source gave though there was memory: the stores refused it,
  -- the cache lacks it where nobody else fills it, and the chain was asked; or a write failed
  pub record HasEnded (result : Result Unit Unsettled) : Type 0 where
    pub ok : OnOk result ((i : ℕ) → IsAmong (of_want t.plan w) i → settled b.fates i ≡ true)
    pub lost : Where (IsFirstOpen t.listing a.fates (of_want t.plan w)) (Rose a.faults b.faults) result
    pub failed : result ≡ Err unsettled.TargetFault → (i : ℕ) × IsAmong (of_want t.plan w) i
        × WhereTold a.held.bytes b.held.bytes (FillsTorn t.listing a.fates b.fates a.faults b.faults i)
    pub refused : Where (λ x. x.refused ≢ refusals.Memory → RefusedBy store (lost_want t.listing x) a.kit.chain.stores
        b.kit.chain.stores x.refused) (Unit {0}) result
    pub missed : Where (λ x. x.refused ≢ refusals.Memory → IsAlone a.cache → CacheLacks (kind_of t.listing)
        (id_of t.listing x.entry) (size_of t.listing x.entry) a.cache b.cache) (Unit {0}) result
    pub asked : Where (λ x. x.refused ≢ refusals.Memory
        → AskedLast store view (want_chunk t w) a.fates (from a) (from b)) (Unit {0}) result
    pub memory : Where (λ x. x.refused ≡ refusals.Memory → MayLack store a.cache) (Unit {0}) result
