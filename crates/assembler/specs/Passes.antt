-- What a pass over the wants of an index leaves.
use Rattle.std.specs.Prelude.{◌≡◌, ◌≢◌, ◌⊎◌, ◌++◌, ℕ, ◌+◌, ◌<◌, List, slice_index, Bool, true, false, Option, Some}
use Rattle.std.specs.Prelude.{Result, Ok, Err, IfErr, OnOk}
use Rattle.assembler.specs.Faults.{fault_of}
use Rattle.assembler.specs.Losses.{lost_want}
use Rattle.assembler.specs.Stages.{Stage, Stretch, from}
use Rattle.assembler.specs.declared.fault.ExtractFault.{ExtractFault}
use Rattle.assembler.specs.declared.fault.ExtractFault.TheVariants as faults
use Rattle.assembler.specs.declared.fault.Lost.{Lost}
use Rattle.caibx_codec.specs.Asks.{IsListedGet}
use Rattle.caibx_codec.specs.Listing.{Listing, count_of, id_of, kind_of, size_of}
use Rattle.chunk_sources.specs.Asks.{AreSpared, AsksAtMost, ShareAsks, asks_below, calls_below}
use Rattle.chunk_sources.specs.Caches.{CacheLacks, HaveOneSize, given_maps, IsListedAs}
use Rattle.chunk_sources.specs.Economy.{source_over}
use Rattle.chunk_sources.specs.Losses.{CopiesFailed, Had, MayLack, RefusedBy}
use Rattle.chunk_sources.specs.Sources.{SeedsFailed, Sources, SourcesQuiet, Telling, counts_of, views_of}
use Rattle.chunk_sources.specs.Wants.{IsAmong, Task, want_chunk}
use Rattle.chunk_store.specs.declared.store.Store.{Ghosts as StoreWords}
use Rattle.chunk_store.specs.Members.{maps_of}
use Rattle.dsy_base.specs.Bytes.{Held}
use Rattle.dsy_base.specs.Counts.{Rose}
use Rattle.dsy_base.specs.Maps.{Map}
use Rattle.dsy_base.specs.declared.view.View.{Ghosts as ViewWords}
use Rattle.extract_plan.specs.Deal.{Deal, of_want, want_id}
use Rattle.extract_plan.specs.Places.{places_at}
use Rattle.range_ledger.specs.Fills.{FillsTorn, WhereTold}
use Rattle.range_survey.specs.Fates.{settled}
use Rattle.range_survey.specs.declared.fate.Fate.{Fate}
use Rattle.store_chain.specs.Chains.{KeepsStores}
use Rattle.store_chain.specs.declared.refused.Refused.TheVariants as refused

-- the want of entry i
abbrev pub want_at : Deal → ℕ → ℕ
want_at d i = slice_index d.want_of i

-- where the chunk of entry i may have come from, over what was settled before the pass
abbrev pub HadAt : Task → List Fate → List (Option Held) → List (Map (List ℕ)) → ℕ → Type 0
HadAt t m views maps i = Had m (want_chunk t (want_at t.plan i)) views maps

-- how the second pass may end: with a lost entry, with a write that failed, or with want of memory
abbrev pub EndsBy : {A : Type 0} → (Lost → Type 0) → Type 0 → Result A ExtractFault → Type 0
EndsBy P F (Ok r) = Unit {0}
EndsBy P F (Err e) = ((lost : Lost) × (e ≡ fault_of lost.entry lost.id lost.refused) × P lost)
    ⊎ (((e ≡ faults.TargetFault) × F) ⊎ (e ≡ faults.Memory))

-- a write failed that would have made this entry right, or one of its want that is torn. It was open by m, and all
-- entries before it are settled by n
pub record EndsTorn (t : Task) (m n : List Fate) (IsTorn : ℕ → Type 0) : Type 0 where
  pub entry : ℕ
  pub listed : entry < count_of t.listing
  pub was_open : settled m entry ≡ false
  pub before : (i : ℕ) → i < entry → settled n i ≡ true
  pub torn : ℕ
  pub among : IsAmong (of_want t.plan (want_at t.plan entry)) torn
  pub is_torn : IsTorn torn

-- where the chunk of a want comes from, over a stage
abbrev pub source_at : {S V : Type 0} → ViewWords V → Task → Stage S V → List (Map (List ℕ)) → List (Map (List ℕ)) → ℕ
    → Fate
source_at view t a cached maps w = source_over t (settled a.fates) (views_of view a.kit.seeds.items) cached maps w

-- how often one pass asks at most for each want of this number
abbrev pub one_pass : ℕ → ℕ
one_pass n = n

-- and two passes
abbrev pub two_passes : ℕ → ℕ
two_passes n = n + n

module _ {S V : Type 0} (store : StoreWords S) (view : ViewWords V) where
  -- what holds where nothing fails, of all that the cache and the stores hold, which have chunks of one size for each
  -- id
  abbrev pub WhereQuiet : Listing → Sources S V → Sources S V
      → (List (Map (List ℕ)) → List (Map (List ℕ)) → Type 0) → Type 0
  WhereQuiet l old new P = (cached maps : List (Map (List ℕ))) → SourcesQuiet store view
      (kind_of l) (IsListedAs l) old new cached maps
      → HaveOneSize l old.cache cached maps → P cached maps

  module _ (t : Task) where
    -- the stores refused the chunk of the lost entry in one call between
    pub record RefusedOnce (lost : Lost) (old new : List S) : Type 0 where
      pub before : List S
      pub after : List S
      pub until : KeepsStores store (IsListedGet t.listing) old before
      pub refused : RefusedBy store (lost_want t.listing lost) before after lost.refused
      pub since : KeepsStores store (IsListedGet t.listing) after new

    -- no source gave the chunk of this entry: settled entries that are alike couldn't be read, seeds that have it
    -- failed, the cache lacks it or failed, and the stores refused it, though there was memory
    pub record IsLost (m : List Fate) (old new : Sources S V) (lost : Lost) : Type 0 where
      pub listed : lost.entry < count_of t.listing
      pub id_is : lost.id.0 ≡ id_of t.listing lost.entry
      pub copies : CopiesFailed m (of_want t.plan (want_at t.plan lost.entry)) old.faults new.faults
      pub seeds : SeedsFailed (views_of view old.seeds) (places_at t.places (want_at t.plan lost.entry)) lost.id.0
          (counts_of view old.seeds) (counts_of view new.seeds)
      pub cache : CacheLacks (kind_of t.listing) (id_of t.listing lost.entry) (size_of t.listing lost.entry) old.cache
          new.cache
      pub stores : RefusedOnce lost old.chain.stores new.chain.stores
      pub had_memory : lost.refused ≢ refused.Memory

    -- the same of a stretch, as it has come to b
    abbrev pub Loses : Stage S V → Stage S V → Lost → Type 0
    Loses a b lost = IsLost a.fates (from a) (from b) lost

    -- where the chunk of each entry that is settled now may have come from, over a stage
    abbrev pub HadAll : Stage S V → List Fate → Type 0
    HadAll a now = Telling view.tells (views_of view a.kit.seeds.items) → (cached maps : List (Map (List ℕ)))
        → given_maps a.cache ≡ Some cached → maps_of store.members a.kit.chain.stores ≡ Some maps
        → (i : ℕ) → i < count_of t.listing → settled now i ≡ true
        → HadAt t a.fates (views_of view a.kit.seeds.items) (cached ++ maps) i

    -- how often passes ask: so often for each want at most, and not for a spared one
    abbrev pub PassAsks : (ℕ → ℕ) → Stage S V → Stage S V → Type 0
    PassAsks times a b = (spared : ℕ → Bool) → AreSpared store view t a.fates (from a) (from b) spared
        → AsksAtMost store (times (calls_below spared t.plan.wants))
        (λ q. times (asks_below (want_id t.listing t.plan) spared t.plan.wants q)) a.kit.chain b.kit.chain

    -- what one pass leaves, or two
    pub record HasPassed (times : ℕ → ℕ) (a b : Stage S V) : Type 0 where
      pub had : HadAll a b.fates
      pub asks : PassAsks times a b
      pub stretch : Stretch store view t (λ w. w < t.plan.wants) a b

    -- what one pass over these wants leaves
    pub record HasPassedShare (these : ℕ → Bool) (a b : Stage S V) : Type 0 where
      pub had : HadAll a b.fates
      pub asks : ShareAsks store view t a.fates (from a) (from b) these
      pub stretch : Stretch store view t (λ w. (w < t.plan.wants) × (these w ≡ true)) a b

    -- how the second pass ends. Its first lost entry is named, before which all are settled; no entry before the one
    -- whose write ended it was lost; each entry that is left open is lost, unless a write that failed or want of memory
    -- ended the pass
    pub record Ends (a b : Stage S V) (result : Result Unit ExtractFault) : Type 0 where
      pub ok : OnOk result ((i : ℕ) → i < count_of t.listing → settled b.fates i ≡ true)
      pub first : EndsBy (λ lost. Loses a b lost × ((i : ℕ) → i < lost.entry → settled b.fates i ≡ true))
          (Rose a.faults b.faults) result
      pub failed : result ≡ Err faults.TargetFault → EndsTorn t a.fates b.fates (λ i. WhereTold a.held.bytes
          b.held.bytes (FillsTorn t.listing a.fates b.fates a.faults b.faults i))
      pub left : IfErr result (λ e. (e ≡ faults.Memory) ⊎ (Rose a.faults b.faults ⊎ ((i : ℕ) → i < count_of t.listing
          → settled b.fates i ≡ false
          → (lost : Lost) × (want_at t.plan lost.entry ≡ want_at t.plan i) × Loses a b lost)))
      pub memory : result ≡ Err faults.Memory → MayLack store a.cache
