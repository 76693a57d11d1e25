-- What a run has come to, and what a stretch of it leaves.
use Rattle.std.specs.Prelude.{◌≡◌, ℕ, ◌<◌, ◌≤◌, List, length, Option, IfSome, is_some}
use Rattle.assembler.specs.declared.work.Wants.{Wants}
use Rattle.assembler.specs.declared.work.Work.{Work}
use Rattle.cache_store.specs.Shelves.{Shelf}
use Rattle.cache_store.specs.declared.cache.Cache.{Ghosts as CacheWords}
use Rattle.caibx_codec.specs.Asks.{IsListedGet}
use Rattle.caibx_codec.specs.Listing.{Listing, count_of, kind_of, size_of}
use Rattle.chunk_sources.specs.AnyCaches.{seen_in}
use Rattle.chunk_sources.specs.Caches.{Stocked, TakesWants}
use Rattle.chunk_sources.specs.Sources.{KeepsSeeds, Sources, sources}
use Rattle.chunk_sources.specs.Wants.{Task}
use Rattle.chunk_sources.specs.declared.kit.Kit.{Kit}
use Rattle.chunk_store.specs.declared.store.Store.{Ghosts as StoreWords}
use Rattle.dsy_base.specs.Bytes.{Held}
use Rattle.dsy_base.specs.declared.view.View.{Ghosts as ViewWords}
use Rattle.extract_plan.specs.Deal.{AreWants}
use Rattle.extract_plan.specs.Places.{PlacesKnown}
use Rattle.range_ledger.specs.Fills.{Fills, Grows, WhereTold}
use Rattle.range_ledger.specs.declared.ledger.Ledger.{Ghosts as LedgerWords}
use Rattle.range_survey.specs.declared.fate.Fate.{Fate}
use Rattle.store_chain.specs.Chains.{KeepsStores}

-- what a run is to make right, by its listing
abbrev pub task : Listing → Wants → Task
task l w = record { listing = l; plan = w.plan.now; places = w.places.now }

-- what the target holds and how often it has failed, what became of each entry, the kit, and what is seen of the cache
pub record Stage (S V : Type 0) : Type 0 where
  pub held : Held
  pub faults : ℕ
  pub fates : List Fate
  pub kit : Kit S V
  pub cache : Option Shelf

-- the stage that a run has come to
abbrev pub stage : {E S V C : Type 0} → LedgerWords E → CacheWords C → Work E S V C → Stage S V
stage ledger words w = record {
  held = ledger.held w.ledger;
  faults = ledger.faults w.ledger;
  fates = ledger.fates w.ledger;
  kit = w.kit;
  cache = seen_in words w.cache;
}

-- what its chunks are got from
abbrev pub from : {S V : Type 0} → Stage S V → Sources S V
from a = sources a.faults a.kit.seeds.items a.cache a.kit.chain

-- all is as it must be before entries are settled: the plan and the places are of the index, and the buffer has room
-- for each chunk
pub record Ready {S V : Type 0} (t : Task) (a : Stage S V) : Type 0 where
  pub wants : AreWants t.listing t.plan.wants t.plan.want_of
  pub places : PlacesKnown t.listing t.plan t.places (length a.kit.seeds.items)
  pub kind : a.kit.chain.kind ≡ kind_of t.listing
  pub room : (i : ℕ) → i < count_of t.listing → size_of t.listing i ≤ length a.kit.buffer.items
  pub cache : IfSome a.cache (λ s. s.kind ≡ a.kit.chain.kind)

module _ {S V : Type 0} (store : StoreWords S) (view : ViewWords V) where
  -- entries were settled, and the rest was kept
  pub record Progress (l : Listing) (a b : Stage S V) : Type 0 where
    pub grows : Grows a.fates b.fates
    pub bytes : WhereTold a.held.bytes b.held.bytes (Fills l a.fates b.fates a.faults b.faults)
    pub tells : is_some b.held.bytes ≡ is_some a.held.bytes
    pub name : b.held.name ≡ a.held.name
    pub size : b.held.size ≡ a.held.size
    pub never_falls : a.faults ≤ b.faults
    pub stores : KeepsStores store (IsListedGet l) a.kit.chain.stores b.kit.chain.stores
    pub kind : b.kit.chain.kind ≡ a.kit.chain.kind
    pub seeds : KeepsSeeds view a.kit.seeds.items b.kit.seeds.items
    pub room : length b.kit.buffer.items ≡ length a.kit.buffer.items

  -- and chunks of these wants were added to the cache
  pub record Stretch (t : Task) (Among : ℕ → Type 0) (a b : Stage S V) : Type 0 where
    pub step : Progress t.listing a b
    pub stocked : Stocked (TakesWants store t.listing t.plan Among a.kit.chain.stores) a.cache b.cache
