-- Workers with kits of their own. Workers and wants count from 0.
use Rattle.std.specs.Prelude.{◌≡◌, ℕ, ◌<◌, ◌≤◌, ◌&&◌, List, [], length, Bool, true, false, None, Option}
use Rattle.std.specs.Prelude.{IsSomeAnd, IsTrue}
use Rattle.std.specs.Option.{option_map}
use Rattle.assembler.specs.Economy.{PassedBy, TalliedShared}
use Rattle.assembler.specs.Passes.{HasPassedShare, WhereQuiet, source_at, want_at}
use Rattle.assembler.specs.Permits.{MayFillHad, deals_to}
use Rattle.assembler.specs.Stages.{Ready, Stage, from}
use Rattle.cache_store.specs.Shelves.{Shelf}
use Rattle.caibx_codec.specs.Listing.{Listing, count_of, image_length}
use Rattle.chunk_sources.specs.Caches.{OthersAddListed, cache_faults}
use Rattle.chunk_sources.specs.Economy.{source_if}
use Rattle.chunk_sources.specs.Losses.{MayLack}
use Rattle.chunk_sources.specs.Wants.{Task}
use Rattle.chunk_sources.specs.declared.kit.Kit.{Kit}
use Rattle.chunk_store.specs.declared.store.Store.{Ghosts as StoreWords}
use Rattle.dsy_base.specs.declared.view.View.{Ghosts as ViewWords}
use Rattle.image_workers.specs.Shared.{MayAddFrom}
use Rattle.image_workers.specs.declared.lanes.Lane.{Lane}
use Rattle.range_ledger.specs.Runs.{Run}
use Rattle.range_survey.specs.Fates.{FirstFates, SettledRight, fate_at, settled}
use Rattle.range_survey.specs.declared.fate.Fate.{Fate}
use Rattle.range_survey.specs.declared.fate.Fate.TheVariants as fate

-- the shards of the run stand behind this many locks
pub record IsSurveyedFor (r : Run) (l : Listing) (told : Bool) (locks : ℕ) : Type 0 where
  pub listing : l ≡ r.listing
  pub tells : told ≡ r.tells
  pub all : locks ≡ r.shards
  pub few : r.shards ≤ count_of r.listing
  pub some : 0 < count_of r.listing → 0 < r.shards

-- the survey left these fates
pub record AreFirst (r : Run) (m : List Fate) : Type 0 where
  pub size : length m ≡ count_of r.listing
  pub first : FirstFates m (count_of r.listing)
  pub right : IsTrue r.tells → SettledRight r.listing r.base m (count_of r.listing)

module _ {S V : Type 0} where
  -- what a worker has come to, which knows these fates: it sees no bytes of the target, and the cache through its door
  abbrev pub worker_stage : Run → List Fate → ℕ → Option Shelf → Kit S V → Stage S V
  worker_stage r m faults door kit = record {
    held = record { bytes = None; size = image_length r.listing; name = [] };
    faults = faults;
    fates = m;
    kit = kit;
    cache = door;
  }

  -- the kit of a worker that is there
  abbrev pub kit_of : Lane S V → Option (Kit S V)
  kit_of a = option_map (λ x. x.kit) a.tools

  -- what a worker that is there knows of each entry
  abbrev pub known_of : Lane S V → Option (List Fate)
  known_of a = option_map (λ x. x.known.items) a.tools

  -- both
  abbrev pub tools_of : Lane S V → Option (Kit S V × List Fate)
  tools_of a = option_map (λ x. (x.kit, x.known.items)) a.tools

  -- it holds for the kit of a worker that is there, and of what it knows
  abbrev pub OfTools : Lane S V → (Kit S V → List Fate → Type 0) → Type 0
  OfTools a So = IsSomeAnd a.tools (λ x. So x.kit x.known.items)

module _ {S V : Type 0} (store : StoreWords S) (view : ViewWords V) (r : Run) (t : Task) where
  module _ (e : Option Shelf) where
    -- with this kit, and this door to the cache, worker k can settle what it is dealt
    pub record IsReadyFor (k : ℕ) (kit : Kit S V) (m : List Fate) : Type 0 where
      pub known : AreFirst r m
      pub ready : Ready t (worker_stage r m 0 e kit)
      pub adds : MayAddFrom store t.listing kit.chain.stores e
      pub may : MayFillHad store view t r.may (worker_stage r m 0 e kit) (λ w. deals_to t.plan k w ≡ true)

    -- a worker that is there can do so
    abbrev pub IsReadyLane : ℕ → Lane S V → Type 0
    IsReadyLane k a = OfTools a (IsReadyFor k)

    -- worker k has settled what it was dealt: it had the kit a and knew m, and has the kit b and knows n. Of all else
    -- it knows what it knew. It lacked memory only where the stores may, or where there is a cache. Where nothing
    -- fails, and others add to the cache only what the stores give, it left open what no source has, and it has settled
    -- each other want by its source, exactly so where there is no cache, and else with cache and stores as one
    pub record HasWorked (never_fails cache_never_fails : Bool) (k : ℕ) (a : Kit S V) (m : List Fate) (b : Kit S V)
        (n : List Fate) (lacked : Bool) : Type 0 where
      pub faults : ℕ
      pub door : Option Shelf
      pub sure : IsTrue (never_fails && r.tells) → faults ≡ 0
      pub calm : IsTrue cache_never_fails → cache_faults door ≡ 0
      pub passed : HasPassedShare store view t (deals_to t.plan k) (worker_stage r m 0 e a)
          (worker_stage r n faults door b)
      pub memory : lacked ≡ true → MayLack store e
      pub exactly : e ≡ None → lacked ≡ false → WhereQuiet store view r.listing (from (worker_stage r m 0 None a))
          (from (worker_stage r n faults None b)) (λ cached maps. PassedBy (source_if (deals_to t.plan k)
          (source_at view t (worker_stage r m 0 None a) cached maps)) t.plan.wants (count_of r.listing) m n a.chain
          b.chain)
      pub shared : OthersAddListed store r.listing a.chain.stores e → lacked ≡ false → WhereQuiet store view r.listing
          (from (worker_stage r m 0 e a)) (from (worker_stage r n faults door b)) (λ cached maps. TalliedShared
          (deals_to t.plan k) (source_at view t (worker_stage r m 0 e a) cached maps) t.plan.wants (count_of r.listing)
          m n)
      pub left : OthersAddListed store r.listing a.chain.stores e → lacked ≡ false → WhereQuiet store view r.listing
          (from (worker_stage r m 0 e a)) (from (worker_stage r n faults door b)) (λ cached maps. (i : ℕ)
          → i < count_of r.listing → deals_to t.plan k (want_at t.plan i) ≡ true → settled n i ≡ false
          → source_at view t (worker_stage r m 0 e a) cached maps (want_at t.plan i) ≡ fate.Open)
      pub others : (i : ℕ) → deals_to t.plan k (want_at t.plan i) ≡ false → fate_at n i ≡ fate_at m i

    -- so it is of a worker that was there and is there again
    abbrev pub LaneWorks : Bool → Bool → ℕ → Lane S V → Lane S V → Type 0
    LaneWorks never_fails cache_never_fails k x y = OfTools x (λ a m. OfTools y
        (λ b n. HasWorked never_fails cache_never_fails k a m b n y.lacked))
