-- What an assembly has done with any number of kits. Kits and wants count from 0, and kit k is that of worker k. `o`
-- are the target's bytes before it, p those after it.
use Rattle.std.specs.Prelude.{◌≡◌, ◌⊎◌, ◌++◌, ℕ, zero, suc, ◌+◌, ◌<◌, ◌≤◌, List, length, map, slice_index_or, Bool}
use Rattle.std.specs.Prelude.{true, None, Option, Some, IfOk, IfSome, IsSomeAnd, IsTrue, Result}
use Rattle.std.specs.List.{All, Any}
use Rattle.assembler.specs.Assemblies.{After, Assembles, IsObtainable, IsUnobtained, Verdict}
use Rattle.assembler.specs.Economy.{ReportsExactly, ReportsTogether, UnlessMemory}
use Rattle.assembler.specs.Obtainable.{OnlyObtainable}
use Rattle.assembler.specs.OneKit.{Lent, with_kit}
use Rattle.assembler.specs.Passes.{EndsBy, WhereQuiet}
use Rattle.assembler.specs.Permits.{deals_to}
use Rattle.assembler.specs.declared.fault.ExtractFault.{ExtractFault}
use Rattle.cache_store.specs.Shelves.{Shelf}
use Rattle.caibx_codec.specs.Asks.{IsListedGet}
use Rattle.caibx_codec.specs.Listing.{Listing, count_of, image_length, size_of, kind_of}
use Rattle.caibx_codec.specs.Right.{IsRightAt}
use Rattle.chunk_sources.specs.Asks.{AsksAtMost, IsSpared, asks_below, calls_below, others_spared}
use Rattle.chunk_sources.specs.Caches.{CacheGives, HaveOneSize, Stocked, TakesListed, cached_in, IsListedAs}
use Rattle.chunk_sources.specs.Economy.{source_of, pass_asks, source_if, sum_below}
use Rattle.chunk_sources.specs.Sources.{KeepsSeeds, Sources, SourcesQuiet, Telling, sources, views_of}
use Rattle.chunk_sources.specs.Wants.{Task}
use Rattle.chunk_sources.specs.declared.kit.Kit.{Kit}
use Rattle.chunk_store.specs.Members.{maps_of}
use Rattle.chunk_store.specs.declared.store.Store.{Ghosts as StoreWords}
use Rattle.dsy_base.specs.Bytes.{Held, resized}
use Rattle.dsy_base.specs.Counts.{Rose, raised}
use Rattle.dsy_base.specs.Maps.{Map}
use Rattle.dsy_base.specs.declared.view.View.{Ghosts as ViewWords}
use Rattle.extract_plan.specs.Deal.{Deal, first_of, want_id}
use Rattle.image_workers.specs.Shared.{all_stores}
use Rattle.range_ledger.specs.Fills.{WhereTold}
use Rattle.range_survey.specs.Reports.{right_below}
use Rattle.range_survey.specs.declared.report.Report.{Report}
use Rattle.store_chain.specs.Chains.{KeepsStores}

-- no kit was used, nor the cache
abbrev pub NoneUsed : {S V : Type 0} → Lent S V → Lent S V → Type 0
NoneUsed old new = (new.kits ≡ old.kits) × (new.cache ≡ old.cache)

-- what chunks are got from with kit k
abbrev pub at_kit : {S V : Type 0} → Lent S V → ℕ → Kit S V → Sources S V
at_kit a k q = with_kit a (slice_index_or a.kits k q)

-- what the second pass adds to what worker k does: n for the first worker, nothing for another
abbrev pub once_more : ℕ → ℕ → ℕ
once_more zero n = n
once_more (suc k) n = 0

-- how often worker k asks at most: for each want that it is dealt, and the first worker once more for each want; not
-- for a spared one
abbrev pub worker_calls : Deal → (ℕ → Bool) → ℕ → ℕ
worker_calls d spared k = calls_below (others_spared (deals_to d k) spared) d.wants
    + once_more k (calls_below spared d.wants)

-- and how often for the id q
abbrev pub worker_asks : Listing → Deal → (ℕ → Bool) → ℕ → List ℕ → ℕ
worker_asks l d spared k q = asks_below (want_id l d) (others_spared (deals_to d k) spared) d.wants q
    + once_more k (asks_below (want_id l d) spared d.wants q)

-- how often worker k asks where nothing fails, if one pass over what it is dealt takes n calls: exactly so often; the
-- first worker, which makes the second pass too, at least so often
abbrev pub AsksDealt : ℕ → ℕ → ℕ → ℕ → Type 0
AsksDealt zero n old new = raised old n ≤ new
AsksDealt (suc k) n old new = new ≡ raised old n

-- how many calls one pass takes over the wants that are dealt to worker k, where nothing fails: one for each of them
-- that has no right entry in the base and that neither a seed nor the cache gives. Seeds, cache and stores hold these
abbrev pub dealt_asks : Task → List ℕ → List (Option Held) → List (Map (List ℕ)) → List (Map (List ℕ)) → ℕ → ℕ
dealt_asks t base views cached maps k =
    sum_below (λ w. pass_asks (source_if (deals_to t.plan k) (source_of t base views cached maps) w)) t.plan.wants

-- what chunks are got from, but for the cache
abbrev pub uncached : {S V : Type 0} → Sources S V → Sources S V
uncached s = sources s.faults s.seeds None s.chain

-- no worker shares the cache with others: there is one kit, or no cache
abbrev pub IsUnshared : {S V : Type 0} → Lent S V → Type 0
IsUnshared a = (length a.kits ≡ 1) ⊎ (a.cache ≡ None)

-- a fault of the target, or of the cache, is known of all workers: there is one, or its type never fails
abbrev pub KnowsFaults : {K : Type 0} → Bool → List K → Type 0
KnowsFaults never_fails kits = (length kits ≡ 1) ⊎ IsTrue never_fails

module _ {S V : Type 0} (store : StoreWords S) (view : ViewWords V) (t : Task) where
  -- want w is obtained without the stores: an entry of it is right in the base, and the target didn't fail, of which
  -- all workers know; or a seed gives it that didn't fail; or the opening cache does, which didn't fail, of which all
  -- workers know, and in whose place the stores of no kit give another chunk
  abbrev pub IsSparedFor : Bool → Bool → Option (List ℕ) → Lent S V → Sources S V → Sources S V → ℕ → Type 0
  IsSparedFor never_fails cache_never_fails o all old new w = IsSpared store view t (λ j. IsSomeAnd o
      (λ b. IsRightAt (resized b (image_length t.listing)) t.listing j) × KnowsFaults never_fails all.kits)
      (uncached old) new w ⊎ (CacheGives store t.listing (all_stores all.kits) (want_id t.listing t.plan w)
      (size_of t.listing (first_of t.plan w)) old.cache new.cache × KnowsFaults cache_never_fails all.kits)

  -- what became of the kit of worker k, of what is lent. Only listed chunks were asked for. Where nothing fails, of a
  -- target whose type never does, and the cache isn't shared, the worker has asked for the chunk of each want that it
  -- is dealt and that is obtained in no other way
  pub record KitUsed (never_fails cache_never_fails : Bool) (o : Option (List ℕ)) (all : Lent S V) (k : ℕ)
      (old new : Sources S V) (answer : Result Report ExtractFault) : Type 0 where
    pub asks : (spared : ℕ → Bool)
        → ((w : ℕ) → w < t.plan.wants → spared w ≡ true
        → IsSparedFor never_fails cache_never_fails o all old new w)
        → AsksAtMost store (worker_calls t.plan spared k) (worker_asks t.listing t.plan spared k) old.chain
        new.chain
    pub exactly : IsUnshared all → IsTrue never_fails → UnlessMemory (WhereQuiet store view t.listing old new
        (λ cached maps. IfSome o (λ y. AsksDealt k (dealt_asks t (resized y (image_length t.listing))
        (views_of view old.seeds) cached maps k) old.chain.asks new.chain.asks))) answer
    pub stores : KeepsStores store (IsListedGet t.listing) old.chain.stores new.chain.stores
    pub seeds : KeepsSeeds view old.seeds new.seeds
    pub kind : new.chain.kind ≡ old.chain.kind

  -- the seeds of each kit hold what those of the first do, and its stores tell what those of the first tell
  abbrev pub AreKitsAlike : List (Kit S V) → Type 0
  AreKitsAlike kits = (k : ℕ) (q : Kit S V) → k < length kits →
      (views_of view (slice_index_or kits k q).seeds.items ≡ views_of view (slice_index_or kits 0 q).seeds.items)
      × (map store.members (slice_index_or kits k q).chain.stores
      ≡ map store.members (slice_index_or kits 0 q).chain.stores)

  -- the seeds of each kit tell what they hold, and its stores do
  abbrev pub AllKitsTell : List (Kit S V) → Type 0
  AllKitsTell kits = All (λ k. Telling view.tells (views_of view k.seeds.items)
      × ((maps : List (Map (List ℕ))) × (maps_of store.members k.chain.stores ≡ Some maps))) kits

  -- entry i can be obtained with one of these kits, over these bytes of the target; the cache holds these maps
  abbrev pub SomeKitHas : List (Kit S V) → List (Map (List ℕ)) → List ℕ → ℕ → Type 0
  SomeKitHas kits cached y i = Any (λ k. (maps : List (Map (List ℕ)))
      × (maps_of store.members k.chain.stores ≡ Some maps)
      × IsObtainable t (resized y (image_length t.listing)) (views_of view k.seeds.items) (cached ++ maps) i) kits

  -- what may be filled can be obtained with one of these kits over the target's bytes, where all of them tell, and the
  -- opening cache does
  abbrev pub MayFillFrom : (ℕ → Bool) → Option (List ℕ) → Option Shelf → List (Kit S V) → Type 0
  MayFillFrom may o cache kits = AllKitsTell kits → (cached : List (Map (List ℕ))) → cached_in cache ≡ Some cached
      → IfSome o (λ y. (i : ℕ) → i < count_of t.listing → may i ≡ true → SomeKitHas kits cached y i)

  -- what holds where nothing fails with any of the kits, of which cache and stores hold these maps: of what chunks are
  -- got from with the first one
  abbrev pub WhereAllQuiet : Lent S V → Lent S V → (Sources S V → List (Map (List ℕ)) → List (Map (List ℕ)) → Type 0)
      → Type 0
  WhereAllQuiet old new P = (q j : Kit S V) (cached maps : List (Map (List ℕ)))
      → ((k : ℕ) → k < length old.kits → SourcesQuiet store view (kind_of t.listing)
      (IsListedAs t.listing) (at_kit old k q) (at_kit new k j) cached maps)
      → HaveOneSize t.listing old.cache cached maps → P (at_kit old 0 q) cached maps

  -- what an assembly has done, from these bytes and this loan to those. A lost entry is one that the first kit didn't
  -- get. What stands where nothing fails is over the first kit, where all kits are alike. Where the target's type never
  -- fails each right entry is counted as kept, and, where the cache isn't shared, each other want once by the source
  -- that gave it. So it is where the cache is shared and its type never fails, but for which of cache and stores gave a
  -- want. What was added to the cache a store of some kit holds
  pub record IsAssembledBy (never_fails cache_never_fails : Bool) (o p : Option (List ℕ)) (old new : Lent S V)
      (answer : Result Report ExtractFault) : Type 0 where
    pub bytes : WhereTold o p (Assembles t.listing (NoneUsed old new) old.faults new.faults answer)
    pub lost : (q j : Kit S V) → EndsBy (IsUnobtained store view t o (at_kit old 0 q) (at_kit new 0 j))
        (Rose old.faults new.faults) answer
    pub had : AllKitsTell old.kits → (cached : List (Map (List ℕ))) → cached_in old.cache ≡ Some cached
        → WhereTold o p (λ y z. OnlyObtainable t.listing (SomeKitHas old.kits cached y) old.faults new.faults answer
        y z)
    pub exactly : AreKitsAlike old.kits → (q j : Kit S V) → WhereQuiet store view t.listing (at_kit old 0 q)
        (at_kit new 0 j) (λ cached maps. IfSome o (λ y. Verdict t.listing (IsObtainable t (resized y (image_length
        t.listing)) (views_of view (at_kit old 0 q).seeds) (cached ++ maps)) answer))
    pub after : AreKitsAlike old.kits → (q j : Kit S V) → WhereQuiet store view t.listing (at_kit old 0 q)
        (at_kit new 0 j) (λ cached maps. WhereTold o p (λ y z. After t.listing (IsObtainable t (resized y (image_length
        t.listing)) (views_of view (at_kit old 0 q).seeds) (cached ++ maps)) (resized y (image_length t.listing)) z
        answer))
    pub reported : IsUnshared old → IsTrue never_fails → AreKitsAlike old.kits → WhereAllQuiet old new
        (λ s cached maps. IfSome o (λ y. IfOk answer (ReportsExactly (source_of t
        (resized y (image_length t.listing)) (views_of view s.seeds) cached maps) t.plan.wants)))
    pub shared : IsTrue never_fails → IsTrue cache_never_fails → AreKitsAlike old.kits → WhereAllQuiet old new
        (λ s cached maps. IfSome o (λ y. IfOk answer (ReportsTogether (source_of t
        (resized y (image_length t.listing)) (views_of view s.seeds) cached maps) t.plan.wants)))
    pub kept : IsTrue never_fails → IfOk answer (λ r. IfSome o (λ y. r.kept
        ≡ right_below t.listing (resized y (image_length t.listing)) (count_of t.listing)))
    pub stocked : Stocked (TakesListed store t.listing (all_stores old.kits)) old.cache new.cache
    pub first : IsUnshared old ⊎ AreKitsAlike old.kits → (q : Kit S V) → Stocked (TakesListed store t.listing
        (at_kit old 0 q).chain.stores) old.cache new.cache
    pub kits : length new.kits ≡ length old.kits
    pub each : (k : ℕ) (q j : Kit S V) → k < length old.kits
        → KitUsed never_fails cache_never_fails o old k (at_kit old k q) (at_kit new k j) answer
