-- How often stores are asked.
use Rattle.std.specs.Prelude.{◌≡◌, ◌⊎◌, ℕ, zero, suc, ◌+◌, ◌<◌, ◌≤◌, List, map, slice_index}
use Rattle.std.specs.Prelude.{Bool, true, if◌then◌else◌}
use Rattle.std.specs.List.{Any}
use Rattle.std.specs.Str.{bytes_eq}
use Rattle.caibx_codec.specs.Listing.{size_of}
use Rattle.chunk_sources.specs.Caches.{AddsSize, CacheGives}
use Rattle.chunk_sources.specs.Sources.{HeldAt, Sources, counts_of, views_of}
use Rattle.chunk_sources.specs.Wants.{IsAmong, Task}
use Rattle.chunk_store.specs.declared.store.Store.{Ghosts as StoreWords}
use Rattle.dsy_base.specs.Counts.{Quiet}
use Rattle.dsy_base.specs.declared.view.View.{Ghosts as ViewWords}
use Rattle.extract_plan.specs.Deal.{first_of, of_want, want_id}
use Rattle.extract_plan.specs.Places.{places_at}
use Rattle.range_survey.specs.Fates.{settled}
use Rattle.range_survey.specs.declared.fate.Fate.{Fate}
use Rattle.store_chain.specs.Chains.{Chained}

-- the number of times the store of number k was asked for the id
abbrev pub asked_at : {S : Type 0} → StoreWords S → List S → List ℕ → ℕ → ℕ
asked_at store stores q k = slice_index (map (λ s. store.asked s q) stores) k

-- the chain was called at most this many times more, and each store asked for each id q at most n q times more
pub record AsksAtMost {S : Type 0} (store : StoreWords S) (c : ℕ) (n : List ℕ → ℕ) (old new : Chained S) : Type 0 where
  pub no_fewer : old.asks ≤ new.asks
  pub calls : new.asks ≤ old.asks + c
  pub no_less : (q : List ℕ) (k : ℕ) → asked_at store old.stores q k ≤ asked_at store new.stores q k
  pub most : (q : List ℕ) (k : ℕ) → asked_at store new.stores q k ≤ asked_at store old.stores q k + n q

-- Of wants with these ids some are spared.
-- how many calls want w takes, and how many of these ask for the id q: one where it isn't spared
abbrev pub calls_for : (ℕ → Bool) → ℕ → ℕ
calls_for spared w = if spared w then 0 else 1

abbrev pub asks_for : (ℕ → List ℕ) → (ℕ → Bool) → ℕ → List ℕ → ℕ
asks_for ids spared w q = if spared w then 0 else if bytes_eq (ids w) q then 1 else 0

-- so do the wants below k together
abbrev pub calls_below : (ℕ → Bool) → ℕ → ℕ
calls_below spared zero = 0
calls_below spared (suc k) = calls_below spared k + calls_for spared k

abbrev pub asks_below : (ℕ → List ℕ) → (ℕ → Bool) → ℕ → List ℕ → ℕ
asks_below ids spared zero q = 0
asks_below ids spared (suc k) q = asks_below ids spared k q + asks_for ids spared k q

-- of these wants those that are spared, and all others
abbrev pub others_spared : (ℕ → Bool) → (ℕ → Bool) → ℕ → Bool
others_spared these spared w = if these w then spared w else true

module _ {S V : Type 0} (store : StoreWords S) (view : ViewWords V) (t : Task) where
  -- want w is got without the stores: an entry of it is such, and the target didn't fail; or a seed gives it that
  -- didn't fail; or the cache does, which is so
  abbrev pub IsSparedIf : Type 0 → (ℕ → Type 0) → Sources S V → Sources S V → ℕ → Type 0
  IsSparedIf Cached Is old new w = (((j : ℕ) × IsAmong (of_want t.plan w) j × Is j) × Quiet old.faults new.faults)
      ⊎ (Any (λ p. HeldAt (views_of view old.seeds) p (want_id t.listing t.plan w)
      × Quiet (slice_index (counts_of view old.seeds) p.seed) (slice_index (counts_of view new.seeds) p.seed))
      (places_at t.places w) ⊎ Cached)

  -- the cache gives want w, and didn't fail
  abbrev pub CacheGivesWant : Sources S V → Sources S V → ℕ → Type 0
  CacheGivesWant old new w = CacheGives store t.listing old.chain.stores (want_id t.listing t.plan w)
      (size_of t.listing (first_of t.plan w)) old.cache new.cache

  -- so it is by an entry, a seed or the cache
  abbrev pub IsSpared : (ℕ → Type 0) → Sources S V → Sources S V → ℕ → Type 0
  IsSpared Is old new w = IsSparedIf (CacheGivesWant old new w) Is old new w

  -- the same where others add to the cache: it spares a want to whose id they add no other size
  abbrev pub IsSparedBeside : (ℕ → Type 0) → Sources S V → Sources S V → ℕ → Type 0
  IsSparedBeside Is old new w = IsSparedIf (CacheGivesWant old new w × AddsSize (want_id t.listing t.plan w)
      (size_of t.listing (first_of t.plan w)) old.cache) Is old new w

  -- the spared wants are so, over entries that were settled
  abbrev pub AreSpared : List Fate → Sources S V → Sources S V → (ℕ → Bool) → Type 0
  AreSpared m old new spared =
      (w : ℕ) → w < t.plan.wants → spared w ≡ true → IsSpared (λ j. settled m j ≡ true) old new w

  -- one pass over these wants asks at most once for each of them that isn't spared, and for no other
  abbrev pub ShareAsks : List Fate → Sources S V → Sources S V → (ℕ → Bool) → Type 0
  ShareAsks m old new these = (spared : ℕ → Bool)
      → ((w : ℕ) → w < t.plan.wants → these w ≡ true → spared w ≡ true
      → IsSparedBeside (λ j. settled m j ≡ true) old new w)
      → AsksAtMost store (calls_below (others_spared these spared) t.plan.wants)
      (λ q. asks_below (want_id t.listing t.plan) (others_spared these spared) t.plan.wants q) old.chain new.chain
