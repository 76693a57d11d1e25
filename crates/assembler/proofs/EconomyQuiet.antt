-- Where nothing fails over two stretches, nothing fails over each.
use Rattle.std.proofs.Common.{◌≡◌, ℕ, ◌≤◌, List, map, slice_index, Option, Some, ◌∙◌, subst, sym, arith, ap}
use Rattle.assembler.proofs.Counted.{quiet_part}
use Rattle.assembler.specs.Stages.{Stage, Stretch, from}
use Rattle.cache_store.specs.Shelves.{Shelf}
use Rattle.chunk_sources.proofs.Cached.{stocked_falls}
use Rattle.chunk_sources.proofs.SeedAnswers.{telling_on}
use Rattle.chunk_sources.specs.Caches.{TakesWants, cache_faults, cached_in}
use Rattle.chunk_sources.specs.Sources.{Sources, SourcesQuiet, counts_of, sources, views_of}
use Rattle.chunk_sources.specs.Wants.{Task}
use Rattle.chunk_store.specs.Giving.{GivesChunk}
use Rattle.chunk_store.specs.declared.id.DigestKind.{DigestKind}
use Rattle.chunk_store.specs.declared.store.Store.{Ghosts as StoreWords}
use Rattle.chunk_store.specs.Members.{GroupsAgree, told_together}
use Rattle.dsy_base.specs.Maps.{Map}
use Rattle.dsy_base.specs.declared.view.View.{Ghosts as ViewWords}
use Rattle.extract_plan.specs.declared.seed.Seed.{Seed}
use Rattle.store_chain.specs.Chains.{Chained}
use Rattle.store_chain.specs.Faults.{EachQuiet, NoneFalls}

-- counts that were quiet over two parts were quiet over each
quiet_first : (a b c : List ℕ) → NoneFalls b c → EachQuiet a c → EachQuiet a b
quiet_first a b c falls quiet k = quiet_part (slice_index a k) (slice_index a k) (slice_index b k) (slice_index c k) (omega arith) (falls k) (quiet k)

quiet_next : (a b c : List ℕ) → NoneFalls a b → EachQuiet a c → EachQuiet b c
quiet_next a b c fell quiet k = quiet_part (slice_index a k) (slice_index b k) (slice_index c k) (slice_index c k) (fell k) (omega arith) (quiet k)

module _ {S V : Type 0} (store : StoreWords S) (view : ViewWords V) where
  -- for fewer chunks
  pub quiet_fewer : {kind : DigestKind} {A : List ℕ → ℕ → Type 0} (B : List ℕ → ℕ → Type 0) (old new : Sources S V) (cached maps : List (Map (List ℕ))) → ((id : List ℕ) (size : ℕ) → B id size → A id size)
      → SourcesQuiet store view kind A old new cached maps → SourcesQuiet store view kind B old new cached maps
  quiet_fewer B old new cached maps fewer quiet = record {
    target = quiet.target;
    telling = quiet.telling;
    seeds = quiet.seeds;
    told_cache = quiet.told_cache;
    cache = quiet.cache;
    told = quiet.told;
    agree = λ id size among. quiet.agree id size (fewer id size among);
    stores = quiet.stores;
  }

  -- before the target was called once more
  pub quiet_before : {kind : DigestKind} {Among : List ℕ → ℕ → Type 0} (a b c : ℕ) (s0 s1 : List (Seed V)) (e0 e1 : Option Shelf) (c0 c1 : Chained S) (cached maps : List (Map (List ℕ))) → a ≤ b → b ≤ c
      → SourcesQuiet store view kind Among (sources a s0 e0 c0) (sources c s1 e1 c1) cached maps → SourcesQuiet store view kind Among (sources a s0 e0 c0) (sources b s1 e1 c1) cached maps
  quiet_before a b c s0 s1 e0 e1 c0 c1 cached maps ab bc quiet = record {
    target = quiet_part a a b c (omega arith) bc quiet.target;
    telling = quiet.telling;
    seeds = quiet.seeds;
    told_cache = quiet.told_cache;
    cache = quiet.cache;
    told = quiet.told;
    agree = quiet.agree;
    stores = quiet.stores;
  }

  module _ (t : Task) (A : ℕ → Type 0) (a b c : Stage S V) (cached maps : List (Map (List ℕ))) where
    abbrev counts : Stage S V → List ℕ
    counts x = counts_of view x.kit.seeds.items

    abbrev shown : Stage S V → List ℕ
    shown x = map store.faults x.kit.chain.stores

    pub nothing_first : {kind : DigestKind} {Among : List ℕ → ℕ → Type 0} → Stretch store view t A b c → SourcesQuiet store view kind Among (from a) (from c) cached maps → SourcesQuiet store view kind Among (from a) (from b) cached maps
    nothing_first over nothing = record {
      target = quiet_part a.faults a.faults b.faults c.faults (omega arith) over.step.never_falls nothing.target;
      telling = nothing.telling;
      seeds = quiet_first (counts a) (counts b) (counts c) over.step.seeds.never_fall nothing.seeds;
      told_cache = nothing.told_cache;
      cache = quiet_part (cache_faults a.cache) (cache_faults a.cache) (cache_faults b.cache) (cache_faults c.cache) (omega arith)
          (stocked_falls (TakesWants store t.listing t.plan A b.kit.chain.stores) b.cache c.cache over.stocked) nothing.cache;
      told = nothing.told;
      agree = nothing.agree;
      stores = quiet_first (shown a) (shown b) (shown c) over.step.stores.never_fall nothing.stores;
    }

    pub nothing_next : {kind : DigestKind} {Among : List ℕ → ℕ → Type 0} → Stretch store view t A a b → (now : List (Map (List ℕ))) → cached_in b.cache ≡ Some now
        → SourcesQuiet store view kind Among (from a) (from c) cached maps → SourcesQuiet store view kind Among (from b) (from c) now maps
    nothing_next {kind} {Among} over now there nothing = record {
      target = quiet_part a.faults b.faults c.faults c.faults over.step.never_falls (omega arith) nothing.target;
      telling = telling_on view.tells (views_of view a.kit.seeds.items) (views_of view b.kit.seeds.items) over.step.seeds.held nothing.telling;
      seeds = quiet_next (counts a) (counts b) (counts c) over.step.seeds.never_fall nothing.seeds;
      told_cache = there;
      cache = quiet_part (cache_faults a.cache) (cache_faults b.cache) (cache_faults c.cache) (cache_faults c.cache)
          (stocked_falls (TakesWants store t.listing t.plan A a.kit.chain.stores) a.cache b.cache over.stocked) (omega arith) nothing.cache;
      told = ap told_together over.step.stores.members ∙ nothing.told;
      agree = λ id size among. subst (GroupsAgree (λ m. GivesChunk kind id size (m id))) (sym over.step.stores.members) (nothing.agree id size among);
      stores = quiet_next (shown a) (shown b) (shown c) over.step.stores.never_fall nothing.stores;
    }
