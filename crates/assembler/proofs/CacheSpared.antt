-- A cache that gives the chunk of a want over a stretch gives it over each part of it.
use Rattle.std.proofs.Common.{◌≡◌, ℕ, ◌<◌, ◌≤◌, List, map, Option, Some, None, IfSome, IsSomeAnd, refl, sym, ◌∙◌, subst, ap}
use Rattle.assembler.proofs.Counted.{quiet_part}
use Rattle.assembler.proofs.Entries.{first_among, listed_of}
use Rattle.cache_store.specs.Giving.{SomeGives}
use Rattle.cache_store.specs.Shelves.{Shelf}
use Rattle.caibx_codec.specs.Listing.{Listing, kind_of, size_of}
use Rattle.chunk_sources.proofs.Cached.{stocked_falls, stocked_gives, stocked_told}
use Rattle.chunk_sources.proofs.Lacking.{quiet_never}
use Rattle.chunk_sources.specs.Caches.{AddsSize, CacheFailed, CacheGives, IsListedAs, Stocked, TakesWants, cache_faults, cached_in}
use Rattle.chunk_store.specs.Giving.{IsChunk}
use Rattle.chunk_store.specs.declared.store.Store.{Ghosts as StoreWords}
use Rattle.chunk_store.specs.Members.{told_together}
use Rattle.dsy_base.specs.Counts.{Rose}
use Rattle.dsy_base.specs.Maps.{Map}
use Rattle.extract_plan.specs.Deal.{AreWants, Deal, first_of}
use Rattle.store_chain.specs.Giving.{SomeHolds}

module _ {S : Type 0} (store : StoreWords S) (l : Listing) (d : Deal) where
  -- what is added under the id is the chunk
  added_is : (A : ℕ → Type 0) (stores : List S) (id : List ℕ) (size : ℕ) → AreWants l d.wants d.want_of → ((v : ℕ) → A v → v < d.wants)
      → ((n : ℕ) (b : List ℕ) → IsListedAs l id n → IsChunk (kind_of l) id n b → SomeHolds store.members stores id b → n ≡ size)
      → (b : List ℕ) → TakesWants store l d A stores id b → IsChunk (kind_of l) id size b
  added_is A stores id size wants below one b (v, among, (is, chunk, held)) =
      let first = first_of d v in
      let inside = listed_of l d v first wants (first_among l d v wants (below v among)) in
      let here : IsChunk (kind_of l) id (size_of l first) b = subst (λ (q : List ℕ). IsChunk (kind_of l) q (size_of l first) b) (sym is) chunk in
      let there : SomeHolds store.members stores id b = subst (λ (q : List ℕ). SomeHolds store.members stores q b) (sym is) held in
      subst (λ (n : ℕ). IsChunk (kind_of l) id n b) (one (size_of l first) b (first, inside, sym is, refl) here there) here

  -- so it gives the chunk still
  given_still : (A : ℕ → Type 0) (stores : List S) (e f : Option Shelf) (id : List ℕ) (size : ℕ) → Stocked (TakesWants store l d A stores) e f
      → ((b : List ℕ) → TakesWants store l d A stores id b → IsChunk (kind_of l) id size b) → (o : Option (List (Map (List ℕ)))) → cached_in e ≡ o
      → IsSomeAnd o (SomeGives (kind_of l) id size) → IsSomeAnd (cached_in f) (SomeGives (kind_of l) id size)
  given_still A stores e f id size stocked all None is has = absurd has
  given_still A stores e f id size stocked all (Some was) is has =
      let later = stocked_told (TakesWants store l d A stores) e f was stocked is in
      subst (λ (o : Option (List (Map (List ℕ)))). IsSomeAnd o (SomeGives (kind_of l) id size)) (sym later.1)
      (stocked_gives (TakesWants store l d A stores) (kind_of l) id size e f was later.0 stocked is later.1 all has)

  pub cache_part : (A : ℕ → Type 0) (s0 s1 : List S) (e0 e1 e2 e3 : Option Shelf) (id : List ℕ) (size : ℕ) → AreWants l d.wants d.want_of → ((v : ℕ) → A v → v < d.wants)
      → Stocked (TakesWants store l d A s0) e0 e1 → cache_faults e2 ≤ cache_faults e3 → map store.members s1 ≡ map store.members s0
      → CacheGives store l s0 id size e0 e3 → CacheGives store l s1 id size e1 e2
  cache_part A s0 s1 e0 e1 e2 e3 id size wants below stocked le same has =
      let falls = stocked_falls (TakesWants store l d A s0) e0 e1 stocked in
      record {
        gives = given_still A s0 e0 e1 id size stocked (added_is A s0 id size wants below has.one_size) (cached_in e0) refl has.gives;
        sound = quiet_part (cache_faults e0) (cache_faults e1) (cache_faults e2) (cache_faults e3) falls le has.sound;
        one_size = λ n b listed chunk held. has.one_size n b listed chunk (λ maps told. held maps (ap told_together same ∙ told));
      }

-- a cache that gives the chunk, to which others add none of another size under its id, and that doesn't fail was asked
-- before the stores
pub cache_never : {S : Type 0} (store : StoreWords S) (l : Listing) (stores : List S) (id : List ℕ) (size : ℕ) (e0 e1 : Option Shelf)
    → CacheGives store l stores id size e0 e1 → AddsSize id size e0 → CacheFailed (kind_of l) id size e0 e1 → ⊥
cache_never store l stores id size e0 e1 has adds failed = go (cached_in e0) has.gives failed where
  go : (o : Option (List (Map (List ℕ)))) → IsSomeAnd o (SomeGives (kind_of l) id size)
      → IfSome o (λ cached. SomeGives (kind_of l) id size cached → AddsSize id size e0 → Rose (cache_faults e0) (cache_faults e1)) → ⊥
  go None gives fails = gives
  go (Some cached) gives fails = quiet_never (cache_faults e0) (cache_faults e1) has.sound (fails gives adds)
