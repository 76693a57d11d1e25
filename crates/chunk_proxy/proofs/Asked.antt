-- How the stores are asked for one request.
use Rattle.std.proofs.Common.{◌≡◌, ◌≢◌, ◌⊎◌, ℕ, ◌+◌, ◌≤◌, List, [], ◌∷◌, Bool, true, false, Option, None, Result, refl, sym, subst, ap, ◌∙◌, inl, inr, arith}
use Rattle.std.proofs.lemmas.Slice.Eq.{bytes_eq-Decides}
use Rattle.std.specs.List.{AllZip}
use Rattle.std.specs.Str.{bytes_eq}
use Rattle.cache_store.specs.Through.{Behind, FromShelf, FromStores}
use Rattle.cache_store.specs.declared.cached.Got.{Got}
use Rattle.chunk_proxy.specs.Leaving.{AsksForChunks, IsChunkGet, asks_none}
use Rattle.chunk_store.specs.Asks.{Get}
use Rattle.chunk_store.specs.Said.{AskedOnce}
use Rattle.chunk_store.specs.declared.id.ChunkId.{ChunkId}
use Rattle.chunk_store.specs.declared.store.Store.{Ghosts as StoreWords}
use Rattle.dsy_base.specs.Maps.{Map}
use Rattle.store_chain.proofs.Kept.{kept_weaker}
use Rattle.store_chain.specs.Chains.{Chained, EachOnce, KeepsStores}
use Rattle.store_chain.specs.Queries.{query_of}
use Rattle.store_chain.specs.declared.refused.Refused.{Refused}

equal_or_apart : (a b : List ℕ) → (a ≡ b) ⊎ (a ≢ b)
equal_or_apart a b = go (bytes_eq a b) refl where
  go : (t : Bool) → bytes_eq a b ≡ t → (a ≡ b) ⊎ (a ≢ b)
  go true h = inl ((bytes_eq-Decides a b).0 h)
  go false h = inr (λ e. let z : true ≡ false = sym ((bytes_eq-Decides a b).1 e) ∙ h in cc)

one_more : (old new : List ℕ → ℕ) (id : List ℕ) → AskedOnce old new id → (q : List ℕ) → new q ≤ old q + 1
one_more old new id once q = elim (equal_or_apart q id) [
  | inl same ↦ subst (λ (x : List ℕ). new x ≤ old x + 1) (sym same) once.this
  | inr apart ↦ let other = once.others q apart in omega (arith, other)
]

each_once : {S : Type 0} (asked : S → List ℕ → ℕ) (id : List ℕ) (xs ys : List S) → EachOnce asked id xs ys → AllZip (λ a b. (q : List ℕ) → asked b q ≤ asked a q + 1) xs ys
each_once asked id [] [] all = tt
each_once asked id [] (y ∷ ys) all = absurd all
each_once asked id (x ∷ xs) [] all = absurd all
each_once asked id (x ∷ xs) (y ∷ ys) all = (one_more (asked x) (asked y) id all.0, each_once asked id xs ys all.1)

module _ {F S : Type 0} (files : F → Option (Map (List ℕ))) (place : F → List ℕ) (faults : F → ℕ) (store : StoreWords S) where
  -- a chunk was sought
  pub asks_one : (id : ChunkId) (room : ℕ) (old new : Behind F S) (r : Result Got Refused) (out : List ℕ)
      → FromShelf files place faults (query_of old.chain.kind id None room) old new r out
      ⊎ FromStores files place faults store.holds store.members store.said store.faults store.may_lack_memory store.asked store.queried (query_of old.chain.kind id None room) old new r out
      → KeepsStores store (λ a. a ≡ Get id.0) old.chain.stores new.chain.stores → AsksForChunks store old.chain.stores new.chain.stores
  asks_one id room old new r out (inl cached) keeps =
      subst (λ xs. AsksForChunks store old.chain.stores xs) (sym (ap (λ (c : Chained S). c.stores) cached.chain)) (asks_none store old.chain.stores)
  asks_one id room old new r out (inr stores) keeps = record {
    times = λ q. 1;
    gets = each_once store.asked id.0 old.chain.stores new.chain.stores stores.asks.stores;
    heads = stores.asks.queries;
    keeps = kept_weaker store (λ a. a ≡ Get id.0) IsChunkGet (λ a is. (id.0, is)) old.chain.stores new.chain.stores keeps;
  }
