-- What any number of requests leaves of a cache and the stores behind it, also where they don't tell what they hold.
use Rattle.std.specs.Prelude.{◌≡◌, ℕ, ◌+◌, ◌≤◌, List, [], ◌∷◌, map, Option}
use Rattle.std.specs.List.{AllZip}
use Rattle.std.proofs.Common.{◌∙◌, refl, arith, subst}
use Rattle.cache_store.proofs.Stocked.{stocks_on, stocks_same}
use Rattle.cache_store.specs.Shelves.{Stocks, shelf_of}
use Rattle.cache_store.specs.Through.{Behind}
use Rattle.chunk_proxy.specs.Obtaining.{IsRightChunk}
use Rattle.chunk_store.specs.Asks.{Ask, Get}
use Rattle.chunk_store.specs.declared.id.DigestKind.{DigestKind}
use Rattle.chunk_store.specs.declared.store.Store.{Ghosts as StoreWords}
use Rattle.dsy_base.specs.Maps.{Map}
use Rattle.store_chain.proofs.Kept.{kept_on, kept_still}
use Rattle.store_chain.proofs.Pairs.{all_zip_same}
use Rattle.store_chain.specs.Chains.{KeepsStores}

-- a chunk is asked for
abbrev pub IsChunkGet : Ask → Type 0
IsChunkGet a = (id : List ℕ) × (a ≡ Get id)

-- each store was asked for the chunk of an id so often at most, and never whether it has one
pub record AsksForChunks {S : Type 0} (store : StoreWords S) (old new : List S) : Type 0 where
  pub times : List ℕ → ℕ
  pub gets : AllZip (λ a b. (id : List ℕ) → store.asked b id ≤ store.asked a id + times id) old new
  pub heads : map store.queried new ≡ map store.queried old
  pub keeps : KeepsStores store IsChunkGet old new

-- under each id the cache holds what it held, or a right chunk, and other files stay, temporary ones aside; and the
-- stores were only asked for chunks
pub record KeepsBehind {F S : Type 0} (files : F → Option (Map (List ℕ))) (place : F → List ℕ) (faults : F → ℕ)
    (store : StoreWords S) (old new : Behind F S) : Type 0 where
  pub kind : new.chain.kind ≡ old.chain.kind
  pub stocks : Stocks (IsRightChunk old.chain.kind) (shelf_of files place faults old.shelf)
      (shelf_of files place faults new.shelf)
  pub asks : AsksForChunks store old.chain.stores new.chain.stores

-- ---- no request, and one behind others

gets_on : {S : Type 0} (asked : S → List ℕ → ℕ) (m n : List ℕ → ℕ) (xs ys zs : List S)
    → AllZip (λ a b. (id : List ℕ) → asked b id ≤ asked a id + m id) xs ys
    → AllZip (λ a b. (id : List ℕ) → asked b id ≤ asked a id + n id) ys zs
    → AllZip (λ a b. (id : List ℕ) → asked b id ≤ asked a id + (m id + n id)) xs zs
gets_on asked m n [] [] [] first then = tt
gets_on asked m n [] [] (z ∷ zs) first then = absurd then
gets_on asked m n [] (y ∷ ys) zs first then = absurd first
gets_on asked m n (x ∷ xs) [] zs first then = absurd first
gets_on asked m n (x ∷ xs) (y ∷ ys) [] first then = absurd then
gets_on asked m n (x ∷ xs) (y ∷ ys) (z ∷ zs) first then =
    (λ id. omega (arith, first.0 id, then.0 id), gets_on asked m n xs ys zs first.1 then.1)

module _ {S : Type 0} (store : StoreWords S) where
  pub asks_none : (xs : List S) → AsksForChunks store xs xs
  asks_none xs = record {
    times = λ id. 0;
    gets = all_zip_same (λ a b. (id : List ℕ) → store.asked b id ≤ store.asked a id + 0) (λ s id. omega arith) xs;
    heads = refl;
    keeps = kept_still store IsChunkGet xs;
  }

  pub asks_more : (xs ys zs : List S) → AsksForChunks store xs ys → AsksForChunks store ys zs
      → AsksForChunks store xs zs
  asks_more xs ys zs first then = record {
    times = λ id. first.times id + then.times id;
    gets = gets_on store.asked first.times then.times xs ys zs first.gets then.gets;
    heads = then.heads ∙ first.heads;
    keeps = kept_on store IsChunkGet xs ys zs first.keeps then.keeps;
  }

module _ {F S : Type 0} (files : F → Option (Map (List ℕ))) (place : F → List ℕ) (faults : F → ℕ)
    (store : StoreWords S) where
  pub leaves_same : (s : Behind F S) → KeepsBehind files place faults store s s
  leaves_same s = record {
    kind = refl;
    stocks = stocks_same (IsRightChunk s.chain.kind) (shelf_of files place faults s.shelf);
    asks = asks_none store s.chain.stores;
  }

  pub leaves_on : (s t u : Behind F S) → KeepsBehind files place faults store s t
      → KeepsBehind files place faults store t u → KeepsBehind files place faults store s u
  leaves_on s t u first then =
      let shelf : Behind F S → _ = λ b. shelf_of files place faults b.shelf in
      let more : Stocks (IsRightChunk s.chain.kind) (shelf t) (shelf u) =
      subst (λ (k : DigestKind). Stocks (IsRightChunk k) (shelf t) (shelf u)) first.kind then.stocks in
      record {
        kind = then.kind ∙ first.kind;
        stocks = stocks_on (IsRightChunk s.chain.kind) (shelf s) (shelf t) (shelf u) first.stocks more;
        asks = asks_more store s.chain.stores t.chain.stores u.chain.stores first.asks then.asks;
      }
