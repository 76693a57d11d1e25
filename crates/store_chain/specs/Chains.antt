-- What contracts see of a chain, and what a call on it leaves.
use Rattle.std.specs.Prelude.{◌≡◌, ℕ, ◌<◌, ◌^◌, List, map, Option}
use Rattle.std.specs.List.{AllZip}
use Rattle.chunk_store.specs.Asks.{Ask, Sends}
use Rattle.chunk_store.specs.Said.{Said, KeepsOf, AskedOnce}
use Rattle.chunk_store.specs.declared.id.DigestKind.{DigestKind}
use Rattle.chunk_store.specs.declared.store.Store.{Ghosts as StoreWords}
use Rattle.dsy_base.specs.Counts.{raised}
use Rattle.dsy_base.specs.Maps.{Map}
use Rattle.store_chain.specs.Faults.{NoneFalls}

-- the stores in their order, the number of calls of `obtain`, and the digest that names the chunks
pub record Chained (S : Type 0) : Type 0 where
  pub stores : List S
  pub asks : ℕ
  pub kind : DigestKind

-- stores that are only asked: each holds what it held, as do its members, and its folder what it held, as do those of a
-- group's stores. It lies where it lay, it says still what it has said, its count of faults hasn't fallen, and it has
-- sent nothing since but fronts of requests for asks of which P holds
pub record KeepsStores {S : Type 0} (store : StoreWords S) (P : Ask → Type 0) (old new : List S) : Type 0 where
  pub held : map store.holds new ≡ map store.holds old
  pub members : map store.members new ≡ map store.members old
  pub files : map store.folder new ≡ map store.folder old
  pub folders : map store.folders new ≡ map store.folders old
  pub places : map store.place new ≡ map store.place old
  pub says : AllZip (λ a b. (q : List ℕ) → KeepsOf (store.said a) (store.said b) q) old new
  pub sends : AllZip (λ a b. Sends P (store.sent a) (store.sent b)) old new
  pub never_fall : NoneFalls (map store.faults old) (map store.faults new)

-- the same, whatever was sent
pub record KeepsHeld {S : Type 0} (holds folder : S → Option (Map (List ℕ))) (place : S → List ℕ) (said : S → Said)
    (faults : S → ℕ) (old new : List S) : Type 0 where
  pub held : map holds new ≡ map holds old
  pub files : map folder new ≡ map folder old
  pub places : map place new ≡ map place old
  pub says : AllZip (λ a b. (q : List ℕ) → KeepsOf (said a) (said b) q) old new
  pub never_fall : NoneFalls (map faults old) (map faults new)

-- each store counts at most one question more, and for this id alone
abbrev pub EachOnce : {S : Type 0} → (S → List ℕ → ℕ) → List ℕ → List S → List S → Type 0
EachOnce count id old new = AllZip (λ a b. AskedOnce (count a) (count b) id) old new

-- each store was asked for a chunk at most once more, for this id alone, and none whether it has one; the chain counts
-- one call more
pub record AsksOnce {S : Type 0} (asked queried : S → List ℕ → ℕ) (id : List ℕ) (old new : Chained S) : Type 0 where
  pub stores : EachOnce asked id old.stores new.stores
  pub queries : map queried new.stores ≡ map queried old.stores
  pub calls : new.asks ≡ raised old.asks 1
  pub below : old.asks < 2 ^ 64
  pub kind : new.kind ≡ old.kind

-- no store was asked for a chunk, and the chain counts no call
pub record AsksNone {S : Type 0} (asked : S → List ℕ → ℕ) (old new : Chained S) : Type 0 where
  pub stores : map asked new.stores ≡ map asked old.stores
  pub calls : new.asks ≡ old.asks
  pub kind : new.kind ≡ old.kind
