-- What others add to the cache meanwhile: what the stores give for the entries of the index.
use Rattle.std.proofs.Common.{◌≡◌, ◌++◌, ℕ, List, length, Option, Some, None, IfSome, refl, sym, subst}
use Rattle.std.specs.List.{Any}
use Rattle.cache_store.specs.Giving.{SomeGives}
use Rattle.cache_store.specs.Shelves.{MayAdd, Others, Shelf}
use Rattle.caibx_codec.specs.Listing.{Listing, kind_of, size_of}
use Rattle.chunk_sources.proofs.Cached.{gives_left, gives_right}
use Rattle.chunk_sources.specs.Caches.{OthersAddListed, OthersAddOnly, HaveOneSize, IsAlone, IsListedAs, Stocked, TakesListed}
use Rattle.chunk_store.specs.Giving.{IsChunk}
use Rattle.chunk_store.specs.declared.store.Store.{Ghosts as StoreWords}
use Rattle.chunk_store.specs.Members.{maps_of}
use Rattle.dsy_base.specs.Maps.{Map}

if_map : {X : Type 0} (P Q : X → Type 0) (o : Option X) → ((x : X) → P x → Q x) → IfSome o P → IfSome o Q
if_map P Q None f has = tt
if_map P Q (Some x) f has = f x has

module _ {S : Type 0} (store : StoreWords S) (l : Listing) (stores : List S) where
  -- nobody else adds anything
  pub alone_lists : (cache : Option Shelf) → IsAlone cache → OthersAddListed store l stores cache
  alone_lists None alone = tt
  alone_lists (Some s) alone = subst (λ (x : Option Others). IfSome x (λ o. (q b : List ℕ) → MayAdd o.kind o.pairs o.stores q b → TakesListed store l stores q b)) (sym alone) tt

  abbrev Listed : Others → Type 0
  Listed o = (q b : List ℕ) → MayAdd o.kind o.pairs o.stores q b → TakesListed store l stores q b

  -- of a chunk that the index lists they add nothing else, once the cache was filled too: what it gives now of it it
  -- gave at first
  module _ (maps : List (Map (List ℕ))) (told : maps_of store.members stores ≡ Some maps) (id : List ℕ) (size : ℕ) (listed : IsListedAs l id size) where
    held_one : (o : Others) → Listed o → (b : List ℕ) → MayAdd o.kind o.pairs o.stores id b → Any (λ m. m id ≡ Some b) maps
    held_one o adds b may =
        let x = adds id b may in
        subst (λ (q : List ℕ). Any (λ m. m q ≡ Some b) maps) (sym x.2.0) (x.2.2 maps told)

    gives_added : (o : Others) → Listed o → (b : List ℕ) → MayAdd o.kind o.pairs o.stores id b → SomeGives (kind_of l) id (length b) maps
    gives_added o adds b may =
        let x = adds id b may in
        let held = held_one o adds b may in
        let named = subst (λ (q : List ℕ). IsChunk (kind_of l) q (size_of l x.0) b) (sym x.2.0) x.2.1 in
        (held.0, held.1, held.2, held.3, (b, held.4, record { named = named.named; sized = refl }))

    sized_one : (was : List (Map (List ℕ))) → ((n m : ℕ) → IsListedAs l id n → IsListedAs l id m → SomeGives (kind_of l) id n (was ++ maps) → SomeGives (kind_of l) id m (was ++ maps) → n ≡ m)
        → SomeGives (kind_of l) id size was → (o : Others) → Listed o → (b : List ℕ) → MayAdd o.kind o.pairs o.stores id b → length b ≡ size
    sized_one was one gave o adds b may =
        let x = adds id b may in
        one (length b) size (x.0, x.1, sym x.2.0, sym x.2.1.sized) listed
        (gives_right (kind_of l) id (length b) was maps (gives_added o adds b may)) (gives_left (kind_of l) id size was maps gave)

    pub adds_only : (T : List ℕ → List ℕ → Type 0) (a b : Option Shelf) → Stocked T a b → OthersAddListed store l stores a → (was now : List (Map (List ℕ))) → HaveOneSize l a was maps
        → (SomeGives (kind_of l) id size now → SomeGives (kind_of l) id size was) → OthersAddOnly (kind_of l) id size b now maps
    adds_only T None None stocked adds was now one back = record { held = tt; sized = λ gives. tt }
    adds_only T None (Some t) stocked adds was now one back = absurd stocked
    adds_only T (Some s) None stocked adds was now one back = absurd stocked
    adds_only T (Some s) (Some t) stocked adds was now one back =
        let then : IfSome t.others Listed = subst (λ (x : Option Others). IfSome x Listed) (sym stocked.others) adds in
        record {
          held = if_map Listed (λ o. (b : List ℕ) → MayAdd o.kind o.pairs o.stores id b → Any (λ m. m id ≡ Some b) maps) t.others held_one then;
          sized = λ gives. if_map Listed (λ o. (b : List ℕ) → MayAdd o.kind o.pairs o.stores id b → length b ≡ size) t.others (sized_one was (one refl id) (back gives)) then;
        }
