-- The door of a worker to the cache, as its pass sees it.
use Rattle.std.proofs.Common.{◌≡◌, ℕ, List, Bool, Option, Some, None, IfSome, IsTrue, is_some, refl, sym, ap, inl, inr}
use Rattle.std.proofs.lemmas.Bool.{true≢false}
use Rattle.std.specs.Option.{option_map}
use Rattle.cache_store.specs.Shelves.{MayAdd, Shelf}
use Rattle.caibx_codec.specs.Listing.{Listing, kind_of}
use Rattle.chunk_sources.proofs.Cached.{stocked_some}
use Rattle.chunk_sources.specs.Caches.{IfShared, Stocked, TakesListed, cache_faults}
use Rattle.chunk_sources.specs.Losses.{MayLack}
use Rattle.chunk_store.specs.declared.id.DigestKind.{DigestKind}
use Rattle.chunk_store.specs.declared.store.Store.{Ghosts as StoreWords}
use Rattle.dsy_base.specs.Maps.{Map}
use Rattle.image_workers.specs.Shared.{MayAddFrom, NamesShelf, door_shelf}
use Rattle.locked_cache.specs.Additions.{shared_shelf}

module _ (kind : DigestKind) (opening : Option (Map (List ℕ))) (pairs : Option (List (List ℕ × ℕ))) (maps : Option (List (Map (List ℕ)))) where
  -- what is seen of a door that counts so
  abbrev pub seen_door : {D : Type 0} → (D → ℕ) → Option D → Option Shelf
  seen_door count x = option_map (λ d. shared_shelf kind opening pairs maps (count d)) x

  -- one door as another
  pub same_door : {X Y : Type 0} (a : Option X) (b : Option Y) → is_some a ≡ is_some b → door_shelf kind opening pairs maps 0 a ≡ door_shelf kind opening pairs maps 0 b
  same_door None None same = refl
  same_door None (Some y) same = absurd (true≢false (sym same))
  same_door (Some x) None same = absurd (true≢false same)
  same_door (Some x) (Some y) same = refl

  pub door_takes : {D X S : Type 0} (count : D → ℕ) (store : StoreWords S) (l : Listing) (stores : List S) (x : Option D) (y : Option X) → seen_door count x ≡ door_shelf kind opening pairs maps 0 y
      → MayAddFrom store l stores (door_shelf kind opening pairs maps 0 y) → IfShared (seen_door count x) ((q b : List ℕ) → TakesListed store l stores q b → MayAdd (kind_of l) pairs maps q b)
  door_takes count store l stores None y same adds = tt
  door_takes count store l stores (Some d) None same adds = absurd (true≢false (ap is_some same))
  door_takes count store l stores (Some d) (Some z) same adds = adds

  pub door_own : {D : Type 0} (count : D → ℕ) (P : Type 0) (x : Option D) → IfSome (seen_door count x) (λ s. s.others ≡ None → P)
  door_own count P None = tt
  door_own count P (Some d) = λ none. absurd (true≢false (ap is_some none))

  pub door_calm : {D : Type 0} (count : D → ℕ) (never : Bool) (x : Option D) → (IsTrue never → IfSome x (λ d. count d ≡ 0)) → IsTrue never → cache_faults (seen_door count x) ≡ 0
  door_calm count never None sure is = refl
  door_calm count never (Some d) sure is = sure is

-- ---- a cache that its type names

module _ (kind : DigestKind) (first : Option (Map (List ℕ))) (taken : List ℕ) (failed : ℕ) where
  pub named_opens : (c : Option Shelf) → IfSome c (NamesShelf kind first taken failed) → IfSome c (λ s. first ≡ s.files)
  named_opens None names = tt
  named_opens (Some s) names = names.opening

  pub named_kind : (c : Option Shelf) → IfSome c (NamesShelf kind first taken failed) → IfSome c (λ s. s.kind ≡ kind)
  named_kind None names = tt
  named_kind (Some s) names = names.kind_is

-- ---- want of memory

module _ {S : Type 0} (store : StoreWords S) (Takes : List ℕ → List ℕ → Type 0) where
  -- a cache that may lack memory at the door may lack it between the passes
  pub lacks_between : (kind : DigestKind) (opening : Option (Map (List ℕ))) (pairs : Option (List (List ℕ × ℕ))) (maps : Option (List (Map (List ℕ)))) (a b : Option Shelf) → Stocked Takes a b
      → MayLack store (door_shelf kind opening pairs maps 0 a) → MayLack store b
  lacks_between kind opening pairs maps a b stocked (inl may) = inl may
  lacks_between kind opening pairs maps None None stocked (inr some) = inr some
  lacks_between kind opening pairs maps None (Some t) stocked (inr some) = absurd stocked
  lacks_between kind opening pairs maps (Some s) None stocked (inr some) = absurd stocked
  lacks_between kind opening pairs maps (Some s) (Some t) stocked (inr some) = inr refl

  pub lacks_before : (a b : Option Shelf) → Stocked Takes a b → MayLack store b → MayLack store a
  lacks_before a b stocked (inl may) = inl may
  lacks_before a b stocked (inr some) = inr (stocked_some Takes a b stocked some)
