-- A chunk that was read ahead: what it says of the stores, and what the shelf gives once it was added.
use Rattle.std.proofs.Common.{◌≡◌, ℕ, ◌<◌, List, [], ◌∷◌, take, map, All, Bor, Contains, Option, Some, None, IfSome, Result, Ok, Err, IfOk, ◌≤◌, refl, sym, subst, ap, ◌∙◌, inr}
use Rattle.std.proofs.lemmas.Map.{update_same}
use Rattle.std.proofs.lemmas.Slice.Eq.{bytes_eq-Decides}
use Rattle.std.specs.Option.{option_map}
use Rattle.std.specs.declared.alloc.AllocError.{AllocError}
use Rattle.std.specs.Str.{bytes_eq}
use Rattle.cache_fill.proofs.EntryCalls.{none_added, temporary_same, want_is}
use Rattle.cache_fill.proofs.Holding.{TellAlone, given_by, of_wanted, told_members, wanted_of}
use Rattle.cache_fill.specs.Fetching.{SomeHoldsEntry}
use Rattle.cache_fill.specs.Filling.{EntryUnfound, GivesEntry, IsGivenBy, LosesAhead, MayFillCache, entry_want}
use Rattle.cache_store.proofs.Fetched.{unfound_on}
use Rattle.cache_store.proofs.Stocked.{stocks_looked, stocks_on, stocks_weaker}
use Rattle.cache_store.specs.Shelves.{GivesStill, KeepsShelf, Others, Shelf, Stocks, held_on}
use Rattle.cache_store.specs.Through.{Unfound}
use Rattle.caibx_codec.specs.Listing.{Listing, count_of, id_of, kind_of, size_of}
use Rattle.chunk_store.specs.Folders.{chunks}
use Rattle.chunk_store.proofs.Members.{told_alone}
use Rattle.chunk_store.specs.Giving.{IsChunk}
use Rattle.chunk_store.specs.Members.{maps_of, told_together}
use Rattle.chunk_store.specs.Paths.{path_of}
use Rattle.chunk_store.specs.declared.id.ChunkId.{ChunkId}
use Rattle.chunk_store.specs.declared.id.DigestKind.{DigestKind}
use Rattle.chunk_store.specs.declared.store.Store.{Ghosts as StoreWords}
use Rattle.dsy_base.specs.Counts.{Rose}
use Rattle.dir_store.specs.Puts.{LeavesTemporary}
use Rattle.dsy_base.specs.Folders.{put_in, temporary_of}
use Rattle.dsy_base.specs.Maps.{Map, at_name}
use Rattle.image_slices.proofs.Rooms.{empty_ahead}
use Rattle.image_slices.specs.Ahead.{HasSlice, IsAhead, IsListedSlice, TellsSlice}
use Rattle.image_slices.specs.declared.ahead.Ahead.{Ahead}
use Rattle.store_chain.specs.Chains.{Chained}
use Rattle.store_chain.specs.Giving.{Gives, SomeHolds}
use Rattle.store_chain.specs.Queries.{FillsQuery, query_of}
use Rattle.store_chain.specs.declared.query.Query.{Query}

-- what stands in one of the rooms is as is said of all of them
pub slice_said : (l : Listing) (Says : ℕ → List ℕ → Type 0) (rooms : List Ahead) (i : ℕ) (b : List ℕ) → All (IsAhead l Says) rooms → (a : Ahead) × Contains rooms a × HasSlice l a i b → IsListedSlice l Says i b
slice_said l Says rooms i b all (a, (k, inside, at), has) = (subst (IsAhead l Says) at (all k a inside)).slices i b has

-- nothing stands in a new room
pub room_empty : (l : Listing) (Says : ℕ → List ℕ → Type 0) (r : Result Ahead AllocError) → IfOk r (λ a. (l : Listing) (told : Option (List ℕ)) → IsAhead l (TellsSlice l told) a)
    → IfOk r (λ a. (l : Listing) (i : ℕ) (b : List ℕ) → HasSlice l a i b → ⊥) → IfOk r (IsAhead l Says)
room_empty l Says (Ok a) right none = empty_ahead l Says a (right l None).room (none l)
room_empty l Says (Err e) right none = tt

module _ (l : Listing) (i : ℕ) (inside : i < count_of l) (id : ChunkId) (is_id : id.0 ≡ id_of l i) where
  unfound_so : (a b : ℕ) (o : Option (Map (List ℕ))) → IfSome o (λ m. Gives (entry_want l i id) m → Rose a b) → IfSome o (λ m. GivesEntry l i m → Rose a b)
  unfound_so a b None h = tt
  unfound_so a b (Some m) h = λ gives. h (wanted_of l i id is_id m gives)

  -- a look that didn't find the chunk, and what came of the shelf then
  pub look_missed : (kind : DigestKind) (n room : ℕ) → kind ≡ kind_of l → n ≡ size_of l i → (s mid t : Shelf) → s.others ≡ None → mid.faults ≤ t.faults → Unfound (query_of kind id (Some n) room) s mid → EntryUnfound l i s t
  look_missed kind n room same sized s mid t alone up unfound =
      let w : Query = query_of kind id (Some n) room in
      let all : Unfound w s t = unfound_on w s mid t up unfound in
      unfound_so s.faults t.faults (held_on s) (go s.others alone (held_on s) (subst (λ (w : Query). Unfound w s t) (want_is l i id kind n room same sized) all)) where
        go : (others : Option Others) → others ≡ None → (o : Option (Map (List ℕ))) → IfSome o (λ m. GivesStill others (entry_want l i id) m → Rose s.faults t.faults) → IfSome o (λ m. Gives (entry_want l i id) m → Rose s.faults t.faults)
        go None is o h = h
        go (Some x) is o h = absurd (cc)

  -- a look that found it
  pub look_found : (kind : DigestKind) (n room size : ℕ) (out : List ℕ) → kind ≡ kind_of l → n ≡ size_of l i → FillsQuery (query_of kind id (Some n) room) size out → (o : Option (Map (List ℕ)))
      → IfSome o (λ m. m id.0 ≡ Some (take size out)) → IfSome o (GivesEntry l i)
  look_found kind n room size out same sized fills None at = tt
  look_found kind n room size out same sized fills (Some m) at =
      let wanted = subst (λ (w : Query). FillsQuery w size out) (want_is l i id kind n room same sized) fills in
      (take size out, ap m (sym is_id) ∙ at, of_wanted l i id is_id (take size out) wanted.wanted)

  module _ {S : Type 0} (members : S → Option (List (Map (List ℕ)))) (stores : List S) (b : List ℕ) (read : IsListedSlice l (SomeHoldsEntry members l stores) i b) where
    chunk_is : IsChunk (kind_of l) (id_of l i) (size_of l i) b
    chunk_is = record { named = read.named; sized = read.size }

    may_fill : (q x : List ℕ) → (q ≡ id.0) × (x ≡ b) → (q ≡ id_of l i) × MayFillCache members l stores q x
    may_fill q x (q_is, x_is) =
        let here : MayFillCache members l stores (id_of l i) b = ((size_of l i, (i, inside, refl, refl), chunk_is), read.is) in
        (q_is ∙ is_id, subst (λ (p : List ℕ). MayFillCache members l stores p x) (sym (q_is ∙ is_id)) (subst (MayFillCache members l stores (id_of l i)) (sym x_is) here))

    -- the shelf was looked at, and the bytes were added, or not
    pub ahead_stocks : (s mid t : Shelf) → KeepsShelf s mid → Stocks (λ q x. (q ≡ id.0) × (x ≡ b)) mid t → Stocks (λ q x. (q ≡ id_of l i) × MayFillCache members l stores q x) s t
    ahead_stocks s mid t looked added =
        let T : List ℕ → List ℕ → Type 0 = λ q x. (q ≡ id_of l i) × MayFillCache members l stores q x in
        stocks_on T s mid t (stocks_looked T s mid looked) (stocks_weaker (λ q x. (q ≡ id.0) × (x ≡ b)) T may_fill mid t added)

    -- a shelf to which they were added gives the chunk
    pub added_gives : ((m : Map (List ℕ)) → chunks (put_in m (path_of id.0) b) ≡ at_name (chunks m) id.0 (Some b)) → (x y : Option (Map (List ℕ))) → y ≡ option_map (λ m. put_in m (path_of id.0) b) x
        → IfSome (option_map chunks y) (GivesEntry l i)
    added_gives put x y is = subst (λ (o : Option (Map (List ℕ))). IfSome (option_map chunks o) (GivesEntry l i)) (sym is) (go x) where
      go : (x : Option (Map (List ℕ))) → IfSome (option_map chunks (option_map (λ m. put_in m (path_of id.0) b) x)) (GivesEntry l i)
      go None = tt
      go (Some m) = (
        b,
        ap (λ (f : Map (List ℕ)). f (id_of l i)) (put m) ∙ ap (at_name (chunks m) id.0 (Some b)) (sym is_id) ∙ update_same bytes_eq (chunks m) id.0 (Some b) id.0 ((bytes_eq-Decides id.0 id.0).1 refl),
        chunk_is,
      )

    -- the bytes weren't added to a shelf that didn't give the chunk, or failed
    pub ahead_loses : (store : StoreWords S) → TellAlone store → store.members ≡ members → (s t : Shelf) (c : Chained S) → c.stores ≡ stores → EntryUnfound l i s t → LosesAhead store l i s t c c
    ahead_loses store alone members_is s t c stores_is unfound = record {
      unfound = unfound;
      unasked = refl;
      gives = λ maps told. given_by members l stores maps (ap (λ (xs : List S). maps_of members xs) (sym stores_is) ∙ ap (λ (f : S → Option (List (Map (List ℕ)))). maps_of f c.stores) (sym members_is) ∙ told_members store alone c.stores maps told) (id_of l i) b (size_of l i) read.is chunk_is;
    }

    -- and some store gave it
    pub ahead_given : (holds : S → Option (Map (List ℕ))) → ((s : S) → IfSome (holds s) (λ m. members s ≡ Some (m ∷ []))) → (m : Map (List ℕ)) (maps : List (Map (List ℕ))) → map holds stores ≡ map Some maps → IsGivenBy l m maps i
    ahead_given holds alone m maps told = inr (given_by members l stores maps (told_alone holds members alone stores maps told) (id_of l i) b (size_of l i) read.is chunk_is)

-- bytes that a store gave are the slice of the entry, of which stores say so that hold the same
pub fetched_slice : {S : Type 0} (members : S → Option (List (Map (List ℕ)))) (l : Listing) (i : ℕ) (id : ChunkId) (is_id : id.0 ≡ id_of l i) (kind : DigestKind) (size room n : ℕ) (out b : List ℕ) (c d : List S)
    → kind ≡ kind_of l → size ≡ size_of l i → b ≡ take n out → FillsQuery (query_of kind id (Some size) room) n out → SomeHolds members c id.0 (take n out) → map members d ≡ map members c
    → IsListedSlice l (SomeHoldsEntry members l d) i b
fetched_slice members l i id is_id kind size room n out b c d same sized front fills had held =
    let wanted = subst (λ (w : Query). FillsQuery w n out) (want_is l i id kind size room same sized) fills in
    let is = of_wanted l i id is_id (take n out) wanted.wanted in
    let some : SomeHolds members d (id_of l i) (take n out) = subst (λ (q : List ℕ). SomeHolds members d q (take n out)) is_id (λ maps told. had maps (ap told_together (sym held) ∙ told)) in
    subst (IsListedSlice l (SomeHoldsEntry members l d) i) (sym front) (record { size = is.sized; named = is.named; is = some })

-- a slice of which stores say so is one of which those say so that hold the same
pub slice_same : {S : Type 0} (members : S → Option (List (Map (List ℕ)))) (l : Listing) (i : ℕ) (b : List ℕ) (c d : List S) → map members d ≡ map members c → IsListedSlice l (SomeHoldsEntry members l c) i b → IsListedSlice l (SomeHoldsEntry members l d) i b
slice_same members l i b c d same slice = record { size = slice.size; named = slice.named; is = λ maps told. slice.is maps (ap told_together (sym same) ∙ told) }

-- what was found in the rooms, if anything
pub slices_said : {S : Type 0} (members : S → Option (List (Map (List ℕ)))) (l : Listing) (rooms : List Ahead) (i : ℕ) (read : Option (Bor (List ℕ))) (c d : List S) → map members d ≡ map members c → All (IsAhead l (SomeHoldsEntry members l c)) rooms
    → IfSome read (λ b. (a : Ahead) × Contains rooms a × HasSlice l a i b.now) → IfSome read (λ b. IsListedSlice l (SomeHoldsEntry members l d) i b.now)
slices_said members l rooms i None c d same all has = tt
slices_said members l rooms i (Some b) c d same all has = slice_same members l i b.now c d same (slice_said l (SomeHoldsEntry members l c) rooms i b.now all has)

-- a shelf that was looked at, and to which the bytes weren't added, has the chunks that it had
pub kept_none : (id : List ℕ) (T : List ℕ → List ℕ → Type 0) (s mid t : Shelf) → ((x : Option (List ℕ)) (m : Map (List ℕ)) → chunks (at_name m (temporary_of (path_of id)) x) ≡ chunks m)
    → KeepsShelf s mid → Stocks T mid t → LeavesTemporary id mid.files t.files → Stocks (λ q b. ⊥) s t
kept_none id T s mid t still looked stocks leaves =
    stocks_on (λ q b. ⊥) s mid t (stocks_looked (λ q b. ⊥) s mid looked) (none_added T mid t stocks (temporary_same id mid.files t.files still leaves))
