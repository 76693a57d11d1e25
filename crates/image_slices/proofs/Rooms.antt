-- Slices that stand in a room.
use Rattle.std.proofs.Common.{◌≡◌, ℕ, zero, suc, ◌+◌, ◌-◌, ◌<◌, ◌≤◌, ◌⊎◌, inl, inr, List, [], ◌∷◌, ◌++◌, length, take, drop, slice_index_or, slice_range, All, Option, IfSome, sym, ap, subst, ◌∙◌, arith, length-append, length-take, length-drop}
use Rattle.std.proofs.lemmas.Bool.{cases_lt}
use Rattle.std.proofs.lemmas.List.{drop-take, get_or_append_left, take-take}
use Rattle.std.proofs.Math.Seq.{get_or-append_seam}
use Rattle.std.proofs.lemmas.List.Elements.{All-cons, All-push}
use Rattle.std.proofs.lemmas.Option.{IfSome_then}
use Rattle.caibx_codec.specs.Listing.{Listing, end_of, id_of, kind_of, size_of, start_of}
use Rattle.chunk_store.specs.Digests.{digest_of}
use Rattle.image_slices.specs.Ahead.{AddsSlice, EntriesFall, FitsItsRoom, HasSlice, IsAhead, IsListedSlice, IsPlacedPiece, IsSlice, piece_slice}
use Rattle.image_slices.specs.declared.ahead.Ahead.{Ahead}
use Rattle.image_slices.specs.declared.ahead.Piece.{Piece}

range_front : (xs : List ℕ) (x n m : ℕ) → x + n ≤ m → slice_range (take m xs) x (x + n) ≡ slice_range xs x (x + n)
range_front xs x n m le =
    let k : ℕ = m - x in
    let is : x + k ≡ m = omega arith in
    let long : x + n - x ≤ k = omega arith in
    subst (λ (j : ℕ). slice_range (take j xs) x (x + n) ≡ slice_range xs x (x + n)) is
    (ap (take (x + n - x)) (drop-take x k xs) ∙ take-take (x + n - x) k (drop x xs) long)

-- a range is the same where all before `at` is the same
range_same : (xs ys : List ℕ) (at x n : ℕ) → take at xs ≡ take at ys → x + n ≤ at → slice_range xs x (x + n) ≡ slice_range ys x (x + n)
range_same xs ys at x n same le =
    sym (range_front xs x n at le) ∙ ap (λ (zs : List ℕ). slice_range zs x (x + n)) same ∙ range_front ys x n at le

range_length : (xs : List ℕ) (a b : ℕ) → b ≤ length xs → length (slice_range xs a b) ≡ b - a
range_length xs a b le = omega (arith, length-take (b - a) (drop a xs), length-drop a xs)

-- the bytes that were read to place `at` are the slice of entry i
pub slice_read : (l : Listing) (told : Option (List ℕ)) (i : ℕ) (room : List ℕ) (at start size : ℕ) → start ≡ start_of l i → size ≡ size_of l i → start + size ≡ end_of l i → at + size ≤ length room
    → digest_of (kind_of l) (slice_range room at (at + size)) ≡ id_of l i
    → IfSome told (λ t. slice_range room at (at + size) ≡ slice_range t start (start + size))
    → IsSlice l told i (slice_range room at (at + size_of l i))
slice_read l told i room at start size start_is size_is end fits named bytes =
    subst (λ (n : ℕ). IsSlice l told i (slice_range room at (at + n))) size_is (record {
      size = range_length room at (at + size) fits ∙ omega (arith, size_is);
      named = named;
      is = IfSome_then told bytes (λ t e. e ∙ ap (λ (y : ℕ). slice_range t start y) end ∙ ap (λ (x : ℕ). slice_range t x (end_of l i)) start_is);
    })

-- nothing stands in a room without pieces
pub none_stands : (l : Listing) (a : Ahead) → a.pieces.items ≡ [] → (i : ℕ) (b : List ℕ) → HasSlice l a i b → ⊥
none_stands l a none i b has = absurd (omega (arith, has.inside, ap length none))

-- so all that stands in it is right
pub empty_ahead : (l : Listing) (Says : ℕ → List ℕ → Type 0) (a : Ahead) → FitsItsRoom l a → ((i : ℕ) (b : List ℕ) → HasSlice l a i b → ⊥) → IsAhead l Says a
empty_ahead l Says a room none = record { room = room; slices = λ i b has. absurd (none i b has) }

-- and so is what is put behind what is right
pub ahead_adds : (l : Listing) (Says : ℕ → List ℕ → Type 0) (i : ℕ) (b : List ℕ) (old new : Ahead) → AddsSlice l i b old new → IsListedSlice l Says i b → IsAhead l Says old → IsAhead l Says new
ahead_adds l Says i b old new adds slice was = record { room = adds.room; slices = at } where
  at : (k : ℕ) (c : List ℕ) → HasSlice l new k c → IsListedSlice l Says k c
  at k c has = elim (adds.only k c has) [
    | inl before ↦ was.slices k c before
    | inr here ↦ subst (λ (j : ℕ). IsListedSlice l Says j c) (sym here.0) (subst (IsListedSlice l Says i) (sym here.1) slice)
  ]

module _ (l : Listing) (a : Ahead) (room : List ℕ) (same : take a.filled room ≡ take a.filled a.room.items) (was : FitsItsRoom l a) where
  placed : (filled : ℕ) → a.filled ≤ filled → All (IsPlacedPiece l filled) a.pieces.items
  placed filled le k d lt = let here = was.pieces k d lt in record { listed = here.listed; fits = omega (arith, here.fits) }

  -- a piece of the room has the same bytes still
  piece_same : (k : ℕ) (d : Piece) → k < length a.pieces.items → piece_slice l room (slice_index_or a.pieces.items k d) ≡ piece_slice l a.room.items (slice_index_or a.pieces.items k d)
  piece_same k d lt =
      let p : Piece = slice_index_or a.pieces.items k d in
      range_same room a.room.items a.filled p.at (size_of l p.entry) same (was.pieces k d lt).fits

  -- what stood in the room stands there still, and nothing else
  pub fits_still : (b : Ahead) → b.room.items ≡ room → b.pieces.items ≡ a.pieces.items → b.filled ≡ a.filled → length room ≡ length a.room.items → FitsItsRoom l b
  fits_still b room_is pieces filled long = record {
    filled = omega (arith, was.filled, filled, ap length room_is, long);
    pieces = subst (All (IsPlacedPiece l b.filled)) (sym pieces) (placed b.filled (omega arith));
    falls = subst EntriesFall (sym pieces) was.falls;
  }

  pub stands_still : (b : Ahead) → b.room.items ≡ room → b.pieces.items ≡ a.pieces.items → (i : ℕ) (c : List ℕ) → HasSlice l b i c → HasSlice l a i c
  stands_still b room_is pieces i c has =
      let inside : has.place < length a.pieces.items = omega (arith, has.inside, ap length pieces) in
      record {
        place = has.place;
        inside = inside;
        entry = λ d. subst (λ (ps : List Piece). (slice_index_or ps has.place d).entry ≡ i) pieces (has.entry d);
        bytes = λ d. subst (λ (ps : List Piece). c ≡ piece_slice l room (slice_index_or ps has.place d)) pieces (subst (λ (r : List ℕ). c ≡ piece_slice l r (slice_index_or b.pieces.items has.place d)) room_is (has.bytes d))
            ∙ piece_same has.place d inside;
      }

  module _ (b : Ahead) (p : Piece) (room_is : b.room.items ≡ room) (pieces : b.pieces.items ≡ a.pieces.items ++ p ∷ []) where
    at_old : (k : ℕ) (d : Piece) → k < length a.pieces.items → slice_index_or b.pieces.items k d ≡ slice_index_or a.pieces.items k d
    at_old k d lt = ap (λ (ps : List Piece). slice_index_or ps k d) pieces ∙ get_or_append_left a.pieces.items (p ∷ []) d k lt

    at_new : (d : Piece) → slice_index_or b.pieces.items (length a.pieces.items) d ≡ p
    at_new d = ap (λ (ps : List Piece). slice_index_or ps (length a.pieces.items) d) pieces ∙ get_or-append_seam a.pieces.items p [] d

    kept : (k : ℕ) (c : List ℕ) → HasSlice l a k c → HasSlice l b k c
    kept k c has = record {
      place = has.place;
      inside = omega (arith, has.inside, ap length pieces, length-append a.pieces.items (p ∷ []));
      entry = λ d. ap (λ (q : Piece). q.entry) (at_old has.place d has.inside) ∙ has.entry d;
      bytes = λ d. has.bytes d ∙ sym (piece_same has.place d has.inside) ∙ sym (ap (piece_slice l room) (at_old has.place d has.inside)) ∙ ap (λ (r : List ℕ). piece_slice l r (slice_index_or b.pieces.items has.place d)) (sym room_is);
    }

    only : (k : ℕ) (c : List ℕ) → HasSlice l b k c → HasSlice l a k c ⊎ ((k ≡ p.entry) × (c ≡ piece_slice l room p))
    only k c has = elim (cases_lt has.place (length a.pieces.items)) [
      | inl less ↦ inl (record {
        place = has.place;
        inside = less;
        entry = λ d. ap (λ (q : Piece). q.entry) (sym (at_old has.place d less)) ∙ has.entry d;
        bytes = λ d. has.bytes d ∙ ap (λ (r : List ℕ). piece_slice l r (slice_index_or b.pieces.items has.place d)) room_is ∙ ap (piece_slice l room) (at_old has.place d less) ∙ piece_same has.place d less;
      })
      | inr past ↦
          let last : has.place ≡ length a.pieces.items = omega (arith, past, has.inside, ap length pieces, length-append a.pieces.items (p ∷ [])) in
          let here : slice_index_or b.pieces.items has.place p ≡ p = ap (λ (j : ℕ). slice_index_or b.pieces.items j p) last ∙ at_new p in
          inr (sym (has.entry p) ∙ ap (λ (q : Piece). q.entry) here, has.bytes p ∙ ap (λ (r : List ℕ). piece_slice l r (slice_index_or b.pieces.items has.place p)) room_is ∙ ap (piece_slice l room) here)
    ]

    falls : All (λ q. p.entry < q.entry) a.pieces.items → EntriesFall b.pieces.items
    falls above j k d less inside = elim (cases_lt k (length a.pieces.items)) [
      | inl lt ↦
          let before : j < length a.pieces.items = omega (arith, less, lt) in
          let one = ap (λ (q : Piece). q.entry) (at_old k d lt) in
          let two = ap (λ (q : Piece). q.entry) (at_old j d before) in
          omega (arith, was.falls j k d less lt, one, two)
      | inr past ↦
          let last : k ≡ length a.pieces.items = omega (arith, past, inside, ap length pieces, length-append a.pieces.items (p ∷ [])) in
          let before : j < length a.pieces.items = omega (arith, less, last) in
          let one = ap (λ (q : Piece). q.entry) (ap (λ (n : ℕ). slice_index_or b.pieces.items n d) last ∙ at_new d) in
          let two = ap (λ (q : Piece). q.entry) (at_old j d before) in
          omega (arith, above j d before, one, two)
    ]

    -- and the slice behind it does, too
    pub adds_slice : All (λ q. p.entry < q.entry) a.pieces.items → a.filled ≤ b.filled → b.filled ≤ length room → IsPlacedPiece l b.filled p → AddsSlice l p.entry (piece_slice l room p) a b
    adds_slice above up fits here = record {
      room = record {
        filled = omega (arith, fits, ap length room_is);
        pieces = subst (All (IsPlacedPiece l b.filled)) (sym pieces) (All-push (IsPlacedPiece l b.filled) a.pieces.items p (placed b.filled up) here);
        falls = falls above;
      };
      added = record {
        place = length a.pieces.items;
        inside = omega (arith, ap length pieces, length-append a.pieces.items (p ∷ []));
        entry = λ d. ap (λ (q : Piece). q.entry) (at_new d);
        bytes = λ d. sym (ap (piece_slice l room) (at_new d)) ∙ ap (λ (r : List ℕ). piece_slice l r (slice_index_or b.pieces.items (length a.pieces.items) d)) (sym room_is);
      };
      kept = kept;
      only = only;
    }

  -- the same of a slice whose piece is put before theirs
  module _ (b : Ahead) (p : Piece) (room_is : b.room.items ≡ room) (pieces : b.pieces.items ≡ p ∷ a.pieces.items) where
    first_kept : (k : ℕ) (c : List ℕ) → HasSlice l a k c → HasSlice l b k c
    first_kept k c has = record {
      place = suc has.place;
      inside = omega (arith, has.inside, ap length pieces);
      entry = λ d. ap (λ (ps : List Piece). (slice_index_or ps (suc has.place) d).entry) pieces ∙ has.entry d;
      bytes = λ d. has.bytes d ∙ sym (piece_same has.place d has.inside) ∙ ap (λ (ps : List Piece). piece_slice l room (slice_index_or ps (suc has.place) d)) (sym pieces)
          ∙ ap (λ (r : List ℕ). piece_slice l r (slice_index_or b.pieces.items (suc has.place) d)) (sym room_is);
    }

    first_only : (k : ℕ) (c : List ℕ) → HasSlice l b k c → HasSlice l a k c ⊎ ((k ≡ p.entry) × (c ≡ piece_slice l room p))
    first_only k c has = go has.place has.inside has.entry has.bytes where
      go : (n : ℕ) → n < length b.pieces.items → ((d : Piece) → (slice_index_or b.pieces.items n d).entry ≡ k) → ((d : Piece) → c ≡ piece_slice l b.room.items (slice_index_or b.pieces.items n d))
          → HasSlice l a k c ⊎ ((k ≡ p.entry) × (c ≡ piece_slice l room p))
      go zero inside entry bytes = inr (
        sym (entry p) ∙ ap (λ (ps : List Piece). (slice_index_or ps 0 p).entry) pieces,
        bytes p ∙ ap (λ (r : List ℕ). piece_slice l r (slice_index_or b.pieces.items 0 p)) room_is ∙ ap (λ (ps : List Piece). piece_slice l room (slice_index_or ps 0 p)) pieces,
      )
      go (suc n) inside entry bytes =
          let less : n < length a.pieces.items = omega (arith, inside, ap length pieces) in
          inl (record {
            place = n;
            inside = less;
            entry = λ d. ap (λ (ps : List Piece). (slice_index_or ps (suc n) d).entry) (sym pieces) ∙ entry d;
            bytes = λ d. bytes d ∙ ap (λ (r : List ℕ). piece_slice l r (slice_index_or b.pieces.items (suc n) d)) room_is
                ∙ ap (λ (ps : List Piece). piece_slice l room (slice_index_or ps (suc n) d)) pieces ∙ piece_same n d less;
          })

    first_falls : All (λ q. q.entry < p.entry) a.pieces.items → EntriesFall b.pieces.items
    first_falls below = subst EntriesFall (sym pieces) go where
      go : EntriesFall (p ∷ a.pieces.items)
      go zero zero d less inside = absurd (omega (arith, less))
      go zero (suc k) d less inside = below k d (omega (arith, inside))
      go (suc j) zero d less inside = absurd (omega (arith, less))
      go (suc j) (suc k) d less inside = was.falls j k d (omega (arith, less)) (omega (arith, inside))

    pub adds_first_slice : All (λ q. q.entry < p.entry) a.pieces.items → a.filled ≤ b.filled → b.filled ≤ length room → IsPlacedPiece l b.filled p → AddsSlice l p.entry (piece_slice l room p) a b
    adds_first_slice below up fits here = record {
      room = record {
        filled = omega (arith, fits, ap length room_is);
        pieces = subst (All (IsPlacedPiece l b.filled)) (sym pieces) (All-cons (IsPlacedPiece l b.filled) p a.pieces.items here (placed b.filled up));
        falls = first_falls below;
      };
      added = record {
        place = 0;
        inside = omega (arith, ap length pieces);
        entry = λ d. ap (λ (ps : List Piece). (slice_index_or ps 0 d).entry) pieces;
        bytes = λ d. ap (λ (ps : List Piece). piece_slice l room (slice_index_or ps 0 d)) (sym pieces) ∙ ap (λ (r : List ℕ). piece_slice l r (slice_index_or b.pieces.items 0 d)) (sym room_is);
      };
      kept = first_kept;
      only = first_only;
    }
