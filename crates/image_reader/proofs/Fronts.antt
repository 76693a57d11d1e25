-- The front of a buffer that is filled with a range of an image, piece by piece.
use Rattle.std.proofs.Common.{◌≡◌, ℕ, ◌+◌, ◌-◌, ◌≤◌, ◌++◌, ◌⊎◌, Bool, true, false, List, [], ◌∷◌, length, take, drop, slice_range, refl, sym, ap, ◌∙◌, arith, inl, inr}
use Rattle.std.proofs.Math.Seq.{take-add, take-append-add}
use Rattle.std.proofs.lemmas.Bool.{false≢true}
use Rattle.std.proofs.lemmas.List.{drop-drop, drop-take, length-drop, length-take, take-take, take_all}
use Rattle.std.proofs.lemmas.Slice.{between_is}
use Rattle.std.proofs.lemmas.Slice.Eq.{bytes_eq-Decides}
use Rattle.std.specs.Str.{bytes_eq}
use Rattle.caibx_codec.specs.Listing.{Listing, Rules, start_of, end_of, id_of, kind_of, size_of, slice_of}
use Rattle.chunk_store.specs.Giving.{IsChunk}
use Rattle.image_reader.specs.Covered.{IsCovered}
use Rattle.image_reader.specs.Images.{HasTwinsIn, IsRightInRange, IsRange}

pub length_range : (t : List ℕ) (a b : ℕ) → a ≤ b → b ≤ length t → length (slice_range t a b) ≡ b - a
length_range t a b le fits =
    let cut = ap length (between_is t a b) in
    let dropped = length-drop a (take b t) in
    let taken = length-take b t in
    omega arith

-- a range of a range
range_in : (t : List ℕ) (s e f g : ℕ) → s ≤ e → f ≤ g → g ≤ e - s → slice_range (slice_range t s e) f g ≡ slice_range t (s + f) (s + g)
range_in t s e f g up le fits =
    let size : g - f ≡ (s + g) - (s + f) = omega arith in
    let whole : e - s ≡ f + (e - s - f) = omega arith in
    let cut : drop f (take (e - s) (drop s t)) ≡ take (e - s - f) (drop f (drop s t)) = ap (λ n. drop f (take n (drop s t))) whole ∙ drop-take f (e - s - f) (drop s t) in
    ap (take (g - f)) cut
    ∙ (take-take (g - f) (e - s - f) (drop f (drop s t)) (omega arith)
    ∙ (ap (take (g - f)) (drop-drop f s t) ∙ ap (λ n. take n (drop (s + f) t)) size))

-- two ranges side by side
pub ranges_join : (t : List ℕ) (a b c : ℕ) → a ≤ b → b ≤ c → slice_range t a b ++ slice_range t b c ≡ slice_range t a c
ranges_join t a b c le more =
    let there : a + (b - a) ≡ b = omega arith in
    let size : (b - a) + (c - b) ≡ c - a = omega arith in
    let later : drop (b - a) (drop a t) ≡ drop b t = drop-drop (b - a) a t ∙ ap (λ n. drop n t) there in
    ap (λ x. slice_range t a b ++ take (c - b) x) (sym later)
    ∙ (sym (take-add (b - a) (c - b) (drop a t)) ∙ ap (λ n. take n (drop a t)) size)

same_or_apart : (a b : List ℕ) (t : Bool) → bytes_eq a b ≡ t → (a ≡ b) ⊎ ((a ≡ b) → ⊥)
same_or_apart a b true h = inl ((bytes_eq-Decides a b).0 h)
same_or_apart a b false h = inr (λ e. false≢true (sym h ∙ (bytes_eq-Decides a b).1 e))

module _ (l : Listing) (at n : ℕ) where
  -- the first `done` bytes are those of t, but for twins
  abbrev pub IsFront : ℕ → List ℕ → List ℕ → Type 0
  IsFront done t out = (take done out ≡ slice_range t at (at + done)) ⊎ HasTwinsIn l at n

  pub front_none : (t out : List ℕ) → IsFront 0 t out
  front_none t out = let none : at + 0 - at ≡ 0 = omega arith in inl (ap (λ m. take m (drop at t)) (sym none))

  module _ (rules : Rules l) (t : List ℕ) (right : IsRightInRange t l at n) where
    -- a part of the chunk of entry i
    part_is : (i from m : ℕ) (b : List ℕ) → IsCovered l at n i → from + m ≤ size_of l i → IsChunk (kind_of l) (id_of l i) (size_of l i) b
        → (slice_range b from (from + m) ≡ slice_range t (start_of l i + from) (start_of l i + from + m)) ⊎ HasTwinsIn l at n
    part_is i from m b covered fits chunk =
        let rise = rules.rises i covered.listed in
        let end = rules.inside i covered.listed in
        let sized : length (slice_of l t i) ≡ size_of l i = length_range t (start_of l i) (end_of l i) (omega arith) (omega (arith, right.size)) in
        elim (same_or_apart b (slice_of l t i) (bytes_eq b (slice_of l t i)) refl) [
          | inl same ↦
              let there : start_of l i + (from + m) ≡ start_of l i + from + m = omega arith in
              inl (ap (λ x. slice_range x from (from + m)) same
              ∙ (range_in t (start_of l i) (end_of l i) from (from + m) (omega arith) (omega arith) fits
              ∙ ap (λ x. slice_range t (start_of l i + from) x) there))
          | inr apart ↦ inr (record {
            entry = i;
            covered = covered;
            one = b;
            other = slice_of l t i;
            differ = apart;
            first = chunk;
            second = record { named = right.entries i covered; sized = sized };
          })
        ]

    -- a part more. `rest` is what stood behind the front, and `filled` what stands there now
    pub front_next : (i done m : ℕ) (b out rest filled now : List ℕ) → IsCovered l at n i → start_of l i ≤ at + done → at + done + m ≤ end_of l i → done ≤ length out
        → IsChunk (kind_of l) (id_of l i) (size_of l i) b → filled ≡ slice_range b (at + done - start_of l i) (at + done - start_of l i + m) ++ rest → now ≡ take done out ++ filled
        → IsFront done t out → IsFront (done + m) t now
    front_next i done m b out rest filled now covered starts ends fits chunk is now_is front = elim front [
      | inr twins ↦ inr twins
      | inl before ↦ elim (part_is i (at + done - start_of l i) m b covered (omega arith) chunk) [
        | inr twins ↦ inr twins
        | inl part ↦
            let from = at + done - start_of l i in
            let there : start_of l i + from ≡ at + done = omega arith in
            let piece : slice_range b from (from + m) ≡ slice_range t (at + done) (at + done + m) = part ∙ ap (λ x. slice_range t x (x + m)) there in
            let sized : length (slice_range b from (from + m)) ≡ m = (let size = length_range b from (from + m) (omega arith) (omega (arith, chunk.sized)) in omega arith) in
            let short : length (take done out) ≡ done = (let cut = length-take done out in omega arith) in
            let front_part : take m filled ≡ slice_range t (at + done) (at + done + m) =
            ap (take m) is ∙ (ap (λ k. take k (slice_range b from (from + m) ++ rest)) (sym sized) ∙ (front_of (slice_range b from (from + m)) rest ∙ piece)) in
            let whole : at + (done + m) ≡ at + done + m = omega arith in
            inl (ap (take (done + m)) now_is
            ∙ (ap (λ k. take (k + m) (take done out ++ filled)) (sym short)
            ∙ (take-append-add (take done out) filled m
            ∙ (ap (λ x. x ++ take m filled) before
            ∙ (ap (λ x. slice_range t at (at + done) ++ x) front_part
            ∙ (ranges_join t at (at + done) (at + done + m) (omega arith) (omega arith)
            ∙ ap (slice_range t at) (sym whole)))))))
      ]
    ]
      where
        front_of : (xs ys : List ℕ) → take (length xs) (xs ++ ys) ≡ xs
        front_of [] ys = refl
        front_of (x ∷ xs) ys = λ i. x ∷ front_of xs ys i

  -- all of it
  pub front_all : (done : ℕ) (t out : List ℕ) → done ≡ n → length out ≡ n → IsFront done t out → IsRange l at n t out
  front_all done t out all size front = elim front [
    | inr twins ↦ inr twins
    | inl is ↦ inl (sym (take_all done out (omega arith)) ∙ (is ∙ ap (λ k. slice_range t at (at + k)) all))
  ]
