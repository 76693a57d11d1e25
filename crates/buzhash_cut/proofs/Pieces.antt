-- The bytes of an image, piece by piece.
use Rattle.std.proofs.Common.{◌≡◌, ℕ, ◌+◌, ◌-◌, ◌≤◌, List, [], ◌++◌, length, take, drop, slice_range, sym, ap, subst, ◌∙◌, arith, length-drop}
use Rattle.std.proofs.Math.Seq.{take-add}
use Rattle.std.proofs.lemmas.List.{take-append-drop, take-append-le, drop-take, take_all}
use Rattle.std.proofs.lemmas.Grind.{common_steps}
use Rattle.chunk_ends.specs.Cuts.{IsCut}
use Rattle.chunk_ends.specs.Feeding.{CutterKept, WasFed}
use Rattle.chunk_ends.specs.Sizes.{Sizes}

pub drop-add : (a n : ℕ) (xs : List ℕ) → drop (a + n) xs ≡ drop n (drop a xs)
drop-add a n xs = grind (arith, common_steps)

take-take-le : (i j : ℕ) (xs : List ℕ) → i ≤ j → take i (take j xs) ≡ take i xs
take-take-le i j xs le = grind (arith, common_steps)

length_take_all : (n : ℕ) (xs : List ℕ) → n ≤ length xs → length (take n xs) ≡ n
length_take_all n xs le = grind (arith, common_steps)

-- n bytes more of the image
pub range_on : (t p : List ℕ) (start at k n : ℕ) → start ≤ at → p ≡ slice_range t at (at + k) → n ≤ k → slice_range t start at ++ take n p ≡ slice_range t start (at + n)
range_on t p start at k n le piece few =
    let size : at + k - at ≡ k = omega arith in
    let far : start + (at - start) ≡ at = omega arith in
    let long : at - start + n ≡ at + n - start = omega arith in
    let here : take n p ≡ take n (drop (at - start) (drop start t)) =
    ap (take n) (piece ∙ ap (λ (i : ℕ). take i (drop at t)) size) ∙ take-take-le n k (drop at t) few
    ∙ ap (λ (i : ℕ). take n (drop i t)) (sym far) ∙ ap (take n) (drop-add start (at - start) t) in
    ap (λ (x : List ℕ). slice_range t start at ++ x) here ∙ sym (take-add (at - start) n (drop start t)) ∙ ap (λ (i : ℕ). take i (drop start t)) long

-- what is left of a range
slice_later : (p : List ℕ) (a b n : ℕ) → a + n ≤ b → slice_range p (a + n) b ≡ drop n (slice_range p a b)
slice_later p a b n le =
    let size : b - a ≡ n + (b - (a + n)) = omega arith in
    ap (take (b - (a + n))) (drop-add a n p) ∙ sym (drop-take n (b - (a + n)) (drop a p)) ∙ ap (λ (i : ℕ). drop n (take i (drop a p))) (sym size)

pub left_on : (t p : List ℕ) (at from upto n : ℕ) → from + n ≤ upto → slice_range p from upto ≡ slice_range t at (at + (upto - from))
    → slice_range p (from + n) upto ≡ slice_range t (at + n) (at + n + (upto - (from + n)))
left_on t p at from upto n le same =
    let end : at + n + (upto - (from + n)) ≡ at + (upto - from) = omega arith in
    slice_later p from upto n le ∙ ap (drop n) same ∙ sym (slice_later t at (at + (upto - from)) n (omega arith))
    ∙ ap (slice_range t (at + n)) (sym end)

-- a range and what follows it
range_rest : (t : List ℕ) (a b : ℕ) → a ≤ b → slice_range t a b ++ drop b t ≡ drop a t
range_rest t a b le =
    let far : a + (b - a) ≡ b = omega arith in
    ap (λ (x : List ℕ). slice_range t a b ++ x) (ap (λ (i : ℕ). drop i t) (sym far) ∙ drop-add a (b - a) t) ∙ take-append-drop (b - a) (drop a t)

-- a range that ends with the image
pub range_last : (t : List ℕ) (a b : ℕ) → a ≤ b → length t ≤ b → slice_range t a b ≡ drop a t
range_last t a b le all = take_all (b - a) (drop a t) (omega (arith, length-drop a t))

-- a front of what was read into the piece, which has m bytes
pub front_of : (a b : List ℕ) (n m : ℕ) → n ≤ m → n ≤ length a → slice_range (take m (a ++ b)) 0 n ≡ slice_range a 0 n
front_of a b n m le inside = take-take-le (n - 0) m (a ++ b) (omega arith) ∙ take-append-le (n - 0) a b (omega arith)

-- an empty range
pub range_none : (t : List ℕ) (a b : ℕ) → b ≡ a → slice_range t a b ≡ []
range_none t a b is = let none : b - a ≡ 0 = omega arith in ap (λ (i : ℕ). take i (drop a t)) none

-- the cutter was given the bytes from `start` to `at`, and then n bytes of the piece p
module _ (t p q : List ℕ) (start at from upto n : ℕ) (same : q ≡ p) (le : start ≤ at) (inside : from + n ≤ upto) (piece : slice_range p from upto ≡ slice_range t at (at + (upto - from))) where
  piece_is : slice_range q from upto ≡ slice_range t at (at + (upto - from))
  piece_is = ap (λ (x : List ℕ). slice_range x from upto) same ∙ piece

  -- what it was given in all, and what is left
  pub read_on : (c d : CutterKept) → WasFed c (slice_range t start at) → ((image : List ℕ) → WasFed c image → WasFed d (image ++ take n (slice_range q from upto)))
      → WasFed d (slice_range t start (at + n)) × (slice_range p (from + n) upto ≡ slice_range t (at + n) (at + n + (upto - (from + n))))
  read_on c d fed on =
      (subst (WasFed d) (range_on t (slice_range q from upto) start at (upto - from) n le piece_is (omega arith)) (on (slice_range t start at) fed), left_on t p at from upto n inside piece)

  -- the cut that is found there is the image's
  pub cut_in : (s : Sizes) (begun e : ℕ) → ((more : List ℕ) → IsCut s (drop begun ((slice_range t start at ++ take n (slice_range q from upto)) ++ more)) (e - begun))
      → IsCut s (drop (start + begun) t) (start + e - (start + begun))
  cut_in s begun e cut =
      let size : e - begun ≡ start + e - (start + begun) = omega arith in
      let next : List ℕ = take n (slice_range q from upto) in
      let whole : (slice_range t start at ++ next) ++ drop (at + n) t ≡ drop start t =
      ap (λ (x : List ℕ). x ++ drop (at + n) t) (range_on t (slice_range q from upto) start at (upto - from) n le piece_is (omega arith)) ∙ range_rest t start (at + n) (omega arith) in
      let rest : drop begun ((slice_range t start at ++ next) ++ drop (at + n) t) ≡ drop (start + begun) t =
      ap (drop begun) whole ∙ sym (drop-add start begun t) in
      subst (IsCut s (drop (start + begun) t)) size (subst (λ (x : List ℕ). IsCut s x (e - begun)) rest (cut (drop (at + n) t)))

-- the last cut, of all bytes from `start` on
pub cut_last : (s : Sizes) (t : List ℕ) (start at begun e : ℕ) → start ≤ at → length t ≤ at → IsCut s (drop begun (slice_range t start at)) (e - begun)
    → IsCut s (drop (start + begun) t) (start + e - (start + begun))
cut_last s t start at begun e le all cut =
    let size : e - begun ≡ start + e - (start + begun) = omega arith in
    let rest : drop begun (slice_range t start at) ≡ drop (start + begun) t = ap (drop begun) (range_last t start at le all) ∙ sym (drop-add start begun t) in
    subst (IsCut s (drop (start + begun) t)) size (subst (λ (x : List ℕ). IsCut s x (e - begun)) rest cut)

-- the n bytes that a range of p begins with
range_front : (p : List ℕ) (from upto n : ℕ) → from + n ≤ upto → slice_range p from (from + n) ≡ take n (slice_range p from upto)
range_front p from upto n le =
    let size : from + n - from ≡ n = omega arith in
    ap (λ (i : ℕ). take i (drop from p)) size ∙ sym (take-take-le n (upto - from) (drop from p) (omega arith))

-- the k bytes of a chunk from `begun` to `at` stand in front of f, and n bytes of the piece p were put behind them
module _ (t p q d f e : List ℕ) (begun at from upto n k m : ℕ) (same : q ≡ p) (buffer : f ≡ d) (place : begun + k ≡ at) (inside : from + n ≤ upto) (long : upto ≤ length p)
    (piece : slice_range p from upto ≡ slice_range t at (at + (upto - from))) (put : slice_range e 0 (k + length (slice_range q from (from + n))) ≡ slice_range f 0 k ++ slice_range q from (from + n)) where
  taken_is : slice_range q from (from + n) ≡ take n (slice_range p from upto)
  taken_is = ap (λ (x : List ℕ). slice_range x from (from + n)) same ∙ range_front p from upto n inside

  size_is : length (slice_range q from (from + n)) ≡ n
  size_is =
      let size : from + n - from ≡ n = omega arith in
      ap (λ (x : List ℕ). length (slice_range x from (from + n))) same ∙ ap (λ (i : ℕ). length (take i (drop from p))) size
      ∙ length_take_all n (drop from p) (omega (arith, length-drop from p))

  pub kept_on : slice_range d 0 (at - begun) ≡ slice_range t begun at → slice_range e 0 (at + n - begun) ≡ slice_range t begun (at + n)
  kept_on kept =
      let far : at + n - begun ≡ k + length (slice_range q from (from + n)) = omega (arith, place, size_is) in
      let short : k ≡ at - begun = omega (arith, place) in
      ap (slice_range e 0) far ∙ put
      ∙ ap (λ (x : List ℕ). slice_range x 0 k ++ slice_range q from (from + n)) buffer
      ∙ ap (λ (i : ℕ). slice_range d 0 i ++ slice_range q from (from + n)) short
      ∙ ap (λ (x : List ℕ). x ++ slice_range q from (from + n)) kept
      ∙ ap (λ (x : List ℕ). slice_range t begun at ++ x) taken_is
      ∙ range_on t (slice_range p from upto) begun at (upto - from) n (omega (arith, place)) piece (omega arith)

  -- the same of the whole buffer
  pub chunk_on : (b : List ℕ) → at + n - begun ≤ m → at + n - begun ≤ length e → slice_range d 0 (at - begun) ≡ slice_range t begun at
      → slice_range (take m (e ++ b)) 0 (at + n - begun) ≡ slice_range t begun (at + n)
  chunk_on b room inside kept = front_of e b (at + n - begun) m room inside ∙ kept_on kept
