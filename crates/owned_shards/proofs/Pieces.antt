-- Lists that are joined from pieces: what lies in one piece, and what becomes of the whole where it changes.
use Rattle.std.proofs.Common.{◌≡◌, ℕ, suc, ◌+◌, ◌-◌, ◌<◌, ◌≤◌, List, [], ◌∷◌, ◌++◌, length, map, take, drop, set, get_or, slice_range, refl, sym, ap, ◌∙◌, arith}
use Rattle.std.proofs.lemmas.List.{append_assoc, drop-append-le, drop-drop, drop_at, drop_more, get_or-append-add, get_or_append_left, length-drop, set-append_left, set-append_right, set_split, take-append-drop, take-append-le}
use Rattle.std.proofs.lemmas.List.Concat.{flat_map-append}
use Rattle.std.specs.List.{flat_map}
use Rattle.dsy_base.specs.Bytes.{written}

module _ {X A : Type 0} (f : X → List A) (xs : List X) (i : ℕ) (lt : i < length xs) where
  -- what stands before the i-th piece, that piece, and what stands behind it
  pub around : (d : X) → flat_map f xs ≡ flat_map f (take i xs) ++ (f (get_or xs i d) ++ flat_map f (drop (i + 1) xs))
  around d = ap (flat_map f) (sym (take-append-drop i xs))
      ∙ (flat_map-append f (take i xs) (drop i xs) ∙ ap (λ ys. flat_map f (take i xs) ++ flat_map f ys) (drop_more xs i d lt))

  -- the same after it changed
  pub around_set : (y : X) → flat_map f (set xs i y) ≡ flat_map f (take i xs) ++ (f y ++ flat_map f (drop (i + 1) xs))
  around_set y =
      let next : suc i ≡ i + 1 = omega arith in
      ap (flat_map f) (set_split xs i y lt)
      ∙ (flat_map-append f (take i xs) (y ∷ drop (suc i) xs) ∙ ap (λ n. flat_map f (take i xs) ++ (f y ++ flat_map f (drop n xs))) next)

-- joined from the images of a map
pub flat_map-map : {X Y A : Type 0} (f : Y → List A) (h : X → Y) (xs : List X) → flat_map f (map h xs) ≡ flat_map (λ x. f (h x)) xs
flat_map-map f h [] = refl
flat_map-map f h (x ∷ xs) = ap (λ ys. f (h x) ++ ys) (flat_map-map f h xs)

module _ {A : Type 0} (p x q : List A) where
  pub get_within : (j : ℕ) (d : A) → j < length x → get_or (p ++ (x ++ q)) (length p + j) d ≡ get_or x j d
  get_within j d lt = get_or-append-add p (x ++ q) j d ∙ get_or_append_left x q d j lt

  pub set_within : (j : ℕ) (v : A) → j < length x → set (p ++ (x ++ q)) (length p + j) v ≡ p ++ (set x j v ++ q)
  set_within j v lt =
      let there : (length p + j) - length p ≡ j = omega arith in
      set-append_right p (x ++ q) (length p) (length p + j) v refl (omega arith)
      ∙ (ap (λ n. p ++ set (x ++ q) n v) there ∙ ap (λ ys. p ++ ys) (set-append_left x q j v lt))

  drop_within : (j : ℕ) → j ≤ length x → drop (length p + j) (p ++ (x ++ q)) ≡ drop j x ++ q
  drop_within j le = sym (drop-drop j (length p) (p ++ (x ++ q))) ∙ (ap (drop j) (drop_at p (x ++ q) (length p) refl) ∙ drop-append-le j x q le)

  pub slice_within : (a z : ℕ) → a ≤ z → z ≤ length x → slice_range (p ++ (x ++ q)) (length p + a) (length p + z) ≡ slice_range x a z
  slice_within a z az zx =
      let long : (length p + z) - (length p + a) ≡ z - a = omega arith in
      ap (λ n. take n (drop (length p + a) (p ++ (x ++ q)))) long
      ∙ (ap (take (z - a)) (drop_within a (omega (arith, az, zx))) ∙ take-append-le (z - a) (drop a x) q (omega (arith, length-drop a x, az, zx)))

take_past : {A : Type 0} (p r : List A) (n : ℕ) → take (length p + n) (p ++ r) ≡ p ++ take n r
take_past [] r n = let same : 0 + n ≡ n = omega arith in ap (λ k. take k r) same
take_past (y ∷ p) r n =
    let same : suc (length p) + n ≡ suc (length p + n) = omega arith in
    ap (λ k. take k (y ∷ (p ++ r))) same ∙ ap (λ ys. y ∷ ys) (take_past p r n)

pub written_within : (p x q b : List ℕ) (at : ℕ) → at + length b ≤ length x → written (p ++ (x ++ q)) (length p + at) b ≡ p ++ (written x at b ++ q)
written_within p x q b at fits =
    let last : (length p + at) + length b ≡ length p + (at + length b) = omega arith in
    ap (λ n. take (length p + at) (p ++ (x ++ q)) ++ (b ++ drop n (p ++ (x ++ q)))) last
    ∙ (ap (λ ys. take (length p + at) (p ++ (x ++ q)) ++ (b ++ ys)) (drop_within p x q (at + length b) fits)
    ∙ (ap (λ ys. ys ++ (b ++ (drop (at + length b) x ++ q))) (take_past p (x ++ q) at ∙ ap (λ ys. p ++ ys) (take-append-le at x q (omega (arith, fits))))
    ∙ (append_assoc p (take at x) (b ++ (drop (at + length b) x ++ q))
    ∙ ap (λ ys. p ++ ys) (
    ap (λ ys. take at x ++ ys) (sym (append_assoc b (drop (at + length b) x) q))
    ∙ sym (append_assoc (take at x) (b ++ drop (at + length b) x) q)))))
