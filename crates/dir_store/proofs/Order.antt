-- The paths of ids are in the order of the ids.
use Rattle.std.proofs.Common.{◌≡◌, ◌≢◌, ℕ, suc, zero, ◌+◌, ◌/◌, ◌%◌, ◌<◌, ◌≤◌, ◌⊎◌, List, [], ◌∷◌, ◌++◌, length, slice_index, Bool, true, ◌&&◌, nat_lt, refl, sym, ap, ◌∙◌, arith, get_or, inl, inr, add-one}
use Rattle.std.proofs.lemmas.Bool.{cases_lt, cases_eq}
use Rattle.std.proofs.lemmas.Bool.Decides.{nat_tests}
use Rattle.std.proofs.lemmas.Map.Keys.{below_from_sorted, sorted_from_strictly_increasing}
use Rattle.std.specs.Cmp.Lexicographic.{slice_cmp}
use Rattle.std.specs.Ordering.{nat_cmp, ordering_then}
use Rattle.std.specs.declared.cmp.Ordering.{Ordering}
use Rattle.std.specs.declared.cmp.Ordering.TheVariants.{Less, Equal, Greater}
use Rattle.chunk_store.specs.Digests.{IsId}
use Rattle.chunk_store.specs.Paths.{path_of}
use Rattle.hex.specs.Hex.{IsBytes, encode_lower, encode_with, lower_digits}

abbrev cmp : List ℕ → List ℕ → Ordering
cmp xs ys = slice_cmp nat_cmp xs ys

-- ---- what is chained

then_assoc : (a b c : Ordering) → ordering_then (ordering_then a b) c ≡ ordering_then a (ordering_then b c)
then_assoc Less b c = refl
then_assoc Equal b c = refl
then_assoc Greater b c = refl

-- ---- two numbers

nat_less : (x y : ℕ) → x < y → nat_cmp x y ≡ Less
nat_less x y h = grind (arith, nat_tests)

nat_more : (x y : ℕ) → y < x → nat_cmp x y ≡ Greater
nat_more x y h = grind (arith, nat_tests)

nat_same : (x y : ℕ) → x ≡ y → nat_cmp x y ≡ Equal
nat_same x y h = grind (arith, nat_tests)

-- ---- two digits

abbrev rises : List ℕ → Bool
rises [] = true
rises (x ∷ []) = true
rises (x ∷ y ∷ zs) = nat_lt x y && rises (y ∷ zs)

rises_on : (xs : List ℕ) → rises xs ≡ true → (k : ℕ) → suc k < length xs → get_or xs k 0 < get_or xs (suc k) 0
rises_on [] h k lt = absurd (omega arith)
rises_on (x ∷ []) h k lt = absurd (omega arith)
rises_on (x ∷ y ∷ zs) h zero lt = grind (arith, nat_tests)
rises_on (x ∷ y ∷ zs) h (suc k) lt =
    let more : rises (y ∷ zs) ≡ true = grind (arith, nat_tests) in
    rises_on (y ∷ zs) more k (omega arith)

rises_at : (xs : List ℕ) → rises xs ≡ true → (k : ℕ) → k + 1 < length xs → get_or xs k 0 < get_or xs (k + 1) 0
rises_at xs h k lt = rw (add-one k) (rises_on xs h k (omega arith))

digit_less : (j k : ℕ) → j < k → k < 16 → slice_index lower_digits j < slice_index lower_digits k
digit_less j k less lt = below_from_sorted lower_digits j k 0 (sorted_from_strictly_increasing lower_digits (rises_at lower_digits refl)) less lt

digit_cmp : (j k : ℕ) → j < 16 → k < 16 → nat_cmp (slice_index lower_digits j) (slice_index lower_digits k) ≡ nat_cmp j k
digit_cmp j k jl kl = elim (cases_lt j k) [
  | inl less ↦ nat_less _ _ (digit_less j k less kl) ∙ sym (nat_less j k less)
  | inr past ↦ elim (cases_eq j k) [
    | inl same ↦ nat_same _ _ (ap (slice_index lower_digits) same) ∙ sym (nat_same j k same)
    | inr other ↦ let more : k < j = omega arith in nat_more _ _ (digit_less k j more jl) ∙ sym (nat_more j k more)
  ]
]

-- two bytes are in the order of their digits
halves_cmp : (x y : ℕ) → ordering_then (nat_cmp (x / 16) (y / 16)) (nat_cmp (x % 16) (y % 16)) ≡ nat_cmp x y
halves_cmp x y = elim (cases_lt (x / 16) (y / 16)) [
  | inl less ↦ ap (λ o. ordering_then o (nat_cmp (x % 16) (y % 16))) (nat_less (x / 16) (y / 16) less) ∙ sym (nat_less x y (omega arith))
  | inr past ↦ elim (cases_eq (x / 16) (y / 16)) [
    | inl same ↦ ap (λ o. ordering_then o (nat_cmp (x % 16) (y % 16))) (nat_same (x / 16) (y / 16) same) ∙ low same (cases_lt (x % 16) (y % 16)) (cases_eq (x % 16) (y % 16))
    | inr other ↦ ap (λ o. ordering_then o (nat_cmp (x % 16) (y % 16))) (nat_more (x / 16) (y / 16) (omega arith)) ∙ sym (nat_more x y (omega arith))
  ]
] where
  low : x / 16 ≡ y / 16 → (x % 16 < y % 16) ⊎ (y % 16 ≤ x % 16) → (x % 16 ≡ y % 16) ⊎ (x % 16 ≢ y % 16) → nat_cmp (x % 16) (y % 16) ≡ nat_cmp x y
  low same (inl less) e = nat_less (x % 16) (y % 16) less ∙ sym (nat_less x y (omega arith))
  low same (inr past) (inl e) = nat_same (x % 16) (y % 16) e ∙ sym (nat_same x y (omega arith))
  low same (inr past) (inr other) = nat_more (x % 16) (y % 16) (omega arith) ∙ sym (nat_more x y (omega arith))

byte_cmp : (x y : ℕ) → x < 256 → y < 256 → ordering_then (nat_cmp (slice_index lower_digits (x / 16)) (slice_index lower_digits (y / 16))) (nat_cmp (slice_index lower_digits (x % 16)) (slice_index lower_digits (y % 16))) ≡ nat_cmp x y
byte_cmp x y xl yl =
    let high = digit_cmp (x / 16) (y / 16) (omega arith) (omega arith) in
    let low = digit_cmp (x % 16) (y % 16) (omega arith) (omega arith) in
    (λ i. ordering_then (high i) (low i)) ∙ halves_cmp x y

-- digits are in the order of the bytes that they spell
encode_cmp : (xs ys : List ℕ) → IsBytes xs → IsBytes ys → cmp (encode_lower xs) (encode_lower ys) ≡ cmp xs ys
unfolding encode_with
encode_cmp [] [] xb yb = refl
encode_cmp [] (y ∷ ys) xb yb = refl
encode_cmp (x ∷ xs) [] xb yb = refl
encode_cmp (x ∷ xs) (y ∷ ys) xb yb =
    let rest = encode_cmp xs ys (λ i. xb (suc i)) (λ i. yb (suc i)) in
    let first = byte_cmp x y (xb 0) (yb 0) in
    sym (then_assoc (nat_cmp (slice_index lower_digits (x / 16)) (slice_index lower_digits (y / 16))) (nat_cmp (slice_index lower_digits (x % 16)) (slice_index lower_digits (y % 16))) (cmp (encode_lower xs) (encode_lower ys)))
    ∙ (λ i. ordering_then (first i) (rest i))

-- ---- two lists of which each is two joined, the fronts equally long

append_cmp : (us vs xs ys : List ℕ) → length us ≡ length vs → cmp (us ++ xs) (vs ++ ys) ≡ ordering_then (cmp us vs) (cmp xs ys)
append_cmp [] [] xs ys same = refl
append_cmp [] (v ∷ vs) xs ys same = absurd (omega arith)
append_cmp (u ∷ us) [] xs ys same = absurd (omega arith)
append_cmp (u ∷ us) (v ∷ vs) xs ys same =
    ap (ordering_then (nat_cmp u v)) (append_cmp us vs xs ys (omega arith)) ∙ sym (then_assoc (nat_cmp u v) (cmp us vs) (cmp xs ys))

-- ---- paths

-- what the first two numbers decide is decided
decided : (a b c : Ordering) → ordering_then (ordering_then a (ordering_then b Equal)) (ordering_then a (ordering_then b c)) ≡ ordering_then a (ordering_then b c)
decided Less b c = refl
decided Greater b c = refl
decided Equal Less c = refl
decided Equal Equal c = refl
decided Equal Greater c = refl

first_bytes : (a b : ℕ) (rest : List ℕ) → IsBytes (a ∷ b ∷ rest) → IsBytes (a ∷ b ∷ [])
first_bytes a b rest bytes zero = bytes zero
first_bytes a b rest bytes (suc zero) = bytes (suc zero)
first_bytes a b rest bytes (suc (suc i)) = omega arith

pub path_cmp : (a b : List ℕ) → IsId a → IsId b → cmp (path_of a) (path_of b) ≡ cmp a b
unfolding path_of encode_with
path_cmp [] b ia ib = absurd (omega (arith, ia.size))
path_cmp (x ∷ []) b ia ib = absurd (omega (arith, ia.size))
path_cmp (x ∷ y ∷ xs) [] ia ib = absurd (omega (arith, ib.size))
path_cmp (x ∷ y ∷ xs) (u ∷ []) ia ib = absurd (omega (arith, ib.size))
path_cmp (x ∷ y ∷ xs) (u ∷ v ∷ us) ia ib =
    let fronts = encode_cmp (x ∷ y ∷ []) (u ∷ v ∷ []) (first_bytes x y xs ia.bytes) (first_bytes u v us ib.bytes) in
    let wholes = encode_cmp (x ∷ y ∷ xs) (u ∷ v ∷ us) ia.bytes ib.bytes in
    append_cmp (encode_lower (x ∷ y ∷ [])) (encode_lower (u ∷ v ∷ [])) (47 ∷ encode_lower (x ∷ y ∷ xs)) (47 ∷ encode_lower (u ∷ v ∷ us)) refl
    ∙ (λ i. ordering_then (fronts i) (wholes i))
    ∙ decided (nat_cmp x u) (nat_cmp y v) (cmp xs us)
