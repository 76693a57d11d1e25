-- Paths of ids: 69 ASCII bytes with one `/`, from which the id can be read, and which no temporary file has.
use Rattle.std.proofs.Common.{◌≡◌, ◌≢◌, ℕ, suc, ◌+◌, ◌*◌, ◌/◌, ◌%◌, ◌<◌, ◌≤◌, ◌==◌, ◌&&◌, List, [], ◌∷◌, ◌++◌, length, take, drop, slice_index, Bool, true, false, not, nat_le, nat_lt, refl, sym, ap, ◌∙◌, arith, inl, inr, length-append, codes, Some, unwrap_or}
use Rattle.std.specs.List.{count_by, list_all}
use Rattle.std.specs.Str.{IsAscii}
use Rattle.std.proofs.lemmas.Bool.{cases_lt, ltb-true}
use Rattle.std.proofs.lemmas.List.{take-append-drop, length-take-le, get_or_past}
use Rattle.std.proofs.lemmas.List.Sums.{AllPass-from_list_all, sum_by-append}
use Rattle.std.proofs.lemmas.Str.{IsAscii-append, IsAscii-take}
use Rattle.std.proofs.lemmas.Str.Ascii.{IsAscii-cons, IsAscii-from_all}
use Rattle.chunk_store.specs.Digests.{IsId}
use Rattle.chunk_store.specs.Paths.{path_of}
use Rattle.dsy_base.specs.Folders.{is_digit, stem, temporary_of}
use Rattle.dsy_base.specs.Maps.{is_listed}
use Rattle.hex.specs.Hex.{IsBytes, encode_lower, encode_with, hex_digit_value, lower_digits}
use Rattle.hex.proofs.HexLemmas.{length-encode_with, IsAscii-encode_with, IsDigits-lower_digits}

-- the digits of the first two bytes are the first four digits
pub take-encode_lower : (id : List ℕ) → 2 ≤ length id → take 4 (encode_lower id) ≡ encode_lower (take 2 id)
unfolding encode_with
take-encode_lower [] h = absurd (omega (arith, h))
take-encode_lower (a ∷ []) h = absurd (omega (arith, h))
take-encode_lower (a ∷ b ∷ rest) h = refl

pub path_is : (id : List ℕ) → 2 ≤ length id → take 4 (encode_lower id) ++ 47 ∷ encode_lower id ≡ path_of id
unfolding path_of
path_is id is = ap (λ front. front ++ 47 ∷ encode_lower id) (take-encode_lower id is)

-- the ends of two equal lists whose fronts are equally long
after_same : {X : Type 0} (us vs xs ys : List X) → length us ≡ length vs → us ++ xs ≡ vs ++ ys → xs ≡ ys
after_same [] [] xs ys l h = h
after_same [] (b ∷ vs) xs ys l h = absurd (omega (arith, l))
after_same (a ∷ us) [] xs ys l h = absurd (omega (arith, l))
after_same (a ∷ us) (b ∷ vs) xs ys l h = after_same us vs xs ys (omega (arith, l)) (ap (drop 1) h)

-- a digit of 4 bits is that of one number
digit_one : (j k : ℕ) → k < 16 → slice_index lower_digits j ≡ slice_index lower_digits k → j ≡ k
digit_one j k lt h =
    let there : hex_digit_value (slice_index lower_digits k) ≡ Some k = IsDigits-lower_digits k lt in
    elim (cases_lt j 16) [
      | inl below ↦ ap (λ o. unwrap_or o 0) (sym (IsDigits-lower_digits j below) ∙ ap hex_digit_value h ∙ there)
      | inr past ↦
          let none : hex_digit_value 0 ≡ Some k = ap hex_digit_value (sym (get_or_past lower_digits j 0 past) ∙ h) ∙ there in
          absurd (cc)
    ]

-- bytes can be read from their digits
digits_one : (xs ys : List ℕ) → IsBytes ys → encode_lower xs ≡ encode_lower ys → xs ≡ ys
unfolding encode_with
digits_one [] [] bytes h = refl
digits_one [] (y ∷ ys) bytes h = absurd (omega (arith, ap length h))
digits_one (x ∷ xs) [] bytes h = absurd (omega (arith, ap length h))
digits_one (x ∷ xs) (y ∷ ys) bytes h =
    let high : x / 16 ≡ y / 16 = digit_one (x / 16) (y / 16) (let b : y < 256 = bytes 0 in omega arith) (ap (λ l. slice_index l 0) h) in
    let low : x % 16 ≡ y % 16 = digit_one (x % 16) (y % 16) (omega arith) (ap (λ l. slice_index l 1) h) in
    let first : x ≡ y = omega arith in
    let rest : xs ≡ ys = digits_one xs ys (λ i. bytes (suc i)) (ap (drop 2) h) in
    cc

length-path : (id : List ℕ) → length (path_of id) ≡ 2 * length (take 2 id) + (1 + 2 * length id)
unfolding path_of
length-path id =
    omega (arith, length-append (encode_lower (take 2 id)) (47 ∷ encode_lower id), length-encode_with lower_digits (take 2 id), length-encode_with lower_digits id)

-- no other list has an id's path
pub path_one : (a b : List ℕ) → IsId b → path_of a ≡ path_of b → a ≡ b
unfolding path_of
path_one a b ib h =
    let la = length-encode_with lower_digits (take 2 a) in
    let lb = length-encode_with lower_digits (take 2 b) in
    let nb = length-take-le 2 b (omega (arith, ib.size)) in
    let fronts : length (take 2 a) ≡ 2 = front_is a (omega (arith, sym (length-path a) ∙ ap length h ∙ length-path b, nb, ib.size)) in
    let rest : 47 ∷ encode_lower a ≡ 47 ∷ encode_lower b = after_same (encode_lower (take 2 a)) (encode_lower (take 2 b)) (47 ∷ encode_lower a) (47 ∷ encode_lower b) (omega (arith, la, lb, fronts, nb)) h in
    digits_one a b ib.bytes (ap (drop 1) rest) where
      -- so long a path is that of two bytes and more
      front_is : (q : List ℕ) → 2 * length (take 2 q) + (1 + 2 * length q) ≡ 69 → length (take 2 q) ≡ 2
      front_is [] e = absurd (omega (arith, e))
      front_is (x ∷ []) e = absurd (omega (arith, e))
      front_is (x ∷ y ∷ q) e = refl

-- ---- all characters but the `/` are digits

digit_is : (k : ℕ) → k < 16 → is_digit (slice_index lower_digits k) ≡ true
digit_is k lt = AllPass-from_list_all is_digit lower_digits refl k 0 lt

both_true : (x y : Bool) → x ≡ true → y ≡ true → (x && y) ≡ true
both_true true true p q = refl
both_true false y p q = p
both_true true false p q = q

pub all_digits : (bs : List ℕ) → IsBytes bs → list_all is_digit (encode_lower bs) ≡ true
unfolding encode_with
all_digits [] bytes = refl
all_digits (b ∷ rest) bytes =
    both_true _ _ (digit_is (b / 16) (let is : b < 256 = bytes 0 in omega arith))
    (both_true _ _ (digit_is (b % 16) (omega arith)) (all_digits rest (λ i. bytes (suc i))))

-- ---- how many `/` and dots there are

abbrev marks : ℕ → List ℕ → ℕ
marks m q = count_by (λ c. c == m) q

abbrev slashes : List ℕ → ℕ
slashes q = marks 47 q

marks-append : (m : ℕ) (xs ys : List ℕ) → marks m (xs ++ ys) ≡ marks m xs + marks m ys
marks-append m xs ys = sum_by-append _ xs ys

slashes-append : (xs ys : List ℕ) → slashes (xs ++ ys) ≡ slashes xs + slashes ys
slashes-append xs ys = marks-append 47 xs ys

not_true : (b : Bool) → not b ≡ true → b ≡ false
not_true true h = sym h
not_true false h = refl

-- one byte more that is no mark
marks-cons : (m c : ℕ) (q : List ℕ) → (c == m) ≡ false → marks m (c ∷ q) ≡ marks m q
marks-cons m c q other =
    let both : marks m (c ∷ q) ≡ marks m (c ∷ []) + marks m q = marks-append m (c ∷ []) q in
    let none : marks m (c ∷ []) ≡ 0 = rw other refl in
    omega arith

-- digits have no mark that is no digit
marks-encode_lower : (m : ℕ) → ((k : ℕ) → (slice_index lower_digits k == m) ≡ false) → (bs : List ℕ) → marks m (encode_lower bs) ≡ 0
unfolding encode_with
marks-encode_lower m apart [] = refl
marks-encode_lower m apart (b ∷ rest) =
    marks-cons m (slice_index lower_digits (b / 16)) (slice_index lower_digits (b % 16) ∷ encode_lower rest) (apart (b / 16))
    ∙ (marks-cons m (slice_index lower_digits (b % 16)) (encode_lower rest) (apart (b % 16)) ∙ marks-encode_lower m apart rest)

-- no digit is a `/` or a dot
no_slash : (k : ℕ) → (slice_index lower_digits k == 47) ≡ false
no_slash k = elim (cases_lt k 16) [
  | inl below ↦ not_true _ (AllPass-from_list_all (λ c. not (c == 47)) lower_digits refl k 0 below)
  | inr past ↦ rw (get_or_past lower_digits k 0 past) refl
]

no_dot : (k : ℕ) → (slice_index lower_digits k == 46) ≡ false
no_dot k = elim (cases_lt k 16) [
  | inl below ↦ not_true _ (AllPass-from_list_all (λ c. not (c == 46)) lower_digits refl k 0 below)
  | inr past ↦ rw (get_or_past lower_digits k 0 past) refl
]

slashes-encode_lower : (bs : List ℕ) → slashes (encode_lower bs) ≡ 0
slashes-encode_lower bs = marks-encode_lower 47 no_slash bs

dots-path : (id : List ℕ) → marks 46 (path_of id) ≡ 0
unfolding path_of
dots-path id =
    let front = marks-encode_lower 46 no_dot (take 2 id) in
    let back = marks-encode_lower 46 no_dot id in
    let slash : marks 46 (47 ∷ encode_lower id) ≡ marks 46 (encode_lower id) = marks-cons 46 47 (encode_lower id) refl in
    let all : marks 46 (path_of id) ≡ marks 46 (encode_lower (take 2 id)) + marks 46 (47 ∷ encode_lower id) = marks-append 46 (encode_lower (take 2 id)) (47 ∷ encode_lower id) in
    omega arith

dots-temporary : (q : List ℕ) → 1 ≤ marks 46 (temporary_of q)
unfolding temporary_of
dots-temporary q =
    let front = take (stem q) q in
    let back = drop (stem q) q in
    let whole : marks 46 (temporary_of q) ≡ marks 46 front + marks 46 (codes ".tmp-cacnk" ++ back) = marks-append 46 front (codes ".tmp-cacnk" ++ back) in
    let mark : marks 46 (codes ".tmp-cacnk" ++ back) ≡ marks 46 (codes ".tmp-cacnk") + marks 46 back = marks-append 46 (codes ".tmp-cacnk") back in
    let one : marks 46 (codes ".tmp-cacnk") ≡ 1 = refl in
    omega arith

-- no temporary file stands at a path
pub temporary_apart : (q id : List ℕ) → temporary_of q ≢ path_of id
temporary_apart q id h = absurd (omega (arith, ap (marks 46) h, dots-temporary q, dots-path id))

pub path_listed : (id : List ℕ) → is_listed (path_of id) ≡ true
unfolding path_of
path_listed id =
    let front = slashes-encode_lower (take 2 id) in
    let back = slashes-encode_lower id in
    let slash : slashes (47 ∷ encode_lower id) ≡ 1 + slashes (encode_lower id) = slashes-append (47 ∷ []) (encode_lower id) in
    let all : slashes (path_of id) ≡ slashes (encode_lower (take 2 id)) + slashes (47 ∷ encode_lower id) = slashes-append (encode_lower (take 2 id)) (47 ∷ encode_lower id) in
    let one : slashes (path_of id) ≡ 1 = omega arith in
    ap (λ n. nat_le n 1) one

slashes-temporary : (q : List ℕ) → slashes (temporary_of q) ≡ slashes q
unfolding temporary_of
slashes-temporary q =
    let front = take (stem q) q in
    let back = drop (stem q) q in
    let whole : slashes (temporary_of q) ≡ slashes front + slashes (codes ".tmp-cacnk" ++ back) = slashes-append front (codes ".tmp-cacnk" ++ back) in
    let mark : slashes (codes ".tmp-cacnk" ++ back) ≡ slashes (codes ".tmp-cacnk") + slashes back = slashes-append (codes ".tmp-cacnk") back in
    let none : slashes (codes ".tmp-cacnk") ≡ 0 = refl in
    let both : slashes (front ++ back) ≡ slashes front + slashes back = slashes-append front back in
    let same : slashes (front ++ back) ≡ slashes q = ap slashes (take-append-drop (stem q) q) in
    omega arith

pub temporary_listed : (q : List ℕ) → is_listed (temporary_of q) ≡ is_listed q
temporary_listed q = ap (λ n. nat_le n 1) (slashes-temporary q)

-- ---- ASCII

pub digits_ascii : (bs : List ℕ) → IsAscii (encode_lower bs)
digits_ascii bs = IsAscii-encode_with lower_digits bs (IsAscii-from_all lower_digits (λ k d lt. ltb-true _ _ (AllPass-from_list_all (λ c. nat_lt c 128) lower_digits refl k d lt)))

pub path_ascii : (digits : List ℕ) → IsAscii digits → IsAscii (take 4 digits ++ 47 ∷ digits)
path_ascii digits h = IsAscii-append (take 4 digits) (47 ∷ digits) (IsAscii-take digits 4 h) (IsAscii-cons 47 digits (omega arith) h)
