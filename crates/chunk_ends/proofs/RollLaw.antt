-- The roll: the hash of a window that has moved on by one byte.
use Rattle.std.proofs.Common.{◌≡◌, ℕ, zero, suc, ◌+◌, ◌-◌, ◌^◌, ◌<◌, ◌≤◌, List, [], ◌∷◌, ◌++◌, length, slice_index, fold, map, bit_xor, true, false, nat_lt, refl, sym, ap, subst, ◌∙◌, arith, inl, inr}
use Rattle.std.specs.Int.{w32, rotate_left}
use Rattle.std.specs.List.{range_with_len, list_all}
use Rattle.std.proofs.lemmas.Bool.{cases_lt}
use Rattle.std.proofs.lemmas.Bool.Decides.{nat_tests}
use Rattle.std.proofs.lemmas.List.Folds.{list_all_at}
use Rattle.std.proofs.lemmas.List.FromFn.{map-range_with_len_more}
use Rattle.std.proofs.lemmas.List.Sums.{fold-append}
use Rattle.std.proofs.lemmas.Nat.{xor_comm, xor_of_32}
use Rattle.std.proofs.lemmas.List.{get_or_past}
use lib.Bits.{xor_assoc, xor_self, xor_zero_r, xor_zero_l}
use Rattle.chunk_ends.proofs.Rotations.{rotate-lt, rotate-more, rotate-xor, rotate_zero}
use Rattle.chunk_ends.specs.Window.{window_hash, roll_of}
use Rattle.chunk_ends.specs.Table.{table}

-- over any rotations of words that go through xor
module _ (rot : ℕ → ℕ → ℕ) (rot-lt : (n k : ℕ) → n < 2 ^ 32 → rot n k < 2 ^ 32)
    (rot-more : (n k : ℕ) → n < 2 ^ 32 → rot (rot n k) 1 ≡ rot n (k + 1))
    (rot-xor : (a b : ℕ) → a < 2 ^ 32 → b < 2 ^ 32 → rot (bit_xor a b) 1 ≡ bit_xor (rot a 1) (rot b 1))
    (rot-zero : (n : ℕ) → n < 2 ^ 32 → rot n 0 ≡ n)
    (word : ℕ → ℕ) (fits : (b : ℕ) → word b < 2 ^ 32) where
  unfoldable turn : List ℕ → ℕ → ℕ
  turn w i = rot (word (slice_index w i)) (47 - i)

  -- the hash of the first n bytes
  unfoldable hash_to : List ℕ → ℕ → ℕ
  hash_to w n = fold bit_xor 0 (map (turn w) (range_with_len 0 n))

  hash_suc : (w : List ℕ) (n : ℕ) → hash_to w (n + 1) ≡ bit_xor (hash_to w n) (turn w n)
  unfolding hash_to
  hash_suc w n =
      let before = map (turn w) (range_with_len 0 n) in
      let longer : map (turn w) (range_with_len 0 (n + 1)) ≡ before ++ turn w n ∷ [] = map-range_with_len_more (turn w) 0 n n (omega arith) in
      rw (longer, fold-append bit_xor 0 before (turn w n ∷ [])) refl

  hash_none : (w : List ℕ) → hash_to w 0 ≡ 0
  unfolding hash_to
  hash_none w = refl

  turn-lt : (w : List ℕ) (n : ℕ) → turn w n < 2 ^ 32
  unfolding turn
  turn-lt w n = rot-lt (word (slice_index w n)) (47 - n) (fits (slice_index w n))

  hash_fits : (w : List ℕ) (n : ℕ) → hash_to w n < 2 ^ 32
  hash_fits w zero = subst (λ (x : ℕ). x < 2 ^ 32) (sym (hash_none w)) (omega arith)
  hash_fits w (suc n) =
      let e : hash_to w (suc n) ≡ bit_xor (hash_to w n) (turn w n) = ap (hash_to w) (omega arith) ∙ hash_suc w n in
      subst (λ (x : ℕ). x < 2 ^ 32) (sym e) (xor_of_32 (hash_to w n) (turn w n) (hash_fits w n) (turn-lt w n))

  module _ (w v : List ℕ) (moved : (i : ℕ) → i < 47 → slice_index v i ≡ slice_index w (i + 1)) where
    turned_on : (n : ℕ) → n < 47 → rot (turn w (n + 1)) 1 ≡ turn v n
    unfolding turn
    turned_on n below =
        let e : 47 - (n + 1) + 1 ≡ 47 - n = omega arith in
        rot-more (word (slice_index w (n + 1))) (47 - (n + 1)) (fits _)
        ∙ ap (rot (word (slice_index w (n + 1)))) e ∙ ap (λ (b : ℕ). rot (word b) (47 - n)) (sym (moved n below))

    first_on : rot (turn w 0) 1 ≡ rot (word (slice_index w 0)) 48
    unfolding turn
    first_on = rot-more (word (slice_index w 0)) 47 (fits _)

    rolled_to : (n : ℕ) → n ≤ 47 → rot (hash_to w (n + 1)) 1 ≡ bit_xor (rot (word (slice_index w 0)) 48) (hash_to v n)
    rolled_to zero within =
        let e : hash_to w 1 ≡ turn w 0 = hash_suc w 0 ∙ ap (λ (x : ℕ). bit_xor x (turn w 0)) (hash_none w) ∙ xor_zero_l (turn w 0) in
        ap (λ (x : ℕ). rot x 1) e ∙ first_on ∙ sym (ap (bit_xor (rot (word (slice_index w 0)) 48)) (hash_none v) ∙ xor_zero_r _)
    rolled_to (suc n) within =
        let f : ℕ = rot (word (slice_index w 0)) 48 in
        let is : suc n ≡ n + 1 = omega arith in
        let below : n < 47 = omega arith in
        let up : hash_to w (suc n + 1) ≡ bit_xor (hash_to w (n + 1)) (turn w (n + 1)) = hash_suc w (suc n) ∙ ap (λ (k : ℕ). bit_xor (hash_to w k) (turn w k)) is in
        let apart = rot-xor (hash_to w (n + 1)) (turn w (n + 1)) (hash_fits w (n + 1)) (turn-lt w (n + 1)) in
        ap (λ (x : ℕ). rot x 1) up ∙ apart
        ∙ ap (λ (x : ℕ). bit_xor x (rot (turn w (n + 1)) 1)) (rolled_to n (omega arith))
        ∙ ap (bit_xor (bit_xor f (hash_to v n))) (turned_on n below)
        ∙ xor_assoc f (hash_to v n) (turn v n)
        ∙ ap (bit_xor f) (sym (hash_suc v n) ∙ ap (hash_to v) (sym is))

    last_on : turn v 47 ≡ word (slice_index v 47)
    unfolding turn
    last_on = rot-zero (word (slice_index v 47)) (fits _)

    rolled_all : hash_to v 48 ≡ bit_xor (bit_xor (rot (hash_to w 48) 1) (rot (word (slice_index w 0)) 48)) (word (slice_index v 47))
    rolled_all =
        let f : ℕ = rot (word (slice_index w 0)) 48 in
        let h : ℕ = hash_to v 47 in
        let back : bit_xor (rot (hash_to w 48) 1) f ≡ h =
        ap (λ (x : ℕ). bit_xor x f) (rolled_to 47 (omega arith) ∙ xor_comm f h) ∙ xor_assoc h f f ∙ ap (bit_xor h) (xor_self f) ∙ xor_zero_r h in
        hash_suc v 47 ∙ ap (bit_xor h) last_on ∙ ap (λ (x : ℕ). bit_xor x (word (slice_index v 47))) (sym back)

  -- the same of a list that is moved on by one byte
  pub rolled_hash : (w v : List ℕ) → ((i : ℕ) → i < 47 → slice_index v i ≡ slice_index w (i + 1))
      → fold bit_xor 0 (map (λ i. rot (word (slice_index v i)) (47 - i)) (range_with_len 0 48))
      ≡ bit_xor (bit_xor (rot (fold bit_xor 0 (map (λ i. rot (word (slice_index w i)) (47 - i)) (range_with_len 0 48))) 1) (rot (word (slice_index w 0)) 48)) (word (slice_index v 47))
  unfolding hash_to turn
  rolled_hash w v moved = rolled_all w v moved

no_large : list_all (λ x. nat_lt x (2 ^ 32)) table ≡ true
unfolding table
no_large = refl

-- the table's words are of 32 bits
word_small : (i : ℕ) → i < length table → slice_index table i < 2 ^ 32
word_small i inside = elim (cases_lt (slice_index table i) (2 ^ 32)) [
  | inl small ↦ small
  | inr large ↦
      let no : nat_lt (slice_index table i) (2 ^ 32) ≡ false = grind (arith, nat_tests) in
      let both : true ≡ false = sym no_large ∙ list_all_at (λ x. nat_lt x (2 ^ 32)) table i 0 inside no in
      cc
]

word_past : (i : ℕ) → length table ≤ i → slice_index table i < 2 ^ 32
word_past i outside =
    let none : slice_index table i ≡ 0 = get_or_past table i 0 outside in
    omega (arith, none)

word_fits : (i : ℕ) → slice_index table i < 2 ^ 32
word_fits i = elim (cases_lt i (length table)) [
  | inl inside ↦ word_small i inside
  | inr outside ↦ word_past i outside
]

-- a window that is moved on by one byte
pub window_rolled : (w v : List ℕ) → ((i : ℕ) → i < 47 → slice_index v i ≡ slice_index w (i + 1))
    → window_hash v ≡ roll_of (window_hash w) (slice_index w 0) (slice_index v 47)
unfolding window_hash roll_of
window_rolled w v moved =
    rolled_hash (rotate_left w32) rotate-lt rotate-more rotate-xor rotate_zero (slice_index table) word_fits w v moved
    ∙ xor_assoc (rotate_left w32 (window_hash w) 1) (rotate_left w32 (slice_index table (slice_index w 0)) 16) (slice_index table (slice_index v 47))
