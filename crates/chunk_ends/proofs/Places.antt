-- The windows of a slice, by the places where they end.
use Rattle.std.proofs.Common.{◌≡◌, ℕ, ◌+◌, ◌-◌, ◌%◌, ◌==◌, ◌<◌, ◌≤◌, List, length, get_or, slice_index, slice_range, take, drop, Bool, false, sym, ap, subst, ◌∙◌, arith, inl, inr}
use Rattle.std.proofs.lemmas.Bool.{cases_lt}
use Rattle.std.proofs.lemmas.List.{drop-take, get_or-drop, get_or-take, length-take-le}
use Rattle.chunk_ends.proofs.RollLaw.{window_rolled}
use Rattle.chunk_ends.specs.Cuts.{window_of, is_closing, NoneCloses}
use Rattle.chunk_ends.specs.Window.{window_hash, roll_of}

-- byte j of the window that ends before place i
window_at : (xs : List ℕ) (i j : ℕ) → 48 ≤ i → i ≤ length xs → j < 48 → slice_index (window_of (take i xs)) j ≡ slice_index xs (i - 48 + j)
window_at xs i j long inside below =
    get_or-drop (length (take i xs) - 48) (take i xs) j 0
    ∙ ap (λ (n : ℕ). get_or (take i xs) (n - 48 + j) 0) (length-take-le i xs inside)
    ∙ get_or-take i xs (i - 48 + j) 0 (omega arith)

module _ (xs : List ℕ) (i : ℕ) (long : 48 ≤ i) (inside : i < length xs) where
  moved_at : (j : ℕ) → j < 47 → slice_index (window_of (take (i + 1) xs)) j ≡ slice_index (window_of (take i xs)) (j + 1)
  moved_at j below =
      let to : i + 1 - 48 + j ≡ i - 48 + (j + 1) = omega arith in
      window_at xs (i + 1) j (omega arith) (omega arith) (omega arith) ∙ ap (slice_index xs) to
      ∙ sym (window_at xs i (j + 1) long (omega arith) (omega arith))

  oldest_at : slice_index (window_of (take i xs)) 0 ≡ slice_index xs (i - 48)
  oldest_at = let to : i - 48 + 0 ≡ i - 48 = omega arith in window_at xs i 0 long (omega arith) (omega arith) ∙ ap (slice_index xs) to

  newest_at : slice_index (window_of (take (i + 1) xs)) 47 ≡ slice_index xs i
  newest_at = let to : i + 1 - 48 + 47 ≡ i = omega arith in window_at xs (i + 1) 47 (omega arith) (omega arith) (omega arith) ∙ ap (slice_index xs) to

  -- the hash at the next place
  pub rolled_at : (hash : ℕ) → hash ≡ window_hash (window_of (take i xs))
      → roll_of hash (slice_index xs (i - 48)) (slice_index xs i) ≡ window_hash (window_of (take (i + 1) xs))
  unfolding roll_of
  rolled_at hash is =
      sym (window_rolled (window_of (take i xs)) (window_of (take (i + 1) xs)) moved_at
      ∙ ap (λ (h : ℕ). roll_of h (slice_index (window_of (take i xs)) 0) (slice_index (window_of (take (i + 1) xs)) 47)) (sym is)
      ∙ ap (λ (b : ℕ). roll_of hash b (slice_index (window_of (take (i + 1) xs)) 47)) oldest_at
      ∙ ap (roll_of hash (slice_index xs (i - 48))) newest_at)

-- the test, of the hash that the code has
pub closing_is : (d : ℕ) (chunk : List ℕ) (hash : ℕ) (b : Bool) → hash ≡ window_hash (window_of chunk)
    → b ≡ (hash % d == d - 1) → is_closing d chunk ≡ b
closing_is d chunk hash b is value = rw (← is) (sym value)

-- one place more where nothing closes
pub none_more : (d : ℕ) (xs : List ℕ) (from i : ℕ) → NoneCloses d xs from (i + 1) → is_closing d (take (i + 1) xs) ≡ false → NoneCloses d xs from (i + 1 + 1)
none_more d xs from i none here k low high = elim (cases_lt k (i + 1)) [
  | inl below ↦ none k low below
  | inr above ↦ let is : i + 1 ≡ k = omega arith in subst (λ (j : ℕ). is_closing d (take j xs) ≡ false) is here
]

-- the first window
pub first_window : (xs : List ℕ) (i : ℕ) → 48 ≤ i → i ≤ length xs → slice_range xs (i - 48) i ≡ window_of (take i xs)
first_window xs i long inside =
    let size : i - (i - 48) ≡ 48 = omega arith in
    let whole : i - 48 + 48 ≡ i = omega arith in
    ap (λ (n : ℕ). take n (drop (i - 48) xs)) size ∙ sym (drop-take (i - 48) 48 xs) ∙ ap (λ (n : ℕ). drop (i - 48) (take n xs)) whole
    ∙ ap (λ (n : ℕ). drop (n - 48) (take i xs)) (sym (length-take-le i xs inside))

pub none_first : (d : ℕ) (xs : List ℕ) (i : ℕ) → is_closing d (take i xs) ≡ false → NoneCloses d xs i (i + 1)
none_first d xs i here k low high = let is : i ≡ k = omega arith in subst (λ (j : ℕ). is_closing d (take j xs) ≡ false) is here
