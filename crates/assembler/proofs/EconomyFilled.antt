-- What the first pass has cost before a want: those below it are done that are dealt to the worker.
use Rattle.std.proofs.Common.{◌≡◌, ◌≢◌, ℕ, ◌+◌, ◌<◌, ◌≤◌, Bool, ltb, true, false, if◌then◌else◌, refl, sym, ap, ◌∙◌, inl, inr, arith}
use Rattle.std.proofs.lemmas.Bool.{cases_eq, cases_lt, le-ltb, lt-ltb, true≢false}
use Rattle.std.proofs.Math.Path.{fun_ext}
use Rattle.assembler.proofs.Asked.{both_of}

abbrev pub is_below : ℕ → ℕ → Bool
is_below w v = ltb v w

pub none_below : (v : ℕ) → is_below 0 v ≡ false
none_below v = le-ltb v 0 (omega arith)

pub not_itself : (w : ℕ) → is_below w w ≡ false
not_itself w = le-ltb w w (omega arith)

pub now_below : (w : ℕ) → is_below (w + 1) w ≡ true
now_below w = lt-ltb w (w + 1) (omega arith)

pub as_before : (w v : ℕ) → v ≢ w → is_below (w + 1) v ≡ is_below w v
as_before w v apart = elim (cases_lt v w) [
  | inl less ↦ lt-ltb v (w + 1) (omega (arith, less)) ∙ sym (lt-ltb v w less)
  | inr more ↦ le-ltb v (w + 1) (omega (arith, more, apart)) ∙ sym (le-ltb v w more)
]

pub all_below : (w n v : ℕ) → n ≤ w → v < n → is_below w v ≡ true
all_below w n v le less = lt-ltb v w (omega (arith, le, less))

pub below_of : (w v : ℕ) → is_below w v ≡ true → v < w
below_of w v is = elim (cases_lt v w) [
  | inl less ↦ less
  | inr more ↦ absurd (true≢false (sym is ∙ le-ltb v w more))
]

pub now_at : (w v : ℕ) → v ≡ w → is_below (w + 1) v ≡ true
now_at w v is = lt-ltb v (w + 1) (omega (arith, is))

-- ---- of these wants those below w

if_false : (x y : Bool) → y ≡ false → (if x then y else false) ≡ false
if_false true y is = is
if_false false y is = refl

if_same : (x : Bool) → (if x then true else false) ≡ x
if_same true = refl
if_same false = refl

module _ (these : ℕ → Bool) where
  abbrev pub share_below : ℕ → ℕ → Bool
  share_below w v = if these v then is_below w v else false

  pub share_none : (v : ℕ) → share_below 0 v ≡ false
  share_none v = if_false (these v) (is_below 0 v) (none_below v)

  pub share_not_itself : (w : ℕ) → share_below w w ≡ false
  share_not_itself w = if_false (these w) (is_below w w) (not_itself w)

  pub share_now : (w : ℕ) → these w ≡ true → share_below (w + 1) w ≡ true
  share_now w is = ap (λ b. if b then is_below (w + 1) w else false) is ∙ now_below w

  pub share_before : (w v : ℕ) → v ≢ w → share_below (w + 1) v ≡ share_below w v
  share_before w v apart = ap (λ b. if these v then b else false) (as_before w v apart)

  pub share_of : (w v : ℕ) → share_below w v ≡ true → (v < w) × (these v ≡ true)
  share_of w v is = let both = both_of (these v) (is_below w v) is in (below_of w v both.1, both.0)

  pub share_others : (w v : ℕ) → these v ≡ false → share_below w v ≡ false
  share_others w v isnt = ap (λ b. if b then is_below w v else false) isnt

  -- past one that isn't among them
  pub share_past : (w : ℕ) → these w ≡ false → share_below w ≡ share_below (w + 1)
  share_past w isnt = fun_ext (λ v. elim (cases_eq v w) [
    | inl same ↦ share_others w v (ap these same ∙ isnt) ∙ sym (share_others (w + 1) v (ap these same ∙ isnt))
    | inr apart ↦ sym (share_before w v apart)
  ])

  pub share_all_below : (w n v : ℕ) → n ≤ w → v < n → share_below w v ≡ these v
  share_all_below w n v le less = ap (λ b. if these v then b else false) (all_below w n v le less) ∙ if_same (these v)
