-- The entries of a want, one by one.
use Rattle.std.proofs.Common.{◌≡◌, ◌≢◌, ℕ, zero, suc, ◌+◌, ◌<◌, ◌≤◌, ◌==◌, List, ◌∷◌, length, slice_index, Bool, true, false, cond, refl, ap, sym, ◌∙◌, subst, arith, ⊎_elim}
use Rattle.std.proofs.lemmas.Bool.{cases_eq}
use Rattle.extract_plan.specs.Deal.{entries_of}
use Rattle.extract_plan.proofs.Chains.{passing}

each_of : (P : ℕ → Type 0) (b : Bool) (i : ℕ) (rest : List ℕ) → (b ≡ true → P i) → ((k : ℕ) → k < length rest → P (slice_index rest k)) →
    (k : ℕ) → k < length (cond b (i ∷ rest) rest) → P (slice_index (cond b (i ∷ rest) rest) k)
each_of P true i rest here later zero h = here refl
each_of P true i rest here later (suc k) h = later k (omega arith)
each_of P false i rest here later k h = later k h

rising : (b : Bool) (i : ℕ) (rest : List ℕ) → ((k : ℕ) → k < length rest → i < slice_index rest k) →
    ((j k : ℕ) → j < k → k < length rest → slice_index rest j < slice_index rest k) →
    (j k : ℕ) → j < k → k < length (cond b (i ∷ rest) rest) → slice_index (cond b (i ∷ rest) rest) j < slice_index (cond b (i ∷ rest) rest) k
rising true i rest above later zero zero a h = absurd (omega arith)
rising true i rest above later (suc j) zero a h = absurd (omega arith)
rising true i rest above later zero (suc k) a h = above k (omega arith)
rising true i rest above later (suc j) (suc k) a h = later j k (omega arith) (omega arith)
rising false i rest above later j k a h = later j k a h

-- x stands in the list
abbrev pub Stands : List ℕ → ℕ → Type 0
Stands xs x = (k : ℕ) × (k < length xs) × (slice_index xs k ≡ x)

no_true : {P : Type 0} → false ≡ true → P
no_true e = absurd (cc)

first_stands : (b : Bool) (i : ℕ) (rest : List ℕ) → b ≡ true → Stands (cond b (i ∷ rest) rest) i
first_stands true i rest e = (0, omega arith, refl)
first_stands false i rest e = no_true e

later_stands : (b : Bool) (i : ℕ) (rest : List ℕ) (x : ℕ) → Stands rest x → Stands (cond b (i ∷ rest) rest) x
later_stands true i rest x r = (suc r.0, omega (arith, r.1), r.2)
later_stands false i rest x r = r

-- x is among m numbers from i on, and passes
abbrev Passes : (ℕ → Bool) → ℕ → ℕ → ℕ → Type 0
Passes p i m x = (i ≤ x) × (x < i + m) × (p x ≡ true)

passing_sound : (p : ℕ → Bool) (m i k : ℕ) → k < length (passing p i m) → Passes p i m (slice_index (passing p i m) k)
passing_sound p zero i k h = absurd (omega arith)
passing_sound p (suc m) i k h =
    each_of (Passes p i (suc m)) (p i) i (passing p (i + 1) m)
    (λ e. (omega arith, omega arith, e))
    (λ j a. let x = passing_sound p m (i + 1) j a in (omega (arith, x.0), omega (arith, x.1), x.2))
    k h

passing_rises : (p : ℕ → Bool) (m i j k : ℕ) → j < k → k < length (passing p i m) → slice_index (passing p i m) j < slice_index (passing p i m) k
passing_rises p zero i j k a h = absurd (omega arith)
passing_rises p (suc m) i j k a h =
    rising (p i) i (passing p (i + 1) m)
    (λ n b. let x = passing_sound p m (i + 1) n b in omega (arith, x.0))
    (passing_rises p m (i + 1))
    j k a h

passing_has : (p : ℕ → Bool) (m i x : ℕ) → i ≤ x → x < i + m → p x ≡ true → Stands (passing p i m) x
passing_has p zero i x from to holds = absurd (omega arith)
passing_has p (suc m) i x from to holds = ⊎_elim
    (λ (e : x ≡ i). subst (Stands (passing p i (suc m))) (sym e) (first_stands (p i) i (passing p (i + 1) m) (ap p (sym e) ∙ holds)))
    (λ (ne : x ≢ i). later_stands (p i) i (passing p (i + 1) m) x (passing_has p m (i + 1) x (omega arith) (omega arith) holds))
    (cases_eq x i)

same_of : (a w : ℕ) → (a == w) ≡ true → a ≡ w
same_of a w e = grind arith

is_same : (a w : ℕ) → a ≡ w → (a == w) ≡ true
is_same a w e = grind arith

pub entry_inside : (want_of : List ℕ) (w k : ℕ) → k < length (entries_of want_of w) → slice_index (entries_of want_of w) k < length want_of
entry_inside want_of w k h = let x = passing_sound (λ i. slice_index want_of i == w) (length want_of) 0 k h in omega (arith, x.1)

pub entry_of : (want_of : List ℕ) (w k : ℕ) → k < length (entries_of want_of w) → slice_index want_of (slice_index (entries_of want_of w) k) ≡ w
entry_of want_of w k h = let x = passing_sound (λ i. slice_index want_of i == w) (length want_of) 0 k h in same_of _ w x.2

pub entries_rise : (want_of : List ℕ) (w j k : ℕ) → j < k → k < length (entries_of want_of w) →
    slice_index (entries_of want_of w) j < slice_index (entries_of want_of w) k
entries_rise want_of w = passing_rises (λ i. slice_index want_of i == w) (length want_of) 0

pub entry_stands : (want_of : List ℕ) (w i : ℕ) → i < length want_of → slice_index want_of i ≡ w → Stands (entries_of want_of w) i
entry_stands want_of w i h e = passing_has (λ k. slice_index want_of k == w) (length want_of) 0 i (omega arith) (omega arith) (is_same _ w e)
