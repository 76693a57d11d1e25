-- Counts of fates.
use Rattle.std.proofs.Common.{◌≡◌, ℕ, zero, suc, ◌+◌, ◌<◌, List, true, false, refl, arith}
use Rattle.range_survey.specs.Reports.{one_if, tally}
use Rattle.range_survey.specs.Fates.{fate_at, is_settled, settled}
use Rattle.range_survey.specs.declared.fate.Fate.{Fate}
use Rattle.range_survey.specs.declared.fate.Fate.TheVariants as fate

-- each entry has one fate
one_of : (x : Fate) → one_if fate.Kept x + one_if fate.Copied x + one_if fate.Seeded x + one_if fate.Cached x + one_if fate.Fetched x + one_if fate.Open x ≡ 1
one_of fate.Open = refl
one_of fate.Kept = refl
one_of fate.Copied = refl
one_of fate.Seeded = refl
one_of fate.Cached = refl
one_of fate.Fetched = refl

pub sum_of : (m : List Fate) (k : ℕ) → tally fate.Kept m k + tally fate.Copied m k + tally fate.Seeded m k + tally fate.Cached m k + tally fate.Fetched m k + tally fate.Open m k ≡ k
sum_of m zero = refl
sum_of m (suc k) =
    let rest = sum_of m k in
    let here = one_of (fate_at m k) in
    omega (arith, rest, here)

settled_not : (x : Fate) → is_settled x ≡ true → one_if fate.Open x ≡ 0
settled_not fate.Open is = let bad : false ≡ true = is in absurd (cc)
settled_not fate.Kept is = refl
settled_not fate.Copied is = refl
settled_not fate.Seeded is = refl
settled_not fate.Cached is = refl
settled_not fate.Fetched is = refl

pub none_open : (m : List Fate) (k : ℕ) → ((i : ℕ) → i < k → settled m i ≡ true) → tally fate.Open m k ≡ 0
none_open m zero all = refl
none_open m (suc k) all =
    let rest = none_open m k (λ i less. all i (omega arith)) in
    let here = settled_not (fate_at m k) (all k (omega arith)) in
    omega (arith, rest, here)
