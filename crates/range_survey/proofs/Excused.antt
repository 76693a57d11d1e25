-- Entries that failed calls excuse, over one call after another: for the crates above. The counts of faults
-- are a, b and c.
use Rattle.std.proofs.Common.{ℕ, ◌≤◌, List, [], ◌∷◌, ◌++◌, inl, inr, arith}
use Rattle.std.proofs.lemmas.List.{length-append}
use Rattle.std.specs.List.{Contains}
use Rattle.dsy_base.specs.Counts.{Rose}
use Rattle.range_survey.specs.Excuses.{Excuses}

pub excuses_none : (a b : ℕ) → a ≤ b → Excuses [] a b
excuses_none a b le = inl (omega arith)

pub excuses_one : (i a b : ℕ) → Rose a b → Excuses (i ∷ []) a b
excuses_one i a b (inl more) = inl (omega arith)
excuses_one i a b (inr full) = inr full

pub excuses_since : (xs : List ℕ) (a b c : ℕ) → a ≤ b → Excuses xs b c → Excuses xs a c
excuses_since xs a b c le (inl few) = inl (omega arith)
excuses_since xs a b c le (inr full) = inr full

pub excuses_on : (xs ys : List ℕ) (a b c : ℕ) → b ≤ c → Excuses xs a b → Excuses ys b c → Excuses (xs ++ ys) a c
excuses_on xs ys a b c le (inl few) (inl more) = inl (omega (arith, length-append xs ys, few, more))
excuses_on xs ys a b c le (inr full) next = inr (omega (arith, full, le))
excuses_on xs ys a b c le (inl few) (inr full) = inr full

-- where an entry is excused the count rose
pub excused_rose : (xs : List ℕ) (i a b : ℕ) → Contains xs i → Excuses xs a b → Rose a b
excused_rose xs i a b (k, inside, is) (inl few) = inl (omega (arith, inside, few))
excused_rose xs i a b (k, inside, is) (inr full) = inr full
