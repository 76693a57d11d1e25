-- Fates that are read, and after one of them was set: for the crates above.
use Rattle.std.proofs.Common.{◌≡◌, ◌≢◌, ℕ, ◌<◌, List, length, get_or, set, arith}
use Rattle.std.proofs.lemmas.Grind.{common_steps}
use Rattle.range_survey.specs.Fates.{fate_at}
use Rattle.range_survey.specs.declared.fate.Fate.{Fate}

pub set_here : (fates : List Fate) (i : ℕ) (x : Fate) → i < length fates → fate_at (set fates i x) i ≡ x
set_here fates i x inside = grind (arith, common_steps)

pub set_apart : (fates : List Fate) (i j : ℕ) (x : Fate) → j ≢ i → fate_at (set fates i x) j ≡ fate_at fates j
set_apart fates i j x apart = grind (arith, common_steps)

-- a read of `fates[i]` answers x
pub read_here : (fates : List Fate) (i : ℕ) (x : Fate) → i < length fates → x ≡ get_or fates i x → fate_at fates i ≡ x
read_here fates i x inside is = grind (arith, common_steps)
