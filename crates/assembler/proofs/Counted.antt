-- Counts of faults over parts of a stretch.
use Rattle.std.proofs.Common.{ℕ, ◌≤◌, arith}
use Rattle.dsy_base.specs.Counts.{Quiet}

-- a count that was quiet from a to e was so from b to c between
pub quiet_part : (a b c e : ℕ) → a ≤ b → c ≤ e → Quiet a e → Quiet b c
quiet_part a b c e ab ce quiet = record { same = omega (arith, quiet.same); below = omega (arith, quiet.below) }
