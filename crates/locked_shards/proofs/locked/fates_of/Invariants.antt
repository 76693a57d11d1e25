use Rattle.std.proofs.Common.{◌≡◌, ◌≤◌, take, vec_capacity}
use Rattle.locked_shards.proofs.locked.fates_of.Given as goal

abbrev pub invariant-loop-entry : goal.invariant-loop-entry
invariant-loop-entry g l =
    (l.fates.items ≡ take l.entry (g.L.Ledger.fates l.fn.ledger))
    × (l.fn.count ≤ vec_capacity l.fates)
