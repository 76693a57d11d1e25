use Rattle.std.proofs.Common.{length, drop, ◌-◌, ◌≡◌, ◌≤◌}
use Rattle.caibx_codec.specs.Reading.{reads_index}
use Rattle.caibx_codec.proofs.partial.Partial.take.Given as goal

-- reading what is left leads where reading all leads
abbrev pub invariant-loop-at : goal.invariant-loop-at
invariant-loop-at l = record {
  inside : l.at ≤ length l.piece;
  value : reads_index l.fn.self l.piece ≡ reads_index l.self (drop l.at l.piece);
}

abbrev pub decreases-loop-at : goal.decreases-loop-at
decreases-loop-at l = length l.initial.piece - l.at
