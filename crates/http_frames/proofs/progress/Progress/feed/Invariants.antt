use Rattle.std.proofs.Common.{◌≡◌, ◌-◌, ◌≤◌, length, drop}
use Rattle.http_frames.specs.Body.{reads_body}
use Rattle.http_frames.specs.Seen.{reading_seen}
use Rattle.http_frames.proofs.progress.Progress.feed.Given as goal

-- reading what is left leads where reading all leads
abbrev pub invariant-loop-at : goal.invariant-loop-at
invariant-loop-at l = record {
  within : l.at ≤ length l.piece;
  inside : l.self.filled ≤ length l.out;
  room : length l.out ≡ length l.fn.out;
  so_far : reads_body (length l.fn.out) (reading_seen l.fn.self l.fn.out) l.piece ≡ reads_body (length l.fn.out) (reading_seen l.self l.out) (drop l.at l.piece);
}

abbrev pub decreases-loop-at : goal.decreases-loop-at
decreases-loop-at l = length l.piece - l.at
