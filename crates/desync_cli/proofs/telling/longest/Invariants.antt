use Rattle.std.proofs.Common.{[], ℕ, ◌<◌, ◌≤◌, length, map, slice_index_or, string_bytes}
use Rattle.desync_cli.proofs.telling.longest.Given as goal

-- none of those that were looked at is longer
abbrev pub invariant-words : goal.invariant-words
invariant-words l = record {
  each : (k : ℕ) → k < l.i → length (slice_index_or (map string_bytes l.fn.words) k []) ≤ l.longest;
}
