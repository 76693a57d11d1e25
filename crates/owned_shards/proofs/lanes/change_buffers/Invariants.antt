use Rattle.std.proofs.Common.{◌≡◌, ◌<◌, ◌≤◌, ℕ, length, slice_index_or}
use Rattle.owned_shards.proofs.lanes.change_buffers.Given as goal

-- the first k have changed
abbrev pub invariant-loop-k : goal.invariant-loop-k
invariant-loop-k g l = record {
  changed : (j : ℕ) (b : _) (a : _) → j < l.k → slice_index_or l.buffers j b ≡ (slice_index_or l.fn.lanes j a).buffer;
  given : (j : ℕ) (b : _) (a : _) → j < l.k → (slice_index_or l.lanes j a).buffer ≡ slice_index_or l.fn.buffers j b;
  lanes : (j : ℕ) (a : _) → l.k ≤ j → slice_index_or l.lanes j a ≡ slice_index_or l.fn.lanes j a;
  buffers : (j : ℕ) (b : _) → l.k ≤ j → slice_index_or l.buffers j b ≡ slice_index_or l.fn.buffers j b;
  kept : (j : ℕ) (a : _) → j < length l.fn.lanes → (slice_index_or l.lanes j a).share ≡ (slice_index_or l.fn.lanes j a).share;
}
