use Rattle.std.proofs.Common.{◌≡◌, ◌-◌, ◌≤◌, length}
use Rattle.caibx_fields.specs.Limits.{size_limit}
use Rattle.dir_store.proofs.store.DirStore.read_whole.Given as goal

-- the files are as they were, the buffer isn't too long, and no call has failed
abbrev pub invariant-loop-self : goal.invariant-loop-self
invariant-loop-self g l = record {
  room : length l.buffer.items ≤ size_limit;
  kept : g.F.Look.files l.self ≡ g.F.Look.files l.fn.self;
  place : g.F.Look.place l.self ≡ g.F.Look.place l.fn.self;
  unfailed : g.F.Look.faults l.self ≡ g.F.Look.faults l.fn.self;
}

abbrev pub decreases-loop-self : goal.decreases-loop-self
decreases-loop-self g l = size_limit - length l.buffer.items
