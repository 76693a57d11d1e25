use Rattle.std.proofs.Common.{◌≡◌, ◌-◌, ◌≤◌, length}
use Rattle.caibx_fields.specs.Limits.{file_limit}
use Rattle.index_server.proofs.index_file.read_whole.Given as goal

-- the files are as they were, the buffer isn't too long, and no call has failed
abbrev pub invariant-rooms : goal.invariant-rooms
invariant-rooms g l = record {
  room : length l.buffer.items ≤ file_limit;
  kept : g.F.Look.files l.folder ≡ g.F.Look.files l.fn.folder;
  place : g.F.Look.place l.folder ≡ g.F.Look.place l.fn.folder;
  unfailed : g.F.Look.faults l.folder ≡ g.F.Look.faults l.fn.folder;
}

abbrev pub decreases-rooms : goal.decreases-rooms
decreases-rooms g l = file_limit - length l.buffer.items
