use Rattle.std.proofs.Common.{◌-◌, ◌≤◌, All, vec_len}
use Rattle.read_ahead.proofs.rounds.new_rooms.Given as goal

abbrev pub invariant-loop-alloc : goal.invariant-loop-alloc
invariant-loop-alloc g l = record {
  len : vec_len l.rooms ≤ l.count;
  ready : All (g.C.Consumer.accepts l.consumer) l.rooms.items;
}

abbrev pub decreases-loop-alloc : goal.decreases-loop-alloc
decreases-loop-alloc g l = l.count - vec_len l.rooms
