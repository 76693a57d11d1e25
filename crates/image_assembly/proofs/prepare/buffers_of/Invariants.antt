use Rattle.std.proofs.Common.{◌≡◌, All, length, vec_len}
use Rattle.image_assembly.specs.Readied.{IsRoomOf}
use Rattle.image_assembly.proofs.prepare.buffers_of.Given as goal

-- one buffer for each kit so far
abbrev pub invariant-loop : goal.invariant-loop
invariant-loop l = (vec_len l.buffers ≡ l.counter) × All (λ b. IsRoomOf l.fn.index (length b.items)) l.buffers.items
