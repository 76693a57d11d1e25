-- the bytes so far, and those that are left
use Rattle.std.proofs.Common.{◌≡◌, ◌++◌, ◌-◌}
use Rattle.image_demo.specs.Images.{bytes_after, image_of}
use Rattle.image_demo.proofs.bytes.image.Given as goal

abbrev pub invariant-loop : goal.invariant-loop
invariant-loop l = l.bytes.items ++ bytes_after l.state (l.size - l.counter) ≡ image_of l.fn.number l.fn.size
