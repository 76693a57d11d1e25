use Rattle.std.proofs.Common.{◌≡◌, ◌++◌, take}
use Rattle.image_demo.specs.Images.{bits_turned}
use Rattle.image_demo.proofs.bytes.push_turned.Given as goal

abbrev pub invariant-loop-byte : goal.invariant-loop-byte
invariant-loop-byte l = l.bytes.items ≡ l.fn.bytes.items ++ bits_turned (take l.byte-index l.part)
