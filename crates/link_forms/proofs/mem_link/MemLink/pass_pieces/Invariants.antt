use Rattle.std.proofs.Common.{◌≡◌, length, ◌-◌}
use Rattle.link_forms.specs.MemLinks.{link_of}
use Rattle.link_forms.proofs.mem_link.MemLink.pass_pieces.Given as goal

abbrev pub invariant-loop-self : goal.invariant-loop-self
invariant-loop-self l = link_of l.self ≡ link_of l.initial.self

abbrev pub decreases-loop-self : goal.decreases-loop-self
decreases-loop-self l = length l.self.pieces.items - l.self.piece
