use Rattle.std.proofs.Common.{All}
use Rattle.dsy_base.specs.Links.{IsFreshLink}
use Rattle.link_forms.specs.MemLinks.{link_of}
use Rattle.command_cases.proofs.world.links_of.Given as goal

abbrev pub invariant-loop-bytes : goal.invariant-loop-bytes
invariant-loop-bytes l = All (λ k. IsFreshLink (link_of k)) l.links.items
