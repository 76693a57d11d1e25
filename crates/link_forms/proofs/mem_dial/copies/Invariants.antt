use Rattle.std.proofs.Common.{◌≡◌, map, take}
use Rattle.link_forms.specs.MemLinks.{fresh_traffic, traffic_of}
use Rattle.link_forms.proofs.mem_dial.copies.Given as goal

abbrev pub invariant-loop-link : goal.invariant-loop-link
invariant-loop-link l = map traffic_of l.made.items ≡ map fresh_traffic (take l.link-index l.links)
