use Rattle.std.proofs.Common.{rules, sym}
use Rattle.dsy_forms.proofs.slot_files.remove_named.Goals as goal
use Rattle.dsy_forms.proofs.slot_files.remove_named.Goals.{in-Some, in-None}

pub returns-clause-found : goal.returns-clause-found
returns-clause-found g c = elim c.match-take_named.branch [
  | in-Some w ↦ rw w.result-is (g.V.InSlot.shows w.in-Some.field-0, sym w.in-Some.ensures.value, tt)
  | in-None w ↦ search rules
]
