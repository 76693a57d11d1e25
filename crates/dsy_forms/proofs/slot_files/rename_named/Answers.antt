use Rattle.std.proofs.Common.{sym}
use Rattle.dsy_forms.proofs.slot_files.rename_named.Goals as goal

pub returns-in-Some-clause-found : goal.returns-in-Some-clause-found
returns-in-Some-clause-found g c = (g.V.InSlot.shows c.in-Some.v, sym c.in-Some.ensures.value, tt)
