use Rattle.std.proofs.Common.{arith}
use Rattle.std.proofs.lemmas.Grind.{common_steps}
use Rattle.std.proofs.lemmas.List.Elements.{filter_map-append}
use Rattle.dir_store.proofs.listing.ids_at.Goals as goal
use Rattle.dir_store.proofs.listing.ids_at.Goals.{in-Some+in_ok-push, in_default}

pub loop-name-preserved : goal.loop-name-preserved
loop-name-preserved c = elim c.match-id_at_path.branch [
  | in-Some+in_ok-push w ↦ grind (arith, common_steps, filter_map-append, c.loop-name.invariant, c.id_at_path.ensures.value)
  | in_default w ↦ grind (arith, common_steps, filter_map-append, c.loop-name.invariant, c.id_at_path.ensures.value)
]
