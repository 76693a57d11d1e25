use Rattle.command_groups.proofs.groups.keep.Goals as goal

pub drop_unasked-requires : goal.drop_unasked-requires
drop_unasked-requires g c = record { known = rw c.in-Err.ensures.value_returned c.requires.known }
