use Rattle.command_groups.proofs.groups.drop_unasked.Goals as goal

pub drop_sources-requires : goal.drop_sources-requires
drop_sources-requires g c = record { known = rw c.into_stores.ensures.value c.requires.known }
