use Rattle.command_groups.proofs.chains.drop_chain.Goals as goal

pub drop_groups-requires : goal.drop_groups-requires
drop_groups-requires g c = record { known = rw c.into_stores.ensures.value c.requires.given }

pub returns-clause-used : goal.returns-clause-used
returns-clause-used g c = rw c.into_stores.ensures.value at c.drop_groups.ensures.used
