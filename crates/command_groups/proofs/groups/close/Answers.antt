use Rattle.command_groups.proofs.groups.close.Goals as goal

pub close_sources-requires : goal.close_sources-requires
close_sources-requires g c = record { known = rw c.into_stores.ensures.value c.requires.known }

pub returns-clause-given : goal.returns-clause-given
returns-clause-given g c =
    let given = rw c.into_stores.ensures.value at c.close_sources.ensures.given in
    record { stores = given; counts = c.into_stores.ensures.counts; active = c.into_stores.ensures.active }
