use Rattle.command_groups.proofs.chains.close_chain.Goals as goal

pub close_groups-requires : goal.close_groups-requires
close_groups-requires g c = record { known = rw c.into_stores.ensures.value c.requires.given }

pub returns : goal.returns
returns g c =
    record {
      given = record {
        consults = rw c.into_stores.ensures.value at c.close_groups.ensures.kept;
        ended = rw c.into_stores.ensures.value at c.close_groups.ensures.ended;
        groups = rw c.into_stores.ensures.value at c.close_groups.ensures.given;
      };
    }
