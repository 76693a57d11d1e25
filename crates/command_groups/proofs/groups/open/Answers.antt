use Rattle.std.proofs.Common.{refl}
use Rattle.command_groups.proofs.Opening.{zeros_all}
use Rattle.command_steps.specs.AnyStores.{source_faults}
use Rattle.command_groups.proofs.groups.open.Goals as goal

pub returns-clause-fresh : goal.returns-clause-fresh
returns-clause-fresh g c =
    let zeros = zeros_all (source_faults g.F.Look.Look.faults g.D.Dial.state) c.in_ok-stores.stores.items c.as_slice.result.now c.in_ok-stores.ensures.fresh in
    rw c.new.ensures.value (record { active = refl; retries = refl; failed = refl; unfailed = zeros })
