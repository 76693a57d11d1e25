use Rattle.std.proofs.Common.{[], map, subst, sym}
use Rattle.command_steps.proofs.SeedsOpened.{fresh_all, viewed_all}
use Rattle.command_steps.proofs.Used.{uses_twice, uses_within, within_same}
use Rattle.command_steps.specs.Uses.{IsNoneOf, names_among}
use Rattle.extract_plan.specs.Seeds.{seed_held}
use Rattle.command_steps.proofs.seeds.open_seeds.Goals as goal
use Rattle.command_steps.specs.Seeds.{image_name}

pub returns-in-Ok-clause-found : goal.returns-in-Ok-clause-found
returns-in-Ok-clause-found g c =
    viewed_all g.F.View.View.held g.F.View.View.faults (g.F.Files.disk c.args.files.now) (g.F.Files.disk c.open_each.new.files) (map image_name c.args.indexes.now) c.new-seeds.result.items c.open_each.new.seeds.items c.new-seeds.ensures.items c.in-Ok.ensures.ok

pub returns-in-Ok-clause-fresh : goal.returns-in-Ok-clause-fresh
returns-in-Ok-clause-fresh g c =
    fresh_all g.F.View.View.held g.F.View.View.faults (g.F.Files.disk c.args.files.now) (g.F.Files.disk c.open_each.new.files) (map image_name c.args.indexes.now) c.new-seeds.result.items c.open_each.new.seeds.items c.new-seeds.ensures.items c.in-Ok.ensures.ok

pub returns-in-Err-clause-used : goal.returns-in-Err-clause-used
returns-in-Err-clause-used g c =
    let at = g.F.Files.disk in
    let held = g.F.View.View.held in
    let d = at c.args.files.now in
    let b = at c.open_each.new.files in
    let e = at c.close_seeds.new.files in
    let names = map image_name c.args.indexes.now in
    let given = uses_within (names_among (map (seed_held held) c.open_each.new.seeds.items)) [] names [] b e
    (λ q none. c.in-Err.ensures.among q (subst (λ l. IsNoneOf q (names_among (map (seed_held held) l))) (sym c.new-seeds.ensures.items) tt) none) (within_same []) c.close_seeds.ensures.used in
    uses_twice names [] d b e c.in-Err.ensures.used given
