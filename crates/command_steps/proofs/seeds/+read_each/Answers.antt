use Rattle.std.proofs.Common.{subst, ◌∙◌, ℕ, List}
use Rattle.std.proofs.lemmas.Result.{IfErr-weaker, on_ok_weaker}
use Rattle.command_steps.proofs.Consulted.{reads_twice}
use Rattle.command_steps.proofs.SeedsRead.{all_more, none_more}
use Rattle.command_steps.proofs.Used.{file_next}
use Rattle.command_steps.proofs.seeds.+read_each.Goals as goal
use Rattle.command_steps.specs.InputFiles.{Listed}
use Rattle.command_steps.specs.Seeds.{NoneListed}
use Rattle.extract_plan.specs.Places.{seed_item_limit}

pub returns-clause-ok : goal.returns-clause-ok
returns-clause-ok g t c =
    let at = g.F.Files.disk in
    let listed = subst (λ (q : List ℕ). Listed (at c.args.files.now) q c.in_ok-index.index) (c.in-Ok.ensures ∙ c.as_str.ensures) c.in_ok-index.ensures.ok in
    rw c.in-Some.ensures.cases.0 (on_ok_weaker c.read_each.result
    (all_more (at c.args.files.now) (at c.load_index_file.new.files) c.in_ok-index.ensures.kept c.in-Some.first.now c.in-Some.rest.now c.in_ok-index.index c.args.items c.in_ok-items.items seed_item_limit c.args.indexes.now.items c.add_index.new.indexes.items c.read_each.new.indexes.items
    listed c.in_ok-items.ensures.counted.0 c.in_ok-items.ensures.added) c.read_each.ensures.ok)

pub returns-clause-err : goal.returns-clause-err
returns-clause-err g t c =
    let at = g.F.Files.disk in
    let d = at c.args.files.now in
    let b = at c.load_index_file.new.files in
    let e = at c.read_each.new.files in
    let m = c.in_ok-items.items in
    let rest = c.in-Some.rest.now in
    let listed = subst (λ (q : List ℕ). Listed d q c.in_ok-index.index) (c.in-Ok.ensures ∙ c.as_str.ensures) c.in_ok-index.ensures.ok in
    rw c.in-Some.ensures.cases.0 (IfErr-weaker c.read_each.result (NoneListed b e m rest) _
    (λ o. none_more d b e c.in_ok-index.ensures.kept c.in-Some.first.now rest c.in_ok-index.index c.args.items m o listed c.in_ok-items.ensures.counted) c.read_each.ensures.err)

pub returns-clause-kept : goal.returns-clause-kept
returns-clause-kept g t c =
    let at = g.F.Files.disk in
    reads_twice (at c.args.files.now) (at c.load_index_file.new.files) (at c.read_each.new.files) c.in_ok-index.ensures.kept c.read_each.ensures.kept

pub returns-clause-used : goal.returns-clause-used
returns-clause-used g t c =
    let at = g.F.Files.disk in
    file_next c.args.names.now c.in-Some.rest.now c.in-Some.first.now c.in-Ok.name (at c.args.files.now) (at c.load_index_file.new.files) (at c.read_each.new.files) c.in-Some.ensures.cases.0 (c.in-Ok.ensures ∙ c.as_str.ensures) c.in_ok-index.ensures.used c.read_each.ensures.used
