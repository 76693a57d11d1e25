use Rattle.std.proofs.Common.{ap, map, subst, sym, ◌∙◌, ℕ, List, [], ◌∷◌, rules}
use Rattle.std.proofs.lemmas.Result.{on_ok_weaker}
use Rattle.command_steps.proofs.Consulted.{reads_twice}
use Rattle.command_steps.proofs.SeedsOpened.{all_known_later, known_more, one_known, opens_more}
use Rattle.command_steps.proofs.SeedsUsed.{among_seeds, kept_first, opened_all}
use Rattle.command_steps.proofs.Used.{uses_within, within_first, within_same}
use Rattle.command_steps.specs.Uses.{Uses}
use Rattle.command_steps.proofs.seeds.+open_each.Goals as goal
use Rattle.command_steps.specs.Seeds.{IsSeedAt, SeedsKnown, image_name}

pub returns-clause-ok : goal.returns-clause-ok
returns-clause-ok g t c =
    let at = g.F.Files.disk in
    let held = g.F.View.View.held in
    let faults = g.F.View.View.faults in
    let is = subst (λ (q : List ℕ). IsSeedAt held faults (at c.args.files.now) (at c.open.new.files) q c.in_ok-seed.seed) (c.image_name.ensures ∙ ap image_name c.as_str.ensures) c.in_ok-seed.ensures.ok in
    on_ok_weaker c.open_each.result
    (λ h. rw c.in-Some.ensures.cases.0 (opens_more held faults (at c.args.files.now) (at c.open.new.files) (at c.keep.new.files) (at c.open_each.new.files) c.in_ok-seed.ensures.kept c.in_ok-keep.ensures.kept c.open_each.ensures.kept
    (image_name c.in-Some.first.now) c.in_ok-seed.seed (map image_name c.in-Some.rest.now) c.args.seeds.now.items c.keep.new.seeds.items c.open_each.new.seeds.items is c.in_ok-keep.ensures.ok h)) c.open_each.ensures.ok

pub returns-in_err-seed-clause-used : goal.returns-in_err-seed-clause-used
returns-in_err-seed-clause-used g t c =
    let at = g.F.Files.disk in
    let first = image_name c.in-Some.first.now in
    let rest = map image_name c.in-Some.rest.now in
    let opened = subst (λ (q : List ℕ). Uses (q ∷ []) [] (at c.args.files.now) (at c.open.new.files)) (c.image_name.ensures ∙ ap image_name c.as_str.ensures) c.in_err-seed.ensures.used in
    rw c.in-Some.ensures.cases.0 (uses_within (first ∷ []) [] (first ∷ rest) [] (at c.args.files.now) (at c.open.new.files) (within_first first rest) (within_same []) opened)

pub returns-in_err-keep-clause-used : goal.returns-in_err-keep-clause-used
returns-in_err-keep-clause-used g t c =
    let at = g.F.Files.disk in
    let held = g.F.View.View.held in
    let faults = g.F.View.View.faults in
    let named = c.image_name.ensures ∙ ap image_name c.as_str.ensures in
    let is = subst (λ (q : List ℕ). IsSeedAt held faults (at c.args.files.now) (at c.open.new.files) q c.in_ok-seed.seed) named c.in_ok-seed.ensures.ok in
    let opened = subst (λ (q : List ℕ). Uses (q ∷ []) [] (at c.args.files.now) (at c.open.new.files)) named c.in_ok-seed.ensures.used in
    rw c.in-Some.ensures.cases.0 (kept_first held faults (at c.args.files.now) (at c.open.new.files) (at c.keep.new.files) (image_name c.in-Some.first.now) (map image_name c.in-Some.rest.now) c.in_ok-seed.seed is opened c.in_err-keep.ensures.used)

pub returns-clause-used : goal.returns-clause-used
returns-clause-used g t c =
    let at = g.F.Files.disk in
    let held = g.F.View.View.held in
    let faults = g.F.View.View.faults in
    let named = c.image_name.ensures ∙ ap image_name c.as_str.ensures in
    let is = subst (λ (q : List ℕ). IsSeedAt held faults (at c.args.files.now) (at c.open.new.files) q c.in_ok-seed.seed) named c.in_ok-seed.ensures.ok in
    let opened = subst (λ (q : List ℕ). Uses (q ∷ []) [] (at c.args.files.now) (at c.open.new.files)) named c.in_ok-seed.ensures.used in
    rw c.in-Some.ensures.cases.0 (opened_all held faults (at c.args.files.now) (at c.open.new.files) (at c.keep.new.files) (image_name c.in-Some.first.now) (map image_name c.in-Some.rest.now) c.in_ok-seed.seed is (at c.open_each.new.files) opened c.in_ok-keep.ensures.used c.open_each.ensures.used)

pub returns-clause-among : goal.returns-clause-among
returns-clause-among g t c =
    let at = g.F.Files.disk in
    let held = g.F.View.View.held in
    let faults = g.F.View.View.faults in
    let is = subst (λ (q : List ℕ). IsSeedAt held faults (at c.args.files.now) (at c.open.new.files) q c.in_ok-seed.seed) (c.image_name.ensures ∙ ap image_name c.as_str.ensures) c.in_ok-seed.ensures.ok in
    rw c.in-Some.ensures.cases.0 (among_seeds held faults (at c.args.files.now) (at c.open.new.files) (at c.keep.new.files) (image_name c.in-Some.first.now) (map image_name c.in-Some.rest.now) c.in_ok-seed.seed is c.args.seeds.now.items c.keep.new.seeds.items c.open_each.new.seeds.items c.in_ok-keep.ensures.ok c.open_each.ensures.among)

pub open_each-requires : goal.open_each-requires
open_each-requires g t c κs within =
    let at = g.F.Files.disk in
    let held = g.F.View.View.held in
    let counts = (at c.keep.new.files).file_counts in
    let kept = c.in_ok-keep.ensures.kept in
    let before = all_known_later held (at c.args.files.now).file_counts counts (λ q is. kept.known q (c.in_ok-seed.ensures.kept.known q is)) c.args.seeds.now.items c.requires.known in
    let one = one_known held (at c.open.new.files).file_counts counts kept.known c.in_ok-seed.seed.view c.in_ok-seed.ensures.known in
    let known = known_more held counts c.args.seeds.now.items c.keep.new.seeds.items c.in_ok-seed.seed c.in_ok-keep.ensures.ok before one in
    search rules

pub returns-clause-kept : goal.returns-clause-kept
returns-clause-kept g t c =
    let at = g.F.Files.disk in
    reads_twice (at c.args.files.now) (at c.keep.new.files) (at c.open_each.new.files) (reads_twice (at c.args.files.now) (at c.open.new.files) (at c.keep.new.files) c.in_ok-seed.ensures.kept c.in_ok-keep.ensures.kept) c.open_each.ensures.kept

pub returns-in_err-keep-clause-kept : goal.returns-in_err-keep-clause-kept
returns-in_err-keep-clause-kept g t c =
    let at = g.F.Files.disk in
    reads_twice (at c.args.files.now) (at c.open.new.files) (at c.keep.new.files) c.in_ok-seed.ensures.kept c.in_err-keep.ensures.kept

pub returns-in_err-keep-clause-known : goal.returns-in_err-keep-clause-known
returns-in_err-keep-clause-known g t c =
    let at = g.F.Files.disk in
    let held = g.F.View.View.held in
    let counts = (at c.keep.new.files).file_counts in
    let before = all_known_later held (at c.args.files.now).file_counts counts (λ q is. c.in_err-keep.ensures.kept.known q (c.in_ok-seed.ensures.kept.known q is)) c.args.seeds.now.items c.requires.known in
    subst (λ l. SeedsKnown held counts l) (sym c.in_err-keep.ensures.err) before
