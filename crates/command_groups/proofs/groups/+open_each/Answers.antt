use Rattle.std.proofs.Common.{◌≤◌, List, [], ap, length, rules, subst, sym}
use Rattle.std.proofs.lemmas.List.Elements.{All-head, All-rest}
use Rattle.std.proofs.lemmas.Result.{err_from_is_err_and}
use Rattle.std.specs.List.{All}
use Rattle.command_groups.proofs.Flat.{folders_front}
use Rattle.command_groups.proofs.Opening.{among_more, groups_known, unreached_before, unreached_behind, unreached_memory, used_more}
use Rattle.command_groups.specs.Groups.{stores_of}
use Rattle.command_groups.specs.Opened.{locations_in}
use Rattle.command_steps.proofs.Consulted.{reads_twice}
use Rattle.command_steps.proofs.Given.{all_later}
use Rattle.command_steps.proofs.Used.{uses_none, uses_within, within_same}
use Rattle.command_steps.specs.AnyStores.{IsKnown}
use Rattle.command_steps.specs.Uses.{folders_among}
use Rattle.command_words.specs.declared.command.Location.{Location}
use Rattle.command_groups.proofs.groups.+open_each.Goals as goal

pub returns-in_err-group-clause-err : goal.returns-in_err-group-clause-err
returns-in_err-group-clause-err g t c =
    let at = g.F.Files.disk in
    let p = err_from_is_err_and c.from_residual.result c.from_residual.ensures.1 in
    let h = unreached_before (at c.args.files.now) (at c.open.new.files) c.in-Some.first.now (stores_of c.in-Some.rest.now) c.in_err-group.field-0.0 c.in_err-group.ensures.err in
    rw (p.1, p.2) (rw c.in-Some.ensures.cases.0 h)

pub returns-in_err-group-clause-used : goal.returns-in_err-group-clause-used
returns-in_err-group-clause-used g t c =
    let at = g.F.Files.disk in
    let is = ap stores_of c.in-Some.ensures.cases.0 in
    uses_within [] (folders_among c.in-Some.first.now) [] (folders_among (stores_of c.args.names.now)) (at c.args.files.now) (at c.open.new.files) (within_same []) (folders_front (stores_of c.args.names.now) c.in-Some.first.now (stores_of c.in-Some.rest.now) is) c.in_err-group.ensures.used

pub returns-in_err-keep-clause-err : goal.returns-in_err-keep-clause-err
returns-in_err-keep-clause-err g t c =
    let at = g.F.Files.disk in
    let p = err_from_is_err_and c.from_residual-in_err-keep.result c.from_residual-in_err-keep.ensures.1 in
    let some = All-head (λ (l : List Location). 1 ≤ length l) c.in-Some.first.now c.in-Some.rest.now (subst (λ (l : List (List Location)). All (λ (l : List Location). 1 ≤ length l) l) c.in-Some.ensures.cases.0 c.requires.each) in
    let h = unreached_memory (at c.args.files.now) (at c.keep.new.files) c.in-Some.first.now (stores_of c.in-Some.rest.now) c.in_err-keep.field-0.0 some c.in_err-keep.ensures.only in
    rw (p.1, p.2) (rw c.in-Some.ensures.cases.0 h)

pub returns-in_err-keep-clause-used : goal.returns-in_err-keep-clause-used
returns-in_err-keep-clause-used g t c =
    let at = g.F.Files.disk in
    let rest = stores_of c.in-Some.rest.now in
    let e = at c.keep.new.files in
    used_more (stores_of c.args.names.now) c.in-Some.first.now rest (locations_in g.F.Look.Look.place c.in_ok-group.group) (at c.args.files.now) (at c.open.new.files) e e (ap stores_of c.in-Some.ensures.cases.0) c.in_ok-group.ensures.located
    c.in_ok-group.ensures.used c.in_err-keep.ensures.used (uses_none [] (folders_among rest) e)

pub open_each-requires : goal.open_each-requires
open_each-requires g t c κs within =
    let at = g.F.Files.disk in
    let location = locations_in g.F.Look.Look.place in
    let old = c.args.groups.now.items in
    let counts = (at c.keep.new.files).folder_counts in
    let before = all_later (at c.args.files.now).folder_counts counts (λ q is. c.in_ok-keep.ensures.kept.folder_known q (c.in_ok-group.ensures.kept.folder_known q is)) _ c.requires.known in
    let one = all_later (at c.open.new.files).folder_counts counts c.in_ok-keep.ensures.kept.folder_known c.in-Some.first.now c.in_ok-group.ensures.known in
    let there = subst (λ (l : List Location). All (IsKnown counts) l) (sym c.in_ok-group.ensures.located) one in
    let known = groups_known location counts old c.keep.new.groups.items c.in_ok-group.group c.in_ok-keep.ensures.ok before there in
    let each = All-rest (λ (l : List Location). 1 ≤ length l) c.in-Some.first.now c.in-Some.rest.now c.args.names.now c.in-Some.ensures.cases.0 c.requires.each in
    search rules

pub returns-in_err-open_each-clause-err : goal.returns-in_err-open_each-clause-err
returns-in_err-open_each-clause-err g t c =
    let at = g.F.Files.disk in
    let p = err_from_is_err_and c.from_residual-in_err-open_each.result c.from_residual-in_err-open_each.ensures.1 in
    let some = All-head (λ (l : List Location). 1 ≤ length l) c.in-Some.first.now c.in-Some.rest.now (subst (λ (l : List (List Location)). All (λ (l : List Location). 1 ≤ length l) l) c.in-Some.ensures.cases.0 c.requires.each) in
    let before = reads_twice (at c.args.files.now) (at c.open.new.files) (at c.keep.new.files) c.in_ok-group.ensures.kept c.in_ok-keep.ensures.kept in
    let h = unreached_behind (at c.args.files.now) (at c.keep.new.files) (at c.open_each.new.files) before c.in-Some.first.now (stores_of c.in-Some.rest.now) c.in_err-open_each.field-0.0 some c.in_ok-group.ensures.there c.in_err-open_each.ensures.err in
    rw (p.1, p.2) (rw c.in-Some.ensures.cases.0 h)

pub returns-in_err-open_each-clause-used : goal.returns-in_err-open_each-clause-used
returns-in_err-open_each-clause-used g t c =
    let at = g.F.Files.disk in
    used_more (stores_of c.args.names.now) c.in-Some.first.now (stores_of c.in-Some.rest.now) (locations_in g.F.Look.Look.place c.in_ok-group.group) (at c.args.files.now) (at c.open.new.files) (at c.keep.new.files) (at c.open_each.new.files) (ap stores_of c.in-Some.ensures.cases.0)
    c.in_ok-group.ensures.located c.in_ok-group.ensures.used c.in_ok-keep.ensures.used c.in_err-open_each.ensures.used

pub returns-in_err-open_each-clause-among : goal.returns-in_err-open_each-clause-among
returns-in_err-open_each-clause-among g t c =
    among_more (locations_in g.F.Look.Look.place) c.args.groups.now.items c.keep.new.groups.items c.open_each.new.groups.items c.in_ok-group.group c.in-Some.first.now (stores_of c.in-Some.rest.now) (stores_of c.args.names.now) (ap stores_of c.in-Some.ensures.cases.0)
    c.in_ok-group.ensures.located c.in_ok-keep.ensures.ok c.in_err-open_each.ensures.among

pub returns-clause-used : goal.returns-clause-used
returns-clause-used g t c =
    let at = g.F.Files.disk in
    used_more (stores_of c.args.names.now) c.in-Some.first.now (stores_of c.in-Some.rest.now) (locations_in g.F.Look.Look.place c.in_ok-group.group) (at c.args.files.now) (at c.open.new.files) (at c.keep.new.files) (at c.open_each.new.files) (ap stores_of c.in-Some.ensures.cases.0)
    c.in_ok-group.ensures.located c.in_ok-group.ensures.used c.in_ok-keep.ensures.used c.in_ok-open_each.ensures.used

pub returns-clause-among : goal.returns-clause-among
returns-clause-among g t c =
    among_more (locations_in g.F.Look.Look.place) c.args.groups.now.items c.keep.new.groups.items c.open_each.new.groups.items c.in_ok-group.group c.in-Some.first.now (stores_of c.in-Some.rest.now) (stores_of c.args.names.now) (ap stores_of c.in-Some.ensures.cases.0)
    c.in_ok-group.ensures.located c.in_ok-keep.ensures.ok c.in_ok-open_each.ensures.among
