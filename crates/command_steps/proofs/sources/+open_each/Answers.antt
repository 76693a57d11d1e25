use Rattle.std.proofs.Common.{◌∙◌, [], ℕ, List, Option, rules, subst}
use Rattle.std.proofs.lemmas.Result.{err_from_is_err_and}
use Rattle.command_steps.specs.AnyStores.{IsUnused, source_faults, source_files, location_in}
use Rattle.command_steps.specs.Sources.{OpensSources}
use Rattle.command_steps.specs.Uses.{folders_among}
use Rattle.command_steps.proofs.Consulted.{reads_twice}
use Rattle.command_steps.proofs.Given.{all_later, known_later}
use Rattle.command_steps.proofs.OpenedSources.{unreached_after}
use Rattle.command_steps.proofs.Used.{all_more, among_next, known_more, used_next, uses_none}
use Rattle.command_steps.proofs.sources.+open_each.Goals as goal
use Rattle.dsy_base.specs.Maps.{Map}

pub returns-in_err-open_each-clause-err : goal.returns-in_err-open_each-clause-err
returns-in_err-open_each-clause-err g t c =
    let at = g.F.Files.disk in
    let p = err_from_is_err_and c.from_residual-in_err-open_each.result c.from_residual-in_err-open_each.ensures.1 in
    let h = unreached_after (source_files g.F.Look.Look.files) (location_in g.F.Look.Look.place) (source_faults g.F.Look.Look.faults g.D.Dial.state) (at c.args.files.now) (at c.open.new.files) (at c.keep.new.files) (at c.open_each.new.files) c.in_ok-store.ensures.kept c.in_ok-keep.ensures.kept
    c.in-Some.first.now c.in-Some.rest.now c.in_ok-store.store c.in_err-open_each.field-0.0 c.in_ok-store.ensures.ok c.in_err-open_each.ensures.err in
    rw (p.1, p.2) (rw c.in-Some.ensures.cases.0 h)

pub returns-clause-ok : goal.returns-clause-ok
returns-clause-ok g t c =
    let same = c.in_ok-keep.ensures.kept.folders ∙ c.in_ok-store.ensures.kept.folders in
    let files = source_files g.F.Look.Look.files in
    let location = location_in g.F.Look.Look.place in
    let faults = source_faults g.F.Look.Look.faults g.D.Dial.state in
    let rest = subst (λ (f : Option (Map (Map (List ℕ)))). OpensSources files location faults f c.in-Some.rest.now c.keep.new.stores.items c.open_each.new.stores.items) same c.in_ok-open_each.ensures.ok in
    let opens = subst (λ l. OpensSources files location faults (g.F.Files.disk c.args.files.now).folders c.in-Some.rest.now l c.open_each.new.stores.items) c.in_ok-keep.ensures.ok rest in
    rw c.in-Some.ensures.cases.0 (c.in_ok-store.store, c.in_ok-store.ensures.ok, opens)

pub returns-in_err-store-clause-known : goal.returns-in_err-store-clause-known
returns-in_err-store-clause-known g t c =
    let at = g.F.Files.disk in
    all_later (at c.args.files.now).folder_counts (at c.open.new.files).folder_counts c.in_err-store.ensures.kept.folder_known _ c.requires.known

pub open_each-requires : goal.open_each-requires
open_each-requires g t c κs within =
    let at = g.F.Files.disk in
    let location = location_in g.F.Look.Look.place in
    let old = c.args.stores.now.items in
    let counts = (at c.keep.new.files).folder_counts in
    let before = all_later (at c.args.files.now).folder_counts counts (λ q is. c.in_ok-keep.ensures.kept.folder_known q (c.in_ok-store.ensures.kept.folder_known q is)) _ c.requires.known in
    let one = known_later (at c.open.new.files).folder_counts counts c.in_ok-keep.ensures.kept.folder_known (location c.in_ok-store.store) c.in_ok-store.ensures.known in
    let known = known_more location counts old c.keep.new.stores.items c.in_ok-store.store c.in_ok-keep.ensures.ok before one in
    let unused = all_more (IsUnused g.D.Dial.state) old c.keep.new.stores.items c.in_ok-store.store c.in_ok-keep.ensures.ok c.requires.unused c.in_ok-store.ensures.unused in
    search rules

pub returns-in_err-open_each-clause-among : goal.returns-in_err-open_each-clause-among
returns-in_err-open_each-clause-among g t c =
    among_next (location_in g.F.Look.Look.place) c.args.stores.now.items c.keep.new.stores.items c.open_each.new.stores.items c.in_ok-store.store c.in-Some.first.now c.in-Some.rest.now c.args.names.now c.in-Some.ensures.cases.0 c.in_ok-store.ensures.ok.located c.in_ok-keep.ensures.ok
    c.in_err-open_each.ensures.among

pub returns-clause-among : goal.returns-clause-among
returns-clause-among g t c =
    among_next (location_in g.F.Look.Look.place) c.args.stores.now.items c.keep.new.stores.items c.open_each.new.stores.items c.in_ok-store.store c.in-Some.first.now c.in-Some.rest.now c.args.names.now c.in-Some.ensures.cases.0 c.in_ok-store.ensures.ok.located c.in_ok-keep.ensures.ok
    c.in_ok-open_each.ensures.among

pub returns-in_err-keep-clause-kept : goal.returns-in_err-keep-clause-kept
returns-in_err-keep-clause-kept g t c =
    let at = g.F.Files.disk in
    reads_twice (at c.args.files.now) (at c.open.new.files) (at c.keep.new.files) c.in_ok-store.ensures.kept c.in_err-keep.ensures.kept

pub returns-in_err-open_each-clause-kept : goal.returns-in_err-open_each-clause-kept
returns-in_err-open_each-clause-kept g t c =
    let at = g.F.Files.disk in
    reads_twice (at c.args.files.now) (at c.keep.new.files) (at c.open_each.new.files) (reads_twice (at c.args.files.now) (at c.open.new.files) (at c.keep.new.files) c.in_ok-store.ensures.kept c.in_ok-keep.ensures.kept) c.in_err-open_each.ensures.kept

pub returns-clause-kept : goal.returns-clause-kept
returns-clause-kept g t c =
    let at = g.F.Files.disk in
    reads_twice (at c.args.files.now) (at c.keep.new.files) (at c.open_each.new.files) (reads_twice (at c.args.files.now) (at c.open.new.files) (at c.keep.new.files) c.in_ok-store.ensures.kept c.in_ok-keep.ensures.kept) c.in_ok-open_each.ensures.kept

pub returns-in_err-keep-clause-used : goal.returns-in_err-keep-clause-used
returns-in_err-keep-clause-used g t c =
    let at = g.F.Files.disk in
    let rest = c.in-Some.rest.now in
    let e = at c.keep.new.files in
    used_next c.args.names.now rest c.in-Some.first.now (location_in g.F.Look.Look.place c.in_ok-store.store) (at c.args.files.now) (at c.open.new.files) e e c.in-Some.ensures.cases.0 c.in_ok-store.ensures.ok.located c.in_ok-store.ensures.used c.in_err-keep.ensures.used (uses_none [] (folders_among rest) e)

pub returns-in_err-open_each-clause-used : goal.returns-in_err-open_each-clause-used
returns-in_err-open_each-clause-used g t c =
    let at = g.F.Files.disk in
    used_next c.args.names.now c.in-Some.rest.now c.in-Some.first.now (location_in g.F.Look.Look.place c.in_ok-store.store) (at c.args.files.now) (at c.open.new.files) (at c.keep.new.files) (at c.open_each.new.files) c.in-Some.ensures.cases.0 c.in_ok-store.ensures.ok.located c.in_ok-store.ensures.used c.in_ok-keep.ensures.used
    c.in_err-open_each.ensures.used

pub returns-clause-used : goal.returns-clause-used
returns-clause-used g t c =
    let at = g.F.Files.disk in
    used_next c.args.names.now c.in-Some.rest.now c.in-Some.first.now (location_in g.F.Look.Look.place c.in_ok-store.store) (at c.args.files.now) (at c.open.new.files) (at c.keep.new.files) (at c.open_each.new.files) c.in-Some.ensures.cases.0 c.in_ok-store.ensures.ok.located c.in_ok-store.ensures.used c.in_ok-keep.ensures.used
    c.in_ok-open_each.ensures.used
