use Rattle.std.proofs.Common.{map, rules}
use Rattle.command_steps.proofs.Consulted.{consults_more}
use Rattle.command_steps.proofs.Given.{given_more, known_later, last_at, last_known}
use Rattle.command_steps.proofs.Used.{closed_last}
use Rattle.command_steps.specs.AnyStores.{location_in}
use Rattle.command_steps.specs.Sources.{storage}
use Rattle.command_steps.proofs.sources.+close_sources.Goals as goal
use Rattle.std.proofs.Common.{◌∙◌, ap, sym}
use Rattle.std.proofs.lemmas.List.Sums.{fold_push}
use Rattle.std.specs.List.{fold}
use Rattle.command_steps.specs.AnyStores.{with_those}

pub close_sources-requires : goal.close_sources-requires
close_sources-requires g t c =
    let both = last_known (location_in g.F.Look.Look.place) (g.F.Files.disk c.args.files.now).folder_counts c.args.stores.items c.pop.new.self.items c.in-Some.store c.in-Some.ensures.items c.requires.known in
    let known = both.0 in
    search rules

pub close-requires : goal.close-requires
close-requires g t c =
    let at = g.F.Files.disk in
    let location = location_in g.F.Look.Look.place in
    let both = last_known location (at c.args.files.now).folder_counts c.args.stores.items c.pop.new.self.items c.in-Some.store c.in-Some.ensures.items c.requires.known in
    record { known = known_later (at c.args.files.now).folder_counts (at c.close_sources.new.files).folder_counts c.close_sources.ensures.kept.0.disk.folder_known (location c.in-Some.store) both.1 }

pub returns-in-Some-clause-kept : goal.returns-in-Some-clause-kept
returns-in-Some-clause-kept g t c =
    let at = g.F.Files.disk in
    let state = g.D.Dial.state in
    let location = location_in g.F.Look.Look.place in
    let rest = c.pop.new.self.items in
    consults_more (storage (at c.args.files.now) (state c.args.dial.now)) (storage (at c.close_sources.new.files) (state c.close_sources.new.dial)) (storage (at c.close.new.files) (state c.close.new.dial)) (map location rest) (map location c.args.stores.items) (location c.in-Some.store)
    (last_at location c.args.stores.items rest c.in-Some.store c.in-Some.ensures.items) c.close_sources.ensures.kept c.close.ensures.kept

pub returns-in-Some-clause-given : goal.returns-in-Some-clause-given
returns-in-Some-clause-given g t c =
    let at = g.F.Files.disk in
    let state = g.D.Dial.state in
    given_more g.F.Look.Look.place g.F.Look.Look.faults state (storage (at c.args.files.now) (state c.args.dial.now)) (storage (at c.close_sources.new.files) (state c.close_sources.new.dial)) (storage (at c.close.new.files) (state c.close.new.dial)) c.args.stores.items c.pop.new.self.items c.in-Some.store c.in-Some.ensures.items
    c.close_sources.ensures.kept.0 c.close.ensures.kept.0 c.close_sources.ensures.given c.close.ensures.given

pub returns-in-Some-clause-ended : goal.returns-in-Some-clause-ended
returns-in-Some-clause-ended g t c =
    let state = g.D.Dial.state in
    let old = (state c.args.dial.now).ended in
    let rest = c.pop.new.self.items in
    c.close.ensures.ended ∙ ap (λ o. with_those state o c.in-Some.store) c.close_sources.ensures.ended
    ∙ sym (ap (fold (with_those state) old) c.in-Some.ensures.items ∙ fold_push (with_those state) old rest c.in-Some.store)

pub returns-in-Some-clause-used : goal.returns-in-Some-clause-used
returns-in-Some-clause-used g t c =
    let at = g.F.Files.disk in
    let location = location_in g.F.Look.Look.place in
    let rest = c.pop.new.self.items in
    closed_last (map location c.args.stores.items) (map location rest) (location c.in-Some.store) (at c.args.files.now) (at c.close_sources.new.files) (at c.close.new.files) (last_at location c.args.stores.items rest c.in-Some.store c.in-Some.ensures.items)
    c.close_sources.ensures.used c.close.ensures.used
