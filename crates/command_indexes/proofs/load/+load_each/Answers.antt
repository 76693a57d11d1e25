use Rattle.std.proofs.Common.{◌∙◌, List, ℕ, Ok, rules, subst}
use Rattle.std.proofs.lemmas.List.Elements.{All-head, All-rest}
use Rattle.std.proofs.lemmas.Result.{IfErr-weaker, on_ok_weaker}
use Rattle.command_indexes.proofs.Got.{got_lacking}
use Rattle.command_indexes.proofs.InOrder.{first_refused, later_refused, none_more, one_more}
use Rattle.command_indexes.proofs.load.+load_each.Goals as goal
use Rattle.command_indexes.specs.Gets.{IndexGot}
use Rattle.command_outcome.specs.declared.outcome.Outcome.TheVariants as ends
use Rattle.command_steps.specs.Sources.{storage}
use Rattle.command_words.specs.Locations.{NamesIndex, index_place_of}

pub returns-in_default-clause-ok : goal.returns-in_default-clause-ok
returns-in_default-clause-ok g t c =
    none_more c.args.names.now c.args.items (storage (g.F.Files.disk c.args.files.now) (g.D.Dial.state c.args.dial.now)) c.args.indexes.now.items c.in_default.ensures.cases

pub returns-in_default-of-clause-err : goal.returns-in_default-of-clause-err
returns-in_default-of-clause-err g t c =
    let w = storage (g.F.Files.disk c.args.files.now) (g.D.Dial.state c.args.dial.now) in
    let q = c.in-Some.first.now in
    let named = All-head NamesIndex q c.in-Some.rest.now (rw c.in-Some.ensures.cases.0 at c.requires.named) in
    rw c.in-Some.ensures.cases.0 (first_refused q c.in-Some.rest.now c.args.items w w ends.Memory (got_lacking q (index_place_of q) w named))

pub load_each-requires : goal.load_each-requires
load_each-requires g t c κs within =
    let named = All-rest NamesIndex c.in-Some.first.now c.in-Some.rest.now c.args.names.now c.in-Some.ensures.cases.0 c.requires.named in
    search rules

pub returns-clause-ok : goal.returns-clause-ok
returns-clause-ok g t c =
    let at = g.F.Files.disk in
    let state = g.D.Dial.state in
    let w = storage (at c.args.files.now) (state c.args.dial.now) in
    let u = storage (at c.load_index.new.files) (state c.load_index.new.dial) in
    let v = storage (at c.load_each.new.files) (state c.load_each.new.dial) in
    let got = subst (λ (q : List ℕ). IndexGot q w (Ok c.in_ok-index.index) u) (c.in-Ok.ensures ∙ c.as_str.ensures) c.in_ok-index.ensures.ends in
    rw c.in-Some.ensures.cases.0 (on_ok_weaker c.load_each.result
    (one_more c.in-Some.first.now c.in-Some.rest.now c.args.items w u c.in_ok-index.index got c.in_ok-items.items c.in_ok-items.ensures.counted v c.args.indexes.now.items c.add_index.new.indexes.items c.load_each.new.indexes.items c.in_ok-items.ensures.added) c.load_each.ensures.ok)

pub returns-clause-err : goal.returns-clause-err
returns-clause-err g t c =
    let at = g.F.Files.disk in
    let state = g.D.Dial.state in
    let w = storage (at c.args.files.now) (state c.args.dial.now) in
    let u = storage (at c.load_index.new.files) (state c.load_index.new.dial) in
    let v = storage (at c.load_each.new.files) (state c.load_each.new.dial) in
    let got = subst (λ (q : List ℕ). IndexGot q w (Ok c.in_ok-index.index) u) (c.in-Ok.ensures ∙ c.as_str.ensures) c.in_ok-index.ensures.ends in
    rw c.in-Some.ensures.cases.0 (IfErr-weaker c.load_each.result _ _
    (later_refused c.in-Some.first.now c.in-Some.rest.now c.args.items w u c.in_ok-index.index got c.in_ok-items.items c.in_ok-items.ensures.counted v) c.load_each.ensures.err)
