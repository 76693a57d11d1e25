use Rattle.std.proofs.Common.{◌≡◌, ◌+◌, Result, Err, ap, sym, refl, rules, subst, ◌∙◌}
use Rattle.std.proofs.lemmas.Option.{IfSome_then}
use Rattle.image_chop.proofs.ChoppingOn.{chopped_more, chopping_next, chopping_stops}
use Rattle.image_chop.specs.ChopProgress.{ChopsOn}
use Rattle.image_chop.specs.declared.chop.ChopFault.{ChopFault}
use Rattle.image_chop.specs.declared.chopping.Chopping.{Chopping}
use Rattle.image_chop.proofs.chopping.Chopping.chop_next.Goals as goal

pub chop_entry-requires-clause-read : goal.chop_entry-requires-clause-read
chop_entry-requires-clause-read g c = IfSome_then c.slice_among-read.result c.slice_among-read.ensures.told (λ b is. is _ c.requires.ready)

pub returns-in_err-chop_entry-clause-on : goal.returns-in_err-chop_entry-clause-on
returns-in_err-chop_entry-clause-on g c =
    let l = c.args.index.now in
    let a = c.args.self.now in
    let is = c.requires.chopping in
    let held = g.V.View.held a.image in
    let fault = c.in_err-chop_entry.field-0.0 in
    let done = c.in_err-chop_entry.ensures in
    let b : Chopping g.row.V.Denot g.row.S.Denot = record { image = c.chop_entry.new.image; store = c.chop_entry.new.store; first = a.first; at = a.at; rooms = c.chop_entry.new.rooms } in
    let answer : c.from_residual.result ≡ Err fault = search rules in
    subst (λ (r : Result Unit ChopFault). ChopsOn g.V.View g.S.Store l a b r) (sym answer) (record {
      next = tt;
      first = refl;
      ends = chopping_stops g.S.Store l held.bytes a.at a.first.value a.store b.store c.requires.more is.chopped done.changed held.size (sym is.size) fault done.err
          (λ k got e. c.chop_entry.ensures.untouched k got (c.in_err-chop_entry.was ∙ ap Err e)) done.store_faults;
      kept = done.kept;
      image_faults = done.image_faults;
    })

pub returns-clause-on : goal.returns-clause-on
returns-clause-on g c =
    let l = c.args.index.now in
    let a = c.args.self.now in
    let is = c.requires.chopping in
    let held = g.V.View.held a.image in
    let done = c.in_ok-chop_entry.ensures in
    let b : Chopping g.row.V.Denot g.row.S.Denot = record { image = c.chop_entry.new.image; store = c.chop_entry.new.store; first = a.first; at = a.at + 1; rooms = c.chop_entry.new.rooms } in
    record {
      next = chopping_next g.V.View g.S.Store l a b is c.requires.more refl done.kept done.room
          (chopped_more g.S.Store l held.bytes a.at a.first.value a.store b.store c.requires.more is.chopped done.changed done.ok done.right done.store_faults.never_falls);
      first = refl;
      ends = tt;
      kept = done.kept;
      image_faults = done.image_faults;
    }
