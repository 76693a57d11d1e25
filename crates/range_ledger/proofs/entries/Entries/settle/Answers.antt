use Rattle.std.proofs.Common.{◌-◌, set, sym, subst, ap, refl}
use Rattle.range_ledger.proofs.Surveys.{settles_one}
use Rattle.range_ledger.specs.Runs.{Has, Seen, SettlesOne}
use Rattle.range_ledger.proofs.entries.Entries.settle.Goals as goal

pub returns-clause-only : goal.returns-clause-only
returns-clause-only g c =
    let r = g.R.RunName.run in
    let old : Seen = record {
      number = c.self.inside.number;
      fates = c.self.inside.fates.items;
      faults = g.P.View.faults c.self.inside.part;
      held = g.P.View.held c.self.inside.part;
    } in
    let new : Seen = record {
      number = c.self.inside.number;
      fates = set c.self.inside.fates.items (c.args.entry - c.self.inside.first) c.args.fate;
      faults = g.P.View.faults c.self.inside.part;
      held = g.P.View.held c.self.inside.part;
    } in
    let has : Has r old c.args.entry = subst (λ (v : Seen). Has r v c.args.entry) (sym c.self.view_is) c.requires.inside in
    subst (λ (v : Seen). SettlesOne r v new c.args.entry) c.self.view_is
    (settles_one r old c.self.invariant.2 c.args.entry has new refl c.args.fate c.requires.fate (ap (λ n. set c.self.inside.fates.items (c.args.entry - n) c.args.fate) c.self.invariant.1))
