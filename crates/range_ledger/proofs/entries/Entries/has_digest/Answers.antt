use Rattle.std.proofs.Common.{◌≡◌, sym, subst}
use Rattle.range_ledger.proofs.Surveys.{zeros_there}
use Rattle.range_ledger.specs.Extents.{begin_in}
use Rattle.range_ledger.specs.Runs.{Has, HasZeros, Seen, extent_of}
use Rattle.range_ledger.proofs.entries.Entries.has_digest.Goals as goal

pub has_digest-requires-clause-zeros : goal.has_digest-requires-clause-zeros
has_digest-requires-clause-zeros g c =
    let r = g.R.RunName.run in
    let old : Seen = record {
      number = c.self.inside.number;
      fates = c.self.inside.fates.items;
      faults = g.P.View.faults c.self.inside.part;
      held = g.P.View.held c.self.inside.part;
    } in
    let has : Has r old c.args.entry = subst (λ (v : Seen). Has r v c.args.entry) (sym c.self.view_is) c.requires.inside in
    let zeros : HasZeros r c.args.old old c.args.entry = subst (λ (v : Seen). HasZeros r c.args.old v c.args.entry) (sym c.self.view_is) c.requires.zeros in
    let at : c.offset-at.result ≡ begin_in (extent_of r old.number) c.args.entry =
    subst (λ (v : Seen). c.offset-at.result ≡ begin_in (extent_of r v.number) c.args.entry) (sym c.self.view_is) c.offset-at.ensures.value in
    zeros_there r old c.self.invariant.2 c.args.entry has c.args.old zeros c.self.inside.index.now c.self.invariant.0 c.offset-at.result at
