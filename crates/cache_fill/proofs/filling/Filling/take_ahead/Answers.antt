use borrow.Rule.Reborrow.{re_v}
use Rattle.std.proofs.Common.{◌≡◌, ◌≤◌, ◌+◌, Result, Err, arith, ap, refl, rules, subst, sym, ◌∙◌}
use Rattle.caibx_codec.specs.Listing.{count_of}
use Rattle.cache_fill.proofs.Ahead.{slices_said}
use Rattle.cache_fill.proofs.Progress.{stopped_so, still_dealt, went_ahead}
use Rattle.cache_fill.specs.FillProgress.{FillsOn}
use Rattle.cache_fill.specs.declared.entry.Stop.{Stop}
use Rattle.cache_fill.specs.declared.filling.Filling.{Filling}
use Rattle.store_chain.specs.Chains.{Chained}
use Rattle.cache_fill.proofs.filling.Filling.take_ahead.Goals as goal

pub add_ahead-requires-clause-read : goal.add_ahead-requires-clause-read
add_ahead-requires-clause-read g c =
    let w = c.args.self.now in
    slices_said g.S.Store.members w.index.now c.args.ready.now w.at c.slice_among-read.result w.first.value.chain.stores w.cached.now.chain.stores c.requires.filling.filled.stores.members c.requires.ready c.slice_among-read.ensures.has

pub returns-in_err-add_ahead-clause-on : goal.returns-in_err-add_ahead-clause-on
returns-in_err-add_ahead-clause-on g c =
    let S = g.S.Store in
    let w = c.args.self.now in
    let was = c.requires.filling in
    let done = c.in_err-add_ahead.ensures in
    let now = c.add_ahead.new.cached in
    let why = c.in_err-add_ahead.field-0.0 in
    let answer : c.from_residual.result ≡ Err why = search rules in
    let new : Filling g.row.F.Denot g.row.S.Denot = record w { cached = re_v c.add_ahead.new.cached w.cached; chunk = re_v c.add_ahead.new.chunk w.chunk } in
    subst (λ (r : Result Unit Stop). FillsOn g.F.Look S g.F.Folder.pairs g.F.Folder.stores w new r) (sym answer) (record {
      next = tt;
      ends = stopped_so g.F.Look S g.F.Folder.pairs g.F.Folder.stores w was c.requires.more now done.chain done.aside done.stocks (λ s. g.met.S.Store.alone s) done.kept new refl refl refl refl why done.stops;
      dealt = still_dealt g.F.Look S g.F.Folder.pairs g.F.Folder.stores w was c.requires.more now done.chain done.aside done.stocks (count_of w.index.now) was.at;
      cached = refl;
      index = refl;
      owners = refl;
      first = refl;
    })

pub returns-clause-on : goal.returns-clause-on
returns-clause-on g c =
    let S = g.S.Store in
    let w = c.args.self.now in
    let was = c.requires.filling in
    let done = c.in_ok-add_ahead.ensures in
    let now = c.add_ahead.new.cached in
    let up : w.at ≤ w.at + 1 = omega arith in
    record {
      next = record {
        at = omega (arith, c.requires.more);
        room = λ j less. omega (arith, was.room j less, c.add_ahead.auto.chunk);
        kind = ap (λ (c : Chained g.row.S.Denot). c.kind) done.chain ∙ was.kind;
        unnamed = was.unnamed;
        filled = went_ahead g.F.Look S g.F.Folder.pairs g.F.Folder.stores w was c.requires.more now done.chain done.aside done.stocks (λ s. g.met.S.Store.alone s) done.ok done.given;
        dealt = still_dealt g.F.Look S g.F.Folder.pairs g.F.Folder.stores w was c.requires.more now done.chain done.aside done.stocks (w.at + 1) up;
      };
      ends = tt;
      dealt = still_dealt g.F.Look S g.F.Folder.pairs g.F.Folder.stores w was c.requires.more now done.chain done.aside done.stocks (count_of w.index.now) was.at;
      cached = refl;
      index = refl;
      owners = refl;
      first = refl;
    }
