use Rattle.std.proofs.Common.{◌+◌, arith, refl, ◌∙◌}
use Rattle.caibx_codec.specs.Listing.{count_of}
use Rattle.cache_fill.proofs.Filled.{Turns, answers_stopped, filled_more, turn_of}
use Rattle.cache_fill.proofs.Progress.{dealt_turn}
use Rattle.chunk_dealing.proofs.Owners.{dealt_on}
use Rattle.chunk_dealing.specs.Dealing.{owner_of}
use Rattle.cache_fill.specs.FillProgress.{shelf_at}
use Rattle.cache_fill.proofs.filling.Filling.take_through.Goals as goal

pub returns-in-Err-clause-on : goal.returns-in-Err-clause-on
returns-in-Err-clause-on g c =
    let S = g.S.Store in
    let w = c.args.self.now in
    let l = w.index.now in
    let was = c.requires.filling in
    let done = c.in-Err.ensures in
    let s0 = shelf_at g.F.Look S w.first.value in
    let s = shelf_at g.F.Look S w.cached.now in
    let t = shelf_at g.F.Look S c.fill_entry.new.cached in
    let d = c.fill_entry.new.cached.chain in
    let turn : Turns S l w.at s t w.cached.now.chain d = record { asks = turn_of S l w.at s t w.cached.now.chain d done.asks; stocks = done.stocks; stores = done.stores } in
    record {
      next = tt;
      ends = answers_stopped S l (λ s. g.met.S.Store.alone s) w.at c.requires.more s0 s t w.first.value.chain w.cached.now.chain d was.filled turn c.in-Err.fault done.err done.kept;
      dealt = dealt_on S.asked S.queried l (owner_of w.owners.now) 0 (w.at + 1) (count_of l) (omega (arith, c.requires.more)) w.first.value.chain d
          (dealt_turn S l (owner_of w.owners.now) 0 w.at c.requires.own s t w.first.value.chain w.cached.now.chain d was.dealt turn.asks);
      cached = refl;
      index = refl;
      owners = refl;
      first = refl;
    }

pub returns-in-Ok-clause-on : goal.returns-in-Ok-clause-on
returns-in-Ok-clause-on g c =
    let S = g.S.Store in
    let w = c.args.self.now in
    let l = w.index.now in
    let was = c.requires.filling in
    let done = c.in-Ok.ensures in
    let s0 = shelf_at g.F.Look S w.first.value in
    let s = shelf_at g.F.Look S w.cached.now in
    let t = shelf_at g.F.Look S c.fill_entry.new.cached in
    let d = c.fill_entry.new.cached.chain in
    let turn : Turns S l w.at s t w.cached.now.chain d = record { asks = turn_of S l w.at s t w.cached.now.chain d done.asks; stocks = done.stocks; stores = done.stores } in
    let dealt = dealt_turn S l (owner_of w.owners.now) 0 w.at c.requires.own s t w.first.value.chain w.cached.now.chain d was.dealt turn.asks in
    record {
      next = record {
        at = omega (arith, c.requires.more);
        room = λ j less. omega (arith, was.room j less, c.fill_entry.auto.chunk);
        kind = done.same ∙ was.kind;
        unnamed = was.unnamed;
        filled = filled_more S l (λ s. g.met.S.Store.alone s) w.at c.requires.more s0 s t w.first.value.chain w.cached.now.chain d was.filled turn done.ok done.given;
        dealt = dealt;
      };
      ends = tt;
      dealt = dealt_on S.asked S.queried l (owner_of w.owners.now) 0 (w.at + 1) (count_of l) (omega (arith, c.requires.more)) w.first.value.chain d dealt;
      cached = refl;
      index = refl;
      owners = refl;
      first = refl;
    }
