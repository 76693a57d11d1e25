use Rattle.std.proofs.Common.{◌≡◌, ◌∙◌, ap, length, refl, sym, subst, All, Global, Vec, arith}
use Rattle.std.proofs.lemmas.List.{with_items_is}
use Rattle.read_ahead.proofs.Readings.{all_able, all_accepted, all_count, all_none, all_on}
use Rattle.read_ahead.proofs.rounds.take_by_rounds.Goals as goal

pub loop-at-init : goal.loop-at-init
loop-at-init g c = record {
  on = λ first was. was;
  going = c.requires.going;
  count = refl;
  accepted = λ a is. is;
  inside = omega arith;
  rooms = c.requires.size.0;
  spare = c.requires.size.1;
  ready = c.requires.ready;
  readers = all_none g.V.Reader c.args.readers.now c.requires.able;
}

pub run_round-requires-clause-count : goal.run_round-requires-clause-count
run_round-requires-clause-count g c = λ lifetimes bounds.
    all_count g.V.Reader (g.C.Consumer.count c.args.consumer.now) (g.C.Consumer.count c.loop-at.consumer) c.args.readers.now c.loop-at.readers c.loop-at.invariant.count c.loop-at.invariant.readers c.requires.count

pub run_round-requires-clause-able : goal.run_round-requires-clause-able
run_round-requires-clause-able g c = λ lifetimes bounds. all_able g.V.Reader c.args.readers.now c.loop-at.readers c.loop-at.invariant.readers

pub returns-in_err-run_round-clause-readers : goal.returns-in_err-run_round-clause-readers
returns-in_err-run_round-clause-readers g c = all_on g.V.Reader c.args.readers.now c.loop-at.readers c.run_round.new.readers c.loop-at.invariant.readers c.in_err-run_round.ensures.readers

pub loop-at-preserved : goal.loop-at-preserved
loop-at-preserved g c =
    let inv = c.loop-at.invariant in
    let done = c.in_ok-run_round.ensures in
    let read : c.swap.new.y.items ≡ c.run_round.new.rooms =
    ap (λ (v : Vec g.row.A.Denot Global). v.items) c.swap.ensures.y_after ∙ with_items_is c.loop-at.rooms c.run_round.new.rooms (omega (arith, c.run_round.auto.rooms, c.deref_mut.ensures.len)) in
    record {
      on = λ first was. done.on first (inv.on first was);
      going = done.going;
      count = done.count ∙ inv.count;
      accepted = λ a is. done.accepted a (inv.accepted a is);
      inside = omega (arith, c.round_end-end.ensures.1, done.count);
      rooms = ap (λ (v : Vec g.row.A.Denot Global). length v.items) c.swap.ensures.x_after ∙ inv.spare ∙ sym c.run_round.auto.readers;
      spare = ap length read ∙ omega (arith, c.run_round.auto.rooms, c.run_round.auto.readers, c.deref_mut.ensures.len, inv.rooms);
      ready = subst (All (g.C.Consumer.accepts c.run_round.new.consumer)) (sym read)
          (all_accepted g.V.Reader (g.C.Consumer.accepts c.args.consumer.now) (g.C.Consumer.accepts c.run_round.new.consumer) c.args.readers.now c.run_round.new.readers c.run_round.new.rooms
          (λ a is. done.accepted a (inv.accepted a is)) c.requires.trusted (all_on g.V.Reader c.args.readers.now c.loop-at.readers c.run_round.new.readers inv.readers done.readers) done.right);
      readers = all_on g.V.Reader c.args.readers.now c.loop-at.readers c.run_round.new.readers inv.readers done.readers;
    }
