use Rattle.std.proofs.Common.{Ok, Err, length, refl, ap, subst, ◌∙◌, arith}
use Rattle.http_serve.specs.Streams.{stream_in}
use Rattle.http_serve.specs.Turns.{ConnectionFails, Lingers, RequestsStop, Stays}
use Rattle.http_serve.proofs.Serving.{cut, fails_on, full, lacking, lingers_on, served, stays_none, stays_on, stops_on}
use Rattle.http_serve.proofs.connection.serve_connection.Goals as goal

pub turns-init : goal.turns-init
turns-init g c = record {
  size = omega (arith, ap length c.new-waiting.ensures.items);
  stays = stays_none (g.S.Service.protocol (g.S.Service.setting c.args.desk.now)) c.new-waiting.result.items (g.K.Link.state c.args.link.now).traffic (g.S.Service.state c.args.desk.now) c.new-waiting.ensures.items;
  kept = refl;
  changed = g.met.S.Service.leaves_none c.args.desk.now;
  served_faults = omega arith;
  given = refl;
  faults = refl;
}

pub turns-preserved : goal.turns-preserved
turns-preserved g c = record {
  size = c.take_turn.ensures.size;
  stays = stays_on (g.S.Service.protocol (g.S.Service.setting c.args.desk.now)) _ _ _ _ _ _ c.turns.invariant.stays
      (subst (λ (s : g.S.Service.Setting). Stays (g.S.Service.protocol s) (stream_in c.turns.waiting.items (g.K.Link.state c.turns.link).traffic) (g.S.Service.state c.turns.desk) (stream_in c.take_turn.new.waiting.items (g.K.Link.state c.take_turn.new.link).traffic) (g.S.Service.state c.take_turn.new.desk)) c.turns.invariant.kept (c.take_turn.ensures.open (c.in-Ok-true.is ∙ ap Ok c.in-Ok-true.field-0-test)));
  kept = c.take_turn.ensures.kept ∙ c.turns.invariant.kept;
  changed = g.met.S.Service.leaves_more c.args.desk.now c.turns.desk c.take_turn.new.desk c.turns.invariant.changed c.take_turn.ensures.changed;
  served_faults = omega (arith, c.take_turn.ensures.served_faults, c.turns.invariant.served_faults);
  given = c.take_turn.ensures.given ∙ c.turns.invariant.given;
  faults = c.in-Ok-true.ensures.faults.done ∙ c.turns.invariant.faults;
}

pub returns-in-Ok-false-clause-ok : goal.returns-in-Ok-false-clause-ok
returns-in-Ok-false-clause-ok g c = λ h.
    let p = g.S.Service.protocol (g.S.Service.setting c.args.desk.now) in
    served p c.take_turn.new.waiting.items (g.S.Service.state c.args.desk.now) (g.S.Service.state c.take_turn.new.desk) (g.K.Link.state c.args.link.now).traffic (g.K.Link.state c.take_turn.new.link).traffic
    (stops_on p _ _ _ _ _ _ c.turns.invariant.stays
    (subst (λ (s : g.S.Service.Setting). RequestsStop (g.S.Service.protocol s) (stream_in c.turns.waiting.items (g.K.Link.state c.turns.link).traffic) (g.S.Service.state c.turns.desk) (stream_in c.take_turn.new.waiting.items (g.K.Link.state c.take_turn.new.link).traffic) (g.S.Service.state c.take_turn.new.desk)) c.turns.invariant.kept (c.take_turn.ensures.closed (c.in-Ok-false.is ∙ ap Ok c.in-Ok-false.field-0-test))))

pub returns-in-Err-Failed-clause-cut : goal.returns-in-Err-Failed-clause-cut
returns-in-Err-Failed-clause-cut g c = λ h.
    let p = g.S.Service.protocol (g.S.Service.setting c.args.desk.now) in
    cut p c.take_turn.new.waiting.items (g.S.Service.state c.args.desk.now) (g.S.Service.state c.take_turn.new.desk) (g.K.Link.state c.args.link.now).traffic (g.K.Link.state c.take_turn.new.link).traffic
    (fails_on p _ _ _ _ _ _ c.turns.invariant.stays
    (subst (λ (s : g.S.Service.Setting). ConnectionFails (g.S.Service.protocol s) (stream_in c.turns.waiting.items (g.K.Link.state c.turns.link).traffic) (g.S.Service.state c.turns.desk) (stream_in c.take_turn.new.waiting.items (g.K.Link.state c.take_turn.new.link).traffic) (g.S.Service.state c.take_turn.new.desk)) c.turns.invariant.kept (c.take_turn.ensures.cut (c.in-Err-Failed.is ∙ ap Err c.in-Err-Failed.field-0-is))))

pub returns-in-Err-Memory-clause-lacking : goal.returns-in-Err-Memory-clause-lacking
returns-in-Err-Memory-clause-lacking g c = λ h.
    let p = g.S.Service.protocol (g.S.Service.setting c.args.desk.now) in
    lacking p c.take_turn.new.waiting.items (g.S.Service.state c.args.desk.now) (g.S.Service.state c.take_turn.new.desk) (g.K.Link.state c.args.link.now).traffic (g.K.Link.state c.take_turn.new.link).traffic
    (lingers_on p _ _ _ _ _ _ c.turns.invariant.stays
    (subst (λ (s : g.S.Service.Setting). Lingers (g.S.Service.protocol s) (stream_in c.turns.waiting.items (g.K.Link.state c.turns.link).traffic) (g.S.Service.state c.turns.desk) (stream_in c.take_turn.new.waiting.items (g.K.Link.state c.take_turn.new.link).traffic) (g.S.Service.state c.take_turn.new.desk)) c.turns.invariant.kept (c.take_turn.ensures.lacking (c.in-Err-Memory.is ∙ ap Err c.in-Err-Memory.field-0-is))))

pub returns-clause-lacking : goal.returns-clause-lacking
returns-clause-lacking g c = λ h.
    full (g.S.Service.protocol (g.S.Service.setting c.args.desk.now)) c.turns.waiting.items (g.S.Service.state c.args.desk.now) (g.S.Service.state c.turns.desk)
    (g.met.S.Service.same (g.S.Service.setting c.args.desk.now)) (g.K.Link.state c.args.link.now).traffic (g.K.Link.state c.turns.link).traffic c.turns.invariant.stays
