use Rattle.std.proofs.Common.{◌++◌, ap, ◌∙◌}
use Rattle.std.specs.Option.{option_map}
use Rattle.dsy_base.specs.Links.{sends}
use Rattle.http_read.proofs.Streams.{sent_front, sent_kept, sent_two, whole_front}
use Rattle.http_read.proofs.exchange.put_on.Goals as goal

pub returns-in_err-send-2-clause-sent : goal.returns-in_err-send-2-clause-sent
returns-in_err-send-2-clause-sent g c =
    let first = c.in_ok-send.ensures.ok ∙ ap (λ a. option_map (sends a) (g.K.Link.state c.args.link.now).traffic) c.as_bytes.ensures.value in
    sent_front c.args.ask.now c.args.b.now _ _ _ c.requires.fresh.sent first c.send-2.ensures.sends

pub returns-clause-sent : goal.returns-clause-sent
returns-clause-sent g c =
    let first = c.in_ok-send.ensures.ok ∙ ap (λ a. option_map (sends a) (g.K.Link.state c.args.link.now).traffic) c.as_bytes.ensures.value in
    whole_front (c.args.ask.now ++ c.args.b.now) _ (sent_kept _ _ (c.args.ask.now ++ c.args.b.now) c.taken_in.ensures.kept
    (sent_two c.args.ask.now c.args.b.now _ _ _ c.requires.fresh.sent first c.in_ok-send-2.ensures.ok))
