use Rattle.std.proofs.Common.{Bool, arith, subst, sym}
use Rattle.dsy_base.specs.Links.{ReadsNext}
use Rattle.http_read.proofs.Streams.{receives_same, wire_weaker}
use Rattle.http_read.proofs.body.feed_next.Goals as goal

pub returns-in-Err-clause-kept : goal.returns-in-Err-clause-kept
returns-in-Err-clause-kept g c = receives_same _ _ c.in-Err.ensures.err

pub returns-in-Err-feed-clause-first : goal.returns-in-Err-feed-clause-first
returns-in-Err-feed-clause-first g c =
    let next = subst (λ b. ReadsNext b (g.K.Link.state c.args.link.now).traffic (g.K.Link.state c.read.new.self).traffic)
    (sym c.split_at.ensures.front) c.in-Ok.ensures.bytes in
    wire_weaker (Unit {0}) Bool _ _ c.in-Err-feed.unread (λ f first k head fed. first k head _ _ fed next) c.in-Err-feed.ensures.first

pub returns-in-Ok-feed-clause-less : goal.returns-in-Ok-feed-clause-less
returns-in-Ok-feed-clause-less g c = λ is k head fed unended.
    c.in-Ok-feed.ensures.less k head _ fed (omega (arith, c.split_at.ensures.front_len)) unended
