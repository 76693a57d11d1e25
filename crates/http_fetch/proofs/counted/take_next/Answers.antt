use Rattle.std.proofs.Common.{sym, subst, arith}
use Rattle.dsy_base.specs.Links.{ReadsNext}
use Rattle.http_read.proofs.Streams.{receives_same}
use Rattle.http_fetch.proofs.Takes.{piece_taken}
use Rattle.http_fetch.proofs.counted.take_next.Goals as goal

pub returns-in-Err-clause-kept : goal.returns-in-Err-clause-kept
returns-in-Err-clause-kept g c = receives_same _ _ c.in-Err.ensures.err

pub returns-in-Ok-clause-ok : goal.returns-in-Ok-clause-ok
returns-in-Ok-clause-ok g c = λ head size left few front.
    let next = subst (λ b. ReadsNext b (g.K.Link.state c.args.link.now).traffic (g.K.Link.state c.read.new.self).traffic)
    (sym c.split_at.ensures.front) c.in-Ok.ensures.bytes in
    piece_taken (g.T.Taker.has_taken c.args.taker.now) (g.T.Taker.has_taken c.take.new.self) _ c.take.ensures.taken c.in-Ok.n
    c.split_at.ensures.front_len (omega arith) (g.K.Link.state c.args.link.now).traffic (g.K.Link.state c.read.new.self).traffic next
    head size left (omega (arith, few, c.in-Ok.ensures.size, c.read.auto.out)) front
