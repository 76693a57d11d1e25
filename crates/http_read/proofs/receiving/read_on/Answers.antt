use Rattle.http_read.proofs.Streams.{receives_same, received_behind}
use Rattle.http_read.proofs.receiving.read_on.Goals as goal

pub returns-in-Ok-clause-bytes : goal.returns-in-Ok-clause-bytes
returns-in-Ok-clause-bytes g c =
    received_behind c.args.filled c.in-Ok.n c.args.buffer.now c.split_at_mut-rest.result.0.now c.read.new.out
    (g.K.Link.state c.args.link.now).traffic (g.K.Link.state c.read.new.self).traffic c.split_at_mut-rest.ensures.front_len
    c.split_at_mut-rest.ensures.front c.in-Ok.ensures.bytes c.requires.bytes

pub returns-in-Err-clause-kept : goal.returns-in-Err-clause-kept
returns-in-Err-clause-kept g c = receives_same _ _ c.in-Err.ensures.err
