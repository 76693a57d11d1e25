use Rattle.std.proofs.Common.{Some, None, ◌∙◌}
use Rattle.chunk_server.proofs.Stepped.{found_in, none_by, ok_more, read_goes}
use Rattle.chunk_server.proofs.chunk_file.ChunkFile.reply.Goals as goal

pub returns-in-Ok-Some-clause-ok : goal.returns-in-Ok-Some-clause-ok
returns-in-Ok-Some-clause-ok c =
    let found = rw c.in-Ok-Some.field-0-is at c.in-Ok-Some.ensures.found in
    ok_more c.reply.result (λ r is. λ old new body reads.
    read_goes c.args.kind old new c.args.id.now body _ c.args.method (Some c.in-Ok-Some.chunk.now) (found_in c.args.id.now.0 old.files found reads.bytes) is reads.kept reads.faults.never_falls) c.reply.ensures.ok

pub returns-in-Ok-None-clause-ok : goal.returns-in-Ok-None-clause-ok
returns-in-Ok-None-clause-ok c = λ old new body reads.
    let found = rw c.in-Ok-None.field-0-is at c.in-Ok-None.ensures.found in
    read_goes c.args.kind old new c.args.id.now body _ c.args.method None (found_in c.args.id.now.0 old.files found reads.bytes) (c.bare.ensures ∙ none_by c.args.method) reads.kept reads.faults.never_falls
