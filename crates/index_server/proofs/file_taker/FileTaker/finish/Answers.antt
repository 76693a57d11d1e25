use Rattle.std.proofs.Common.{Err}
use Rattle.caibx_codec.specs.Answers.{FindsIndex}
use Rattle.index_server.proofs.ReadIndex.{fault_read, fed_badly, fed_first}
use Rattle.index_server.specs.Finding.{ReadsAsIndex}
use Rattle.index_server.proofs.file_taker.FileTaker.finish.Goals as goal

pub returns-in-Some-clause-exactly : goal.returns-in-Some-clause-exactly
returns-in-Some-clause-exactly c = λ b read.
    fault_read (FindsIndex b (Err c.in-Some.fault)) c.args.self.fault c.args.self.reader b c.in-Some.fault c.in-Some.is
    (fed_badly c.fault_stays.ensures.only b c.in-Some.fault) read

pub returns-in-Some-clause-first : goal.returns-in-Some-clause-first
returns-in-Some-clause-first c = λ b read.
    fault_read (ReadsAsIndex b (Err c.in-Some.fault)) c.args.self.fault c.args.self.reader b c.in-Some.fault c.in-Some.is
    (fed_first b c.in-Some.fault) read
