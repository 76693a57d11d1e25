use Rattle.std.proofs.Common.{Ok, sym, ap, ◌∙◌, arith}
use Rattle.http_frames.proofs.Runs.{reads_none}
use Rattle.http_frames.proofs.reader.BodyReader.new.Goals as goal

pub returns-clause-none : goal.returns-clause-none
returns-clause-none c out = record {
  inside = omega (arith, c.new.ensures.size);
  reads = reads_none _ _ ∙ ap Ok (sym (c.new.ensures.value out));
}
