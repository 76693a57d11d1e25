use Rattle.std.proofs.Common.{Ok, sym, ap, ◌∙◌}
use Rattle.http_frames.proofs.SizeLines.{size_told, none_yet, none_ever}
use Rattle.http_frames.proofs.progress.size_of.Goals as goal

pub returns-in-Ok-Complete : goal.returns-in-Ok-Complete
returns-in-Ok-Complete c =
    sym (size_told c.args.line.now c.parse_chunk_size.result _ _ c.parse_chunk_size.ensures.complete (c.in-Ok-Complete.is ∙ ap Ok c.in-Ok-Complete.field-0-is))

pub returns-in-Ok-Partial : goal.returns-in-Ok-Partial
returns-in-Ok-Partial c = sym (none_yet c.args.line.now c.parse_chunk_size.result c.parse_chunk_size.ensures.partial (c.in-Ok-Partial.is ∙ ap Ok c.in-Ok-Partial.field-0-is))

pub returns-in-Err : goal.returns-in-Err
returns-in-Err c = sym (none_ever c.args.line.now c.parse_chunk_size.result _ c.parse_chunk_size.ensures.invalid c.in-Err.is)
