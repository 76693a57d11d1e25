use Rattle.std.proofs.Common.{max, arith}
use Rattle.chunk_ends.proofs.Seams.{ends_in_seam, ends_in_piece, ends_full, ends_nowhere}
use Rattle.chunk_ends.proofs.seam.end_in.Goals as goal

pub returns-in-Some-clause-end : goal.returns-in-Some-clause-end
returns-in-Some-clause-end c = λ chunk size seam.
    ends_in_seam c.args.sizes.now c.args.closing.now chunk c.args.piece.now c.args.seam.now c.min-kept.result c.max-from.result c.min-to.result c.min-2.result (max c.max-from.result 48) c.rules.ensures.known c.requires.test (omega arith) seam (omega arith) (omega arith) (omega arith) (omega arith) (omega arith) c.in-Some.n c.in-Some.ensures.first

pub returns-in-Some-first_closing-clause-end : goal.returns-in-Some-first_closing-clause-end
returns-in-Some-first_closing-clause-end c = λ chunk size seam.
    ends_in_piece c.args.sizes.now c.args.closing.now chunk c.args.piece.now c.args.seam.now c.min-kept.result c.max-from.result c.min-to.result c.min-2.result c.max-2.result c.rules.ensures.known c.requires.test (omega arith) seam (omega arith) (omega arith) (omega arith) (omega arith) (omega arith) c.in_default.ensures.first c.in-Some-first_closing.n c.in-Some-first_closing.ensures.first

pub returns-then-to-room-clause-end : goal.returns-then-to-room-clause-end
returns-then-to-room-clause-end c = λ chunk size seam.
    ends_full c.args.sizes.now c.args.closing.now chunk c.args.piece.now c.args.seam.now c.min-kept.result c.max-from.result c.min-to.result c.min-2.result c.max-2.result c.rules.ensures.known c.requires.test (omega arith) seam (omega arith) (omega arith) (omega arith) (omega arith) (omega arith) c.in_default.ensures.first c.in_default-first_closing.ensures.first (omega arith)

pub returns-else-to-room-clause-end : goal.returns-else-to-room-clause-end
returns-else-to-room-clause-end c = λ chunk size seam.
    ends_nowhere c.args.sizes.now c.args.closing.now chunk c.args.piece.now c.args.seam.now c.min-kept.result c.max-from.result c.min-to.result c.min-2.result c.max-2.result c.rules.ensures.known c.requires.test (omega arith) seam (omega arith) (omega arith) (omega arith) (omega arith) (omega arith) c.in_default.ensures.first c.in_default-first_closing.ensures.first (omega arith)
