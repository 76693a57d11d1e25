use Rattle.std.proofs.Common.{◌∙◌}
use Rattle.http_serve.proofs.Streaming.{moves_on}
use Rattle.http_serve.proofs.receiving.receive_body.Goals as goal

pub pieces-preserved : goal.pieces-preserved
pieces-preserved g c = record {
  size = c.receive_more.ensures.size;
  room = c.receive_more.ensures.room;
  moves = moves_on _ _ _ _ _ _ c.pieces.invariant.moves c.in-Ok-true.ensures.ok;
  kept = c.receive_more.ensures.kept ∙ c.pieces.invariant.kept;
  given = c.receive_more.ensures.given ∙ c.pieces.invariant.given;
  faults = c.in-Ok-true.ensures.faults.done ∙ c.pieces.invariant.faults;
}
