use Rattle.std.proofs.Common.{refl, sym, ◌∙◌, arith}
use Rattle.index_server.proofs.Answered.{put_refused}
use Rattle.index_server.proofs.state.IndexState.put.Goals as goal

pub returns-else-is_index-clause-ok : goal.returns-else-is_index-clause-ok
returns-else-is_index-clause-ok g c =
    put_refused _ _ c.args.name.now c.args.body.now _ (sym c.is_index.ensures.value ∙ c.if-is_index.false) c.bare.ensures refl (omega arith)
