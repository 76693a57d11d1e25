use Rattle.std.proofs.Common.{arith, refl, ◌∙◌}
use Rattle.std.proofs.lemmas.Result.{err_from_is_err_and}
use Rattle.caibx_codec.proofs.Written.{no_block, blocks_put, blocks_part, stops_with}
use Rattle.caibx_codec.proofs.writing.put_items.Goals as goal

pub loop-at-init : goal.loop-at-init
loop-at-init g c = record { taken = no_block c.args.entries.now _; faults = refl; inside = omega arith }

pub returns-in_err-put_block-clause-bytes : goal.returns-in_err-put_block-clause-bytes
returns-in_err-put_block-clause-bytes g c =
    let p = err_from_is_err_and c.from_residual.result c.from_residual.ensures.1 in
    stops_with c.from_residual.result p.0 _ _ _ p.1 (blocks_part c.args.entries.now c.loop-at.at _ (omega arith) _ _ _ c.loop-at.invariant.taken c.in_err-put_block.ensures.bytes)

pub loop-at-preserved : goal.loop-at-preserved
loop-at-preserved g c = record {
  taken = blocks_put c.args.entries.now c.loop-at.at _ (omega arith) _ _ _ c.loop-at.invariant.taken c.in_ok-put_block.ensures.bytes;
  faults = c.in_ok-put_block.ensures.faults.done ∙ c.loop-at.invariant.faults;
  inside = omega (arith, c.min.ensures);
}
