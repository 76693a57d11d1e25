use Rattle.std.proofs.Common.{arith, ap, ◌∙◌}
use Rattle.std.proofs.lemmas.Result.{err_from_is_err_and}
use Rattle.caibx_codec.proofs.Views.{fed_more, stops_in}
use Rattle.caibx_codec.proofs.reading.feed_front.Goals as goal

pub returns-in_err-feed_from-clause-first : goal.returns-in_err-feed_from-clause-first
returns-in_err-feed_from-clause-first g c =
    let p = err_from_is_err_and c.from_residual.result c.from_residual.ensures.1 in
    rw (p.1, p.2) (stops_in _ _ c.loop-at.reader c.loop-at.at _ _ (ap (λ h. h.bytes) c.loop-at.invariant.kept) c.loop-at.invariant.fed c.in_err-feed_from.ensures.first)

pub loop-at-preserved : goal.loop-at-preserved
loop-at-preserved g c = record {
  fed = fed_more _ _ c.loop-at.reader c.feed_from.new.reader c.loop-at.at c.min-len.result _ (ap (λ h. h.bytes) c.loop-at.invariant.kept) c.split_at_mut-piece.ensures.front_len c.loop-at.invariant.fed c.in_ok-feed_from.ensures.ok;
  fresh = c.in_ok-feed_from.ensures.fresh;
  size = c.in_ok-feed_from.ensures.size;
  kept = c.feed_from.ensures.kept ∙ c.loop-at.invariant.kept;
  faults = c.in_ok-feed_from.ensures.faults.done ∙ c.loop-at.invariant.faults;
  inside = omega (arith, c.min-len.ensures);
}
