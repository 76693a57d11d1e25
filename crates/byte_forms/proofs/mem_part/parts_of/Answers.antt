use Rattle.std.proofs.Common.{length}
use Rattle.dsy_base.proofs.Splits.{cuts_step, cuts_below}
use Rattle.byte_forms.proofs.mem_part.parts_of.Goals as goal

pub slice_bounds-from_slice-end : goal.slice_bounds-from_slice-end
slice_bounds-from_slice-end g c =
    let h = cuts_step c.args.cuts.now c.loop-cut.cut-index c.loop-cut.from (length c.args.bytes.now) c.loop-cut-test.true c.loop-cut.invariant.1 in
    cuts_below _ _ _ h.1
