use Rattle.std.proofs.Common.{ap, ◌≡◌, ◌+◌, take, true, false, ◌∙◌, arith}
use Rattle.chunk_ends.proofs.Places.{rolled_at, closing_is, none_more, first_window, none_first}
use Rattle.chunk_ends.specs.Cuts.{window_of, is_closing}
use Rattle.chunk_ends.specs.Window.{window_hash}
use Rattle.chunk_ends.proofs.rolling.first_closing.Goals as goal

pub returns-then-closes-2 : goal.returns-then-closes-2
returns-then-closes-2 c =
    let hash : c.rolled-hash.result ≡ window_hash (window_of (take (c.loop-i.i + 1) c.args.bytes.now)) =
    c.rolled-hash.ensures.value ∙ rolled_at c.args.bytes.now c.loop-i.i (omega arith) (omega arith) c.loop-i.hash c.loop-i.invariant.hash in
    let closing : is_closing c.args.closing.now (take (c.loop-i.i + 1) c.args.bytes.now) ≡ true =
    closing_is c.args.closing.now (take (c.loop-i.i + 1) c.args.bytes.now) c.rolled-hash.result true hash c.if-closes-2.ensures.value in
    record { first = record { begun = omega arith; inside = omega arith; closing = closing; none = c.loop-i.invariant.none } }

pub loop-i-preserved : goal.loop-i-preserved
loop-i-preserved c =
    let hash : c.rolled-hash.result ≡ window_hash (window_of (take (c.loop-i.i + 1) c.args.bytes.now)) =
    c.rolled-hash.ensures.value ∙ rolled_at c.args.bytes.now c.loop-i.i (omega arith) (omega arith) c.loop-i.hash c.loop-i.invariant.hash in
    let open_still : is_closing c.args.closing.now (take (c.loop-i.i + 1) c.args.bytes.now) ≡ false =
    closing_is c.args.closing.now (take (c.loop-i.i + 1) c.args.bytes.now) c.rolled-hash.result false hash c.if-closes-2.ensures.value in
    record { hash = hash; none = none_more c.args.closing.now c.args.bytes.now c.args.from c.loop-i.i c.loop-i.invariant.none open_still }

-- the first window
pub loop-i-init : goal.loop-i-init
loop-i-init c =
    let hash : c.window_hash-hash.result ≡ window_hash (window_of (take c.args.from c.args.bytes.now)) =
    c.window_hash-hash.ensures.value ∙ ap window_hash (c.copy_from_slice.ensures.after ∙ first_window c.args.bytes.now c.args.from (omega arith) (omega arith)) in
    record {
      hash = hash;
      none = none_first c.args.closing.now c.args.bytes.now c.args.from
          (closing_is c.args.closing.now (take c.args.from c.args.bytes.now) c.window_hash-hash.result false hash c.if-closes.ensures.value);
    }
