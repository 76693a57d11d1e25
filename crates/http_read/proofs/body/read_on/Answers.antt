use Rattle.std.proofs.Common.{Ok, refl, ap, ◌∙◌}
use Rattle.http_read.proofs.Bodies.{all_fit, fits, over, unended, whole_body}
use Rattle.http_read.proofs.Streams.{receives_more, receives_nothing}
use Rattle.http_read.proofs.body.read_on.Goals as goal

pub pieces-init : goal.pieces-init
pieces-init g c = record {
  inside = c.requires.inside;
  some = c.requires.fed;
  fed = λ k head fed. fed;
  kept = receives_nothing _;
  faults = refl;
}

pub pieces-smaller : goal.pieces-smaller
pieces-smaller g c =
    let some = c.pieces.invariant.some in
    c.in-Ok-true.ensures.less (ap Ok c.in-Ok-true.field-0-test) some.0 some.1 some.2
    (unended c.pieces.reader c.done.result c.done.ensures.value c.pieces-test.true)

pub pieces-preserved : goal.pieces-preserved
pieces-preserved g c =
    let some = c.pieces.invariant.some in
    record {
      inside = c.feed_next.ensures.inside;
      some = (some.0, some.1, c.in-Ok-true.ensures.fed some.0 some.1 some.2);
      fed = λ k head fed. c.in-Ok-true.ensures.fed k head (c.pieces.invariant.fed k head fed);
      kept = receives_more _ _ _ c.pieces.invariant.kept c.feed_next.ensures.kept;
      faults = c.in-Ok-true.ensures.faults ∙ c.pieces.invariant.faults;
    }

pub returns-in-Ok-false-clause-size : goal.returns-in-Ok-false-clause-size
returns-in-Ok-false-clause-size g c =
    let some = c.pieces.invariant.some in
    all_fit some.0 some.1 _ _ c.feed_next.new.out c.ended.result (c.in-Ok-false.ensures.fed some.0 some.1 some.2) c.ended.ensures.size

pub returns-clause-size : goal.returns-clause-size
returns-clause-size g c =
    let some = c.pieces.invariant.some in
    fits some.0 some.1 _ _ c.pieces.out c.filled.result some.2 c.filled.ensures.value

pub returns-clause-ok : goal.returns-clause-ok
returns-clause-ok g c = λ k head fed.
    whole_body k head _ c.pieces.reader c.pieces.out c.filled.result (c.pieces.invariant.fed k head fed)
    (over c.pieces.reader c.done.result c.done.ensures.value c.done.ensures.refused c.pieces-test.false) c.filled.ensures.value
