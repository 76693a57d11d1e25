use Rattle.std.proofs.Common.{◌≡◌, ◌<◌, ◌≤◌, length, get_or, sym, ap, ◌∙◌, arith}
use Rattle.std.specs.Ordering.{is_lt, is_some_and}
use Rattle.std.proofs.lemmas.List.{get_or_default}
use Rattle.extract_plan.specs.Keys.{key_cmp}
use Rattle.extract_plan.specs.contracts.keyed.ChunkKeyOrd.TheImpl.Laws.{matches_partial_cmp-law}
use Rattle.extract_plan.specs.declared.keyed.Keyed.{Keyed}
use Rattle.extract_plan.proofs.KeyOrder.{below_more, nothing}
use Rattle.extract_plan.proofs.keyed.place_of.Goals as goal
use Rattle.extract_plan.proofs.keyed.place_of.Goals.{then-steps-lt-GUESSES, else-steps-lt-GUESSES}

pub loop-rest-preserved-then-lt : goal.loop-rest-preserved-then-lt
loop-rest-preserved-then-lt c =
    let xs = c.args.sorted.now in
    let key = c.args.key.now in
    let m = c.if-steps-lt-GUESSES.place in
    let high : m < c.loop-rest.rest.high = elim c.if-steps-lt-GUESSES.branch [
      | then-steps-lt-GUESSES w ↦ omega (arith, w.guess-place.ensures.to, w.place-is)
      | else-steps-lt-GUESSES w ↦ omega (arith, w.middle-place.ensures.to, w.place-is)
    ] in
    let inside : m < length xs = omega (arith, c.loop-rest.invariant.inside) in
    let tested : c.lt.result ≡ is_lt (key_cmp (get_or xs m nothing).key key) =
    c.lt.ensures ∙ ap (is_some_and is_lt) (matches_partial_cmp-law (get_or xs m nothing).key key) in
    record {
      ends = omega arith;
      inside = c.loop-rest.invariant.inside;
      below = below_more xs key m nothing c.requires inside (sym tested ∙ c.if-lt.true);
      above = c.loop-rest.invariant.above;
    }

pub loop-rest-preserved : goal.loop-rest-preserved
loop-rest-preserved c =
    let xs = c.args.sorted.now in
    let key = c.args.key.now in
    let m = c.if-steps-lt-GUESSES.place in
    let low : c.loop-rest.rest.low ≤ m = elim c.if-steps-lt-GUESSES.branch [
      | then-steps-lt-GUESSES w ↦ omega (arith, w.guess-place.ensures.from, w.place-is)
      | else-steps-lt-GUESSES w ↦ omega (arith, w.middle-place.ensures.from, w.place-is)
    ] in
    let high : m < c.loop-rest.rest.high = elim c.if-steps-lt-GUESSES.branch [
      | then-steps-lt-GUESSES w ↦ omega (arith, w.guess-place.ensures.to, w.place-is)
      | else-steps-lt-GUESSES w ↦ omega (arith, w.middle-place.ensures.to, w.place-is)
    ] in
    let inside : m < length xs = omega (arith, c.loop-rest.invariant.inside) in
    let tested : c.lt.result ≡ is_lt (key_cmp (get_or xs m nothing).key key) =
    c.lt.ensures ∙ ap (is_some_and is_lt) (matches_partial_cmp-law (get_or xs m nothing).key key) in
    record {
      ends = low;
      inside = omega arith;
      below = c.loop-rest.invariant.below;
      above = λ d a. ap (λ (x : Keyed). is_lt (key_cmp x.key key)) (get_or_default xs m d nothing inside) ∙ sym tested ∙ c.if-lt.false;
    }
