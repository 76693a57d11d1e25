use Rattle.std.proofs.Common.{◌≡◌, ℕ, ◌-◌, List, length, reverse, slice_range, sym, ap, ◌∙◌, arith}
use Rattle.std.proofs.lemmas.List.{reverse-reverse, take_all}
use Rattle.httparse.specs.Grammar.{skip_ows, trim_ows}
use Rattle.httparse.proofs.TrimLemmas.{skip_ows_yes, skip_ows_no, slice_first, slice_last, slice_empty}
use Rattle.http_wire.proofs.words.trimmed.Goals.{then-loop-start-test+else-is_blank, else-loop-start-test, then-loop-end-test+else-is_blank-2, else-loop-end-test}
use Rattle.http_wire.proofs.words.trimmed.Goals as goal

whole : (w : List ℕ) → w ≡ slice_range w 0 (length w)
whole w =
    let n : length w - 0 ≡ length w = omega arith in
    rw n (sym (take_all (length w) w (omega arith)))

pub loop-start-init : goal.loop-start-init
loop-start-init c = record {
  ordered = omega arith;
  rest = ap skip_ows (whole c.args.word.now);
}

pub loop-start-preserved : goal.loop-start-preserved
loop-start-preserved c = record {
  ordered = omega arith;
  rest = c.loop-start.invariant.rest ∙ skip_ows_yes (slice_first _ _ _ c.loop-start-test.true (omega arith)) c.if-is_blank.ensures;
}

pub loop-end-init : goal.loop-end-init
unfolding trim_ows
loop-end-init c =
    let here = slice_range c.args.word.now c.loop-start.start (length c.args.word.now) in
    let stays : skip_ows here ≡ here =
    elim c.loop-start-test.branch [
      | then-loop-start-test+else-is_blank w ↦
          let first = slice_first _ _ _ w.loop-start-test.true (omega arith) in
          skip_ows_no first w.if-is_blank.ensures
      | else-loop-start-test w ↦
          let empty = slice_empty c.args.word.now c.loop-start.start (length c.args.word.now) (omega arith) (omega arith) in
          ap skip_ows empty ∙ sym empty
    ] in record {
      ordered = omega arith;
      inside = omega arith;
      rest = ap (λ (t : List ℕ). reverse (skip_ows (reverse t))) (c.loop-start.invariant.rest ∙ stays);
    }

pub loop-end-preserved : goal.loop-end-preserved
loop-end-preserved c =
    let last = slice_last c.args.word.now _ _ c.loop-end-test.true (omega arith) in record {
      ordered = omega arith;
      inside = omega arith;
      rest = c.loop-end.invariant.rest ∙ ap reverse (skip_ows_yes last c.if-is_blank-2.ensures);
    }

pub returns : goal.returns
returns c =
    let here = slice_range c.args.word.now c.loop-start.start c.loop-end.end in
    let stays : skip_ows (reverse here) ≡ reverse here =
    elim c.loop-end-test.branch [
      | then-loop-end-test+else-is_blank-2 w ↦
          let last = slice_last c.args.word.now _ _ w.loop-end-test.true (omega arith) in
          skip_ows_no last w.if-is_blank-2.ensures
      | else-loop-end-test w ↦
          let empty = slice_empty c.args.word.now c.loop-start.start c.loop-end.end (omega arith) (omega arith) in
          ap (λ (t : List ℕ). skip_ows (reverse t)) empty ∙ sym (ap reverse empty)
    ] in
    sym (c.loop-end.invariant.rest ∙ ap reverse stays ∙ reverse-reverse here)
