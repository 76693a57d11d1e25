use Rattle.std.proofs.Common.{◌<◌, ◌≤◌, List, rules, of_calls, nat_lt, slice_index_or, sym, subst, arith}
use Rattle.std.proofs.lemmas.Bool.{lt-ltb, ltb-true, ltb-false}
use Rattle.std.proofs.lemmas.Fn.{always_returns_same}
use Rattle.image_slices.proofs.Places.{above_before}
use Rattle.image_slices.specs.Ahead.{EntriesFall}
use Rattle.image_slices.specs.declared.ahead.Piece.{Piece}
use Rattle.image_slices.proofs.ahead.Ahead.place_of.Goals as goal

pub returns-clause-above : goal.returns-clause-above
returns-clause-above c = λ k d less.
    let i = c.args.i in
    let falls = subst EntriesFall (sym c.as_slice.ensures.value) c.requires in
    let point = c.partition_point.ensures.partitioned (λ p. nat_lt i p.entry) (always_returns_same _ _ _ (λ a r f k. search (rules, of_calls)))
    (λ j k d le inside yes. lt-ltb i _ (above_before c.as_slice.result.now i j k d falls le inside (ltb-true i _ yes))) in
    subst (λ (ps : List Piece). i < (slice_index_or ps k d).entry) c.as_slice.ensures.value (ltb-true i _ (point.0 k d (omega arith) less))

pub returns-clause-others : goal.returns-clause-others
returns-clause-others c = λ k d le less.
    let i = c.args.i in
    let falls = subst EntriesFall (sym c.as_slice.ensures.value) c.requires in
    let point = c.partition_point.ensures.partitioned (λ p. nat_lt i p.entry) (always_returns_same _ _ _ (λ a r f k. search (rules, of_calls)))
    (λ j k d le inside yes. lt-ltb i _ (above_before c.as_slice.result.now i j k d falls le inside (ltb-true i _ yes))) in
    subst (λ (ps : List Piece). (slice_index_or ps k d).entry ≤ i) c.as_slice.ensures.value (ltb-false i _ (point.1 k d le (omega (arith, less, c.as_slice.ensures.len))))
