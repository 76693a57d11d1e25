use Rattle.std.proofs.Common.{◌≡◌, ℕ, None, slice_index_or, inl, inr, rules, ap, sym, subst, ◌∙◌, arith}
use Rattle.std.proofs.lemmas.Bool.{cases_lt}
use Rattle.std.proofs.lemmas.List.{get_or_default}
use Rattle.image_slices.specs.Ahead.{HasSlice}
use Rattle.image_slices.specs.declared.ahead.Ahead.{Ahead}
use Rattle.image_slices.proofs.ahead.slice_among.Goals as goal

pub returns-in-Some-clause-has : goal.returns-in-Some-clause-has
returns-in-Some-clause-has c = (c.ahead-item.result, (c.loop-ahead.ahead-index, c.loop-ahead-test.true, sym c.ahead-item.is), c.in-Some.ensures.has)

pub loop-ahead-preserved : goal.loop-ahead-preserved
loop-ahead-preserved c = λ k d less b has.
    let n = c.loop-ahead.ahead-index in
    let a = c.ahead-item.result in
    let none : c.slice.result ≡ None = search rules in
    elim (cases_lt k n) [
      | inl before ↦ c.loop-ahead.invariant k d before b has
      | inr past ↦
          let last : k ≡ n = omega (arith, less, past) in
          let here : slice_index_or c.args.rooms.now k d ≡ a = ap (λ (j : ℕ). slice_index_or c.args.rooms.now j d) last ∙ get_or_default c.args.rooms.now n d a c.loop-ahead-test.true ∙ sym c.ahead-item.is in
          c.slice.ensures.absent none b (subst (λ (r : Ahead). HasSlice c.args.index.now r c.args.i b) here has)
    ]

pub returns-clause-absent : goal.returns-clause-absent
returns-clause-absent c = λ none k d less. c.loop-ahead.invariant k d (omega (arith, less, c.loop-ahead-test.false))
