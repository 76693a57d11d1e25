use Rattle.std.proofs.Common.{◌≡◌, ◌<◌, ◌≤◌, ◌+◌, ◌∷◌, [], ◌++◌, ℕ, List, slice_index, sym, subst, arith, rules}
use Rattle.std.proofs.lemmas.Grind.{common_steps}
use Rattle.caibx_codec.specs.Listing.{count_of}
use Rattle.extract_plan.specs.Deal.{AreAlike}
use Rattle.extract_plan.specs.Keys.{AreFirsts}
use Rattle.extract_plan.proofs.Grouped.{Grouped, IsAgain, IsNew, grouped_again, grouped_new, wants_are}
use Rattle.extract_plan.proofs.group.group.Goals as goal
use Rattle.extract_plan.proofs.group.group.Goals.{then-first-i, else-first-i, then-first-i-2, else-first-i-2}

pub loop-i-preserved : goal.loop-i-preserved
loop-i-preserved c =
    let l = c.args.index.now in
    let i = c.loop-i.i in
    let firsts = c.in_ok-firsts.firsts.items in
    let are : AreFirsts l firsts = c.in_ok-firsts.ensures in
    let want_of = c.loop-i.want_of.items in
    let want = c.if-first-i.want in
    let count = c.loop-i.count in
    let first = c.index.result.now in
    let inside : i < count_of l = omega (arith, c.count-i-end.ensures, c.loop-i-test.true, c.loop-i.auto.i-end) in
    let is : slice_index firsts i ≡ first = first_of (search rules, grind (arith, common_steps)) in
    let low : first ≤ i = omega (arith, are.low i inside) in
    let items : c.push.new.self.items ≡ want_of ++ want ∷ [] = c.in_ok-push.ensures.items in
    subst (λ (x : List ℕ). Grouped l (i + 1) x c.if-first-i-2.count) (sym items)
    (elim c.if-first-i-2.branch [
      | then-first-i-2 w ↦
          let next : want ≡ count = elim c.if-first-i.branch [
            | then-first-i v ↦ absurd (omega (arith, v.if-first-i.true, w.if-first-i-2.true))
            | else-first-i v ↦ v.want-is
          ] in
          let fresh : IsNew l i count want = (next, λ r a alike. absurd (omega (arith, are.low r (omega arith), are.same r i (omega arith) inside alike, w.if-first-i-2.true))) in
          subst (Grouped l (i + 1) (want_of ++ want ∷ [])) (sym w.count-is) (grouped_new l i want_of count want c.loop-i.invariant fresh)
      | else-first-i-2 w ↦
          let below : first < i = omega (arith, w.if-first-i-2.false) in
          let had : slice_index want_of first ≡ want = elim c.if-first-i.branch [
            | then-first-i v ↦ first_of (search rules, grind (arith, common_steps))
            | else-first-i v ↦ absurd (omega (arith, v.if-first-i.false))
          ] in
          let alike : AreAlike l first i = subst (λ (n : ℕ). AreAlike l n i) is (are.alike i inside) in
          let again : IsAgain l i want_of want = (first, below, had, alike) in
          subst (Grouped l (i + 1) (want_of ++ want ∷ [])) (sym w.count-is) (grouped_again l i want_of count want c.loop-i.invariant again)
    ])

pub returns : goal.returns
returns c =
    wants_are c.args.index.now c.loop-i.i c.loop-i.want_of.items c.loop-i.count
    (omega (arith, c.count-i-end.ensures, c.loop-i-test.false, c.loop-i.auto.i-end)) c.loop-i.invariant
