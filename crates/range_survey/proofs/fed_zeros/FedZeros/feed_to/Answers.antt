use Rattle.std.proofs.Common.{◌≡◌, ℕ, ◌+◌, ◌-◌, ◌≤◌, List, ◌++◌, length, take, replicate, ap, subst, ◌∙◌, arith}
use Rattle.std.proofs.lemmas.List.{take-replicate, replicate-append-replicate}
use Rattle.range_survey.specs.Hashers.{HoldsBytes}
use Rattle.range_survey.specs.Zeros.{ZerosFed}
use Rattle.range_survey.proofs.fed_zeros.FedZeros.feed_to.Goals as goal

pub invariant_of-self : goal.invariant_of-self
invariant_of-self c =
    let fed = c.self.inside.fed in
    let size = c.args.size in
    let more = size - fed in
    let rises : fed ≤ size = omega (arith, c.requires.inside, ap (λ (v : ZerosFed). v.count) c.self.view_is) in
    let part : c.split_at.result.0.now ≡ replicate more 0 =
    c.split_at.ensures.front ∙ ap (take more) c.requires.zeros ∙ take-replicate more (length c.args.zeros.now) 0 (omega (arith, c.requires.room)) in
    let sum : fed + more ≡ size = omega arith in
    let whole : replicate fed 0 ++ replicate more 0 ≡ replicate size 0 = replicate-append-replicate fed more 0 ∙ ap (λ k. replicate k 0) sum in
    let P : List ℕ → Type 0 = λ x. HoldsBytes c.self.inside.kind c.feed.new.self x in
    subst P whole (subst (λ (x : List ℕ). P (replicate fed 0 ++ x)) part (c.feed.ensures.bytes (replicate fed 0) c.self.invariant))
