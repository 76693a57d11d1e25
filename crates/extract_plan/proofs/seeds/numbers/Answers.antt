use Rattle.std.proofs.Common.{◌≡◌, ◌<◌, ◌≤◌, ◌+◌, ◌∷◌, [], List, ◌++◌, arith, subst, slice_index, sym, ◌∙◌}
use Rattle.caibx_codec.specs.Listing.{count_of}
use Rattle.extract_plan.specs.Keys.{IsKeyed}
use Rattle.extract_plan.specs.declared.keyed.Keyed.{Keyed}
use Rattle.extract_plan.proofs.Listed.{AreListed, keyed_are, listed_more}
use Rattle.extract_plan.proofs.Numbering.{numbers_are, want_below}
use Rattle.extract_plan.proofs.seeds.numbers.Goals as goal

pub overflow_cast-want : goal.overflow_cast-want
overflow_cast-want c =
    let i = c.loop-i.i in
    let inside : i < count_of c.args.index.now = omega (arith, c.count-i-end.ensures, c.loop-i-test.true, c.loop-i.auto.i-end) in
    let low : slice_index c.args.plan.now.want_of i ≤ i = want_below c.args.index.now _ c.args.plan.now.want_of c.requires.plan i inside in
    omega (arith, c.want_of-want.ensures, c.rules.ensures.few)

pub loop-i-preserved : goal.loop-i-preserved
loop-i-preserved c =
    let l = c.args.index.now in
    let i = c.loop-i.i in
    let f = slice_index c.args.plan.now.want_of in
    let inside : i < count_of l = omega (arith, c.count-i-end.ensures, c.loop-i-test.true, c.loop-i.auto.i-end) in
    let is : IsKeyed l f i c.of.result = record {
      listed = inside;
      id_is = c.of.ensures.id;
      size_is = c.of.ensures.size;
      number = c.of.ensures.number ∙ c.want_of-want.ensures;
    } in
    let items : c.push.new.self.items ≡ c.loop-i.numbers.items ++ c.of.result ∷ [] = c.in_ok-push.ensures.items in
    subst (λ (x : List Keyed). AreListed l f (i + 1) x) (sym items) (listed_more l f i c.loop-i.numbers.items c.of.result is c.loop-i.invariant)

pub returns-clause-value : goal.returns-clause-value
returns-clause-value c =
    let l = c.args.index.now in
    let want_of = c.args.plan.now.want_of in
    let all : c.loop-i.i ≡ count_of l = omega (arith, c.count-i-end.ensures, c.loop-i-test.false, c.loop-i.auto.i-end) in
    let keyed = keyed_are l (slice_index want_of) c.loop-i.i c.loop-i.numbers.items c.sort_unstable.new.self.items all c.loop-i.invariant
    c.sort_unstable.ensures.permutation c.sort_unstable.ensures.sorted in
    numbers_are l c.args.plan.now.wants want_of c.sort_unstable.new.self.items c.requires.plan keyed
