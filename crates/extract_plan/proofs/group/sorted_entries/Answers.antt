use Rattle.std.proofs.Common.{◌≡◌, ◌<◌, ◌+◌, ◌++◌, ◌∷◌, [], List, arith, subst, sym}
use Rattle.caibx_codec.specs.Listing.{count_of}
use Rattle.extract_plan.specs.Keys.{IsKeyed}
use Rattle.extract_plan.specs.declared.keyed.Keyed.{Keyed}
use Rattle.extract_plan.proofs.Listed.{AreListed, keyed_are, listed_more}
use Rattle.extract_plan.proofs.group.sorted_entries.Goals as goal

pub loop-i-preserved : goal.loop-i-preserved
loop-i-preserved c =
    let l = c.args.index.now in
    let i = c.loop-i.i in
    let inside : i < count_of l = omega (arith, c.count-i-end.ensures, c.loop-i-test.true, c.loop-i.auto.i-end) in
    let is : IsKeyed l (λ i. i) i c.of.result = record {
      listed = inside;
      id_is = c.of.ensures.id;
      size_is = c.of.ensures.size;
      number = c.of.ensures.number;
    } in
    let items : c.push.new.self.items ≡ c.loop-i.entries.items ++ c.of.result ∷ [] = c.in_ok-push.ensures.items in
    subst (λ (x : List Keyed). AreListed l (λ i. i) (i + 1) x) (sym items) (listed_more l (λ i. i) i c.loop-i.entries.items c.of.result is c.loop-i.invariant)

pub returns : goal.returns
returns c =
    let l = c.args.index.now in
    let all : c.loop-i.i ≡ count_of l = omega (arith, c.count-i-end.ensures, c.loop-i-test.false, c.loop-i.auto.i-end) in
    keyed_are l (λ i. i) c.loop-i.i c.loop-i.entries.items c.sort_unstable.new.self.items all c.loop-i.invariant c.sort_unstable.ensures.permutation c.sort_unstable.ensures.sorted
