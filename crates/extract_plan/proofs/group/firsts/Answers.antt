use Rattle.std.proofs.Common.{◌≡◌, ◌<◌, ◌-◌, Some, List, length, get_or, slice_index, slice_set, sym, ap, ◌∙◌, subst, arith, rules}
use Rattle.std.proofs.lemmas.Grind.{common_steps}
use Rattle.std.proofs.lemmas.List.{get_or_default, length-set}
use Rattle.caibx_codec.specs.Listing.{count_of}
use Rattle.extract_plan.specs.Keys.{number_of, number_with}
use Rattle.extract_plan.specs.declared.keyed.ChunkKey.{ChunkKey}
use Rattle.extract_plan.specs.declared.keyed.Keyed.{Keyed}
use Rattle.extract_plan.proofs.Firsts.{firsts_are, marked_more, number_below}
use Rattle.extract_plan.proofs.group.firsts.Goals as goal
use Rattle.extract_plan.proofs.group.firsts.Goals.{then-begins, else-begins}

pub index-requires-else-begins-2 : goal.index-requires-else-begins-2
index-requires-else-begins-2 c =
    let xs = c.in_ok-entries.entries.items in
    let x = c.index-else-begins.result.now in
    let k = c.loop-k.k in
    let inside : k < length xs = first_of (search rules, omega arith) in
    let below = number_below c.args.index.now xs c.in_ok-entries.ensures (k - 1) x (omega arith) in
    let is : x.number ≡ (get_or xs (k - 1) x).number = ap (λ (y : Keyed). y.number) c.index-else-begins.ensures in
    let size : length c.loop-k.firsts.items ≡ count_of c.args.index.now = c.loop-k.invariant.size in
    first_of (search rules, omega arith)

pub index_mut-requires : goal.index_mut-requires
index_mut-requires c =
    let xs = c.in_ok-entries.entries.items in
    let x = c.index.result.now in
    let k = c.loop-k.k in
    let inside : k < length xs = first_of (search rules, omega arith) in
    let below = number_below c.args.index.now xs c.in_ok-entries.ensures k x inside in
    let is : x.number ≡ (get_or xs k x).number = ap (λ (y : Keyed). y.number) c.index.ensures in
    let size : length c.loop-k.firsts.items ≡ count_of c.args.index.now = c.loop-k.invariant.size in
    first_of (search rules, omega arith)

pub loop-k-preserved : goal.loop-k-preserved
loop-k-preserved c =
    let l = c.args.index.now in
    let xs = c.in_ok-entries.entries.items in
    let x = c.index.result.now in
    let k = c.loop-k.k in
    let firsts = c.loop-k.firsts.items in
    let first = c.if-begins.first in
    let inside : k < length xs = first_of (search rules, omega arith) in
    let is : x ≡ get_or xs k x = c.index.ensures in
    let size : length firsts ≡ count_of l = c.loop-k.invariant.size in
    let ys_is : c.deref.result.now ≡ xs = first_of (search rules, grind (arith, common_steps)) in
    let here : number_with xs (get_or xs k x) ≡ Some first = elim c.if-begins.branch [
      | then-begins w ↦
          let new : number_with xs (get_or xs k x) ≡ Some (get_or xs k x).number =
          subst (λ (ys : List Keyed). number_with ys (get_or ys k x) ≡ Some (get_or ys k x).number) ys_is (c.begins.ensures.first w.if-begins.true x) in
          new ∙ ap (λ n. Some n) (ap (λ (y : Keyed). y.number) (sym is) ∙ sym w.first-is)
      | else-begins w ↦
          let told = c.begins.ensures.again w.if-begins.false in
          let some : 0 < k = told.0 in
          let same : (get_or xs k x).key ≡ (get_or xs (k - 1) x).key = subst (λ (ys : List Keyed). (get_or ys k x).key ≡ (get_or ys (k - 1) x).key) ys_is (told.1 x) in
          let z = w.index-else-begins.result.now in
          let before : z ≡ get_or xs (k - 1) x = w.index-else-begins.ensures ∙ get_or_default xs (k - 1) z x (omega arith) in
          let below : (get_or xs (k - 1) x).number < count_of l = number_below l xs c.in_ok-entries.ensures (k - 1) x (omega arith) in
          let room : z.number < length firsts = omega (arith, ap (λ (y : Keyed). y.number) before) in
          let was : first ≡ slice_index firsts z.number =
          w.first-is ∙ w.index-else-begins-2.ensures ∙ get_or_default firsts z.number w.index-else-begins-2.result.now 0 room in
          ap (λ (q : ChunkKey). number_of xs q.id.0 q.size) same ∙ c.loop-k.invariant.marked (k - 1) x (omega arith)
          ∙ ap (λ (y : Keyed). Some (slice_index firsts y.number)) (sym before) ∙ ap (λ n. Some n) (sym was)
    ] in
    let more = marked_more l xs c.in_ok-entries.ensures firsts k first x inside size c.loop-k.invariant.marked here in
    record {
      size = length-set firsts x.number first ∙ size;
      marked = λ j d a.
          subst (λ (y : Keyed). number_with xs (get_or xs j d) ≡ Some (slice_index (slice_set firsts y.number first) (get_or xs j d).number)) (sym is)
          (more j d a);
    }

pub returns : goal.returns
returns c = firsts_are c.args.index.now c.in_ok-entries.entries.items c.in_ok-entries.ensures c.loop-k.firsts.items
    (λ k d inside. c.loop-k.invariant.marked k d (omega (arith, c.loop-k-test.false))) c.loop-k.invariant.size
