use Rattle.std.proofs.Common.{◌≡◌, ◌<◌, ℕ, List, [], length, get_or, arith, sym, ap, true, cond, is_eq, nat_cmp, ◌∙◌}
use Rattle.std.proofs.lemmas.List.{length-map, get_or-map}
use Rattle.std.specs.Cmp.Lexicographic.{slice_cmp}
use Rattle.verify_tool.specs.Pruning.{has_id}
use Rattle.verify_tool.specs.Texts.{ids_of}
use Rattle.verify_tool.proofs.Kept.{added_more}
use Rattle.verify_tool.proofs.Pruned.{member_of}
use Rattle.verify_tool.proofs.prune.add_ids.Goals as goal

pub loop-i-preserved : goal.loop-i-preserved
loop-i-preserved c =
    let ids : List (List ℕ) = ids_of c.args.index.now in
    let i = c.loop-i.i in
    let same : length ids ≡ length c.args.index.now.entries = length-map _ _ in
    let inside : i < length ids = omega (arith, same, c.loop-i-test.true, c.count-i-end.ensures) in
    let named : c.id.result.0 ≡ get_or ids i [] = c.id.ensures ∙ sym (get_or-map _ c.args.index.now.entries i (0, []) [] (omega (arith, inside, same))) in
    λ q. added_more ids i c.id.result.0 inside named q (has_id c.args.keep.now q) (has_id c.loop-i.keep q) (has_id c.insert.new.self q) (c.loop-i.invariant q)
    (sym (member_of c.insert.new.self.keys q) ∙ c.in_ok-insert.ensures.updates.0 (record { 0 = q }) ∙ ap (λ h. cond (is_eq (slice_cmp nat_cmp c.id.result.0 q)) true h) (member_of c.loop-i.keep.keys q))
