use Rattle.std.proofs.Common.{◌≡◌, ◌<◌, List, ℕ, [], length, get_or, arith, sym, ◌∙◌}
use Rattle.std.proofs.lemmas.List.{length-map, get_or-map}
use Rattle.verify_tool.specs.Texts.{ids_of}
use Rattle.verify_tool.proofs.Counted.{turn_counts, turn_holds}
use Rattle.verify_tool.proofs.info.unique_ids.Goals as goal

pub loop-i-preserved : goal.loop-i-preserved
loop-i-preserved c =
    let ids : List (List ℕ) = ids_of c.args.index.now in
    let i = c.loop-i.i in
    let same : length ids ≡ length c.args.index.now.entries = length-map _ _ in
    let inside : i < length ids = omega (arith, same, c.count-i-end.ensures) in
    let named : c.id.result.0 ≡ get_or ids i [] = c.id.ensures ∙ sym (get_or-map _ c.args.index.now.entries i (0, []) [] (omega (arith, inside, same))) in
    record {
      size = turn_counts ids i c.id.result.0 inside named _ _ (c.loop-i.invariant.holds c.id.result.0) c.in_ok-insert.ensures.added _ _ c.loop-i.invariant.size c.in_ok-insert.ensures.len;
      holds = λ q. turn_holds ids i c.id.result.0 inside named q _ _ (c.loop-i.invariant.holds q) (c.in_ok-insert.ensures.updates.0 q);
    }
