use Rattle.std.proofs.Common.{◌≡◌, ◌-◌, ◌/◌, ◌≤◌, ℕ, All, subst, ap, sym, ◌∙◌, arith}
use Rattle.std.proofs.Math.Nat.{div-le_self, div-one}
use Rattle.std.proofs.lemmas.List.Elements.{All-push}
use Rattle.owned_shards.proofs.Dealt.{sum_without}
use Rattle.owned_shards.specs.Shares.{IsUndealt}
use Rattle.owned_shards.specs.declared.lanes.Lane.{Lane}
use Rattle.owned_shards.proofs.lanes.idle_lanes.Goals as goal

pub loop-alloc-preserved : goal.loop-alloc-preserved
loop-alloc-preserved g c =
    let inv = c.loop-alloc.invariant in
    let lane : Lane g.row.P.Denot g.row.R.Denot = record { share = c.in_ok-new.field-0; buffer = c.new-in-loop-alloc.result } in
    let left : ℕ = c.loop-alloc.left in
    let others : ℕ = c.args.workers - c.len-in-loop-alloc.result in
    let push = c.put_back.ensures.items in
    let most : left / others ≤ left = div-le_self left others in
    record {
      none = subst (λ xs. All (λ a. IsUndealt a.share) xs) (sym push) (All-push (λ a. IsUndealt a.share) c.loop-alloc.lanes.items lane inv.none c.in_ok-new.ensures.none);
      size = omega (arith, c.put_back.ensures.size, c.loop-alloc-test.true, c.len.ensures);
      room = omega (arith, c.put_back.ensures.kept, inv.room);
      all = omega (arith, sum_without (λ a. a.share.count) c.put_back.new.values.items c.loop-alloc.lanes.items lane push, c.in_ok-new.ensures.count, most, inv.all);
      last = λ full.
          let one : others ≡ 1 = omega (arith, full, c.put_back.ensures.size, c.len-in-loop-alloc.ensures) in
          let whole : left / others ≡ left = ap (λ n. left / n) one ∙ div-one left in
          omega (arith, whole);
    }
