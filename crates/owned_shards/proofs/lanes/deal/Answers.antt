use Rattle.std.proofs.Common.{◌≡◌, ◌≤◌, [], All, subst, length, reverse, vec_capacity, vec_len, ap, sym, arith}
use Rattle.std.proofs.lemmas.List.{length_push}
use Rattle.std.proofs.lemmas.List.Elements.{All-push}
use Rattle.owned_shards.proofs.Dealt.{all_before, dealt_more, last_so, sum_without}
use Rattle.owned_shards.specs.Shares.{IsUndealt}
use Rattle.owned_shards.specs.declared.lanes.Lane.{Lane}
use Rattle.owned_shards.proofs.lanes.deal.Goals as goal

pub take-requires-clause-none : goal.take-requires-clause-none
take-requires-clause-none g c = last_so (λ a. IsUndealt a.share) c.loop-lane.idle.items c.pop.new.self.items c.in-Some.lane c.in-Some.ensures.items c.loop-lane.invariant.idle

pub take-requires-clause-some : goal.take-requires-clause-some
take-requires-clause-some g c = omega (arith, sum_without (λ a. a.share.count) c.loop-lane.idle.items c.pop.new.self.items c.in-Some.lane c.in-Some.ensures.items, c.loop-lane.invariant.all)

pub loop-lane-preserved : goal.loop-lane-preserved
loop-lane-preserved g c =
    let inv = c.loop-lane.invariant in
    let lane : Lane g.row.P.Denot g.row.R.Denot = c.in-Some.lane in
    let dealt : Lane g.row.P.Denot g.row.R.Denot = record { share = c.take.new.self; buffer = lane.buffer } in
    let left = c.pop.new.self.items in
    let all = c.in-Some.ensures.items in
    let push = c.put_back.ensures.items in
    record {
      unread = dealt_more (λ (a : Lane g.row.P.Denot g.row.R.Denot). a.share.unread.items) c.loop-lane.lanes.items c.put_back.new.values.items dealt c.loop-lane.unread.items c.take.new.unread.items
          (reverse c.args.unread.items) push c.take.ensures.items inv.unread;
      idle = all_before (λ a. IsUndealt a.share) c.loop-lane.idle.items left lane all inv.idle;
      all = omega (arith, sum_without (λ a. a.share.count) c.loop-lane.idle.items left lane all, c.take.ensures.size, inv.all);
      none = subst (λ xs. All (λ a. a.share.shards.items ≡ []) xs) (sym push) (All-push (λ a. a.share.shards.items ≡ []) c.loop-lane.lanes.items dealt inv.none c.take.ensures.none);
      room = subst (λ xs. All (λ a. vec_len a.share.unread ≤ vec_capacity a.share.shards) xs) (sym push) (All-push (λ a. vec_len a.share.unread ≤ vec_capacity a.share.shards) c.loop-lane.lanes.items dealt inv.room c.take.ensures.room);
      size = omega (arith, c.put_back.ensures.size, ap length all, length_push left lane, inv.size);
      back = omega (arith, c.put_back.ensures.kept, inv.back);
    }
