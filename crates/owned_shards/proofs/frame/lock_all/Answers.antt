use Rattle.std.proofs.Common.{◌≡◌, ◌++◌, ◌∷◌, [], length, ap, arith}
use Rattle.std.proofs.lemmas.List.{length_push}
use Rattle.std.proofs.lemmas.List.Sums.{sum_by_push}
use Rattle.owned_shards.specs.Wholes.{joined_faults}
use Rattle.range_ledger.specs.Runs.{Seen}
use Rattle.owned_shards.proofs.frame.lock_all.Goals as goal

pub loop-shard-preserved : goal.loop-shard-preserved
loop-shard-preserved g c =
    let inv = c.loop-shard.invariant in
    let left = c.pop.new.self.items in
    let shard : Seen = c.in-Some.shard in
    let all : c.loop-shard.shards.items ≡ left ++ shard ∷ [] = c.in-Some.ensures.items in (
      omega (arith, c.put_back.ensures.size, ap length all, length_push left shard, inv.0),
      omega (arith, c.put_back.ensures.kept, inv.1),
      omega (arith, c.in-Some.ensures.capacity, inv.2),
      λ never. omega (arith, inv.3 never, ap joined_faults all, sum_by_push (λ (s : Seen). s.faults) left shard, c.rules.ensures.sure never),
    )
