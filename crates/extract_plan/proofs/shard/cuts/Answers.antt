use Rattle.std.proofs.Common.{◌≡◌, ◌+◌, ◌-◌, ◌∷◌, [], ℕ, arith, ap, ◌∙◌, length, length-append}
use Rattle.caibx_codec.specs.Listing.{count_of}
use Rattle.extract_plan.specs.Deal.{shard_start}
use Rattle.extract_plan.proofs.Cut.{ends_more}
use Rattle.extract_plan.proofs.shard.cuts.Goals as goal

pub loop-k-preserved : goal.loop-k-preserved
loop-k-preserved c =
    let l = c.args.index.now in
    let x = c.start-next.result in
    let items = c.in_ok-push.ensures.items in
    let is : x ≡ shard_start (count_of l) c.args.shards (c.loop-k.k + 1) = c.start-next.ensures.value ∙ ap (λ (n : ℕ). shard_start n c.args.shards (c.loop-k.k + 1)) c.count-n.ensures in
    record {
      size = ap length items ∙ length-append c.loop-k.cuts.items (c.end.result ∷ []) ∙ ap (λ (n : ℕ). n + 1) c.loop-k.invariant.size;
      ends = ends_more l c.args.shards c.loop-k.k x c.end.result c.loop-k.cuts.items c.push.new.self.items c.loop-k.invariant.size c.loop-k.invariant.ends
          is (c.start-next.ensures.above (omega arith)) c.end.ensures (c.rules.ensures.next (x - 1)) items;
    }
