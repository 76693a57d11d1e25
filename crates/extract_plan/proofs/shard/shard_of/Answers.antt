use Rattle.std.proofs.Common.{refl}
use Rattle.extract_plan.proofs.Shards.{IsIn, shard_is}
use Rattle.extract_plan.proofs.shard.shard_of.Goals as goal

pub returns : goal.returns
returns c =
    let h : IsIn c.args.n c.args.shards c.args.entry _ = shard_is c.args.n c.args.shards c.args.entry _ c.requires.some c.requires.inside refl in
    record { from = h.from; to = h.to; inside = h.is }
