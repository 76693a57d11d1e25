use Rattle.std.proofs.Common.{refl}
use Rattle.extract_plan.proofs.Shards.{start_inside, start_above}
use Rattle.extract_plan.proofs.shard.start.Goals as goal

pub returns : goal.returns
returns c = record {
  value = refl;
  above = λ some. start_above c.args.n c.args.shards c.args.k c.requires.some c.requires.full some;
  inside = start_inside c.args.n c.args.shards c.args.k c.requires.inside;
}
