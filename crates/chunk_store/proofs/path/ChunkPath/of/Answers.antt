use Rattle.std.proofs.Common.{subst, arith}
use Rattle.std.specs.Str.{IsAscii}
use Rattle.std.proofs.lemmas.Grind.{common_steps}
use Rattle.chunk_store.proofs.Paths.{path_ascii}
use Rattle.chunk_store.proofs.path.ChunkPath.of.Goals as goal

pub invariant_of-result : goal.invariant_of-result
invariant_of-result c = subst IsAscii (grind (arith, common_steps)) (path_ascii c.args.digits.now c.requires)
