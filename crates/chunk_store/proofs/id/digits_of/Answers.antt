use Rattle.std.proofs.Common.{rules, arith}
use Rattle.chunk_store.proofs.Paths.{all_digits}
use Rattle.chunk_store.proofs.id.digits_of.Goals as goal

pub returns-clause-digits : goal.returns-clause-digits
returns-clause-digits c = let all = all_digits c.args.bytes.now (λ i. omega (arith, c.fits-bytes i)) in Prim.search (rules, all)
