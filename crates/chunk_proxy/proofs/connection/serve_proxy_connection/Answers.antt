use Rattle.std.proofs.Common.{arith}
use Rattle.chunk_proxy.proofs.Exact.{closes_so}
use Rattle.chunk_proxy.proofs.connection.serve_proxy_connection.Goals as goal

pub returns-clause-exactly : goal.returns-clause-exactly
returns-clause-exactly g c = λ is. closes_so _ _ _ _ _ _ (record { same = omega arith; below = omega arith }) (c.serve_connection.ensures.ok is)
