use Rattle.std.proofs.Common.{◌≡◌, ◌+◌, ◌≤◌, ◌++◌, map, reverse, vec_len, vec_capacity}
use Rattle.cache_fill.proofs.hiring.dismiss.Given as goal

-- the chains of the readers after these are taken back
abbrev pub invariant-loop-reader : goal.invariant-loop-reader
invariant-loop-reader g l = record {
  chains : l.chains.items ++ reverse (map (λ r. r.chain) l.readers.items) ≡ reverse (map (λ r. r.chain) l.fn.readers.items);
  room : vec_len l.chains + vec_len l.readers ≤ vec_capacity l.chains;
}

abbrev pub decreases-loop-reader : goal.decreases-loop-reader
decreases-loop-reader g l = goal.left-loop-reader g l
