use Rattle.std.proofs.Common.{◌≡◌, ◌+◌, ◌≤◌, ◌++◌, All, map, reverse, vec_len, vec_capacity}
use Rattle.cache_fill.specs.FillProgress.{RiseByOne, IsHired}
use Rattle.cache_fill.proofs.hiring.hire.Given as goal

-- the chains before these have readers
abbrev pub invariant-loop-chain : goal.invariant-loop-chain
invariant-loop-chain g l = record {
  chains : l.chains.items ++ reverse (map (λ r. r.chain) l.readers.items) ≡ reverse l.fn.chains.items;
  hired : All (IsHired l.index l.owners) l.readers.items;
  numbered : RiseByOne 1 l.readers.items;
  count : vec_len l.chains + vec_len l.readers ≡ vec_len l.fn.chains;
  room : vec_len l.fn.chains ≤ vec_capacity l.readers;
  back : vec_capacity l.chains ≡ vec_capacity l.fn.chains;
}

abbrev pub decreases-loop-chain : goal.decreases-loop-chain
decreases-loop-chain g l = vec_len l.chains
