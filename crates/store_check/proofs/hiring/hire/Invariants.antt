use Rattle.std.proofs.Common.{◌≡◌, ◌+◌, ◌≤◌, ◌++◌, [], All, map, reverse, vec_len, vec_capacity}
use Rattle.store_check.proofs.hiring.hire.Given as goal

-- the looks before these have readers
abbrev pub invariant-loop-store : goal.invariant-loop-store
invariant-loop-store g l = record {
  looks : l.looks.items ++ reverse (map (λ r. r.store) l.readers.items) ≡ reverse l.fn.looks.items;
  kinds : All (λ r. r.kind ≡ l.fn.kind) l.readers.items;
  ids : All (λ r. r.ids.now ≡ l.ids) l.readers.items;
  empty : All (λ r. r.buf.items ≡ []) l.readers.items;
  count : vec_len l.looks + vec_len l.readers ≡ vec_len l.fn.looks;
  room : vec_len l.fn.looks ≤ vec_capacity l.readers;
  back : vec_capacity l.looks ≡ vec_capacity l.fn.looks;
}

abbrev pub decreases-loop-store : goal.decreases-loop-store
decreases-loop-store g l = vec_len l.looks
