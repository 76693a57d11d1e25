use Rattle.std.proofs.Common.{◌≡◌, drop, take}
use Rattle.std.specs.List.{AllByRecursion}
use Rattle.chunk_store.specs.Digests.{IsId}
use Rattle.caibx_codec.specs.Judge.{entry_fault}
use Rattle.caibx_codec.specs.Seen.{pairs}
use Rattle.caibx_codec.proofs.index.fault_in.Given as goal

-- the fault is that of the entries that are left
abbrev pub invariant-loop-entry : goal.invariant-loop-entry
invariant-loop-entry l = record {
  rest : entry_fault l.max 0 0 (pairs l.entries) ≡ entry_fault l.max l.k l.start (pairs (drop l.entry-index l.entries));
  ids : AllByRecursion (λ e. IsId e.1) (pairs (take l.entry-index l.entries));
  number : l.k ≡ l.entry-index;
}
