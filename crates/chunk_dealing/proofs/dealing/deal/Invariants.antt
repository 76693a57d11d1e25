use Rattle.std.proofs.Common.{◌≡◌, ℕ, ◌<◌, length, true, false, slice_index_or}
use Rattle.chunk_dealing.specs.Dealing.{owner_of}
use Rattle.chunk_dealing.proofs.dealing.deal.Given as goal

-- the entries so far have owners, and only marked ones
abbrev pub invariant-loop-i : goal.invariant-loop-i
invariant-loop-i l = record {
  only : (j : ℕ) → 0 < owner_of l.owners.items j → slice_index_or l.marks j false ≡ true;
  count : length l.owners.items ≡ l.i;
}
