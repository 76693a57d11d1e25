use Rattle.std.proofs.Common.{◌≡◌, ◌+◌, take}
use Rattle.chunk_ends.specs.Cuts.{window_of, NoneCloses}
use Rattle.chunk_ends.specs.Window.{window_hash}
use Rattle.chunk_ends.proofs.rolling.first_closing.Given as goal

-- the hash is that of the window that ends at i, and no window up to there closes
abbrev pub invariant-loop-i : goal.invariant-loop-i
invariant-loop-i l = record {
  hash : l.hash ≡ window_hash (window_of (take l.i l.bytes));
  none : NoneCloses l.closing l.bytes l.from (l.i + 1);
}
