use Rattle.std.proofs.Common.{◌≡◌, length}
use Rattle.cache_fill.specs.Fetching.{MarksLacking}
use Rattle.cache_fill.specs.FillProgress.{shelf_at}
use Rattle.cache_store.specs.Shelves.{KeepsShelf, held_on}
use Rattle.cache_fill.proofs.lacking.list_lacking.Given as goal

-- the cache was only looked at, and the marks so far are of what it lacks
abbrev pub invariant-loop-i : goal.invariant-loop-i
invariant-loop-i g l = record {
  kept : KeepsShelf (shelf_at g.F.Look g.S.Store l.fn.cached) (shelf_at g.F.Look g.S.Store l.cached);
  chain : l.cached.chain ≡ l.fn.cached.chain;
  only : MarksLacking l.index (held_on (shelf_at g.F.Look g.S.Store l.fn.cached)) l.lacking.items;
  count : length l.lacking.items ≡ l.i;
}
