use Rattle.std.proofs.Common.{◌≡◌, ℕ, List, take}
use Rattle.verify_tool.specs.Pruning.{has_id, is_listed_in}
use Rattle.verify_tool.proofs.prune.listed_ids.Given as goal

-- the ids of the indexes so far are in the set
abbrev pub invariant-loop-index : goal.invariant-loop-index
invariant-loop-index l = (q : List ℕ) → has_id l.keep q ≡ is_listed_in (take l.index-index l.indexes) q
