use Rattle.std.proofs.Common.{◌≡◌, ◌||◌, ℕ, List, take}
use Rattle.std.specs.Set.{is_member}
use Rattle.std.specs.Str.{bytes_eq}
use Rattle.verify_tool.specs.Pruning.{has_id}
use Rattle.verify_tool.specs.Texts.{ids_of}
use Rattle.verify_tool.proofs.prune.add_ids.Given as goal

-- the ids before entry i are in the set
abbrev pub invariant-loop-i : goal.invariant-loop-i
invariant-loop-i l = (q : List ℕ) → has_id l.keep q ≡ (has_id l.fn.keep q || is_member bytes_eq (take l.i (ids_of l.index)) q)
