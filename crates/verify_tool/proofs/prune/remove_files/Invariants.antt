use Rattle.std.proofs.Common.{◌≡◌, take}
use Rattle.std.specs.Option.{option_map}
use Rattle.verify_tool.specs.Pruning.{without}
use Rattle.verify_tool.proofs.prune.remove_files.Given as goal

-- the names so far are gone
abbrev pub invariant-loop-name : goal.invariant-loop-name
invariant-loop-name g l =
    let F = g.F.Look in
    record {
      gone : F.files l.store ≡ option_map (without (take l.name-index l.names)) (F.files l.fn.store);
      place : F.place l.store ≡ F.place l.fn.store;
      faults : F.faults l.store ≡ F.faults l.fn.store;
    }
