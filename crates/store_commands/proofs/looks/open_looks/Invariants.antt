use Rattle.std.proofs.Common.{◌+◌, ◌≤◌, [], ◌∷◌, max, vec_len, All, IsSome}
use Rattle.command_steps.specs.Stores.{IsStoreAt}
use Rattle.command_steps.specs.Uses.{Uses}
use Rattle.command_worlds.specs.Worlds.{Reads}
use Rattle.store_commands.proofs.looks.open_looks.Given as goal

abbrev pub invariant-loop-opened : goal.invariant-loop-opened
invariant-loop-opened g l =
    let L = g.F.Look.Look in
    let at = g.F.Files.disk in
    record {
      few : vec_len l.looks + 1 ≤ l._opened;
      counted : l._opened ≤ max 1 l.fn.workers;
      found : All (IsStoreAt L.files L.place L.faults (at l.fn.files).folders l.fn.store) l.looks.items;
      known : All (λ s. IsSome ((at l.files).folder_counts (L.place s))) l.looks.items;
      reads : Reads (at l.fn.files) (at l.files);
      used : Uses [] (l.fn.store ∷ []) (at l.fn.files) (at l.files);
    }
