use Rattle.std.proofs.Common.{◌≡◌, ◌+◌, ◌≤◌, max, vec_capacity, vec_len, [], All}
use Rattle.command_groups.specs.Chains.{IsChainOpened}
use Rattle.command_groups.specs.Groups.{stores_of}
use Rattle.command_steps.specs.Uses.{Uses, folders_among}
use Rattle.command_worlds.specs.Worlds.{Reads}
use Rattle.command_groups.proofs.chains.open_chains.Given as goal

abbrev pub invariant-loop-opened : goal.invariant-loop-opened
invariant-loop-opened g l =
    let at = g.F.Files.disk in
    record {
      opened : All (IsChainOpened g.F.Look.Look g.D.Dial.state (at l.fn.files) (at l.files) l.fn.groups l.fn.retries) l.chains.items;
      kinds : All (λ c. c.kind ≡ l.fn.kind) l.chains.items;
      few : vec_len l.chains + 1 ≤ l._opened;
      counted : l._opened ≤ max 1 l.fn.workers;
      room : l.fn.workers ≤ vec_capacity l.chains;
      reads : Reads (at l.fn.files) (at l.files);
      used : Uses [] (folders_among (stores_of l.fn.groups)) (at l.fn.files) (at l.files);
    }
