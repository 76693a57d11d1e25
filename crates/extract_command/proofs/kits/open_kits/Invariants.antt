use Rattle.std.proofs.Common.{◌≡◌, ◌+◌, ◌≤◌, All, map, vec_capacity, vec_len}
use Rattle.command_groups.specs.Groups.{stores_of}
use Rattle.command_steps.specs.Seeds.{image_name}
use Rattle.command_steps.specs.Uses.{Uses, folders_among}
use Rattle.command_worlds.specs.Worlds.{Reads}
use Rattle.extract_command.specs.Kits.{AreOpened}
use Rattle.extract_command.proofs.kits.open_kits.Given as goal

abbrev pub invariant-loop-opened : goal.invariant-loop-opened
invariant-loop-opened g l = record {
  opened : AreOpened g.F.Look.Look g.F.View.View g.D.Dial.state (g.F.Files.disk l.fn.files) (g.F.Files.disk l.files) l.fn.stores (map image_name l.fn.seeds) l.kits.items;
  kinds : All (λ k. k.chain.kind ≡ l.fn.kind) l.kits.items;
  few : vec_len l.kits + 1 ≤ l._opened;
  counted : l._opened ≤ l.fn.workers;
  room : l.fn.workers ≤ vec_capacity l.kits;
  reads : Reads (g.F.Files.disk l.fn.files) (g.F.Files.disk l.files);
  used : Uses (map image_name l.fn.seeds) (folders_among (stores_of l.fn.stores.groups)) (g.F.Files.disk l.fn.files) (g.F.Files.disk l.files);
}
