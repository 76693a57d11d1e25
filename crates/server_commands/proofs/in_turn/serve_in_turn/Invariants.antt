use Rattle.std.proofs.Common.{◌≡◌, ◌≤◌}
use Rattle.server_commands.specs.Serving.{Listens}
use Rattle.server_commands.proofs.in_turn.serve_in_turn.Given as goal

-- connections were served, and no call on the listener has failed
abbrev pub invariant-links : goal.invariant-links
invariant-links g l = record {
  kept : g.S.Service.setting l.desk ≡ g.S.Service.setting l.fn.desk;
  changed : g.S.Service.leaves l.fn.desk l.desk;
  faults : (g.L.Listen.state l.fn.listen).faults ≤ (g.L.Listen.state l.listen).faults;
  unfailed : (g.L.Listen.state l.listen).faults ≡ (g.L.Listen.state l.fn.listen).faults;
  listens : Listens (g.S.Service.protocol (g.S.Service.setting l.fn.desk)) (g.L.Listen.state l.fn.listen) (g.L.Listen.state l.listen) (g.S.Service.state l.fn.desk) (g.S.Service.state l.desk);
}
