use Rattle.std.proofs.Common.{rules, ◌≡◌, ◌≤◌, ap, subst}
use Rattle.std.specs.Option.{option_map}
use Rattle.dsy_base.specs.Folders.{put_in}
use Rattle.index_server.proofs.Answered.{put_goes}
use Rattle.index_server.proofs.state.IndexState.write.Goals as goal
use Rattle.index_server.proofs.state.IndexState.write.Goals.{in-Ok, in-Err-Failed, in-Err-Memory}

pub returns-clause-ok : goal.returns-clause-ok
returns-clause-ok g c =
    let folder = ap (λ s. s.folder) c.self.view_is in
    elim c.match-put.branch [
      | in-Ok w ↦
          rw w.result-is
          (put_goes _ _ c.args.name.now c.args.body.now _ c.requires.fits w.bare.ensures
          (subst (λ f. g.F.Look.files c.put.new.self ≡ option_map (λ m. put_in m c.args.name.now c.args.body.now) (g.F.Look.files f)) folder w.in-Ok.ensures.ok)
          (subst (λ f. g.F.Look.faults f ≤ g.F.Look.faults c.put.new.self) folder w.in-Ok.ensures.faults.never_falls))
      | in-Err-Failed w ↦ search rules
      | in-Err-Memory w ↦ search rules
    ]
