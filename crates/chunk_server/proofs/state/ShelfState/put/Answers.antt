use Rattle.std.proofs.Common.{rules, ◌≤◌, ap, subst}
use Rattle.dir_store.specs.Puts.{PutsAtPath}
use Rattle.chunk_server.proofs.Stepped.{put_goes}
use Rattle.chunk_server.proofs.state.ShelfState.put.Goals as goal
use Rattle.chunk_server.proofs.state.ShelfState.put.Goals.{in-Ok, in-Err-Failed, in-Err-Memory}

pub returns-clause-ok : goal.returns-clause-ok
returns-clause-ok g c =
    let folder = ap (λ s. s.folder) c.self.view_is in
    elim c.match-write.branch [
      | in-Ok w ↦
          rw w.result-is
          (put_goes c.args.self.now.kind _ _ c.args.id.now c.args.body.now _ c.requires.named w.bare.ensures
          (subst (λ f. PutsAtPath c.args.id.now.0 c.args.body.now (g.F.Look.files f) (g.F.Look.files c.write.new.self)) folder w.in-Ok.ensures.ok)
          (subst (λ f. g.F.Look.faults f ≤ g.F.Look.faults c.write.new.self) folder w.in-Ok.ensures.faults.never_falls))
      | in-Err-Failed w ↦ search rules
      | in-Err-Memory w ↦ search rules
    ]
