use Rattle.std.proofs.Common.{refl, rules, ◌∙◌}
use Rattle.locked_shelf.specs.Endings.{EndsServing}
use Rattle.locked_shelf.proofs.Counting.{serving_more, serving_none, serving_still}
use Rattle.locked_shelf.proofs.serve_all.hear.Goals as goal

pub links-init : goal.links-init
links-init g c = record { heard = serving_none (EndsServing g.D.SharedShelf.digest g.D.SharedShelf.may g.M.Mode.writable g.L.Link.Link.tells) (g.L.Listen.state c.args.listen.now); unfailed = refl }

pub links-preserved : goal.links-preserved
links-preserved g c =
    let found = rw c.in-Ok-Some.field-0-is at c.in-Ok-Some.ensures.found in
    record {
      heard = serving_more (EndsServing g.D.SharedShelf.digest g.D.SharedShelf.may g.M.Mode.writable g.L.Link.Link.tells) (g.L.Listen.state c.args.listen.now) (g.L.Listen.state c.make_room.new.listen) (g.L.Listen.state c.accept.new.self) _ _ _ _ (c.make_room.ensures.ended.back _ c.links.invariant.heard)
          _ found c.accept.ensures.ended c.accept.ensures.faults.never_falls refl refl;
      unfailed = c.in-Ok-Some.ensures.faults.done ∙ c.make_room.ensures.ended.faults ∙ c.links.invariant.unfailed;
    }

pub returns-in-Err-Failed : goal.returns-in-Err-Failed
returns-in-Err-Failed g c =
    let heard = serving_still (EndsServing g.D.SharedShelf.digest g.D.SharedShelf.may g.M.Mode.writable g.L.Link.Link.tells) (g.L.Listen.state c.args.listen.now) (g.L.Listen.state c.make_room.new.listen) (g.L.Listen.state c.accept.new.self) _ _ _ _ (c.make_room.ensures.ended.back _ c.links.invariant.heard)
    c.in-Err-Failed.ensures.err c.accept.ensures.ended c.accept.ensures.faults.never_falls refl refl in
    search rules
