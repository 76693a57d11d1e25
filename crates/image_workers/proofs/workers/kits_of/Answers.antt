use Rattle.std.proofs.Common.{◌≡◌, ◌++◌, ◌∷◌, [], IsSome, Some, length, map, sym, ap, arith}
use Rattle.std.proofs.lemmas.List.{length_push}
use Rattle.image_workers.proofs.Moving.{all_before, last_so, moved}
use Rattle.image_workers.specs.Lanes.{kit_of, known_of}
use Rattle.image_workers.specs.declared.lanes.Lane.{Lane}
use Rattle.image_workers.proofs.workers.kits_of.Goals as goal

pub tools_from-kit-requires : goal.tools_from-kit-requires
tools_from-kit-requires g c = record { there = last_so (λ a. IsSome (kit_of a)) c.loop-lane.lanes.items c.pop.new.self.items c.in-Some.lane c.in-Some.ensures.items c.loop-lane.invariant.2 }

pub loop-lane-preserved : goal.loop-lane-preserved
loop-lane-preserved g c =
    let inv = c.loop-lane.invariant in
    let lane : Lane g.row.S.Denot g.row.V.Denot = c.in-Some.lane in
    let all : c.loop-lane.lanes.items ≡ c.pop.new.self.items ++ lane ∷ [] = c.in-Some.ensures.items in (
      moved kit_of (λ k. Some k) c.loop-lane.lanes.items c.pop.new.self.items lane c.loop-lane.kits.items c.put_back.new.values.items c.tools_from-kit.result.kit (map kit_of c.args.lanes.items)
          all c.put_back.ensures.items (sym c.tools_from-kit.ensures.kit) inv.0,
      omega (arith, c.put_back.ensures.kept, c.put_back.ensures.size, ap length all, length_push c.pop.new.self.items lane, inv.1),
      all_before (λ a. IsSome (kit_of a)) c.loop-lane.lanes.items c.pop.new.self.items lane all inv.2,
      omega (arith, c.put_back.ensures.kept, inv.3),
      moved known_of (λ v. Some v.items) c.loop-lane.lanes.items c.pop.new.self.items lane c.loop-lane.lists.items c.put_back-in-Some.new.values.items c.tools_from-kit.result.known (map known_of c.args.lanes.items)
          all c.put_back-in-Some.ensures.items (sym c.tools_from-kit.ensures.known) inv.4,
      omega (arith, c.put_back-in-Some.ensures.kept, c.put_back-in-Some.ensures.size, ap length all, length_push c.pop.new.self.items lane, inv.5),
    )
