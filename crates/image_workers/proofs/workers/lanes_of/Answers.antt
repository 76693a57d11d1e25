use Rattle.std.proofs.Common.{◌≡◌, ◌++◌, ◌∷◌, [], ◌≤◌, List, Some, false, length, map, vec_capacity, ap, arith}
use Rattle.std.proofs.lemmas.List.{length_push}
use Rattle.chunk_sources.specs.declared.kit.Kit.{Kit}
use Rattle.image_workers.proofs.Moving.{all_before, moved}
use Rattle.image_workers.specs.Lanes.{tools_of}
use Rattle.image_workers.specs.declared.lanes.Lane.{Lane}
use Rattle.range_survey.specs.declared.fate.Fate.{Fate}
use Rattle.image_workers.proofs.workers.lanes_of.Goals as goal

pub loop-kit-preserved : goal.loop-kit-preserved
loop-kit-preserved g c =
    let inv = c.loop-kit.invariant in
    let m : List Fate = g.L.Ledger.fates c.args.ledger.now in
    let kit : Kit g.row.S.Denot g.row.V.Denot = c.in-Some.kit in
    let lane : Lane g.row.S.Denot g.row.V.Denot = record { tools = Some (record { kit = kit; known = c.fates_of.result }); lacked = false } in
    let is : tools_of lane ≡ Some (kit, m) = ap (λ (n : List Fate). Some (kit, n)) c.fates_of.ensures.fates in
    let all : c.loop-kit.kits.items ≡ c.pop.new.self.items ++ kit ∷ [] = c.in-Some.ensures.items in
    let rooms : c.loop-kit.known.items ≡ c.pop-in-Some.new.self.items ++ c.in-Some-pop.room ∷ [] = c.in-Some-pop.ensures.items in (
      moved (λ q. Some (q, m)) tools_of c.loop-kit.kits.items c.pop.new.self.items kit c.loop-kit.lanes.items c.put_back.new.values.items lane (map (λ q. Some (q, m)) c.args.kits.items)
          all c.put_back.ensures.items is inv.0,
      omega (arith, c.put_back.ensures.kept, c.put_back.ensures.size, ap length all, length_push c.pop.new.self.items kit, inv.1),
      omega (arith, c.in-Some.ensures.capacity, inv.2),
      omega (arith, ap length all, length_push c.pop.new.self.items kit, ap length rooms, length_push c.pop-in-Some.new.self.items c.in-Some-pop.room, inv.3),
      omega (arith, c.in-Some-pop.ensures.capacity, inv.4),
      all_before (λ v. (v.items ≡ []) × (c.args.count ≤ vec_capacity v)) c.loop-kit.known.items c.pop-in-Some.new.self.items c.in-Some-pop.room rooms inv.5,
    )
