use Rattle.std.proofs.Common.{arith}
use Rattle.caibx_codec.specs.Listing.{kind_of}
use Rattle.image_demo.proofs.Alike.{first_of, judged_alike, kinds_are, places_known, reported_alike}
use Rattle.image_demo.proofs.Quiet.{named_by}
use Rattle.image_demo.proofs.make.assemble_quietly.Goals as goal

pub assemble-ended-requires-clause-places : goal.assemble-ended-requires-clause-places
assemble-ended-requires-clause-places g c κs within =
    let like = c.requires.alike in
    (c.args.planned.now.plan, c.requires.plan, places_known (kind_of c.args.index.now) like.0 like.1 c.args.kits.items like.2 c.args.index.now c.args.planned.now.plan c.args.planned.now.places c.requires.places)

pub assemble-ended-requires-clause-kind : goal.assemble-ended-requires-clause-kind
assemble-ended-requires-clause-kind g c κs within =
    let like = c.requires.alike in
    kinds_are (kind_of c.args.index.now) like.0 like.1 c.args.kits.items like.2

pub returns-clause-verdict : goal.returns-clause-verdict
returns-clause-verdict g c = λ s v chunks all told.
    let by = c.assemble-ended.ensures.kits in
    judged_alike (kind_of c.args.index.now) s v c.args.kits.items all g.S.Store g.V.View c.args.index.now c.args.planned.now.places c.args.planned.now.plan by.0 c.requires.plan by.1 (omega (arith, c.args.kits.ok.0, c.requires.size.0)) c.requires.tells g.T.View.never_fails _ c.requires.sure.0 _ _ _ _
    c.assemble-ended.result.kits.items _ c.assemble-ended.result.answer by.2 (g.met.T.View.sure _ c.requires.sure.0) (g.met.T.View.sure _ c.requires.sure.0)
    (λ t. (g.met.S.Store g.world.𝓛 g.world.𝓜 g.world.𝓡 ((λ s y. y), (λ y. y), (λ y. y), (λ y. y))).sure t c.requires.sure.1) (λ w. (g.met.V.View g.world.𝓛 g.world.𝓜 g.world.𝓡 ((λ s y. y), (λ y. y), (λ y. y), (λ y. y))).sure w c.requires.sure.2) chunks told
    (g.met.S.Store g.world.𝓛 g.world.𝓜 g.world.𝓡 ((λ s y. y), (λ y. y), (λ y. y), (λ y. y))).alone

pub returns-clause-reported : goal.returns-clause-reported
returns-clause-reported g c = λ s v chunks all told.
    let by = c.assemble-ended.ensures.kits in
    reported_alike (kind_of c.args.index.now) s v c.args.kits.items all g.S.Store g.V.View c.args.index.now c.args.planned.now.places c.args.planned.now.plan by.0 c.requires.plan by.1 (omega (arith, c.args.kits.ok.0, c.requires.size.0)) c.requires.tells g.T.View.never_fails _ c.requires.sure.0 _ _ _ _
    c.assemble-ended.result.kits.items _ c.assemble-ended.result.answer by.2 (g.met.T.View.sure _ c.requires.sure.0) (g.met.T.View.sure _ c.requires.sure.0)
    (λ t. (g.met.S.Store g.world.𝓛 g.world.𝓜 g.world.𝓡 ((λ s y. y), (λ y. y), (λ y. y), (λ y. y))).sure t c.requires.sure.1) (λ w. (g.met.V.View g.world.𝓛 g.world.𝓜 g.world.𝓡 ((λ s y. y), (λ y. y), (λ y. y), (λ y. y))).sure w c.requires.sure.2) chunks told
    (g.met.S.Store g.world.𝓛 g.world.𝓜 g.world.𝓡 ((λ s y. y), (λ y. y), (λ y. y), (λ y. y))).alone

pub returns-clause-kept : goal.returns-clause-kept
returns-clause-kept g c = c.assemble-ended.ensures.kits.2.kept c.requires.sure.0

pub returns-clause-named : goal.returns-clause-named
returns-clause-named g c =
    let k = first_of c.args.kits.items (omega (arith, c.args.kits.ok.0, c.requires.size.0)) in
    named_by c.args.index.now _ _ c.assemble-ended.result.answer (λ x is. (is.listed, is.id_is)) (c.assemble-ended.ensures.kits.2.lost k k)
