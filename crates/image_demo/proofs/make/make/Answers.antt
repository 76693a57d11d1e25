use Rattle.std.proofs.Common.{subst, sym, IfOk, IfSome, Some, [], ◌∷◌, ◌≡◌, ◌∙◌, ◌+◌, Result}
use Rattle.range_survey.specs.Reports.{right_below}
use Rattle.assembler.specs.declared.fault.ExtractFault.{ExtractFault}
use Rattle.range_survey.specs.declared.report.Report.{Report}
use Rattle.caibx_codec.specs.Listing.{count_of, image_length, kind_of}
use Rattle.caibx_codec.specs.Right.{IsRight}
use Rattle.dsy_base.specs.Bytes.{resized}
use Rattle.image_demo.proofs.Alike.{kits_as}
use Rattle.image_demo.proofs.Given.{base_of, judged, made_figures, refusal, told_bytes, told_report}
use Rattle.image_demo.specs.Figures.{IsDemoRefused}
use Rattle.image_demo.specs.Stocks.{IsNamed}
use Rattle.image_demo.proofs.make.make.Goals as goal

-- the kits name chunks as the index does
pub assemble_quietly-target-requires-clause-alike : goal.assemble_quietly-target-requires-clause-alike
assemble_quietly-target-requires-clause-alike g c = λ κs within.
    (c.args.store, c.args.seed.view, kits_as c.kind.result (kind_of c.args.index.now) c.kind.ensures c.args.store c.args.seed.view c.in_ok-kits.kits.items c.in_ok-kits.ensures.alike)

pub returns-in-Ok-clause-value : goal.returns-in-Ok-clause-value
returns-in-Ok-clause-value g c =
    let l = c.args.index.now in
    let m = c.args.seed.index in
    let d = c.in_ok-planned.planned.plan in
    let x = c.in_ok-planned.planned.places in
    let s = c.requires.stocked.2 in
    let held = g.V.View.held c.args.seed.view in
    let told = told_bytes held.bytes ((g.met.V.View g.world.𝓛 g.world.𝓜 g.world.𝓡 ((λ s y. y), (λ y. y), (λ y. y), (λ y. y))).told c.args.seed.view ∙ c.requires.tells) in
    let right = subst (λ o. IfSome o (λ t. IsRight t m)) told.1 c.requires.seeds in
    let target = (g.T.View.held c.args.target).bytes in
    let made = c.assemble_quietly-target.ensures in
    let alike = kits_as c.kind.result (kind_of l) c.kind.ensures c.args.store c.args.seed.view c.in_ok-kits.kits.items c.in_ok-kits.ensures.alike in
    made_figures l m d x c.in_ok-planned.ensures.plan.wants c.in_ok-planned.ensures.places held told.0 told.1 right c.requires.kind c.rules-2.ensures c.requires.size s.map (image_length l) c.in-Ok.report
    (judged l d x (Some held ∷ []) (s.map ∷ []) target c.requires.none c.assemble_quietly-target.result.answer _ c.in-Ok.is (made.verdict c.args.store c.args.seed.view s.map alike s.told))
    (told_report l d x (Some held ∷ []) (s.map ∷ []) target c.requires.none c.assemble_quietly-target.result.answer c.in-Ok.report c.in-Ok.is (made.reported c.args.store c.args.seed.view s.map alike s.told))
    (subst (λ (r : Result Report ExtractFault). IfOk r (λ n. n.kept + n.copied + n.seeded + n.cached + n.fetched ≡ count_of l)) c.in-Ok.is made.report)
    (subst (λ o. IfSome o (λ b. c.in-Ok.report.kept ≡ right_below l (resized b (image_length l)) (count_of l))) c.requires.none
    (subst (λ (r : Result Report ExtractFault). IfOk r (λ n. IfSome target (λ b. n.kept ≡ right_below l (resized b (image_length l)) (count_of l)))) c.in-Ok.is made.kept))
    c.figures.result c.figures.ensures

pub returns-clause-err : goal.returns-clause-err
returns-clause-err g c =
    let l = c.args.index.now in
    let d = c.in_ok-planned.planned.plan in
    let x = c.in_ok-planned.planned.places in
    let s = c.requires.stocked.2 in
    let views = Some (g.V.View.held c.args.seed.view) ∷ [] in
    let made = c.assemble_quietly-target.ensures in
    let alike = kits_as c.kind.result (kind_of l) c.kind.ensures c.args.store c.args.seed.view c.in_ok-kits.kits.items c.in_ok-kits.ensures.alike in
    subst (IsDemoRefused (kind_of l) l.greatest) (sym c.fault_of.ensures) (refusal l d x (base_of l) views c.rules.ensures c.requires.stocked.0 c.requires.stocked.1 (g.S.Store.holds c.args.store) s c.in-Err.fault
    (judged l d x views (s.map ∷ []) (g.T.View.held c.args.target).bytes c.requires.none c.assemble_quietly-target.result.answer _ c.in-Err.is (made.verdict c.args.store c.args.seed.view s.map alike s.told))
    (subst (λ (r : Result Report ExtractFault). IsNamed l r) c.in-Err.is made.named))
