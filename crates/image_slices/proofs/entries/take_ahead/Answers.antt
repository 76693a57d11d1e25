use Rattle.std.proofs.Common.{◌≡◌, ◌≤◌, ℕ, All, List, ap, arith, map, refl, sym, subst, ◌∙◌}
use Rattle.std.proofs.lemmas.List.{with_items_is}
use Rattle.image_slices.proofs.Hired.{none_falls, same_seen, seen_through, went_none}
use Rattle.image_slices.specs.Ahead.{IsAhead, TellsSlice}
use Rattle.image_slices.specs.Consumers.{NoFaultCountFalls}
use Rattle.image_slices.specs.declared.ahead.Ahead.{Ahead}
use Rattle.image_slices.specs.declared.view_reader.ViewReader.{ViewReader}
use Rattle.image_slices.proofs.entries.take_ahead.Goals as goal

pub take_all-taken-requires-clause-trusted : goal.take_all-taken-requires-clause-trusted
take_all-taken-requires-clause-trusted g c = λ lifetimes bounds.
    let Trusts : ViewReader g.row.V.Denot g.row.I.Denot → Type 0 =
    λ r. (a : Ahead) → IsAhead r.index.now (TellsSlice r.index.now (g.V.View.held r.view).bytes) a → g.C.Consumer.accepts c.args.consumer.now a in
    subst (All Trusts) (sym c.deref_mut.ensures.value) c.requires.trusted

pub returns-clause-kept : goal.returns-clause-kept
returns-clause-kept g c =
    let of : ViewReader g.row.V.Denot g.row.I.Denot → g.row.V.Denot = λ r. r.view in
    let rs = c.deref_mut.result.now in
    let ss = c.take_all-taken.new.readers in
    let Went = λ (r : ViewReader g.row.V.Denot g.row.I.Denot) (s : ViewReader g.row.V.Denot g.row.I.Denot). (g.V.View.held s.view ≡ g.V.View.held r.view) × (g.V.View.faults r.view ≤ g.V.View.faults s.view) × (s.index.now ≡ r.index.now) in
    let went = c.take_all-taken.ensures.readers rs (went_none of Went (λ r. (refl, omega arith, refl)) rs) in
    let items = with_items_is c.args.readers ss (omega (arith, c.take_all-taken.auto.readers, c.deref_mut.ensures.len)) in
    seen_through of (λ v. g.V.View.held v) c.dismiss.new.views.items ss (c.dismiss.ensures.kept ∙ ap (map of) items) ∙ same_seen of Went (λ v. g.V.View.held v) (λ r s w. w.0) rs ss went
    ∙ ap (map (λ (r : ViewReader g.row.V.Denot g.row.I.Denot). g.V.View.held r.view)) c.deref_mut.ensures.value

pub returns-clause-faults : goal.returns-clause-faults
returns-clause-faults g c =
    let of : ViewReader g.row.V.Denot g.row.I.Denot → g.row.V.Denot = λ r. r.view in
    let F : ViewReader g.row.V.Denot g.row.I.Denot → ℕ = λ r. g.V.View.faults r.view in
    let rs = c.deref_mut.result.now in
    let ss = c.take_all-taken.new.readers in
    let Went = λ (r : ViewReader g.row.V.Denot g.row.I.Denot) (s : ViewReader g.row.V.Denot g.row.I.Denot). (g.V.View.held s.view ≡ g.V.View.held r.view) × (g.V.View.faults r.view ≤ g.V.View.faults s.view) × (s.index.now ≡ r.index.now) in
    let went = c.take_all-taken.ensures.readers rs (went_none of Went (λ r. (refl, omega arith, refl)) rs) in
    let items = with_items_is c.args.readers ss (omega (arith, c.take_all-taken.auto.readers, c.deref_mut.ensures.len)) in
    let news = seen_through of (λ v. g.V.View.faults v) c.dismiss.new.views.items ss (c.dismiss.ensures.kept ∙ ap (map of) items) in
    subst (λ (ys : List ℕ). NoFaultCountFalls (map F c.args.readers.items) ys) (sym news)
    (subst (λ (xs : List ℕ). NoFaultCountFalls xs (map F ss)) (ap (map F) c.deref_mut.ensures.value) (none_falls of Went (λ v. g.V.View.faults v) (λ r s w. w.1) rs ss went))
