use Rattle.std.proofs.Common.{Option, ◌≡◌, ℕ, List, ap, map, sym, subst, ◌∙◌}
use Rattle.caibx_codec.specs.Listing.{Listing, image_length}
use Rattle.image_slices.proofs.Hired.{alike_all, from_views, seen_through}
use Rattle.image_slices.specs.Ahead.{IsAhead, TellsSlice}
use Rattle.image_slices.specs.Consumers.{IsAlike, NoFaultCountFalls}
use Rattle.image_slices.specs.declared.ahead.Ahead.{Ahead}
use Rattle.image_slices.specs.declared.view_reader.ViewReader.{ViewReader}
use Rattle.image_slices.proofs.entries.take_entries.Goals as goal

pub take_ahead-requires-clause-size : goal.take_ahead-requires-clause-size
take_ahead-requires-clause-size g c = λ lifetimes bounds.
    let one = c.requires.alike in
    from_views (λ (r : ViewReader g.row.V.Denot g.row.I.Denot). r.view) (λ v. IsAlike one.image (g.V.View.held v)) (λ r. r.index.now ≡ c.args.index.now)
    (λ r. image_length r.index.now ≡ (g.V.View.held r.view).size) (λ r is alike. ap image_length is ∙ one.size ∙ sym alike.0) c.args.views.now.items c.in-Ok.readers.items c.in-Ok.ensures.kept
    (alike_all (λ v. g.V.View.held v) one.image c.args.views.now.items one.alike) c.in-Ok.ensures.index

pub take_ahead-requires-clause-trusted : goal.take_ahead-requires-clause-trusted
take_ahead-requires-clause-trusted g c = λ lifetimes bounds.
    let one = c.requires.alike in
    let Trusts : Listing → Option (List ℕ) → Type 0 = λ l told. (a : Ahead) → IsAhead l (TellsSlice l told) a → g.C.Consumer.accepts c.args.consumer.now a in
    from_views (λ (r : ViewReader g.row.V.Denot g.row.I.Denot). r.view) (λ v. IsAlike one.image (g.V.View.held v)) (λ r. r.index.now ≡ c.args.index.now)
    (λ r. Trusts r.index.now (g.V.View.held r.view).bytes)
    (λ r is alike. subst (λ (l : Listing). Trusts l (g.V.View.held r.view).bytes) (sym is) (subst (Trusts c.args.index.now) (sym alike.1) one.trusted)) c.args.views.now.items c.in-Ok.readers.items c.in-Ok.ensures.kept
    (alike_all (λ v. g.V.View.held v) one.image c.args.views.now.items one.alike) c.in-Ok.ensures.index

pub returns-in-Ok-clause-kept : goal.returns-in-Ok-clause-kept
returns-in-Ok-clause-kept g c =
    c.take_ahead.ensures.kept ∙ sym (seen_through (λ (r : ViewReader g.row.V.Denot g.row.I.Denot). r.view) (λ v. g.V.View.held v) c.args.views.now.items c.in-Ok.readers.items c.in-Ok.ensures.kept)

pub returns-in-Ok-clause-faults : goal.returns-in-Ok-clause-faults
returns-in-Ok-clause-faults g c =
    subst (λ (xs : List ℕ). NoFaultCountFalls xs (map g.V.View.faults c.take_ahead.new.views.items))
    (sym (seen_through (λ (r : ViewReader g.row.V.Denot g.row.I.Denot). r.view) (λ v. g.V.View.faults v) c.args.views.now.items c.in-Ok.readers.items c.in-Ok.ensures.kept)) c.take_ahead.ensures.faults
