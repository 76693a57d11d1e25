use Rattle.std.proofs.Common.{◌≡◌, ◌∷◌, All, ap, arith, map, refl, rules, sym, subst, ◌∙◌}
use Rattle.caibx_codec.specs.Listing.{image_length}
use Rattle.image_store.specs.Storing.{IsStoredBy}
use Rattle.image_store.proofs.Beside.{by_first, first_out, others_alike, stored_on}
use Rattle.image_store.proofs.Going.{goes_none}
use Rattle.image_slices.specs.Consumers.{IsAlike}
use Rattle.image_store.proofs.store_entries.store_ahead.Goals as goal

pub take_slices-storing-requires-clause-going : goal.take_slices-storing-requires-clause-going
take_slices-storing-requires-clause-going g c = λ lifetimes bounds.
    let l = c.args.index.now in
    let image = c.remove-image.result in
    let was = first_out c.args.views.items c.remove-image.new.self.items image (omega (arith, c.requires.some)) c.remove-image.ensures.value c.remove-image.ensures.items in
    let size = (subst (All (λ v. image_length l ≡ (g.V.View.held v).size)) was c.requires.size) 0 image (omega arith) in
    c.new-storing.ensures.storing l size c.requires.room

pub take_slices-storing-requires-clause-alike : goal.take_slices-storing-requires-clause-alike
take_slices-storing-requires-clause-alike g c = λ lifetimes bounds.
    let rest = c.remove-image.new.self.items in
    let image = c.remove-image.result in
    let was = first_out c.args.views.items rest image (omega (arith, c.requires.some)) c.remove-image.ensures.value c.remove-image.ensures.items in
    subst (λ v. All (IsAlike (g.V.View.held v)) (map (λ v. g.V.View.held v) rest)) (sym c.new-storing.ensures.image)
    (others_alike (λ v. g.V.View.held v) c.args.views.items rest image was c.requires.alike)

pub take_slices-storing-requires-clause-size : goal.take_slices-storing-requires-clause-size
take_slices-storing-requires-clause-size g c = λ lifetimes bounds.
    let l = c.args.index.now in
    let image = c.remove-image.result in
    let was = first_out c.args.views.items c.remove-image.new.self.items image (omega (arith, c.requires.some)) c.remove-image.ensures.value c.remove-image.ensures.items in
    subst (λ v. image_length l ≡ (g.V.View.held v).size) (sym c.new-storing.ensures.image) ((subst (All (λ v. image_length l ≡ (g.V.View.held v).size)) was c.requires.size) 0 image (omega arith))

pub returns : goal.returns
returns g c =
    let l = c.args.index.now in
    let done = c.take_slices-storing.ensures in
    let a = c.new-storing.result in
    let b = c.take_slices-storing.result.0 in
    let r = c.take_slices-storing.result.1 in
    let rest = c.remove-image.new.self.items in
    let news = c.take_slices-storing.new.views.items in
    let was : c.args.views.items ≡ a.image ∷ rest =
    first_out c.args.views.items rest c.remove-image.result (omega (arith, c.requires.some)) c.remove-image.ensures.value c.remove-image.ensures.items ∙ ap (λ v. v ∷ rest) (sym c.new-storing.ensures.image) in
    let put : c.insert.new.self.items ≡ c.end-image.result.0 ∷ news = search rules in
    let is : c.insert.new.self.items ≡ b.image ∷ news = put ∙ ap (λ v. v ∷ news) c.end-image.ensures.0 in
    let size = (subst (All (λ v. image_length l ≡ (g.V.View.held v).size)) (first_out c.args.views.items rest c.remove-image.result (omega (arith, c.requires.some)) c.remove-image.ensures.value c.remove-image.ensures.items) c.requires.size) 0 c.remove-image.result (omega arith) in
    let went = done.on a (goes_none g.V.View g.S.Store l a (c.new-storing.ensures.storing l size c.requires.room)) in
    let stored = stored_on g.V.View g.S.Store l a b r c.args.store went done.all (went.first ∙ c.new-storing.ensures.first) in
    subst (λ s. IsStoredBy g.V.View g.S.Store l c.args.views.items c.insert.new.self.items c.args.store s r) (sym c.end-image.ensures.1)
    (by_first g.V.View g.S.Store l c.args.store b.store r c.args.views.items c.insert.new.self.items rest news a.image b.image was is c.requires.alike stored went.ends.kept
    done.kept went.ends.image_faults done.faults)
