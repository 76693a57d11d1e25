use Rattle.std.proofs.Common.{◌≡◌, ◌<◌, length, sym, subst, ap, ◌∙◌, arith}
use Rattle.caibx_codec.specs.Listing.{Rules, count_of, image_length, size_of}
use Rattle.image_cases.proofs.ledger_tests.surveys.Goals as goal

pub survey-requires-clause-zeros : goal.survey-requires-clause-zeros
survey-requires-clause-zeros g c = λ e has past.
    let r = g.R.RunName.run in
    let rules : Rules r.listing = subst Rules (sym c.requires.listing) c.rules.ensures in
    let lt : e < count_of r.listing = c.requires.inside e has in
    let long : c.length-old.result ≡ image_length r.listing = c.length-old.ensures ∙ ap image_length (sym c.requires.listing) in
    absurd (omega (arith, past, long, rules.rises e lt, rules.inside e lt))

pub survey-requires-clause-room : goal.survey-requires-clause-room
survey-requires-clause-room g c = λ e has.
    let r = g.R.RunName.run in
    let lt : e < count_of c.args.index.now = subst (λ m. e < count_of m) c.requires.listing (c.requires.inside e has) in
    let size : size_of r.listing e ≡ size_of c.args.index.now e = ap (λ m. size_of m e) c.requires.listing in
    omega (arith, c.in-Ok.ensures.inside e lt, size, ap length c.deref_mut-2.ensures.value)
