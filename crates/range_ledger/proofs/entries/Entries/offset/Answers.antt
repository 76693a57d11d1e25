use Rattle.std.proofs.Common.{◌≡◌, ◌+◌, ◌-◌, ◌≤◌, ap, sym, subst, ◌∙◌, arith}
use Rattle.caibx_codec.specs.Listing.{size_of, start_of}
use Rattle.range_ledger.proofs.Laid.{inside}
use Rattle.range_ledger.specs.Extents.{IsIn}
use Rattle.range_ledger.specs.Runs.{Seen, extent_of, first_in}
use Rattle.range_ledger.proofs.entries.Entries.offset.Goals as goal

pub returns-clause-fits : goal.returns-clause-fits
returns-clause-fits g c =
    let r = g.R.RunName.run in
    let is = c.self.invariant in
    let at : c.entry.result.start ≡ start_of r.listing c.args.entry =
    c.entry.ensures.start ∙ ap (λ l. start_of l c.args.entry) is.0 in
    let first : c.entry-2.result.start ≡ start_of r.listing (first_in r c.self.inside.number) =
    c.entry-2.ensures.start ∙ ap (λ l. start_of l c.self.inside.first) is.0 ∙ ap (start_of r.listing) is.1 in
    let has : IsIn (extent_of r c.self.inside.number) c.args.entry =
    subst (λ (v : Seen). IsIn (extent_of r v.number) c.args.entry) (sym c.self.view_is) c.requires.inside in
    subst (λ (v : Seen). c.entry.result.start - c.entry-2.result.start + size_of r.listing c.args.entry ≤ v.held.size) c.self.view_is
    (omega (arith, at, first, inside (extent_of r c.self.inside.number) is.2.valid c.args.entry has, is.2.size))
