use Rattle.std.proofs.Common.{◌-◌, IfSome, sym, subst, rules}
use Rattle.dsy_base.specs.Bytes.{Held}
use Rattle.range_ledger.proofs.Surveys.{first_set, kept_unread, settle_unread}
use Rattle.range_ledger.specs.Extents.{IsIn, IsRightIn}
use Rattle.range_ledger.specs.Runs.{Has, Seen, extent_of, first_in}
use Rattle.range_survey.specs.Fates.{FirstFates}
use Rattle.range_ledger.proofs.unread.Unread.look_at.Goals as goal

pub invariant_of-self : goal.invariant_of-self
invariant_of-self g c =
    let r = g.R.RunName.run in
    let old : Seen = c.self.inside.entries in
    let mid : Seen = c.has_digest.new.self in
    let n = c.has_digest.ensures in
    let m = c.settle.ensures in
    let has : Has r old c.args.entry = subst (λ (v : Seen). Has r v c.args.entry) (sym c.self.view_is) c.requires.inside in
    let has_mid : Has r mid c.args.entry = subst (λ k. IsIn (extent_of r k) c.args.entry) (sym n.number) has in
    let right : IfSome mid.held.bytes (λ t. IsRightIn (extent_of r mid.number) t c.args.entry) =
    subst (λ k. IfSome mid.held.bytes (λ t. IsRightIn (extent_of r k) t c.args.entry)) (sym n.number)
    (subst (λ (h : Held). IfSome h.bytes (λ t. IsRightIn (extent_of r old.number) t c.args.entry)) (sym n.held) (c.in-Ok-true.ensures.yes (search rules))) in
    settle_unread r mid c.settle.new.self c.args.entry (kept_unread r old mid c.self.invariant n.number n.kept n.held) has_mid m.number m.held m.only (λ tells. right)

pub returns-in-Ok-true-clause-kept : goal.returns-in-Ok-true-clause-kept
returns-in-Ok-true-clause-kept g c = invariant_of-self g c

pub returns-in-Ok-true-clause-first : goal.returns-in-Ok-true-clause-first
returns-in-Ok-true-clause-first g c k first =
    let r = g.R.RunName.run in
    let old : Seen = c.self.inside.entries in
    let mid : Seen = c.has_digest.new.self in
    let n = c.has_digest.ensures in
    let m = c.settle.ensures in
    let first_mid : FirstFates mid.fates k = subst (λ fates. FirstFates fates k) (sym n.kept) (subst (λ (v : Seen). FirstFates v.fates k) (sym c.self.view_is) first) in
    subst (λ fates. FirstFates fates k) (sym m.fates) (first_set mid.fates (c.args.entry - first_in r mid.number) k first_mid)
