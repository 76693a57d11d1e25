use Rattle.std.proofs.Common.{◌≡◌, ◌∙◌, ◌<◌, length, set, false, subst, sym, ap, arith}
use Rattle.std.proofs.lemmas.List.{get_or_default}
use Rattle.dsy_base.specs.Counts.{Rose}
use Rattle.locked_shards.proofs.Knowing.{both_true, known_set, rose_by_one}
use Rattle.locked_shards.specs.Known.{Knowledge}
use Rattle.owned_shards.proofs.Writes.{grows_none, grows_set}
use Rattle.range_ledger.specs.Fills.{Grows}
use Rattle.range_survey.specs.Fates.{is_settled, settled}
use Rattle.range_survey.specs.declared.fate.Fate.TheVariants as fate
use Rattle.locked_shards.proofs.locked.LockedLedger.put.Goals as goal

pub invariant_of-self : goal.invariant_of-self
invariant_of-self g c = (
  c.self.invariant.0,
  c.self.invariant.1,
  known_set g.R.RunName.run _ c.self.inside.known.items c.args.entry c.args.fate c.requires.listed c.requires.made c.self.invariant.2,
  c.self.invariant.3,
  c.in-Ok.ensures.free,
)

pub invariant_of-self-in-Err : goal.invariant_of-self-in-Err
invariant_of-self-in-Err g c = (
  c.self.invariant.0,
  c.self.invariant.1,
  c.self.invariant.2,
  λ never. absurd (c.in-Err.ensures.only (both_true g.P.View.never_fails g.R.RunName.run.tells never).0),
  c.in-Err.ensures.free,
)

pub returns-in-Ok-clause-grows : goal.returns-in-Ok-clause-grows
returns-in-Ok-clause-grows g c =
    let known = c.self.inside.known.items in
    let inside : c.args.entry < length known = omega (arith, c.requires.listed, c.self.invariant.2.size) in
    let is = get_or_default known c.args.entry fate.Open c.index.result.now inside ∙ sym c.index.ensures in
    let unset : settled known c.args.entry ≡ false = ap is_settled is ∙ sym c.is_settled.ensures ∙ c.if-is_settled.false in
    subst (λ (w : Knowledge). Grows w.fates (set known c.args.entry c.args.fate)) c.self.view_is (grows_set known c.args.entry c.args.fate inside unset c.requires.made)

pub returns-in-Err-clause-grows : goal.returns-in-Err-clause-grows
returns-in-Err-clause-grows g c = subst (λ (w : Knowledge). Grows w.fates c.self.inside.known.items) c.self.view_is (grows_none c.self.inside.known.items)

pub returns-in-Err-clause-cause : goal.returns-in-Err-clause-cause
returns-in-Err-clause-cause g c = subst (λ (w : Knowledge). Rose w.faults c.raise-self-inside.result) c.self.view_is
    (rose_by_one c.self.inside.faults c.raise-self-inside.result c.raise-self-inside.ensures.value)
