use Rattle.std.proofs.Common.{◌≡◌, ℕ, ◌+◌, false, length, IfSome, sym, subst, ap, ◌∙◌, refl, arith}
use Rattle.range_ledger.proofs.Counting.{Surveying, begins, kept, looked, marked, wrong_left}
use Rattle.range_ledger.proofs.Keeps.{same_seen}
use Rattle.range_ledger.proofs.Settling.{surveyed}
use Rattle.range_ledger.proofs.Steps.{unwritten}
use Rattle.range_ledger.proofs.Surveys.{all_open}
use Rattle.range_ledger.specs.Extents.{IsIn, IsRightIn}
use Rattle.range_ledger.specs.Runs.{Has, HasZeros, IsDealtShard, IsUnread, Seen, SettlesOne, WasSurveyed, WhereTells, extent_of, first_in, has_settled, settled_below}
use Rattle.range_ledger.specs.Steps.{Surveys}
use Rattle.range_survey.specs.Zeros.{IsTabled}
use Rattle.range_ledger.proofs.unread.Unread.survey.Goals as goal

pub loop-k-init : goal.loop-k-init
loop-k-init g c =
    let r = g.R.RunName.run in
    let old : Seen = c.args.self.now in (
      refl,
      refl,
      refl,
      subst (IsUnread r) c.self.view_is c.self.invariant,
      begins r old c.requires.none,
      all_open r old c.requires.none,
      λ all. refl,
    )

pub look_at-requires-clause-none : goal.look_at-requires-clause-none
look_at-requires-clause-none g c =
    let r = g.R.RunName.run in
    let old : Seen = c.args.self.now in
    let now : Seen = c.loop-k.self in
    let i = c.loop-k.invariant in
    let same : marked old now.fates now.faults ≡ now = same_seen (marked old now.fates now.faults) now (sym i.0) refl refl (sym i.1) in
    let e : c.entry-entry.result ≡ first_in r old.number + c.loop-k.k = c.entry-entry.ensures.value ∙ (ap (λ (v : Seen). first_in r v.number + c.loop-k.k) c.self-in-loop-k.view_is ∙ ap (λ k. first_in r k + c.loop-k.k) i.0) in
    let has : Has r old c.entry-entry.result = subst (λ k. IsIn (extent_of r k) c.entry-entry.result) i.0
    (subst (λ (v : Seen). Has r v c.entry-entry.result) c.self-in-loop-k.view_is c.entry-entry.ensures.inside) in
    subst (λ (v : Seen). has_settled r v c.entry-entry.result ≡ false) same (i.4.later c.entry-entry.result has (omega (arith, e)))

pub look_at-requires-clause-zeros : goal.look_at-requires-clause-zeros
look_at-requires-clause-zeros g c =
    let r = g.R.RunName.run in
    let old : Seen = c.args.self.now in
    let now : Seen = c.loop-k.self in
    let i = c.loop-k.invariant in
    let same : marked old now.fates now.faults ≡ now = same_seen (marked old now.fates now.faults) now (sym i.0) refl refl (sym i.1) in
    let has : Has r old c.entry-entry.result = subst (λ k. IsIn (extent_of r k) c.entry-entry.result) i.0
    (subst (λ (v : Seen). Has r v c.entry-entry.result) c.self-in-loop-k.view_is c.entry-entry.ensures.inside) in
    subst (λ (v : Seen). HasZeros r c.args.old v c.entry-entry.result) same (c.requires.zeros c.entry-entry.result has)

pub returns-clause-size : goal.returns-clause-size
returns-clause-size g c =
    let r = g.R.RunName.run in
    let old : Seen = c.args.self.now in
    let now : Seen = c.loop-k.self in
    let i = c.loop-k.invariant in
    let long : c.count-k-end.result ≡ length old.fates = subst (λ (v : Seen). c.count-k-end.result ≡ length v.fates) c.self.view_is c.count-k-end.ensures.value in
    let all : c.loop-k.k ≡ length now.fates = omega (arith, c.loop-k.auto.k-end, c.loop-k-test.false, long, i.4.size) in
    let same : marked old now.fates now.faults ≡ now = same_seen (marked old now.fates now.faults) now (sym i.0) refl refl (sym i.1) in
    i.4.count ∙ (ap (λ (v : Seen). settled_below r v c.loop-k.k) same ∙ ap (settled_below r now) all)

pub loop-k-preserved : goal.loop-k-preserved
loop-k-preserved g c =
    let r = g.R.RunName.run in
    let old : Seen = c.args.self.now in
    let now : Seen = c.loop-k.self in
    let next : Seen = c.look_at.new.self in
    let i = c.loop-k.invariant in
    let n = c.look_at.ensures in
    let e : c.entry-entry.result ≡ first_in r old.number + c.loop-k.k = c.entry-entry.ensures.value ∙ (ap (λ (v : Seen). first_in r v.number + c.loop-k.k) c.self-in-loop-k.view_is ∙ ap (λ k. first_in r k + c.loop-k.k) i.0) in
    let has : Has r old (first_in r old.number + c.loop-k.k) =
    subst (λ j. Has r old j) e (subst (λ k. IsIn (extent_of r k) c.entry-entry.result) i.0
    (subst (λ (v : Seen). Has r v c.entry-entry.result) c.self-in-loop-k.view_is c.entry-entry.ensures.inside)) in (
      n.number ∙ i.0,
      n.held ∙ i.1,
      n.room ∙ i.2,
      n.kept,
      looked r old c.loop-k.k has now next c.loop-k.found c.add.new.self i.0 i.1 n.number n.held i.4 c.look_at.result
          (λ is. subst (λ j. SettlesOne r now next j) e (n.yes is))
          (λ is. ((n.no is).0, subst (λ j. WhereTells r now next (λ t _. IsRightIn (extent_of r now.number) t j → ⊥)) e (n.no is).1))
          n.err n.faults c.add.ensures.yes c.add.ensures.no c.add.ensures.err,
      λ k. n.first k (i.5 k),
      λ all. n.unread (subst (λ j. IsTabled c.args.zeros.now r.listing c.args.old j) (sym e) (all (first_in r old.number + c.loop-k.k) has)) ∙ i.6 all,
    )

pub returns-clause-ok : goal.returns-clause-ok
returns-clause-ok g c =
    let r = g.R.RunName.run in
    let old : Seen = c.args.self.now in
    let now : Seen = c.loop-k.self in
    let i = c.loop-k.invariant in
    let dealt : IsDealtShard r old = subst (IsDealtShard r) c.self.view_is c.count-k-end.ensures.inside in
    let long : c.count-k-end.result ≡ length old.fates = subst (λ (v : Seen). c.count-k-end.result ≡ length v.fates) c.self.view_is c.count-k-end.ensures.value in
    let all : c.loop-k.k ≡ length now.fates = omega (arith, c.loop-k.auto.k-end, c.loop-k-test.false, long, i.4.size) in
    let same : marked old now.fates now.faults ≡ now = same_seen (marked old now.fates now.faults) now (sym i.0) refl refl (sym i.1) in
    let done : Surveying r old now.fates now.faults c.loop-k.found (length now.fates) = subst (Surveying r old now.fates now.faults c.loop-k.found) all i.4 in
    subst (WasSurveyed r) same (kept r old dealt now.fates now.faults c.loop-k.found done (subst (IsUnread r) (sym same) i.3))

pub returns-clause-exactly : goal.returns-clause-exactly
returns-clause-exactly g c =
    let r = g.R.RunName.run in
    let old : Seen = c.args.self.now in
    let now : Seen = c.loop-k.self in
    let i = c.loop-k.invariant in
    let dealt : IsDealtShard r old = subst (IsDealtShard r) c.self.view_is c.count-k-end.ensures.inside in
    let count : first_in r old.number + length now.fates ≡ first_in r (old.number + 1) = omega (arith, i.4.size, dealt.count) in
    unwritten r old now (Surveys r old now) i.1 (λ tells. surveyed r old now i.0 i.1 c.requires.none count i.3 tells)

pub returns-clause-no : goal.returns-clause-no
returns-clause-no g c quiet =
    let r = g.R.RunName.run in
    let old : Seen = c.args.self.now in
    let now : Seen = c.loop-k.self in
    let i = c.loop-k.invariant in
    let dealt : IsDealtShard r old = subst (IsDealtShard r) c.self.view_is c.count-k-end.ensures.inside in
    let long : c.count-k-end.result ≡ length old.fates = subst (λ (v : Seen). c.count-k-end.result ≡ length v.fates) c.self.view_is c.count-k-end.ensures.value in
    let all : c.loop-k.k ≡ length now.fates = omega (arith, c.loop-k.auto.k-end, c.loop-k-test.false, long, i.4.size) in
    let same : marked old now.fates now.faults ≡ now = same_seen (marked old now.fates now.faults) now (sym i.0) refl refl (sym i.1) in
    let done : Surveying r old now.fates now.faults c.loop-k.found (length now.fates) = subst (Surveying r old now.fates now.faults c.loop-k.found) all i.4 in
    unwritten r old now _ i.1 (λ tells. subst (λ (v : Seen). IfSome old.held.bytes (λ t. (e : ℕ) → Has r v e → has_settled r v e ≡ false → IsRightIn (extent_of r v.number) t e → ⊥)) same
    (wrong_left r old dealt now.fates now.faults c.loop-k.found done (subst (IsUnread r) (sym same) i.3) quiet tells))
