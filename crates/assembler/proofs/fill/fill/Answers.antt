use Rattle.std.proofs.Common.{◌≡◌, ◌+◌, ℕ, Bool, refl, sym, ◌∙◌, subst, arith, true}
use Rattle.assembler.proofs.EconomyFilled.{share_all_below, share_before, share_below, share_none, share_not_itself, share_now, share_of, share_others, share_past}
use Rattle.assembler.proofs.EconomyPaid.{Paid, paid_more, paid_none, paid_share, shared_share, untouched_more}
use Rattle.assembler.proofs.Filled.{fate_stays}
use Rattle.assembler.proofs.HadOn.{permits_on}
use Rattle.assembler.proofs.Lost.{lost_of}
use Rattle.assembler.proofs.Passed.{OneMore, WantsDone, done_more, done_none, done_share}
use Rattle.assembler.proofs.Stepped.{may_lack_before, ready_on, suits_since}
use Rattle.assembler.specs.Passes.{want_at}
use Rattle.assembler.specs.Permits.{deals_to}
use Rattle.assembler.specs.Stages.{stage, task}
use Rattle.assembler.specs.declared.fault.Unsettled.TheVariants as unsettled
use Rattle.assembler.proofs.fill.fill.Given.{Over}
use Rattle.assembler.proofs.fill.fill.Goals.{After-settle-ended}
use Rattle.assembler.proofs.fill.fill.Goals as goal

pub loop-want-init : goal.loop-want-init
loop-want-init g c =
    let t = task g.E.Ledger.run.listing c.args.wants.now in
    let a = stage g.E.Ledger g.C.Cache c.args.work.now in
    let these = deals_to t.plan c.args.worker in
    record {
      done = done_none g.S.Store g.V.View t c.requires.ready.wants (share_below these 0) a;
      paid = paid_none g.S.Store g.V.View t (share_below these 0) a (share_none these) c.asks.ensures.below;
    }

-- a want of another worker
pub loop-want-preserved-then-not-deals_to : goal.loop-want-preserved-then-not-deals_to
loop-want-preserved-then-not-deals_to g c =
    let t = task g.E.Ledger.run.listing c.args.wants.now in
    let a = stage g.E.Ledger g.C.Cache c.args.work.now in
    let b = stage g.E.Ledger g.C.Cache c.loop-want.work in
    let these = deals_to t.plan c.args.worker in
    let past = share_past these c.loop-want.want (sym c.deals_to.ensures.value ∙ c.if-not-deals_to.true) in
    record {
      done = subst (λ (d : ℕ → Bool). WantsDone g.S.Store g.V.View t d a b) past c.loop-want.invariant.done;
      paid = subst (λ (d : ℕ → Bool). Paid g.S.Store g.V.View t d a b) past c.loop-want.invariant.paid;
    }

pub settle-ended-requires-clause-ready : goal.settle-ended-requires-clause-ready
settle-ended-requires-clause-ready g c =
    let t = task g.E.Ledger.run.listing c.args.wants.now in
    ready_on g.S.Store g.V.View t (λ v. share_below (deals_to t.plan c.args.worker) c.loop-want.want v ≡ true) (stage g.E.Ledger g.C.Cache c.args.work.now)
    (stage g.E.Ledger g.C.Cache c.loop-want.work) c.loop-want.invariant.done.stretch c.requires.ready

pub settle-ended-requires-clause-suits : goal.settle-ended-requires-clause-suits
settle-ended-requires-clause-suits g c =
    let t = task g.E.Ledger.run.listing c.args.wants.now in
    suits_since g.S.Store g.V.View t g.C.Cache (λ v. share_below (deals_to t.plan c.args.worker) c.loop-want.want v ≡ true) (stage g.E.Ledger g.C.Cache c.args.work.now)
    (stage g.E.Ledger g.C.Cache c.loop-want.work) c.loop-want.invariant.done.stretch c.requires.suits

pub settle-ended-requires-clause-may : goal.settle-ended-requires-clause-may
settle-ended-requires-clause-may g c =
    let t = task g.E.Ledger.run.listing c.args.wants.now in
    let these = deals_to t.plan c.args.worker in
    permits_on t c.requires.ready.wants g.S.Store g.V.View (λ v. share_below these c.loop-want.want v ≡ true) (λ v. these v ≡ true) g.E.Ledger.run.may
    (stage g.E.Ledger g.C.Cache c.args.work.now) (stage g.E.Ledger g.C.Cache c.loop-want.work) c.loop-want.invariant.done.stretch c.loop-want.invariant.done.had
    c.requires.may c.loop-want.want (omega (arith, c.loop-want-test.true, c.wants-want-end.ensures)) (sym c.deals_to.ensures.value ∙ c.if-not-deals_to.false)

-- one want more
one_more : (g : Over) (c : After-settle-ended g) → OneMore (share_below (deals_to c.args.wants.now.plan.now c.args.worker) c.loop-want.want)
    (share_below (deals_to c.args.wants.now.plan.now c.args.worker) (c.loop-want.want + 1)) c.loop-want.want c.args.wants.now.plan.now.wants
one_more g c =
    let these = deals_to c.args.wants.now.plan.now c.args.worker in
    record {
      below = omega (arith, c.loop-want-test.true, c.wants-want-end.ensures);
      wasnt = share_not_itself these c.loop-want.want;
      now = share_now these c.loop-want.want (sym c.deals_to.ensures.value ∙ c.if-not-deals_to.false);
      others = share_before these c.loop-want.want;
      within = λ v so. omega (arith, (share_of these c.loop-want.want v so).0, c.loop-want-test.true, c.wants-want-end.ensures);
    }

more : (g : Over) (c : After-settle-ended g) → WantsDone g.S.Store g.V.View (task g.E.Ledger.run.listing c.args.wants.now)
    (share_below (deals_to c.args.wants.now.plan.now c.args.worker) (c.loop-want.want + 1))
    (stage g.E.Ledger g.C.Cache c.args.work.now) (stage g.E.Ledger g.C.Cache c.settle-ended.new.work)
more g c =
    let these = deals_to c.args.wants.now.plan.now c.args.worker in
    done_more g.S.Store g.V.View (task g.E.Ledger.run.listing c.args.wants.now) c.requires.ready.wants (share_below these c.loop-want.want)
    (share_below these (c.loop-want.want + 1)) c.loop-want.want
    (one_more g c) (stage g.E.Ledger g.C.Cache c.args.work.now) (stage g.E.Ledger g.C.Cache c.loop-want.work) (stage g.E.Ledger g.C.Cache c.settle-ended.new.work)
    c.loop-want.invariant.done c.settle-ended.ensures.settles

pub loop-want-preserved : goal.loop-want-preserved
loop-want-preserved g c =
    let at = (goal.at.loop-want-preserved g c).After-settle-ended in
    let ended = c.settle-ended.ensures in
    let these = deals_to c.args.wants.now.plan.now c.args.worker in
    record {
      done = more g at;
      paid = paid_more g.S.Store g.V.View (task g.E.Ledger.run.listing c.args.wants.now) (stage g.E.Ledger g.C.Cache c.args.work.now) (stage g.E.Ledger g.C.Cache c.loop-want.work)
          (stage g.E.Ledger g.C.Cache c.settle-ended.new.work) c.requires.ready.wants c.loop-want.want (share_below these c.loop-want.want) (share_below these (c.loop-want.want + 1)) (one_more g at)
          c.loop-want.invariant.done.stretch ended.settles c.loop-want.invariant.paid c.settle-ended.result (c.lacked_memory.ensures.no c.if-lacked_memory.false) ended.ends.ok ended.exactly ended.shared;
    }

-- the stores had no memory: the want is passed too
pub returns-then-lacked_memory-clause-passes : goal.returns-then-lacked_memory-clause-passes
returns-then-lacked_memory-clause-passes g c =
    let these = deals_to c.args.wants.now.plan.now c.args.worker in
    done_share g.S.Store g.V.View (task g.E.Ledger.run.listing c.args.wants.now) (share_below these (c.loop-want.want + 1)) these (stage g.E.Ledger g.C.Cache c.args.work.now)
    (stage g.E.Ledger g.C.Cache c.settle-ended.new.work)
    (λ v so. let is = share_of these (c.loop-want.want + 1) v so in (omega (arith, is.0, c.loop-want-test.true, c.wants-want-end.ensures), is.1))
    (more g (goal.at.returns-then-lacked_memory-clause-passes g c).After-settle-ended)

pub returns-then-lacked_memory-clause-others : goal.returns-then-lacked_memory-clause-others
returns-then-lacked_memory-clause-others g c = λ i isnt.
    let at = (goal.at.returns-then-lacked_memory-clause-others g c).After-settle-ended in
    let these = deals_to c.args.wants.now.plan.now c.args.worker in
    let a = stage g.E.Ledger g.C.Cache c.args.work.now in
    let b = stage g.E.Ledger g.C.Cache c.settle-ended.new.work in
    fate_stays a.fates b.fates (more g at).stretch.step.grows i
    (untouched_more g.S.Store g.V.View (task g.E.Ledger.run.listing c.args.wants.now) a (stage g.E.Ledger g.C.Cache c.loop-want.work) b c.requires.ready.wants c.loop-want.want
    (share_below these c.loop-want.want) (share_below these (c.loop-want.want + 1)) (one_more g at) c.loop-want.invariant.done.stretch c.settle-ended.ensures.settles
    c.loop-want.invariant.paid i (share_others these (c.loop-want.want + 1) (want_at c.args.wants.now.plan.now i) isnt))

pub returns-then-lacked_memory-clause-memory : goal.returns-then-lacked_memory-clause-memory
returns-then-lacked_memory-clause-memory g c =
    let lost = c.lacked_memory.ensures.yes c.if-lacked_memory.true in
    let these = deals_to c.args.wants.now.plan.now c.args.worker in
    may_lack_before g.S.Store g.V.View (task g.E.Ledger.run.listing c.args.wants.now) (λ v. share_below these c.loop-want.want v ≡ true) (stage g.E.Ledger g.C.Cache c.args.work.now)
    (stage g.E.Ledger g.C.Cache c.loop-want.work) c.loop-want.invariant.done.stretch
    (lost_of _ _ c.settle-ended.result (unsettled.Lost lost.0) lost.0 lost.1 refl c.settle-ended.ensures.ends.memory lost.2)

pub returns-clause-passes : goal.returns-clause-passes
returns-clause-passes g c =
    let these = deals_to c.args.wants.now.plan.now c.args.worker in
    done_share g.S.Store g.V.View (task g.E.Ledger.run.listing c.args.wants.now) (share_below these c.loop-want.want) these (stage g.E.Ledger g.C.Cache c.args.work.now)
    (stage g.E.Ledger g.C.Cache c.loop-want.work)
    (λ v so. let is = share_of these c.loop-want.want v so in (omega (arith, is.0, c.loop-want.auto.want-end, c.wants-want-end.ensures), is.1))
    c.loop-want.invariant.done

pub returns-clause-others : goal.returns-clause-others
returns-clause-others g c = λ i isnt.
    let these = deals_to c.args.wants.now.plan.now c.args.worker in
    let a = stage g.E.Ledger g.C.Cache c.args.work.now in
    let b = stage g.E.Ledger g.C.Cache c.loop-want.work in
    fate_stays a.fates b.fates c.loop-want.invariant.done.stretch.step.grows i
    (c.loop-want.invariant.paid.untouched i (share_others these c.loop-want.want (want_at c.args.wants.now.plan.now i) isnt))

pub returns-clause-exactly : goal.returns-clause-exactly
returns-clause-exactly g c =
    let these = deals_to c.args.wants.now.plan.now c.args.worker in
    paid_share g.S.Store g.V.View (task g.E.Ledger.run.listing c.args.wants.now) (share_below these c.loop-want.want) these (stage g.E.Ledger g.C.Cache c.args.work.now)
    (stage g.E.Ledger g.C.Cache c.loop-want.work)
    (λ w below. share_all_below these c.loop-want.want c.args.wants.now.plan.now.wants w (omega (arith, c.loop-want-test.false, c.wants-want-end.ensures)) below)
    c.loop-want.invariant.paid

pub returns-clause-shared : goal.returns-clause-shared
returns-clause-shared g c =
    let these = deals_to c.args.wants.now.plan.now c.args.worker in
    shared_share g.S.Store g.V.View (task g.E.Ledger.run.listing c.args.wants.now) (share_below these c.loop-want.want) these (stage g.E.Ledger g.C.Cache c.args.work.now)
    (stage g.E.Ledger g.C.Cache c.loop-want.work)
    (λ w below. share_all_below these c.loop-want.want c.args.wants.now.plan.now.wants w (omega (arith, c.loop-want-test.false, c.wants-want-end.ensures)) below)
    c.loop-want.invariant.paid

pub returns-clause-left : goal.returns-clause-left
returns-clause-left g c = λ adds cached maps nothing one i inside dealt isnt.
    let these = deals_to c.args.wants.now.plan.now c.args.worker in
    c.loop-want.invariant.paid.left adds cached maps nothing one i inside
    (share_all_below these c.loop-want.want c.args.wants.now.plan.now.wants (want_at c.args.wants.now.plan.now i) (omega (arith, c.loop-want-test.false, c.wants-want-end.ensures))
    (c.requires.ready.wants.within i inside) ∙ dealt)
    isnt
