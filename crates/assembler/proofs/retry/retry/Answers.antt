use Rattle.std.proofs.Common.{◌≡◌, ◌<◌, List, length, set, Bool, Result, OnOk, Ok, Err, true, false, refl, inl, inr, sym, ap, ◌∙◌, subst, arith}
use Rattle.std.proofs.lemmas.List.{length-set}
use Rattle.std.proofs.lemmas.Option.{MatchOption-at_none, MatchOption-at_some}
use Rattle.assembler.proofs.EconomyPaid.{paid_all, paid_more, paid_none}
use Rattle.assembler.proofs.EconomyRetried.{memory_lost, memory_ok, tried_all, tried_as, tried_now, tried_within, unless_any}
use Rattle.assembler.proofs.Filled.{open_before, settled_on, torn_on}
use Rattle.assembler.proofs.HadOn.{permits_on}
use Rattle.assembler.proofs.Lost.{LostTried, lost_of, newly_lost, still_lost, torn_of}
use Rattle.assembler.proofs.Passed.{OneMore, WantsDone, done_all, done_more, done_none}
use Rattle.assembler.proofs.Stepped.{may_lack_before, ready_on, suits_since}
use Rattle.assembler.proofs.Tried.{IsFirst, SettledBelow, first_later, is_tried, lost_here, lost_of as left_lost, tried_is, tries_lost, tries_none, tries_passed, tries_settled, untried as untried_at}
use Rattle.assembler.proofs.TwoPasses.{err_same, fault_apart, memory_apart, memory_never, target_apart}
use Rattle.assembler.specs.Losses.{IsFirstOpen}
use Rattle.assembler.specs.Passes.{EndsTorn, HasPassed, one_pass}
use Rattle.assembler.specs.Stages.{Stage, stage, task}
use Rattle.assembler.specs.declared.fault.Lost.{Lost}
use Rattle.assembler.specs.declared.fault.Unsettled.{Unsettled}
use Rattle.caibx_codec.specs.Listing.{count_of}
use Rattle.chunk_sources.specs.Wants.{IsAmong}
use Rattle.chunk_sources.proofs.Lacking.{quiet_never}
use Rattle.dsy_base.proofs.Counts.{rose_later}
use Rattle.dsy_base.specs.Counts.{Rose}
use Rattle.extract_plan.specs.Deal.{of_want}
use Rattle.range_ledger.specs.Fills.{FillsTorn, WhereTold}
use Rattle.range_survey.specs.Fates.{is_settled, settled}
use Rattle.assembler.proofs.retry.retry.Given.{Over}
use Rattle.assembler.proofs.retry.retry.Goals as goal
use Rattle.assembler.proofs.retry.retry.Goals.{After-settle, In-Err-TargetFault, in-Some, in-None, in-Ok, in-Err-Lost+else-lacked_memory, then-is_settled-via-then-is_settled, then-is_settled-via-else-is_settled+then-index}

on_ok_is : {P : Type 0} (r : Result Unit Unsettled) (u : Unit) → r ≡ Ok u → OnOk r P → P
on_ok_is {P} r u is says = subst (λ q. OnOk q P) is says

pub loop-entry-init : goal.loop-entry-init
loop-entry-init g c =
    let t = task g.E.Ledger.run.listing c.args.wants.now in
    let a = stage g.E.Ledger g.C.Cache c.args.work.now in
    let tried = c.args.tried.items in
    record {
      done = done_none g.S.Store g.V.View t c.requires.ready.wants (is_tried tried) a;
      tries = tries_none t.plan (LostTried g.S.Store g.V.View t tried a a) a.fates tried t.plan.wants c.requires.fresh refl;
      paid = paid_none g.S.Store g.V.View t (is_tried tried) a (λ w. ap (λ xs. is_tried xs w) c.requires.fresh ∙ untried_at t.plan.wants w) c.asks.ensures.below;
    }

-- an entry that is settled, or whose want was tried
pub loop-entry-preserved-then-is_settled : goal.loop-entry-preserved-then-is_settled
loop-entry-preserved-then-is_settled g c =
    let t = task g.E.Ledger.run.listing c.args.wants.now in
    let a = stage g.E.Ledger g.C.Cache c.args.work.now in
    let b = stage g.E.Ledger g.C.Cache c.loop-entry.work in
    let tried = c.loop-entry.tried.items in
    let listed = c.requires.ready.wants in
    let inside : c.loop-entry.entry < length t.plan.want_of = omega (arith, c.loop-entry-test.true, c.count-entry-end.ensures, ap count_of c.requires.dealt, listed.size) in
    let below : c.want_of-want.result < t.plan.wants = omega (arith, listed.within c.loop-entry.entry (omega (arith, inside, listed.size)), c.want_of-want.ensures) in
    record {
      done = c.loop-entry.invariant.done;
      tries = tries_passed t.plan (LostTried g.S.Store g.V.View t tried a b) b.fates tried c.loop-entry.entry inside c.loop-entry.first
          (elim c.then-is_settled.branch [
            | then-is_settled-via-then-is_settled w ↦ inl (ap is_settled (sym c.fate.ensures.value) ∙ sym c.is_settled.ensures ∙ w.if-is_settled.true)
            | then-is_settled-via-else-is_settled+then-index w ↦ inr (ap (is_tried tried) (sym c.want_of-want.ensures)
                ∙ tried_is tried c.want_of-want.result w.index.result.now true (omega (arith, below, c.loop-entry.invariant.tries.size)) w.index.ensures w.if-index.true)
          ])
          c.loop-entry.invariant.tries;
      paid = c.loop-entry.invariant.paid;
    }

pub settle-requires-clause-ready : goal.settle-requires-clause-ready
settle-requires-clause-ready g c =
    ready_on g.S.Store g.V.View (task g.E.Ledger.run.listing c.args.wants.now) (λ v. is_tried c.loop-entry.tried.items v ≡ true) (stage g.E.Ledger g.C.Cache c.args.work.now)
    (stage g.E.Ledger g.C.Cache c.loop-entry.work) c.loop-entry.invariant.done.stretch c.requires.ready

pub settle-requires-clause-suits : goal.settle-requires-clause-suits
settle-requires-clause-suits g c =
    suits_since g.S.Store g.V.View (task g.E.Ledger.run.listing c.args.wants.now) g.C.Cache (λ v. is_tried c.loop-entry.tried.items v ≡ true) (stage g.E.Ledger g.C.Cache c.args.work.now)
    (stage g.E.Ledger g.C.Cache c.loop-entry.work) c.loop-entry.invariant.done.stretch c.requires.suits

pub settle-requires-clause-may : goal.settle-requires-clause-may
settle-requires-clause-may g c =
    let t = task g.E.Ledger.run.listing c.args.wants.now in
    let listed = c.requires.ready.wants in
    let inside : c.loop-entry.entry < length t.plan.want_of = omega (arith, c.loop-entry-test.true, c.count-entry-end.ensures, ap count_of c.requires.dealt, listed.size) in
    let below : c.want_of-want.result < t.plan.wants = omega (arith, listed.within c.loop-entry.entry (omega (arith, inside, listed.size)), c.want_of-want.ensures) in
    permits_on t listed g.S.Store g.V.View (λ v. is_tried c.loop-entry.tried.items v ≡ true) (λ _. Unit {0}) g.E.Ledger.run.may (stage g.E.Ledger g.C.Cache c.args.work.now)
    (stage g.E.Ledger g.C.Cache c.loop-entry.work) c.loop-entry.invariant.done.stretch c.loop-entry.invariant.done.had c.requires.may c.want_of-want.result below tt

-- the stages before the pass, before the call and after it
abbrev before : (g : Over) → After-settle g → Stage g.row.S.Denot g.row.V.Denot
before g c = stage g.E.Ledger g.C.Cache c.args.work.now

abbrev between : (g : Over) → After-settle g → Stage g.row.S.Denot g.row.V.Denot
between g c = stage g.E.Ledger g.C.Cache c.loop-entry.work

abbrev after : (g : Over) → After-settle g → Stage g.row.S.Denot g.row.V.Denot
after g c = stage g.E.Ledger g.C.Cache c.settle.new.work

abbrev now_tried : (g : Over) → After-settle g → List Bool
now_tried g c = set c.loop-entry.tried.items c.want_of-want.result true

-- the entry at which the loop stands is listed and open, its want is one of the plan's, and it wasn't tried
inside : (g : Over) (c : After-settle g) → c.loop-entry.entry < length c.args.wants.now.plan.now.want_of
inside g c = omega (arith, c.loop-entry-test.true, c.count-entry-end.ensures, ap count_of c.requires.dealt, c.requires.ready.wants.size)

below : (g : Over) (c : After-settle g) → c.want_of-want.result < c.args.wants.now.plan.now.wants
below g c =
    let listed = c.requires.ready.wants in
    omega (arith, listed.within c.loop-entry.entry (omega (arith, inside g c, listed.size)), c.want_of-want.ensures)

is_open : (g : Over) (c : After-settle g) → settled (g.E.Ledger.fates c.loop-entry.work.ledger) c.loop-entry.entry ≡ false
is_open g c = ap is_settled (sym c.fate.ensures.value) ∙ sym c.is_settled.ensures ∙ c.if-is_settled.false

-- it is one more
one_more : (g : Over) (c : After-settle g) → OneMore (is_tried c.loop-entry.tried.items) (is_tried (now_tried g c)) c.want_of-want.result c.args.wants.now.plan.now.wants
one_more g c =
    let tried = c.loop-entry.tried.items in
    let size = c.loop-entry.invariant.tries.size in
    record {
      below = below g c;
      wasnt = tried_is tried c.want_of-want.result c.index.result.now false (omega (arith, below g c, size)) c.index.ensures c.if-index.false;
      now = tried_now tried c.want_of-want.result c.args.wants.now.plan.now.wants size (below g c);
      others = tried_as tried c.want_of-want.result;
      within = λ v is. tried_within tried v c.args.wants.now.plan.now.wants size is;
    }

more : (g : Over) (c : After-settle g) → WantsDone g.S.Store g.V.View (task g.E.Ledger.run.listing c.args.wants.now) (is_tried (now_tried g c)) (before g c) (after g c)
more g c =
    done_more g.S.Store g.V.View (task g.E.Ledger.run.listing c.args.wants.now) c.requires.ready.wants (is_tried c.loop-entry.tried.items) (is_tried (now_tried g c))
    c.want_of-want.result (one_more g c) (before g c) (between g c) (after g c) c.loop-entry.invariant.done c.settle.ensures.settles

passed : (g : Over) (c : After-settle g) → HasPassed g.S.Store g.V.View (task g.E.Ledger.run.listing c.args.wants.now) one_pass (before g c) (after g c)
passed g c =
    let tried = c.loop-entry.tried.items in
    done_all g.S.Store g.V.View (task g.E.Ledger.run.listing c.args.wants.now) (is_tried (now_tried g c)) (before g c) (after g c) c.requires.alone
    (λ v is. tried_within (now_tried g c) v c.args.wants.now.plan.now.wants (length-set tried c.want_of-want.result true ∙ c.loop-entry.invariant.tries.size) is) (more g c)

-- what was lost before the call, and what is lost after it
abbrev LostBefore : (g : Over) → After-settle g → Lost → Type 0
LostBefore g c = LostTried g.S.Store g.V.View (task g.E.Ledger.run.listing c.args.wants.now) c.loop-entry.tried.items (before g c) (between g c)

abbrev LostAfter : (g : Over) → After-settle g → Lost → Type 0
LostAfter g c = LostTried g.S.Store g.V.View (task g.E.Ledger.run.listing c.args.wants.now) (now_tried g c) (before g c) (after g c)

still : (g : Over) (c : After-settle g) (x : Lost) → LostBefore g c x → LostAfter g c x
still g c =
    still_lost g.S.Store g.V.View (task g.E.Ledger.run.listing c.args.wants.now) c.loop-entry.tried.items (before g c) (between g c) (after g c) c.want_of-want.result
    c.requires.ready.wants (one_more g c) c.settle.ensures.settles.stretch

-- the stores had no memory
pub returns-then-lacked_memory-clause-passes : goal.returns-then-lacked_memory-clause-passes
returns-then-lacked_memory-clause-passes g c = passed g (goal.at.returns-then-lacked_memory-clause-passes g c).After-settle

pub returns-then-lacked_memory-clause-ends : goal.returns-then-lacked_memory-clause-ends
returns-then-lacked_memory-clause-ends g c =
    let at = (goal.at.returns-then-lacked_memory-clause-ends g c).After-settle in
    record {
      ok = tt;
      first = inr (inr refl);
      failed = λ is. absurd (memory_apart is);
      left = inl refl;
      memory = λ is. may_lack_before g.S.Store g.V.View (task g.E.Ledger.run.listing c.args.wants.now) (λ v. is_tried c.loop-entry.tried.items v ≡ true) (before g at) (between g at)
          c.loop-entry.invariant.done.stretch (lost_of _ _ c.settle.result c.in-Err-Lost.field-0 c.in-Err-Lost.lost c.in-Err-Lost.is c.in-Err-Lost.field-0-is c.settle.ensures.ends.memory
          (c.lacked_memory.ensures.yes c.if-lacked_memory.true));
    }

-- a write failed
pub returns-in-Err-TargetFault-clause-passes : goal.returns-in-Err-TargetFault-clause-passes
returns-in-Err-TargetFault-clause-passes g c = passed g (goal.at.returns-in-Err-TargetFault-clause-passes g c).After-settle

torn : (g : Over) (c : In-Err-TargetFault g) → Rose (g.E.Ledger.faults c.args.work.now.ledger) (g.E.Ledger.faults c.settle.new.work.ledger)
torn g c =
    let faults = g.E.Ledger.faults in
    rose_later (faults c.args.work.now.ledger) (faults c.loop-entry.work.ledger) (faults c.settle.new.work.ledger) c.loop-entry.invariant.done.stretch.step.never_falls
    (torn_of _ _ c.settle.result c.in-Err-TargetFault.field-0 c.in-Err-TargetFault.is c.in-Err-TargetFault.field-0-is c.settle.ensures.ends.lost)

-- no entry before was lost where no answer was kept
failed : (g : Over) (c : In-Err-TargetFault g) → settled (g.E.Ledger.fates c.loop-entry.work.ledger) c.loop-entry.entry ≡ false
    → SettledBelow (g.E.Ledger.fates c.loop-entry.work.ledger) c.loop-entry.entry
    → EndsTorn (task g.E.Ledger.run.listing c.args.wants.now) (g.E.Ledger.fates c.args.work.now.ledger) (g.E.Ledger.fates c.settle.new.work.ledger)
    (λ i. WhereTold (g.E.Ledger.held c.args.work.now.ledger).bytes (g.E.Ledger.held c.settle.new.work.ledger).bytes
    (FillsTorn g.E.Ledger.run.listing (g.E.Ledger.fates c.args.work.now.ledger) (g.E.Ledger.fates c.settle.new.work.ledger)
    (g.E.Ledger.faults c.args.work.now.ledger) (g.E.Ledger.faults c.settle.new.work.ledger) i))
failed g c not_yet all_before =
    let e = g.E.Ledger in
    let t = task e.run.listing c.args.wants.now in
    let a = stage e g.C.Cache c.args.work.now in
    let b = stage e g.C.Cache c.loop-entry.work in
    let h = stage e g.C.Cache c.settle.new.work in
    let first = c.loop-entry.invariant.done.stretch.step in
    let next = c.settle.ensures.settles.stretch.step in
    let f = c.settle.ensures.ends.failed (c.in-Err-TargetFault.is ∙ ap (λ y. Err y) c.in-Err-TargetFault.field-0-is) in
    record {
      entry = c.loop-entry.entry;
      listed = omega (arith, c.loop-entry-test.true, c.count-entry-end.ensures, ap count_of c.requires.dealt);
      was_open = open_before a.fates b.fates first.grows c.loop-entry.entry not_yet;
      before = λ i less. settled_on b.fates h.fates next.grows i (all_before i less);
      torn = f.0;
      among = subst (λ w. IsAmong (of_want t.plan w) f.0) c.want_of-want.ensures f.1;
      is_torn = torn_on t.listing a.fates b.fates h.fates a.faults b.faults h.faults f.0 next.never_falls first.grows next.grows
          a.held.bytes b.held.bytes h.held.bytes (sym first.tells) (sym next.tells) first.bytes f.2;
    }

pub returns-in-Err-TargetFault-clause-ends : goal.returns-in-Err-TargetFault-clause-ends
returns-in-Err-TargetFault-clause-ends g c =
    let places = goal.at.returns-in-Err-TargetFault-clause-ends g c in
    let at = places.After-settle in
    let d = c.args.wants.now.plan.now in
    let b = between g at in
    record {
      ok = tt;
      first = elim c.match-first.branch [
        | in-Some w ↦
            let x = first_later d (LostBefore g at) (LostAfter g at) (still g at) b.fates (after g at).fates c.settle.ensures.settles.stretch.step.grows
            c.loop-entry.tried.items c.loop-entry.first c.loop-entry.entry w.in-Some.lost w.in-Some.is c.loop-entry.invariant.tries in
            inl (w.in-Some.lost, w.result-is ∙ w.fault.ensures, (x.0.0, x.1))
        | in-None w ↦ inr (inl (w.result-is, torn g places.In-Err-TargetFault))
      ];
      failed = λ is. elim c.match-first.branch [
        | in-Some w ↦
            let lost = w.in-Some.lost in
            absurd (fault_apart lost.entry lost.id lost.refused (sym (w.result-is ∙ w.fault.ensures) ∙ err_same _ _ is))
        | in-None w ↦ failed g places.In-Err-TargetFault (is_open g at) (MatchOption-at_none (SettledBelow b.fates c.loop-entry.entry)
            (IsFirst (LostBefore g at) b.fates) w.in-None.is c.loop-entry.invariant.tries.first)
      ];
      left = inr (inl (torn g places.In-Err-TargetFault));
      memory = λ is. elim c.match-first.branch [
        | in-Some w ↦
            let lost = w.in-Some.lost in
            let x = MatchOption-at_some (SettledBelow b.fates c.loop-entry.entry) (IsFirst (LostBefore g at) b.fates) lost w.in-Some.is c.loop-entry.invariant.tries.first in
            absurd (memory_never lost.entry lost.id lost.refused x.0.0.had_memory (sym (w.result-is ∙ w.fault.ensures) ∙ err_same _ _ is))
        | in-None w ↦ absurd (target_apart (sym w.result-is ∙ err_same _ _ is))
      ];
    }

-- no write failed where nothing fails
pub returns-in-Err-TargetFault-clause-exactly : goal.returns-in-Err-TargetFault-clause-exactly
returns-in-Err-TargetFault-clause-exactly g c = λ cached maps quiet one.
    absurd (quiet_never (g.E.Ledger.faults c.args.work.now.ledger) (g.E.Ledger.faults c.settle.new.work.ledger) quiet.target
    (torn g (goal.at.returns-in-Err-TargetFault-clause-exactly g c).In-Err-TargetFault))

-- the want was settled, or its first open entry is lost
pub loop-entry-preserved : goal.loop-entry-preserved
loop-entry-preserved g c =
    let at = (goal.at.loop-entry-preserved g c).After-settle in
    let t = task g.E.Ledger.run.listing c.args.wants.now in
    let ended = c.settle.ensures in
    let inv = c.loop-entry.invariant in
    let tried = c.loop-entry.tried.items in
    let w = c.want_of-want.result in
    record {
      done = more g at;
      tries = elim c.match-settle.branch [
        | in-Ok e ↦ rw e.first-is (tries_settled t.plan (LostBefore g at) (LostAfter g at) (still g at) (between g at).fates (after g at).fates ended.settles.stretch.step.grows tried
            c.loop-entry.entry w (inside g at) (below g at) (sym c.want_of-want.ensures) c.loop-entry.first (on_ok_is c.settle.result e.in-Ok.field-0 e.in-Ok.is ended.ends.ok) inv.tries)
        | in-Err-Lost+else-lacked_memory e ↦
            let lost = e.in-Err-Lost.lost in
            let first : IsFirstOpen t.listing (between g at).fates (of_want t.plan w) lost = lost_of _ _ c.settle.result e.in-Err-Lost.field-0 lost e.in-Err-Lost.is e.in-Err-Lost.field-0-is ended.ends.lost in
            rw (e.first-is, e.or-first.ensures) (tries_lost t.plan (LostBefore g at) (LostAfter g at) (still g at) (between g at).fates (after g at).fates ended.settles.stretch.step.grows tried
            c.loop-entry.entry w (inside g at) (below g at) (sym c.want_of-want.ensures) c.loop-entry.first lost
            (lost_here t.plan (LostBefore g at) (between g at).fates tried c.loop-entry.entry (inside g at) t.listing c.loop-entry.first w lost (sym c.want_of-want.ensures) inv.tries
            (is_open g at) (one_more g at).wasnt first)
            (newly_lost g.S.Store g.V.View t tried (before g at) (between g at) (after g at) w c.requires.ready.wants (one_more g at) ended.settles.stretch (λ v. is_tried tried v ≡ true)
            lost c.settle.result e.in-Err-Lost.field-0 inv.done.stretch c.requires.alone ended.ends e.in-Err-Lost.is e.in-Err-Lost.field-0-is (e.lacked_memory.ensures.no e.if-lacked_memory.false))
            inv.tries)
      ];
      paid = paid_more g.S.Store g.V.View t (before g at) (between g at) (after g at) c.requires.ready.wants w (is_tried tried) (is_tried (now_tried g at)) (one_more g at)
          inv.done.stretch ended.settles inv.paid c.settle.result
          (elim c.match-settle.branch [
            | in-Ok e ↦ memory_ok c.settle.result e.in-Ok.field-0 e.in-Ok.is
            | in-Err-Lost+else-lacked_memory e ↦ memory_lost c.settle.result e.in-Err-Lost.field-0 e.in-Err-Lost.lost e.in-Err-Lost.is e.in-Err-Lost.field-0-is
                (e.lacked_memory.ensures.no e.if-lacked_memory.false)
          ])
          ended.ends.ok ended.exactly ended.shared;
    }

-- at the end
pub returns-in-Some-first-clause-passes : goal.returns-in-Some-first-clause-passes
returns-in-Some-first-clause-passes g c =
    done_all g.S.Store g.V.View (task g.E.Ledger.run.listing c.args.wants.now) (is_tried c.loop-entry.tried.items) (stage g.E.Ledger g.C.Cache c.args.work.now)
    (stage g.E.Ledger g.C.Cache c.loop-entry.work) c.requires.alone (λ v is. tried_within c.loop-entry.tried.items v c.args.wants.now.plan.now.wants c.loop-entry.invariant.tries.size is)
    c.loop-entry.invariant.done

pub returns-in-Some-first-clause-ends : goal.returns-in-Some-first-clause-ends
returns-in-Some-first-clause-ends g c =
    let t = task g.E.Ledger.run.listing c.args.wants.now in
    let a = stage g.E.Ledger g.C.Cache c.args.work.now in
    let b = stage g.E.Ledger g.C.Cache c.loop-entry.work in
    let tried = c.loop-entry.tried.items in
    let lost = c.in-Some-first.lost in
    let was = MatchOption-at_some (SettledBelow b.fates c.loop-entry.entry) (IsFirst (LostTried g.S.Store g.V.View t tried a b) b.fates) lost c.in-Some-first.is
    c.loop-entry.invariant.tries.first in
    record {
      ok = tt;
      first = inl (lost, c.fault-in-Some-first.ensures, (was.0.0, was.1));
      failed = λ is. absurd (fault_apart lost.entry lost.id lost.refused (sym c.fault-in-Some-first.ensures ∙ err_same _ _ is));
      left = inr (inr (λ i inside isnt.
          let gone = left_lost t.plan (LostTried g.S.Store g.V.View t tried a b) b.fates tried c.loop-entry.first c.loop-entry.entry c.loop-entry.invariant.tries i
          (omega (arith, inside, c.loop-entry-test.false, c.count-entry-end.ensures, ap count_of c.requires.dealt)) (omega (arith, inside, c.requires.ready.wants.size)) isnt in
          (gone.0, gone.1, gone.2.0)));
      memory = λ is. absurd (memory_never lost.entry lost.id lost.refused was.0.0.had_memory (sym c.fault-in-Some-first.ensures ∙ err_same _ _ is));
    }

pub returns-in-Some-first-clause-exactly : goal.returns-in-Some-first-clause-exactly
returns-in-Some-first-clause-exactly g c =
    let t = task g.E.Ledger.run.listing c.args.wants.now in
    let a = stage g.E.Ledger g.C.Cache c.args.work.now in
    let b = stage g.E.Ledger g.C.Cache c.loop-entry.work in
    let tried = c.loop-entry.tried.items in
    λ cached maps nothing one. unless_any {A = Unit {0}} _ (Err c.fault-in-Some-first.result)
    (paid_all g.S.Store g.V.View t (is_tried tried) a b
    (λ w. tried_all t.listing t.plan a.fates b.fates tried c.loop-entry.entry w c.requires.ready.wants
    (omega (arith, c.loop-entry-test.false, c.count-entry-end.ensures, ap count_of c.requires.dealt)) c.loop-entry.invariant.tries.cover c.loop-entry.invariant.paid.untouched)
    c.loop-entry.invariant.paid c.requires.alone cached maps nothing one)

pub returns-clause-passes : goal.returns-clause-passes
returns-clause-passes g c =
    done_all g.S.Store g.V.View (task g.E.Ledger.run.listing c.args.wants.now) (is_tried c.loop-entry.tried.items) (stage g.E.Ledger g.C.Cache c.args.work.now)
    (stage g.E.Ledger g.C.Cache c.loop-entry.work) c.requires.alone (λ v is. tried_within c.loop-entry.tried.items v c.args.wants.now.plan.now.wants c.loop-entry.invariant.tries.size is)
    c.loop-entry.invariant.done

pub returns-clause-exactly : goal.returns-clause-exactly
returns-clause-exactly g c =
    let t = task g.E.Ledger.run.listing c.args.wants.now in
    let a = stage g.E.Ledger g.C.Cache c.args.work.now in
    let b = stage g.E.Ledger g.C.Cache c.loop-entry.work in
    let tried = c.loop-entry.tried.items in
    paid_all g.S.Store g.V.View t (is_tried tried) a b
    (λ w. tried_all t.listing t.plan a.fates b.fates tried c.loop-entry.entry w c.requires.ready.wants
    (omega (arith, c.loop-entry-test.false, c.count-entry-end.ensures, ap count_of c.requires.dealt)) c.loop-entry.invariant.tries.cover c.loop-entry.invariant.paid.untouched)
    c.loop-entry.invariant.paid c.requires.alone
