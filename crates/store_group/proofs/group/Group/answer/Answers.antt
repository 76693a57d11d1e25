use Rattle.std.proofs.Common.{◌≡◌, IsTrue, ◌<◌, ◌+◌, ℕ, List, length, refl, sym, subst, arith}
use Rattle.std.specs.List.{AllZip}
use Rattle.std.proofs.lemmas.List.{with_items_is}
use Rattle.std.specs.Vec.{with_items}
use Rattle.store_group.specs.Answers.{AnswersAt, AnswersRound, AskedUpTo, FailsAll, AnswerSays}
use Rattle.store_group.specs.Groups.{CountsByAnswer, CountsFailures, Grouped, as_store, group_faults}
use Rattle.store_group.specs.declared.answer.Answer.TheVariants as answer
use Rattle.store_group.proofs.Calm.{asked_as, asked_still, counts_answered, counts_failed, rose_one, says_as, stays_first}
use Rattle.store_group.proofs.Groups.{answers_unfailed, failures_more, failures_still}
use Rattle.store_group.proofs.group.Group.answer.Goals as goal

-- the stores afterwards
abbrev left : {S : Type 0} → List S → ℕ → ℕ → ℕ → Grouped S
left stores active retries failed = record { stores = stores; active = active; retries = retries; failed = failed }

pub invariant_of-self : goal.invariant_of-self
invariant_of-self g c =
    let kept = with_items_is c.self.inside.stores c.ask_round.new.stores (omega (arith, c.ask_round.auto.stores, c.as_mut_slice-stores.ensures.len)) in
    let turns = subst (λ (l : List g.row.S.Denot). AllZip (AskedUpTo g.S.Store c.args.question (c.self.inside.retries + 1) c.args.id.now.0) l c.ask_round.new.stores) c.as_mut_slice-stores.ensures.value c.ask_round.ensures.asked in
    let round = subst (λ (l : List g.row.S.Denot). AnswersRound g.S.Store c.args.question c.self.inside.retries c.args.id.now.0 c.self.inside.active c.in-Some.number l c.ask_round.new.stores c.ask_round.new.out c.in-Some.answer) c.as_mut_slice-stores.ensures.value c.in-Some.ensures.answer in
    let old = left c.self.inside.stores.items c.self.inside.active c.self.inside.retries c.self.inside.failed in
    let new = left c.ask_round.new.stores c.in-Some.number c.self.inside.retries c.self.inside.failed in
    let first = stays_first g.S.Store c.args.question c.args.id.now.0 c.ask_round.new.out old new c.self.invariant.0 g.S.Store.never_fails c.self.invariant.1 (λ s. g.met.S.Store.sure s) c.in-Some.answer round in
    subst (λ (l : List g.row.S.Denot). (c.in-Some.number < length l) × (IsTrue g.S.Store.never_fails → c.in-Some.number ≡ 0) × CountsFailures g.S.Store.faults (left l c.in-Some.number c.self.inside.retries c.self.inside.failed)) (sym kept)
    (c.in-Some.ensures.inside, first, failures_still g.S.Store c.args.question c.self.inside.retries c.args.id.now.0 c.self.inside.failed c.self.inside.stores.items c.ask_round.new.stores turns c.self.invariant.2)

pub invariant_of-self-in-None : goal.invariant_of-self-in-None
invariant_of-self-in-None g c =
    let kept = with_items_is c.self.inside.stores c.ask_round.new.stores (omega (arith, c.ask_round.auto.stores, c.as_mut_slice-stores.ensures.len)) in
    let failed = subst (λ (l : List g.row.S.Denot). AllZip (FailsAll g.S.Store c.self.inside.retries) l c.ask_round.new.stores) c.as_mut_slice-stores.ensures.value (c.ask_round.ensures.failed c.in-None.is) in
    let counted = failures_more g.S.Store c.args.question c.self.inside.retries c.args.id.now.0 c.self.inside.failed c.self.inside.stores.items c.ask_round.new.stores failed c.self.invariant.2 in
    subst (λ (l : List g.row.S.Denot). (c.self.inside.active < length l) × (IsTrue g.S.Store.never_fails → c.self.inside.active ≡ 0) × CountsFailures g.S.Store.faults (left l c.self.inside.active c.self.inside.retries c.raise-self-inside.result)) (sym kept) (
      omega (arith, c.self.invariant.0, c.ask_round.auto.stores, c.as_mut_slice-stores.ensures.len),
      c.self.invariant.1,
      subst (λ (n : ℕ). CountsFailures g.S.Store.faults (left c.ask_round.new.stores c.self.inside.active c.self.inside.retries n)) (sym c.raise-self-inside.ensures.value) counted,
    )

pub returns-in-Some-clause-says : goal.returns-in-Some-clause-says
returns-in-Some-clause-says g c =
    let kept = with_items_is c.self.inside.stores c.ask_round.new.stores (omega (arith, c.ask_round.auto.stores, c.as_mut_slice-stores.ensures.len)) in
    let old = left c.self.inside.stores.items c.self.inside.active c.self.inside.retries c.self.inside.failed in
    let new = left c.ask_round.new.stores c.in-Some.number c.self.inside.retries c.self.inside.failed in
    let at = subst (λ (l : List g.row.S.Denot). AnswersAt g.S.Store c.args.question c.args.id.now.0 c.in-Some.number l c.ask_round.new.stores c.ask_round.new.out c.in-Some.answer) c.as_mut_slice-stores.ensures.value c.in-Some.ensures.at in
    let turns = subst (λ (l : List g.row.S.Denot). AllZip (AskedUpTo g.S.Store c.args.question (c.self.inside.retries + 1) c.args.id.now.0) l c.ask_round.new.stores) c.as_mut_slice-stores.ensures.value c.ask_round.ensures.asked in
    let round = subst (λ (l : List g.row.S.Denot). AnswersRound g.S.Store c.args.question c.self.inside.retries c.args.id.now.0 c.self.inside.active c.in-Some.number l c.ask_round.new.stores c.ask_round.new.out c.in-Some.answer) c.as_mut_slice-stores.ensures.value c.in-Some.ensures.answer in
    let says = says_as g.S.Store c.args.question c.args.id.now.0 c.ask_round.new.out old new c.self.invariant.0 (λ s. g.met.S.Store.steady s) g.S.Store.never_fails c.self.invariant.1 (λ s. g.met.S.Store.sure s) turns c.in-Some.answer at round in
    subst (λ (v : Grouped g.row.S.Denot). AnswerSays (as_store g.S.Store) c.args.question c.args.id.now.0 v (left (with_items c.self.inside.stores c.ask_round.new.stores).items c.in-Some.number c.self.inside.retries c.self.inside.failed) c.ask_round.new.out c.in-Some.answer) c.self.view_is
    (subst (λ (l : List g.row.S.Denot). AnswerSays (as_store g.S.Store) c.args.question c.args.id.now.0 old (left l c.in-Some.number c.self.inside.retries c.self.inside.failed) c.ask_round.new.out c.in-Some.answer) (sym kept) says)

pub returns-in-Some-clause-asked : goal.returns-in-Some-clause-asked
returns-in-Some-clause-asked g c =
    let kept = with_items_is c.self.inside.stores c.ask_round.new.stores (omega (arith, c.ask_round.auto.stores, c.as_mut_slice-stores.ensures.len)) in
    let old = left c.self.inside.stores.items c.self.inside.active c.self.inside.retries c.self.inside.failed in
    let new = left c.ask_round.new.stores c.in-Some.number c.self.inside.retries c.self.inside.failed in
    let turns = subst (λ (l : List g.row.S.Denot). AllZip (AskedUpTo g.S.Store c.args.question (c.self.inside.retries + 1) c.args.id.now.0) l c.ask_round.new.stores) c.as_mut_slice-stores.ensures.value c.ask_round.ensures.asked in
    let round = subst (λ (l : List g.row.S.Denot). AnswersRound g.S.Store c.args.question c.self.inside.retries c.args.id.now.0 c.self.inside.active c.in-Some.number l c.ask_round.new.stores c.ask_round.new.out c.in-Some.answer) c.as_mut_slice-stores.ensures.value c.in-Some.ensures.answer in
    let asked = asked_as g.S.Store c.args.question c.args.id.now.0 c.ask_round.new.out old new c.self.invariant.0 refl (omega arith) (λ s. g.met.S.Store.steady s) g.S.Store.never_fails (λ s. g.met.S.Store.sure s) turns c.in-Some.answer round in
    subst (λ (v : Grouped g.row.S.Denot). AskedUpTo (as_store g.S.Store) c.args.question 1 c.args.id.now.0 v (left (with_items c.self.inside.stores c.ask_round.new.stores).items c.in-Some.number c.self.inside.retries c.self.inside.failed)) c.self.view_is
    (subst (λ (l : List g.row.S.Denot). AskedUpTo (as_store g.S.Store) c.args.question 1 c.args.id.now.0 old (left l c.in-Some.number c.self.inside.retries c.self.inside.failed)) (sym kept) asked)

pub returns-in-Some-clause-failed : goal.returns-in-Some-clause-failed
returns-in-Some-clause-failed g c failed =
    absurd (answers_unfailed g.S.Store c.args.question c.args.id.now.0 c.ask_round.new.out c.in-Some.answer c.in-Some.number _ c.ask_round.new.stores c.in-Some.ensures.at failed)

pub returns-in-None-clause-asked : goal.returns-in-None-clause-asked
returns-in-None-clause-asked g c =
    let kept = with_items_is c.self.inside.stores c.ask_round.new.stores (omega (arith, c.ask_round.auto.stores, c.as_mut_slice-stores.ensures.len)) in
    let old = left c.self.inside.stores.items c.self.inside.active c.self.inside.retries c.self.inside.failed in
    let new = left c.ask_round.new.stores c.self.inside.active c.self.inside.retries c.raise-self-inside.result in
    let turns = subst (λ (l : List g.row.S.Denot). AllZip (AskedUpTo g.S.Store c.args.question (c.self.inside.retries + 1) c.args.id.now.0) l c.ask_round.new.stores) c.as_mut_slice-stores.ensures.value c.ask_round.ensures.asked in
    let asked = asked_still g.S.Store c.args.question c.args.id.now.0 c.ask_round.new.out old new c.self.invariant.0 refl c.raise-self-inside.ensures.faults refl (λ s. g.met.S.Store.steady s) g.S.Store.never_fails (λ s. g.met.S.Store.sure s) turns in
    subst (λ (v : Grouped g.row.S.Denot). AskedUpTo (as_store g.S.Store) c.args.question 1 c.args.id.now.0 v (left (with_items c.self.inside.stores c.ask_round.new.stores).items c.self.inside.active c.self.inside.retries c.raise-self-inside.result)) c.self.view_is
    (subst (λ (l : List g.row.S.Denot). AskedUpTo (as_store g.S.Store) c.args.question 1 c.args.id.now.0 old (left l c.self.inside.active c.self.inside.retries c.raise-self-inside.result)) (sym kept) asked)

pub returns-in-Some-clause-counts : goal.returns-in-Some-clause-counts
returns-in-Some-clause-counts g c =
    let kept = with_items_is c.self.inside.stores c.ask_round.new.stores (omega (arith, c.ask_round.auto.stores, c.as_mut_slice-stores.ensures.len)) in
    let old = left c.self.inside.stores.items c.self.inside.active c.self.inside.retries c.self.inside.failed in
    let new = left c.ask_round.new.stores c.in-Some.number c.self.inside.retries c.self.inside.failed in
    let at = subst (λ (l : List g.row.S.Denot). AnswersAt g.S.Store c.args.question c.args.id.now.0 c.in-Some.number l c.ask_round.new.stores c.ask_round.new.out c.in-Some.answer) c.as_mut_slice-stores.ensures.value c.in-Some.ensures.at in
    let counts = counts_answered g.S.Store c.args.question c.args.id.now.0 c.ask_round.new.out old new c.self.invariant.0 g.S.Store.never_fails c.in-Some.answer refl at in
    subst (λ (v : Grouped g.row.S.Denot). CountsByAnswer c.in-Some.answer (group_faults g.S.Store.never_fails v) (group_faults g.S.Store.never_fails (left (with_items c.self.inside.stores c.ask_round.new.stores).items c.in-Some.number c.self.inside.retries c.self.inside.failed))) c.self.view_is
    (subst (λ (l : List g.row.S.Denot). CountsByAnswer c.in-Some.answer (group_faults g.S.Store.never_fails old) (group_faults g.S.Store.never_fails (left l c.in-Some.number c.self.inside.retries c.self.inside.failed))) (sym kept) counts)

pub returns-in-None-clause-counts : goal.returns-in-None-clause-counts
returns-in-None-clause-counts g c =
    let kept = with_items_is c.self.inside.stores c.ask_round.new.stores (omega (arith, c.ask_round.auto.stores, c.as_mut_slice-stores.ensures.len)) in
    let old = left c.self.inside.stores.items c.self.inside.active c.self.inside.retries c.self.inside.failed in
    let new = left c.ask_round.new.stores c.self.inside.active c.self.inside.retries c.raise-self-inside.result in
    let fails = subst (λ (l : List g.row.S.Denot). AllZip (FailsAll g.S.Store c.self.inside.retries) l c.ask_round.new.stores) c.as_mut_slice-stores.ensures.value (c.ask_round.ensures.failed c.in-None.is) in
    let rose = rose_one c.self.inside.failed c.raise-self-inside.result c.raise-self-inside.ensures.value in
    let counts = counts_failed g.S.Store c.args.question c.args.id.now.0 c.ask_round.new.out old new c.self.invariant.0 g.S.Store.never_fails (λ s. g.met.S.Store.sure s) fails rose in
    subst (λ (v : Grouped g.row.S.Denot). CountsByAnswer answer.Failed (group_faults g.S.Store.never_fails v) (group_faults g.S.Store.never_fails (left (with_items c.self.inside.stores c.ask_round.new.stores).items c.self.inside.active c.self.inside.retries c.raise-self-inside.result))) c.self.view_is
    (subst (λ (l : List g.row.S.Denot). CountsByAnswer answer.Failed (group_faults g.S.Store.never_fails old) (group_faults g.S.Store.never_fails (left l c.self.inside.active c.self.inside.retries c.raise-self-inside.result))) (sym kept) counts)
