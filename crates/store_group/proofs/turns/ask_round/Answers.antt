use Rattle.std.proofs.Common.{◌+◌, arith}
use Rattle.store_group.specs.Answers.{AskedUpTo, FailsAll}
use Rattle.store_group.proofs.Groups.{answers_first, answers_second, first_at, may_first, round_first, round_second, zip_parts}
use Rattle.store_group.proofs.Questions.{all_none}
use Rattle.store_group.proofs.turns.ask_round.Goals as goal

pub returns-in-Some-clause-at : goal.returns-in-Some-clause-at
returns-in-Some-clause-at g c =
    answers_second g.S.Store c.args.question c.args.id.now.0 c.ask_in_turn.new.out c.in-Some.answer c.in-Some.number (c.args.active + c.in-Some.number) c.args.stores.now c.split_at_mut-before.result.0.now c.split_at_mut-before.result.1.now c.ask_in_turn.new.stores c.split_at_mut-before.ensures.value
    (omega (arith, c.split_at_mut-before.ensures.front_len)) (first_at g.S.Store c.args.question c.args.id.now.0 c.ask_in_turn.new.out c.args.retries c.in-Some.answer c.in-Some.number c.split_at_mut-before.result.1.now c.ask_in_turn.new.stores c.in-Some.ensures.answer)

pub returns-in-Some-clause-asked : goal.returns-in-Some-clause-asked
returns-in-Some-clause-asked g c =
    zip_parts (AskedUpTo g.S.Store c.args.question (c.args.retries + 1) c.args.id.now.0) c.args.stores.now c.split_at_mut-before.result.0.now c.split_at_mut-before.result.1.now c.split_at_mut-before.result.0.now c.ask_in_turn.new.stores c.split_at_mut-before.ensures.value
    (all_none g.S.Store c.args.question c.args.id.now.0 (c.args.retries + 1) c.split_at_mut-before.result.0.now) c.ask_in_turn.ensures.asked

pub returns-in-None-clause-at : goal.returns-in-None-clause-at
returns-in-None-clause-at g c =
    answers_first g.S.Store c.args.question c.args.id.now.0 c.ask_in_turn-in-None.new.out c.ask_in_turn-in-None.result c.args.stores.now c.split_at_mut-before.result.0.now c.split_at_mut-before.result.1.now c.ask_in_turn-in-None.new.stores c.ask_in_turn.new.stores c.split_at_mut-before.ensures.value (may_first g.S.Store c.args.question c.args.retries c.args.id.now.0 c.ask_in_turn-in-None.new.out c.ask_in_turn-in-None.result c.split_at_mut-before.result.0.now c.ask_in_turn-in-None.new.stores c.ask_in_turn-in-None.ensures.answer)

pub returns-in-None-clause-failed : goal.returns-in-None-clause-failed
returns-in-None-clause-failed g c none =
    zip_parts (FailsAll g.S.Store c.args.retries) c.args.stores.now c.split_at_mut-before.result.0.now c.split_at_mut-before.result.1.now c.ask_in_turn-in-None.new.stores c.ask_in_turn.new.stores c.split_at_mut-before.ensures.value
    (c.ask_in_turn-in-None.ensures.failed none) (c.ask_in_turn.ensures.failed c.in-None.is)

pub returns-in-None-clause-asked : goal.returns-in-None-clause-asked
returns-in-None-clause-asked g c =
    zip_parts (AskedUpTo g.S.Store c.args.question (c.args.retries + 1) c.args.id.now.0) c.args.stores.now c.split_at_mut-before.result.0.now c.split_at_mut-before.result.1.now c.ask_in_turn-in-None.new.stores c.ask_in_turn.new.stores c.split_at_mut-before.ensures.value
    c.ask_in_turn-in-None.ensures.asked c.ask_in_turn.ensures.asked

pub returns-in-Some-clause-answer : goal.returns-in-Some-clause-answer
returns-in-Some-clause-answer g c =
    round_second g.S.Store c.args.question c.args.retries c.args.id.now.0 c.ask_in_turn.new.out c.in-Some.answer c.args.active c.in-Some.number (c.args.active + c.in-Some.number) c.args.stores.now c.split_at_mut-before.result.0.now c.split_at_mut-before.result.1.now c.ask_in_turn.new.stores c.split_at_mut-before.ensures.value c.split_at_mut-before.ensures.front_len (omega arith) c.in-Some.ensures.answer

pub returns-in-None-clause-answer : goal.returns-in-None-clause-answer
returns-in-None-clause-answer g c =
    round_first g.S.Store c.args.question c.args.retries c.args.id.now.0 c.ask_in_turn-in-None.new.out c.args.active c.ask_in_turn-in-None.result c.args.stores.now c.split_at_mut-before.result.0.now c.split_at_mut-before.result.1.now c.ask_in_turn-in-None.new.stores c.ask_in_turn.new.stores c.split_at_mut-before.ensures.value c.split_at_mut-before.ensures.front_len
    (omega (arith, c.ask_in_turn-in-None.auto.stores, c.split_at_mut-before.ensures.front_len)) (c.ask_in_turn.ensures.failed c.in-None.is) c.ask_in_turn-in-None.ensures.answer
