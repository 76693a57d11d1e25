use Rattle.std.proofs.Common.{◌+◌}
use Rattle.store_group.specs.Answers.{AskedUpTo}
use Rattle.store_group.proofs.Questions.{all_behind, all_none}
use Rattle.store_group.proofs.turns.+ask_in_turn.Goals as goal

pub returns-then-ne-clause-asked : goal.returns-then-ne-clause-asked
returns-then-ne-clause-asked g t c =
    all_behind g.S.Store c.args.question c.args.id.now.0 (AskedUpTo g.S.Store c.args.question (c.args.retries + 1) c.args.id.now.0) c.in_ok-stores.first.now c.ask-answer.new.store c.in_ok-stores.rest.now c.in_ok-stores.rest.now c.args.stores.now c.in_ok-stores.ensures.cases.0 c.ask-answer.ensures.asked (all_none g.S.Store c.args.question c.args.id.now.0 (c.args.retries + 1) c.in_ok-stores.rest.now)
