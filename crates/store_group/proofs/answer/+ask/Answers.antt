use Rattle.std.proofs.Common.{◌+◌, arith, refl}
use Rattle.store_group.proofs.Questions.{asked_on}
use Rattle.store_group.proofs.answer.+ask.Goals as goal

pub returns-in-Failed-clause-asked : goal.returns-in-Failed-clause-asked
returns-in-Failed-clause-asked g t c =
    asked_on g.S.Store c.args.question c.args.id.now.0 _ (c.args.retries + 1) c.args.store.now c.ask_once-2.new.store c.ask.new.store (omega (arith, c.if-retries-eq0.false)) (c.in-Failed.ensures.failed refl) c.ask_once-2.ensures.asked c.ask.ensures.asked
