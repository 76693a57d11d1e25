use Rattle.store_group.proofs.answer.+ask.Given as goal

abbrev pub decreases-ask : goal.decreases-ask
decreases-ask g l = l.retries
