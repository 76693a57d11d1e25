use Rattle.std.proofs.Common.{sym, subst}
use Rattle.caibx_codec.specs.Listing.{count_of}
use Rattle.range_survey.specs.Fates.{FirstFates}
use Rattle.worker_cases.proofs.filling.fill_halves.Goals as goal

pub new-second-requires-clause-first : goal.new-second-requires-clause-first
new-second-requires-clause-first g c = subst (λ m. FirstFates m (count_of g.R.RunName.run.listing)) (sym c.requires.same) c.requires.first
