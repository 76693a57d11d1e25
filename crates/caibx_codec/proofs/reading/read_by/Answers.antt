use Rattle.std.proofs.Common.{◌≡◌, ◌∙◌, ap}
use Rattle.std.specs.Prelude.{min}
use Rattle.caibx_codec.specs.Answers.{FirstIn, ReadsIndex}
use Rattle.caibx_codec.proofs.Views.{no_files, read_whole}
use Rattle.caibx_codec.proofs.reading.read_by.Goals as goal

pub returns-in-Ok-clause-first : goal.returns-in-Ok-clause-first
returns-in-Ok-clause-first g c =
    let end : c.min-end.result ≡ min (g.V.View.held c.args.v.now).size 167772265 = c.min-end.ensures ∙ ap (λ n. min n 167772265) c.size.ensures in
    read_whole _ c.feed_front.new.reader _ c.min-end.result (λ t. FirstIn t c.finished.result) (g.met.V.View.sized c.args.v.now) end c.in-Ok.ensures.ok c.in-Ok.ensures.size c.finished.ensures.first

pub returns-in-Ok-clause-exactly : goal.returns-in-Ok-clause-exactly
returns-in-Ok-clause-exactly g c =
    let end : c.min-end.result ≡ min (g.V.View.held c.args.v.now).size 167772265 = c.min-end.ensures ∙ ap (λ n. min n 167772265) c.size.ensures in
    read_whole _ c.feed_front.new.reader _ c.min-end.result (λ t. ReadsIndex t c.finished.result) (g.met.V.View.sized c.args.v.now) end c.in-Ok.ensures.ok c.in-Ok.ensures.size c.finished.ensures.exactly

pub returns-in-Err-clause-exactly : goal.returns-in-Err-clause-exactly
returns-in-Err-clause-exactly g c = no_files _ _ c.in-Err.ensures.first
