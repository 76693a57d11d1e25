use Rattle.std.proofs.Common.{List, ℕ, subst, ◌∙◌}
use Rattle.dsy_base.specs.Texts.{Puts}
use Rattle.verify_tool.proofs.Sending.{put_gives}
use Rattle.verify_tool.proofs.info.info.Goals as goal

pub returns-in-Ok-clause-bytes : goal.returns-in-Ok-clause-bytes
returns-in-Ok-clause-bytes g c =
    let P : List ℕ → Type 0 = λ t. Puts t (g.S.Sink.output c.args.out.now).taken (g.S.Sink.output c.put.new.self).taken c.put.result in
    subst P (c.as_bytes.ensures.value ∙ c.in-Ok.ensures.value) (put_gives c.as_bytes.result.now (g.S.Sink.output c.args.out.now).taken (g.S.Sink.output c.put.new.self).taken c.put.result c.put.ensures.ok c.put.ensures.err c.put.ensures.kept)
