use Rattle.std.proofs.Common.{map, string_bytes, sym, ◌∙◌, arith}
use Rattle.std.proofs.lemmas.List.{length-map}
use Rattle.command_worlds.specs.Worlds.{world}
use Rattle.desync_cli.proofs.Replaced.{left_behind}
use Rattle.server_commands.specs.Serving.{heard}
use Rattle.desync_cli.proofs.AtHand.{ends_at_hand}
use Rattle.desync_cli.proofs.Done.{achieved}
use Rattle.desync_cli.proofs.Exact.{exact}
use Rattle.desync_cli.proofs.Fair.{answered, blamed, kept, nothing_failed, tells_refusal}
use Rattle.desync_cli.proofs.ShortNames.{all_short, short_name}
use Rattle.desync_cli.proofs.run.desync.Goals as goal
use Rattle.desync_cli.specs.Commands.{sure_types}
use Rattle.proxy_command.specs.ProxyServing.{look_types}

pub tell-requires-clause-fits : goal.tell-requires-clause-fits
tell-requires-clause-fits g c =
    let words = map string_bytes c.args.words.now in
    let all = all_short c.longest.result words (λ i lt. c.longest.ensures i (omega (arith, lt, length-map c.args.words.now string_bytes))) in
    let short = short_name c.longest.result (sure_types g.F.Target.View.never_fails (look_types g.F.Look.Look.never_fails g.F.Look.Look.may_lack_memory)) (heard g.F.Folder.Look.never_fails (g.L.Listen.state c.args.listen.now) (g.L.Listen.state c.run-answer.new.listen)) words (world (g.F.Files.disk c.args.files.now) (g.D.Dial.state c.args.dial.now) (g.O.Sink.output c.args.out.now)) (world (g.F.Files.disk c.run-answer.new.files) (g.D.Dial.state c.run-answer.new.dial) (g.O.Sink.output c.run-answer.new.out)) c.run-answer.result all c.run-answer.ensures.ends in
    record { line = omega (arith, short, c.in-Ok.ensures.room); sink = omega (arith, short, c.in-Ok.ensures.fits) }

pub returns-clause-usage : goal.returns-clause-usage
returns-clause-usage g c =
    rw c.outcome_of-outcome.ensures (tells_refusal (sure_types g.F.Target.View.never_fails (look_types g.F.Look.Look.never_fails g.F.Look.Look.may_lack_memory)) (heard g.F.Folder.Look.never_fails (g.L.Listen.state c.args.listen.now) (g.L.Listen.state c.run-answer.new.listen)) (map string_bytes c.args.words.now) (world (g.F.Files.disk c.args.files.now) (g.D.Dial.state c.args.dial.now) (g.O.Sink.output c.args.out.now)) (world (g.F.Files.disk c.run-answer.new.files) (g.D.Dial.state c.run-answer.new.dial) (g.O.Sink.output c.run-answer.new.out)) c.run-answer.result c.run-answer.ensures.ends)

pub returns-clause-ends : goal.returns-clause-ends
returns-clause-ends g c =
    rw c.outcome_of-outcome.ensures (answered (sure_types g.F.Target.View.never_fails (look_types g.F.Look.Look.never_fails g.F.Look.Look.may_lack_memory)) (heard g.F.Folder.Look.never_fails (g.L.Listen.state c.args.listen.now) (g.L.Listen.state c.run-answer.new.listen)) (map string_bytes c.args.words.now) (world (g.F.Files.disk c.args.files.now) (g.D.Dial.state c.args.dial.now) (g.O.Sink.output c.args.out.now)) (world (g.F.Files.disk c.run-answer.new.files) (g.D.Dial.state c.run-answer.new.dial) (g.O.Sink.output c.run-answer.new.out)) c.run-answer.result c.run-answer.ensures.ends)

pub returns-clause-kept : goal.returns-clause-kept
returns-clause-kept g c =
    (kept (sure_types g.F.Target.View.never_fails (look_types g.F.Look.Look.never_fails g.F.Look.Look.may_lack_memory)) (heard g.F.Folder.Look.never_fails (g.L.Listen.state c.args.listen.now) (g.L.Listen.state c.run-answer.new.listen)) (map string_bytes c.args.words.now) (world (g.F.Files.disk c.args.files.now) (g.D.Dial.state c.args.dial.now) (g.O.Sink.output c.args.out.now)) (world (g.F.Files.disk c.run-answer.new.files) (g.D.Dial.state c.run-answer.new.dial) (g.O.Sink.output c.run-answer.new.out)) c.run-answer.result c.run-answer.ensures.ends)

pub returns-clause-cause : goal.returns-clause-cause
returns-clause-cause g c =
    rw c.outcome_of-outcome.ensures (blamed (sure_types g.F.Target.View.never_fails (look_types g.F.Look.Look.never_fails g.F.Look.Look.may_lack_memory)) (heard g.F.Folder.Look.never_fails (g.L.Listen.state c.args.listen.now) (g.L.Listen.state c.run-answer.new.listen)) (map string_bytes c.args.words.now) (world (g.F.Files.disk c.args.files.now) (g.D.Dial.state c.args.dial.now) (g.O.Sink.output c.args.out.now)) (world (g.F.Files.disk c.run-answer.new.files) (g.D.Dial.state c.run-answer.new.dial) (g.O.Sink.output c.run-answer.new.out)) c.run-answer.result c.run-answer.ensures.ends)

pub returns-clause-quiet : goal.returns-clause-quiet
returns-clause-quiet g c =
    rw c.outcome_of-outcome.ensures (nothing_failed (sure_types g.F.Target.View.never_fails (look_types g.F.Look.Look.never_fails g.F.Look.Look.may_lack_memory)) (heard g.F.Folder.Look.never_fails (g.L.Listen.state c.args.listen.now) (g.L.Listen.state c.run-answer.new.listen)) (map string_bytes c.args.words.now) (world (g.F.Files.disk c.args.files.now) (g.D.Dial.state c.args.dial.now) (g.O.Sink.output c.args.out.now)) (world (g.F.Files.disk c.run-answer.new.files) (g.D.Dial.state c.run-answer.new.dial) (g.O.Sink.output c.run-answer.new.out)) c.run-answer.result c.run-answer.ensures.ends)

pub returns-clause-done : goal.returns-clause-done
returns-clause-done g c =
    let told = g.met.F.Files.told c.args.files.now in
    rw c.outcome_of-outcome.ensures (λ done.
    achieved (sure_types g.F.Target.View.never_fails (look_types g.F.Look.Look.never_fails g.F.Look.Look.may_lack_memory)) (heard g.F.Folder.Look.never_fails (g.L.Listen.state c.args.listen.now) (g.L.Listen.state c.run-answer.new.listen)) (map string_bytes c.args.words.now) (world (g.F.Files.disk c.args.files.now) (g.D.Dial.state c.args.dial.now) (g.O.Sink.output c.args.out.now)) (world (g.F.Files.disk c.run-answer.new.files) (g.D.Dial.state c.run-answer.new.dial) (g.O.Sink.output c.run-answer.new.out)) c.run-answer.result (told.0 ∙ sym told.1) c.run-answer.ensures.ends done)

pub returns-clause-left : goal.returns-clause-left
returns-clause-left g c =
    let told = g.met.F.Files.told c.args.files.now in
    rw c.outcome_of-outcome.ensures (λ refused.
    left_behind (sure_types g.F.Target.View.never_fails (look_types g.F.Look.Look.never_fails g.F.Look.Look.may_lack_memory)) (heard g.F.Folder.Look.never_fails (g.L.Listen.state c.args.listen.now) (g.L.Listen.state c.run-answer.new.listen)) (map string_bytes c.args.words.now) (world (g.F.Files.disk c.args.files.now) (g.D.Dial.state c.args.dial.now) (g.O.Sink.output c.args.out.now)) (world (g.F.Files.disk c.run-answer.new.files) (g.D.Dial.state c.run-answer.new.dial) (g.O.Sink.output c.run-answer.new.out)) c.run-answer.result (told.0 ∙ sym told.1) c.run-answer.ensures.ends refused)

pub returns-clause-at_hand : goal.returns-clause-at_hand
returns-clause-at_hand g c =
    rw c.outcome_of-outcome.ensures (λ quiet.
    ends_at_hand (sure_types g.F.Target.View.never_fails (look_types g.F.Look.Look.never_fails g.F.Look.Look.may_lack_memory)) (heard g.F.Folder.Look.never_fails (g.L.Listen.state c.args.listen.now) (g.L.Listen.state c.run-answer.new.listen)) (map string_bytes c.args.words.now) (world (g.F.Files.disk c.args.files.now) (g.D.Dial.state c.args.dial.now) (g.O.Sink.output c.args.out.now)) (world (g.F.Files.disk c.run-answer.new.files) (g.D.Dial.state c.run-answer.new.dial) (g.O.Sink.output c.run-answer.new.out)) c.run-answer.result c.run-answer.ensures.ends quiet)

pub returns-clause-exactly : goal.returns-clause-exactly
returns-clause-exactly g c =
    rw c.outcome_of-outcome.ensures (exact (sure_types g.F.Target.View.never_fails (look_types g.F.Look.Look.never_fails g.F.Look.Look.may_lack_memory)) (heard g.F.Folder.Look.never_fails (g.L.Listen.state c.args.listen.now) (g.L.Listen.state c.run-answer.new.listen)) (map string_bytes c.args.words.now) (world (g.F.Files.disk c.args.files.now) (g.D.Dial.state c.args.dial.now) (g.O.Sink.output c.args.out.now)) (world (g.F.Files.disk c.run-answer.new.files) (g.D.Dial.state c.run-answer.new.dial) (g.O.Sink.output c.run-answer.new.out)) c.run-answer.result c.run-answer.ensures.ends)
