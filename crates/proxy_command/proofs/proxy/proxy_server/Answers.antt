use Rattle.std.proofs.Common.{Some, refl}
use Rattle.cache_store.specs.Shelves.{shelf_of}
use Rattle.command_steps.specs.Cache.{with_cache}
use Rattle.proxy_command.proofs.Steps.{none_heard, proxy_ends}
use Rattle.proxy_command.proofs.proxy.proxy_server.Goals as goal
use Rattle.proxy_command.specs.ProxyServing.{look_types}
use Rattle.server_commands.specs.Serving.{heard}

pub returns-in-Err : goal.returns-in-Err
returns-in-Err g c =
    let at = g.F.Files.disk in
    let words = c.args.words in
    let l = g.L.Listen.state c.args.listen.now in
    record { ends = λ p. none_heard (look_types g.F.Look.Look.never_fails g.F.Look.Look.may_lack_memory) (heard g.F.Folder.Look.never_fails l l) words.stores words.retries words.cache words.kind words.workers p (g.D.Dial.state c.args.dial.now) (at c.args.files.now) (at c.reach.new.files) c.in-Err.outcome refl c.in-Err.ensures.err }

pub returns : goal.returns
returns g c =
    let at = g.F.Files.disk in
    let D = g.F.Folder.Look in
    let state = g.L.Listen.state in
    let words = c.args.words in
    let m = at c.reach.new.files in
    let s = shelf_of D.files D.place D.faults c.in-Ok.reached.shelf in
    let reached = c.in-Ok.ensures.ok in
    record {
      ends = λ p. proxy_ends (look_types g.F.Look.Look.never_fails g.F.Look.Look.may_lack_memory) (heard D.never_fails (state c.args.listen.now) (state c.serve_between.new.listen)) words.stores words.retries words.cache words.kind words.workers p (g.D.Dial.state c.args.dial.now) (g.D.Dial.state c.serve_between.new.dial)
          (at c.args.files.now) reached.0 (with_cache (Some s) m) (at c.serve_between.new.files) c.serve_between.result reached.1 reached.2 c.serve_between.ensures.served;
    }
