use Rattle.std.proofs.Common.{◌==◌, false, refl, sym}
use Rattle.std.proofs.lemmas.Bool.{eqb-true}
use Rattle.cache_store.specs.Shelves.{shelf_of}
use Rattle.command_steps.specs.Cache.{with_cache}
use Rattle.command_groups.proofs.Words.{group_words}
use Rattle.proxy_command.proofs.Back.{given_after, proxy_served}
use Rattle.proxy_command.proofs.FolderLent.{and_none, others_sure}
use Rattle.proxy_command.proofs.Served.{served_from}
use Rattle.proxy_command.proofs.proxy.serve_any.Goals as goal
use Rattle.proxy_command.specs.ProxyServing.{look_types}
use Rattle.proxy_command.specs.Reaching.{chain_chunks, sure_by_types}
use Rattle.server_commands.specs.Serving.{heard}
use Rattle.std.specs.Prelude.{Some}

pub give_back-requires-clause-given : goal.give_back-requires-clause-given
give_back-requires-clause-given g c =
    let reached = c.requires.reached in
    let over = c.serve_by-reached.ensures in
    given_after g.F.Look.Look g.D.Dial.state (g.F.Files.disk c.args.files.now) c.args.words.now.stores c.args.reached.chains.items c.serve_by-reached.result.0.chains.items reached.some reached.located over.changed.places reached.given

pub returns : goal.returns
returns g c =
    let at = g.F.Files.disk in
    let D = g.F.Folder.Look in
    let look = g.F.Look.Look in
    let dial = g.D.Dial.state in
    let listen = g.L.Listen.state in
    let words = c.args.words.now in
    let reached = c.requires.reached in
    let over = c.serve_by-reached.ensures in
    let old = c.args.reached in
    let new = c.serve_by-reached.result.0 in
    let s = shelf_of D.files D.place D.faults old.shelf in
    let t = shelf_of D.files D.place D.faults new.shelf in
    let given = c.give_back.ensures.given in
    let store = group_words look dial in
    let before = listen c.args.listen.now in
    let after = listen c.serve_by-reached.new.listen in
    let folders = (with_cache (Some s) (at c.args.files.now)).folders in
    let holds = chain_chunks store.holds old.chains.items in
    let none = c.requires.server in
    let looks = look_types look.never_fails look.may_lack_memory in
    let served = served_from looks (heard D.never_fails before after) words.stores s.kind (words.workers == 1) folders s.files t.files c.serve_by-reached.result.1 false (sure_by_types D.never_fails store holds) holds
    (sym (and_none look.never_fails _ none)) (others_sure store looks D.never_fails before after words.stores folders holds none refl refl) reached.holds over.served in
    record {
      served = proxy_served look dial words.stores words.retries words.cache words.kind words.workers s t (at c.args.files.now) given.0 (at c.give_back.new.files) (dial c.args.dial.now) (dial c.give_back.new.dial)
          old.chains.items new.chains.items reached over.changed.named over.changed.places given.1 given.2 looks (heard D.never_fails before after) _ c.serve_by-reached.result.1 served over.changed.kept
          (λ yes. eqb-true words.workers 1 yes) over.changed.asks;
    }
