use Rattle.std.proofs.Common.{ap, ◌∙◌}
use Rattle.std.specs.Option.{option_map}
use Rattle.chunk_store.specs.Folders.{chunks}
use Rattle.dir_store.proofs.Puts.{temporary_holds}
use Rattle.dir_store.proofs.store.DirStore.remove_temporary.Goals as goal

pub returns-clause-holds : goal.returns-clause-holds
returns-clause-holds g c =
    temporary_holds c.args.name.now c.requires.named c.chunk_is_no_temporary.ensures.only (g.F.Look.files c.self.inside.folder) (g.F.Look.files c.remove.new.self) c.remove.result c.remove.ensures.ok c.remove.ensures.err
    ∙ ap (λ f. option_map chunks (g.F.Look.files f)) c.self.view_is
