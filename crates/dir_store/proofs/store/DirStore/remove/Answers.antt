use Rattle.std.proofs.Common.{rules}
use Rattle.dir_store.proofs.Puts.{remove_holds}
use Rattle.dir_store.proofs.store.DirStore.remove.Goals as goal

pub returns-clause-holds : goal.returns-clause-holds
returns-clause-holds g c = remove_holds c.args.id.now.0 c.id_has_32_bytes.ensures.size c.path_names_one_id.ensures.named (g.F.Look.files c.args.self.now) (g.F.Look.files c.remove.new.self) c.remove.result (search rules)
