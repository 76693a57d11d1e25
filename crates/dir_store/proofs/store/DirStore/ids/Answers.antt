use Rattle.dir_store.proofs.Lists.{ids_of}
use Rattle.dir_store.proofs.store.DirStore.ids.Goals as goal

pub returns-in-Ok-clause-found : goal.returns-in-Ok-clause-found
returns-in-Ok-clause-found g c = ids_of c.path_is_listed.ensures.listed (g.F.Look.files c.args.self.now) c.in_ok-names.names.items c.in-Ok.ids.items c.in_ok-names.ensures.found c.in-Ok.ensures.value
