use Rattle.dir_store.proofs.Lists.{kept_where}
use Rattle.dir_store.specs.Names.{is_stranger}
use Rattle.dir_store.proofs.store.DirStore.strangers.Goals as goal

pub returns-clause-found : goal.returns-clause-found
returns-clause-found g c = kept_where is_stranger (g.F.Look.files c.args.self.now) c.in_ok-names.names.items c.keep_strangers.new.names.items c.in_ok-names.ensures.found c.keep_strangers.ensures.value
