use Rattle.dir_store.proofs.Lists.{kept_where}
use Rattle.dir_store.specs.Names.{is_temporary}
use Rattle.dir_store.proofs.store.DirStore.temporaries.Goals as goal

pub returns-clause-found : goal.returns-clause-found
returns-clause-found g c = kept_where is_temporary (g.F.Look.files c.args.self.now) c.in_ok-names.names.items c.keep_temporaries.new.names.items c.in_ok-names.ensures.found c.keep_temporaries.ensures.value
