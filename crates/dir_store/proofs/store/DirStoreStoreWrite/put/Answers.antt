use Rattle.dir_store.proofs.Puts.{put_holds, put_leaves, put_said, put_others}
use Rattle.dir_store.proofs.store.DirStoreStoreWrite.put.Goals as goal

pub returns-clause-ok : goal.returns-clause-ok
returns-clause-ok g c = put_holds _ c.id_has_32_bytes.ensures.size c.path_names_one_id.ensures.named c.temporary_is_no_path.ensures.only c.args.b.now (g.F.Look.files c.args.self.now) (g.F.Look.files c.write.new.self) c.write.result c.write.ensures.ok

pub returns-clause-err : goal.returns-clause-err
returns-clause-err g c = put_leaves _ c.id_has_32_bytes.ensures.size c.path_names_one_id.ensures.named c.temporary_is_no_path.ensures.only (g.F.Look.files c.args.self.now) (g.F.Look.files c.write.new.self) c.write.result c.write.ensures.err

pub returns-clause-said : goal.returns-clause-said
returns-clause-said g c = put_said _ c.id_has_32_bytes.ensures.size c.path_names_one_id.ensures.named c.temporary_is_no_path.ensures.only c.args.b.now (g.F.Look.files c.args.self.now) (g.F.Look.files c.write.new.self) c.write.result c.write.ensures.ok c.write.ensures.err

pub returns-clause-files : goal.returns-clause-files
returns-clause-files g c = put_others _ c.id_has_32_bytes.ensures.size c.path_names_one_id.ensures.named c.temporary_is_no_path.ensures.only c.args.b.now (g.F.Look.files c.args.self.now) (g.F.Look.files c.write.new.self) c.write.result c.write.ensures.ok c.write.ensures.err
