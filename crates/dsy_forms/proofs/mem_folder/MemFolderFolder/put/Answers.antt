use Rattle.std.proofs.Common.{ap, sym, Some, refl, ◌∙◌}
use Rattle.dsy_forms.proofs.Updates.{at_self, at_spelled}
use Rattle.dsy_base.specs.Folders.{temporary_of}
use Rattle.dsy_forms.specs.Trees.{map_of}
use Rattle.dsy_forms.proofs.mem_folder.MemFolderFolder.put.Goals as goal

-- the temporary name has what it had
pub returns-in_default-clause-err : goal.returns-in_default-clause-err
returns-in_default-clause-err c =
    let m = map_of c.args.self.now.files in
    let temporary = temporary_of c.args.name.now in
    (m temporary, ap Some (sym (at_self m temporary)))

pub returns-in_default-put_file-clause-err : goal.returns-in_default-put_file-clause-err
returns-in_default-put_file-clause-err c =
    let m = map_of c.args.self.now.files in
    let temporary = temporary_of c.args.name.now in
    (m temporary, ap Some ((λ i q. c.in_default-put_file.ensures.err q i) ∙ sym (at_self m temporary)))

-- the temporary name has all bytes
pub returns-then-fails-clause-err : goal.returns-then-fails-clause-err
returns-then-fails-clause-err c =
    let m = map_of c.args.self.now.files in
    (Some c.args.b.now, ap Some (at_spelled m _ _ (temporary_of c.args.name.now) _ _ c.in-Ok-put_file.ensures.ok refl (c.as_str.ensures.value ∙ c.in-Ok.ensures)))
