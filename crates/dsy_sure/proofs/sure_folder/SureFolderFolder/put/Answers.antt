use Rattle.std.proofs.Common.{ap, sym, Some}
use Rattle.dsy_forms.proofs.Updates.{at_self}
use Rattle.dsy_base.specs.Folders.{temporary_of}
use Rattle.dsy_forms.specs.Trees.{map_of}
use Rattle.dsy_sure.proofs.sure_folder.SureFolderFolder.put.Goals as goal

-- the temporary name has what it had
pub returns-in_default-clause-err : goal.returns-in_default-clause-err
returns-in_default-clause-err c =
    let m = map_of c.args.self.now.files in
    let temporary = temporary_of c.args.name.now in
    (m temporary, ap Some (sym (at_self m temporary)))
