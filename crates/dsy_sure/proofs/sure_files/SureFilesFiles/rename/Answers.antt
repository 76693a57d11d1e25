use Rattle.std.proofs.Common.{Some, ap, subst}
use Rattle.std.proofs.lemmas.Result.{on_ok_weaker}
use Rattle.std.specs.Option.{option_map}
use Rattle.dsy_base.specs.Files.{FoundThere}
use Rattle.dsy_forms.proofs.Updates.{renamed_spelled}
use Rattle.dsy_sure.proofs.sure_files.SureFilesFiles.rename.Goals as goal

-- the file stood in the slot before the call, too
pub returns-clause-found : goal.returns-clause-found
returns-clause-found c =
    let before = ap (option_map (λ f. f.items)) (c.make_room.ensures.kept c.args.from.now) in
    subst (λ there. FoundThere there c.rename_named.result) before c.rename_named.ensures.found

-- so did all files
pub returns-clause-ok : goal.returns-clause-ok
returns-clause-ok c =
    on_ok_weaker c.rename_named.result (λ h. ap Some (renamed_spelled _ _ _ c.args.from.now c.args.to.now (λ q. ap (option_map (λ f. f.items)) (c.make_room.ensures.kept q)) h)) c.rename_named.ensures.ok
