use Rattle.std.proofs.Common.{◌≡◌, ◌∙◌, ap, false, sym, true}
use Rattle.command_groups.specs.Groups.{stores_of}
use Rattle.command_steps.specs.Stores.{are_folders}
use Rattle.proxy_command.proofs.OfFolders.{folders_behind, folders_not}
use Rattle.proxy_command.proofs.serve_folders.+groups_are_folders.Goals as goal

pub returns-then-are_folders : goal.returns-then-are_folders
returns-then-are_folders t c =
    let first : are_folders c.in-Some.first.now ≡ true = ap are_folders (sym c.as_slice.ensures) ∙ sym c.are_folders.ensures ∙ c.if-are_folders.true in
    rw c.in-Some.ensures.cases.0 (c.groups_are_folders.ensures ∙ sym (folders_behind c.in-Some.first.now (stores_of c.in-Some.rest.now) first))

pub returns-else-are_folders : goal.returns-else-are_folders
returns-else-are_folders t c =
    let first : are_folders c.in-Some.first.now ≡ false = ap are_folders (sym c.as_slice.ensures) ∙ sym c.are_folders.ensures ∙ c.if-are_folders.false in
    rw c.in-Some.ensures.cases.0 (sym (folders_not c.in-Some.first.now (stores_of c.in-Some.rest.now) first))
