use Rattle.std.proofs.Common.{arith, map, rules, subst}
use Rattle.std.specs.Prelude.{IsTrue}
use Rattle.command_steps.proofs.InTurn.{first_out}
use Rattle.command_steps.specs.AnyStores.{location_in}
use Rattle.command_steps.specs.Stores.{are_folders}
use Rattle.proxy_command.proofs.OfFolders.{first_folder, moved_first}
use Rattle.proxy_command.specs.FolderChains.{any_store}
use Rattle.proxy_command.proofs.folder_chains.+move_folders.Goals as goal

pub folder_of-requires : goal.folder_of-requires
folder_of-requires g t c =
    let place = g.L.Look.place in
    let store = c.remove-store.result in
    let rest = c.remove-store.new.self.items in
    let is = first_out c.args.from.items rest store (omega (arith, c.args.from.ok.0)) c.remove-store.ensures.value c.remove-store.ensures.items in
    let folders = subst (λ l. IsTrue (are_folders (map (location_in place) l))) is c.requires.folders in
    record { folder = (first_folder (location_in place store) (map (location_in place) rest) folders).0 }

pub move_folders-requires : goal.move_folders-requires
move_folders-requires g t c =
    let place = g.L.Look.place in
    let store = c.remove-store.result in
    let rest = c.remove-store.new.self.items in
    let is = first_out c.args.from.items rest store (omega (arith, c.args.from.ok.0)) c.remove-store.ensures.value c.remove-store.ensures.items in
    let folders = (first_folder (location_in place store) (map (location_in place) rest) (subst (λ l. IsTrue (are_folders (map (location_in place) l))) is c.requires.folders)).1 in
    search rules

pub returns : goal.returns
returns g t c =
    let store = c.remove-store.result in
    let rest = c.remove-store.new.self.items in
    let is = first_out c.args.from.items rest store (omega (arith, c.args.from.ok.0)) c.remove-store.ensures.value c.remove-store.ensures.items in
    record { same = moved_first any_store c.args.to.now.items c.push_reserved.new.self.items c.move_folders.new.to.items c.folder_of.result store c.args.from.items rest is c.push_reserved.ensures.items c.folder_of.ensures.same c.move_folders.ensures.same }
