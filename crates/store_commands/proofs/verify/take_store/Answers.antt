use Rattle.std.proofs.Common.{◌≡◌, ◌∷◌, [], All, ℕ, IfSome, List, Some, get_or, subst, ◌∙◌}
use Rattle.command_steps.proofs.Consulted.{reads_twice}
use Rattle.command_steps.proofs.Opened.{given_back, later}
use Rattle.command_steps.proofs.Used.{uses_twice}
use Rattle.command_steps.specs.Stores.{NotReached}
use Rattle.command_steps.specs.Uses.{Uses}
use Rattle.dsy_base.specs.Maps.{Map}
use Rattle.store_commands.proofs.GivenFolders.{look_told}
use Rattle.store_commands.proofs.verify.take_store.Goals as goal

pub returns-in-Err-clause-err : goal.returns-in-Err-clause-err
returns-in-Err-clause-err g c =
    let at = g.F.Files.disk in
    let d = at c.args.files.now in
    let b = at c.open_looks-looks.new.files in
    let m = at c.take_folder.new.files in
    let e = at c.end_looks.new.files in
    let q = c.args.store.now in
    let o = c.in-Err.refused in
    let opened = c.open_looks-looks.ensures in
    let took = c.in-Err.ensures in
    let named : All (λ l. g.F.Look.Look.place l ≡ q) c.open_looks-looks.result.items = λ k l lt. (opened.found k l lt).named ∙ c.as_str.ensures in
    let used_first = subst (λ p. Uses [] (p ∷ []) d b) c.as_str.ensures opened.used in
    let used_then = subst (λ p. Uses [] (p ∷ []) b m) c.as_str-2.ensures took.used in (
      given_back d m e c.end_looks.ensures.kept q o (later d b m opened.kept q o (subst (λ p. NotReached b m p o) c.as_str-2.ensures took.err)),
      reads_twice d m e (reads_twice d b m opened.kept took.kept) c.end_looks.ensures.kept,
      uses_twice [] (q ∷ []) d m e (uses_twice [] (q ∷ []) d b m used_first used_then) (c.end_looks.ensures.used q named),
    )

pub returns-in-Ok-clause-alike : goal.returns-in-Ok-clause-alike
returns-in-Ok-clause-alike g c =
    let at = g.F.Files.disk in
    let d = at c.args.files.now in
    let q = c.args.store.now in
    let opened = c.open_looks-looks.ensures in
    let found = subst (λ o. IfSome o (λ m. (f : Map (List ℕ)) × (m c.as_str-2.result.now ≡ Some f) × (g.F.Folder.Look.files c.in-Ok.store ≡ Some f))) opened.kept.folders c.in-Ok.ensures.ok.found in
    λ k l lt.
    look_told d.folders g.F.Files.tells g.F.Folder.Look.tells q (g.F.Folder.Look.files c.in-Ok.store) (g.F.Look.Look.files (get_or c.open_looks-looks.result.items k l)) (g.met.F.Files.told c.args.files.now).1 (g.met.F.Folder.Look.told c.in-Ok.store) g.met.F.ImageFiles.unseen.1
    (subst (λ p. IfSome d.folders (λ m. (f : Map (List ℕ)) × (m p ≡ Some f) × (g.F.Folder.Look.files c.in-Ok.store ≡ Some f))) c.as_str-2.ensures found)
    (subst (λ p. IfSome d.folders (λ m. (f : Map (List ℕ)) × (m p ≡ Some f) × (g.F.Look.Look.files (get_or c.open_looks-looks.result.items k l) ≡ Some f))) c.as_str.ensures (opened.found k l lt).found)
