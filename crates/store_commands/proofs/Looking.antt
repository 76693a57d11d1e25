-- Further looks at a folder: opened, and given back.
use Rattle.std.proofs.Common.{◌≡◌, ℕ, ◌<◌, List, [], ◌∷◌, ◌++◌, All, length, Option, arith, length-append, subst, ◌∙◌}
use Rattle.std.proofs.Math.Seq.{get_or-append_seam}
use Rattle.std.proofs.lemmas.List.Elements.{AllZip-get_or, length_all_zip}
use Rattle.std.specs.List.{AllZip}
use Rattle.command_steps.proofs.Taken.{gives_adds}
use Rattle.command_steps.specs.Stores.{IsStoreAt}
use Rattle.command_worlds.specs.Worlds.{Reads}
use Rattle.dsy_base.specs.Disk.{Disk, GivesFolder, HoldsSame}
use Rattle.dsy_base.specs.Maps.{Map}
use Rattle.dsy_base.specs.declared.look.Look.{Ghosts as LookWords}
use Rattle.store_check.specs.Reading.{KeepsLook}

-- what a look that is given back leaves
pub look_ended : (d e : Disk) (q : List ℕ) (n : ℕ) → HoldsSame d e → GivesFolder d e q n → Reads d e
look_ended d e q n same given =
    let adds = gives_adds d e q n given in
    record { files = adds.files; folders = same.folders; counts = adds.counts; folder_counts = adds.folder_counts; known = adds.known; folder_known = adds.folder_known }

-- what holds of all holds of the last
pub at_last : {X : Type 0} (P : X → Type 0) (all rest : List X) (x : X) → all ≡ rest ++ x ∷ [] → All P all → P x
at_last {X} P all rest x is holds =
    subst P (get_or-append_seam rest x [] x) (subst (λ (l : List X). All P l) is holds (length rest) x (omega (arith, length-append rest (x ∷ []))))

-- over what the disk held before
pub store_earlier : {S : Type 0} (files : S → Option (Map (List ℕ))) (place : S → List ℕ) (faults : S → ℕ) (d e : Disk) (q : List ℕ) (s : S) → e.folders ≡ d.folders → IsStoreAt files place faults e.folders q s → IsStoreAt files place faults d.folders q s
store_earlier files place faults d e q s same is = subst (λ (o : Option (Map (Map (List ℕ)))). IsStoreAt files place faults o q s) same is

-- looks that were kept are of the folder that they were of
pub places_kept : {L : Type 0} (look : LookWords L) (q : List ℕ) (old new : List L) → AllZip (KeepsLook look) old new → All (λ l. look.place l ≡ q) old → All (λ l. look.place l ≡ q) new
places_kept look q old new kept places = λ k l lt.
    let inside : k < length old = omega (arith, lt, length_all_zip (KeepsLook look) old new kept) in
    (AllZip-get_or (KeepsLook look) old new k l l kept inside).place ∙ places k l inside
