-- Several views of one file.
use Rattle.std.specs.Prelude.{◌≡◌, ◌⊎◌, ℕ, List, [], ◌∷◌, ◌++◌, All, map, Option}
use Rattle.command_steps.specs.InputFiles.{Holds}
use Rattle.dsy_base.specs.Bytes.{Held}
use Rattle.dsy_base.specs.Disk.{Disk}

-- h was opened under this name and is so long
pub record IsViewOf (d : Disk) (q : List ℕ) (n : ℕ) (h : Held) : Type 0 where
  pub name : h.name ≡ q
  pub size : h.size ≡ n
  pub holds : Holds d q h.bytes

-- all are of this name and tell this
abbrev pub AreOf : List ℕ → Option (List ℕ) → List Held → Type 0
AreOf q told hs = All (λ h. (h.name ≡ q) × (h.bytes ≡ told)) hs

-- their names
abbrev pub names_of : List Held → List (List ℕ)
names_of hs = map (λ h. h.name) hs

-- ---- a list that grows, and its first element

-- it has one element more at most, of which P holds
abbrev pub GrowsBy : {X : Type 0} → (X → Type 0) → List X → List X → Type 0
GrowsBy {X} P old new = (new ≡ old) ⊎ ((x : X) × (new ≡ old ++ x ∷ []) × P x)

-- P holds of the first one, where there is one
abbrev pub IfFirst : {X : Type 0} → (X → Type 0) → List X → Type 0
IfFirst P [] = Unit {0}
IfFirst P (x ∷ xs) = P x
