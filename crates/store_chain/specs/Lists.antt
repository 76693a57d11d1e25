-- Lists in which one element is told from those before it and those after it.
use Rattle.std.specs.Prelude.{ℕ, zero, suc, List, [], ◌∷◌, All}

-- the element of this number is as `At` says, each before it as `Before`, and each after it as `After`
abbrev pub FirstAt : {X : Type 0} → (X → Type 0) → (X → Type 0) → (X → Type 0) → ℕ → List X → Type 0
FirstAt Before At After n [] = ⊥
FirstAt Before At After zero (x ∷ xs) = At x × All After xs
FirstAt Before At After (suc n) (x ∷ xs) = Before x × FirstAt Before At After n xs
