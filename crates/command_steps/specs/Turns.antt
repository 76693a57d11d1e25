-- What a command opened several times is given back one after the other.
use Rattle.std.specs.Prelude.{◌≡◌, List, [], ◌∷◌}
use Rattle.command_steps.specs.Sources.{Storage}

-- all of these were given back, the last first, each as Given says
abbrev pub GivenInTurn : {X : Type 0} → (X → Storage → Storage → Type 0) → List X → Storage → Storage → Type 0
GivenInTurn Given [] w v = v ≡ w
GivenInTurn Given (x ∷ xs) w v = (u : Storage) × GivenInTurn Given xs w u × Given x u v
