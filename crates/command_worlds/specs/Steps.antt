-- Steps in order. Each goes from the world that the one before it left, and may end the command.
use Rattle.std.specs.Prelude.{◌≡◌, ◌⊎◌, List, [], ◌∷◌, Result, Ok, Err}
use Rattle.command_outcome.specs.declared.outcome.Outcome.{Outcome}
use Rattle.command_outcome.specs.declared.outcome.Outcome.TheVariants as ends
use Rattle.command_worlds.specs.Worlds.{Step, World, world}
use Rattle.dsy_base.specs.Disk.{Disk, Output}
use Rattle.dsy_base.specs.Links.{DialState}

-- the step passed, and what follows on what it gave ended so. The world between stands as its parts, since the prover
-- then finds each of them
pub record Passed {A B : Type 0} (step : Step World A) (next : A → Step World B)
    (w : World) (r : Result B Outcome) (v : World) : Type 0 where
  pub disk : Disk
  pub dial : DialState
  pub out : Output
  pub gave : A
  pub did : step w (Ok gave) (world disk dial out)
  pub then : next gave (world disk dial out) r v

infixl 10 ◌>>=◌
-- the step, and then what follows on what it gave; or the step refused, and nothing followed
abbrev pub ◌>>=◌ : {A B : Type 0} → Step World A → (A → Step World B) → Step World B
◌>>=◌ step next w (Ok b) v = Passed step next w (Ok b) v
◌>>=◌ step next w (Err o) v = step w (Err o) v ⊎ Passed step next w (Err o) v

-- nothing is done
abbrev pub nothing : Step World Unit
nothing w (Ok u) v = v ≡ w
nothing w (Err o) v = ⊥

-- the step for each in order, up to the first that refuses
abbrev pub each : {X : Type 0} → (X → Step World Unit) → List X → Step World Unit
each step [] = nothing
each step (x ∷ xs) = do
  _ ← step x
  each step xs

-- what a command answers that ended so, and how one ended that answers so
abbrev pub answer_of : Outcome → Result Unit Outcome
answer_of ends.Done = Ok tt
answer_of other = Err other

-- the outcome of a command that answers so
abbrev pub outcome_of : Result Unit Outcome → Outcome
outcome_of (Ok u) = ends.Done
outcome_of (Err o) = o
