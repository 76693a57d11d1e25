-- Which chunks several stores give together. A store is the map from ids to bytes that it holds.
use Rattle.std.specs.Prelude.{◌≡◌, ℕ, List}
use Rattle.std.specs.List.{Any}
use Rattle.chunk_store.specs.Giving.{GivesChunk}
use Rattle.chunk_store.specs.declared.id.DigestKind.{DigestKind}
use Rattle.dsy_base.specs.Maps.{Map}

-- some store that holds one of these maps gives the chunk
abbrev pub SomeGives : DigestKind → List ℕ → ℕ → List (Map (List ℕ)) → Type 0
SomeGives kind id size maps = Any (λ m. GivesChunk kind id size (m id)) maps

-- of each id that is listed with several sizes, these stores together give chunks of one size. Two chunks of unequal
-- sizes with one digest would be needed for anything else
abbrev pub GiveOneSize : (List ℕ → ℕ → Type 0) → DigestKind → List (Map (List ℕ)) → Type 0
GiveOneSize Listed kind maps = (id : List ℕ) (n m : ℕ) → Listed id n → Listed id m
    → SomeGives kind id n maps → SomeGives kind id m maps → n ≡ m
