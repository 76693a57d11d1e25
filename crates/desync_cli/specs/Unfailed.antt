-- An outcome that is no fault, and what is known where all replies were taken.
use Rattle.std.specs.Prelude.{IsSomeAnd, List, Result, Ok, ℕ}
use Rattle.std.specs.List.{Any}
use Rattle.command_outcome.specs.declared.outcome.Outcome.{Outcome}
use Rattle.command_outcome.specs.declared.outcome.Outcome.TheVariants as ends
use Rattle.command_indexes.specs.Blames.{IsUnfetched}
use Rattle.command_steps.specs.Dials.{since}
use Rattle.command_steps.specs.Sources.{server_at}
use Rattle.command_worlds.specs.Worlds.{World}
use Rattle.command_words.specs.Locations.{index_place_of}
use Rattle.command_words.specs.declared.command.Location.{Location}
use Rattle.command_words.specs.declared.command.Location.TheVariants as locations
use Rattle.command_words.specs.declared.location.IndexPlace.{IndexPlace}
use Rattle.command_words.specs.declared.location.IndexPlace.TheVariants as places
use Rattle.command_words.specs.declared.location.NoLocation.{NoLocation}
use Rattle.http_read.specs.Refusals.{IsUnacceptable}

-- no call failed
abbrev pub NothingFailed : Outcome → Type 0
NothingFailed ends.ImageFault = ⊥
NothingFailed (ends.StoreFault store) = ⊥
NothingFailed (ends.FileFault name) = ⊥
NothingFailed ends.TargetFault = ⊥
NothingFailed ends.CacheFault = ⊥
NothingFailed ends.OutFault = ⊥
NothingFailed ends.ListenFault = ⊥
NothingFailed other = Unit {0}

-- each reply that the server of an index has given since was taken, if it is at a server
abbrev pub FetchTaken : World → World → Result IndexPlace NoLocation → Type 0
FetchTaken w v (Ok (places.Http host port path)) = IsSomeAnd (since w.dial.ended v.dial.ended)
    (λ ended. Any (IsUnfetched host port path) ended → ⊥)
FetchTaken w v other = Unit {0}

abbrev pub IndexTaken : World → World → List ℕ → Type 0
IndexTaken w v q = FetchTaken w v (index_place_of q)

-- each reply that a server has given since was taken, where it is one. Where connections aren't told this isn't known
abbrev pub RepliesTaken : World → World → Location → Type 0
RepliesTaken w v (locations.Folder q) = Unit {0}
RepliesTaken w v (locations.Http host port prefix) = IsSomeAnd (since w.dial.ended v.dial.ended)
    (λ ended. Any (IsUnacceptable (server_at host port prefix)) ended → ⊥)
