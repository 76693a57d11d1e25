-- How the servers of groups are asked over a command.
use Rattle.std.specs.Prelude.{ℕ, ◌+◌, ◌*◌, List, Option}
use Rattle.chunk_store.specs.Asks.{Ask}
use Rattle.command_groups.specs.Groups.{stores_of}
use Rattle.command_steps.specs.Asking.{AsksOnly, EachDialed}
use Rattle.command_words.specs.declared.command.Location.{Location}
use Rattle.dsy_base.specs.Links.{Traffic}

-- how often a store is asked where its group is asked so often, and each call that fails is made e times more
abbrev pub with_retries : ℕ → (List ℕ → ℕ) → List ℕ → ℕ
with_retries e times id = times id * (e + 1)

-- each server of these groups was asked at most so often for each wanted question, and for each e times more where it
-- failed. It was sent nothing but fronts of requests for asks of which P holds
abbrev pub GroupsAsked : ℕ → (List ℕ → ℕ) → (List ℕ → ℕ) → (Ask → Type 0) → List (List Location)
    → Option (List Traffic) → Option (List Traffic) → Type 0
GroupsAsked e gets heads P groups =
    EachDialed (AsksOnly (with_retries e gets) (with_retries e heads) P) (stores_of groups)
