-- Numbers of stores over all groups, in the place of numbers of groups.
use Rattle.std.specs.Prelude.{ℕ, ◌+◌, List, [], length, min, slice_index_or, Result, Ok, Err}
use Rattle.chunk_store.specs.declared.store.Giver.{Giver}
use Rattle.command_groups.specs.Groups.{first_store}
use Rattle.command_outcome.specs.declared.outcome.Outcome.{Outcome}
use Rattle.command_outcome.specs.declared.outcome.Outcome.TheVariants as ends
use Rattle.command_words.specs.declared.command.Location.{Location}
use Rattle.store_chain.specs.declared.refused.Refused.{Refused}
use Rattle.store_chain.specs.declared.refused.Refused.TheVariants as refused

-- the store of this number over all groups
abbrev pub by_number : ℕ → Giver
by_number n = record { number = n; member = 0 }

-- the refusal with the number of a store over all groups in the place of that of its group: of the store that has shown
-- something, or of the first one of a group that failed. `first` are the numbers of the groups' first stores
abbrev pub numbered_by : (ℕ → ℕ) → Refused → Refused
numbered_by first (refused.StoreFault k) = refused.StoreFault (first k)
numbered_by first (refused.Damaged s x) = refused.Damaged (by_number (first s.number + s.member)) x
numbered_by first other = other

-- the number of a store over all groups. A number in the group is at most the number of its stores
abbrev pub store_numbered : List (List Location) → Giver → Giver
store_numbered groups s = by_number
    (first_store groups s.number + min s.member (length (slice_index_or groups s.number [])))

-- the refusal with that number
abbrev pub refused_of_stores : List (List Location) → Refused → Refused
refused_of_stores groups (refused.StoreFault k) = refused.StoreFault (first_store groups k)
refused_of_stores groups (refused.Damaged s x) = refused.Damaged (store_numbered groups s) x
refused_of_stores groups other = other

-- the same of an outcome
abbrev pub outcome_of_stores : List (List Location) → Outcome → Outcome
outcome_of_stores groups (ends.StoreFault k) = ends.StoreFault (first_store groups k)
outcome_of_stores groups (ends.Damaged e id s x) = ends.Damaged e id (store_numbered groups s) x
outcome_of_stores groups other = other

-- the same of an answer
abbrev pub answer_of_stores : List (List Location) → Result Unit Outcome → Result Unit Outcome
answer_of_stores groups (Ok u) = Ok u
answer_of_stores groups (Err o) = Err (outcome_of_stores groups o)
