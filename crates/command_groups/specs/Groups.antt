-- What words name as groups of stores. The stores of a group are meant to hold the same chunks.
use Rattle.std.specs.Prelude.{◌++◌, ℕ, ◌≤◌, List, [], ◌∷◌, length, take, Option, Bool, ◌&&◌}
use Rattle.std.specs.List.{All}
use Rattle.chunk_store.specs.Members.{maps_of}
use Rattle.chunk_store.specs.Said.{just_one}
use Rattle.command_steps.specs.Sources.{location_files}
use Rattle.command_words.specs.declared.command.Location.{Location}
use Rattle.dsy_base.specs.Maps.{Map}
use Rattle.store_group.specs.Groups.{all_tell, told_or_all, seen_of, steady_of}

-- the stores of all groups, in order
abbrev pub stores_of : List (List Location) → List Location
stores_of [] = []
stores_of (g ∷ groups) = g ++ stores_of groups

-- the number of the first store of a group, over all groups
abbrev pub first_store : List (List Location) → ℕ → ℕ
first_store groups k = length (stores_of (take k groups))

-- there is a group, each has a store, and all together have at most 16. A call that fails is made at most 16 times more
pub record AreGroups (groups : List (List Location)) (retries : ℕ) : Type 0 where
  pub some : 1 ≤ length groups
  pub each : All (λ (g : List Location). 1 ≤ length g) groups
  pub few : length (stores_of groups) ≤ 16
  pub again : retries ≤ 16

-- the files that one location tells, as a list of one
abbrev pub listed_files : Map (Map (List ℕ)) → Location → Option (List (Map (List ℕ)))
listed_files m s = just_one (location_files m s)

-- the files that a group tells: those of its folder, where it is one folder; and those of the first, where all of its
-- stores are folders and folders never fail, since then the first alone is asked
abbrev pub group_files : (sure : Bool) → Map (Map (List ℕ)) → List Location → Option (Map (List ℕ))
group_files sure m g = seen_of (location_files m) g (steady_of (sure && all_tell (location_files m) g) 0 g)

-- the files of the members of a group: just those that it tells, or else those of all its folders, where each of its
-- stores is one
abbrev pub member_files : (sure : Bool) → Map (Map (List ℕ)) → List Location → Option (List (Map (List ℕ)))
member_files sure m g = told_or_all (group_files sure m g) (maps_of (listed_files m) g)
