-- What the members of several stores hold. The members of a store are those that answer in its name: the stores of a
-- group, or else the store itself.
use Rattle.std.specs.Prelude.{ℕ, List, [], ◌∷◌, ◌++◌, map, Option, Some, None, IfSome}
use Rattle.std.specs.List.{All, Any}
use Rattle.std.specs.Option.{option_map}
use Rattle.dsy_base.specs.Maps.{Map}

-- these lists, one after the other, where all of them are told
abbrev pub told_together : {X : Type 0} → List (Option (List X)) → Option (List X)
told_together [] = Some []
told_together (None ∷ groups) = None
told_together (Some xs ∷ groups) = option_map (λ ys. xs ++ ys) (told_together groups)

-- what all members of these stores hold, where all of them tell it
abbrev pub maps_of : {S : Type 0} → (S → Option (List (Map (List ℕ)))) → List S → Option (List (Map (List ℕ)))
maps_of members stores = told_together (map members stores)

-- if P holds of one of these maps, it holds of all of them
abbrev pub AllOrNone : (Map (List ℕ) → Type 0) → List (Map (List ℕ)) → Type 0
AllOrNone P maps = Any P maps → All P maps

-- so it is of the maps of each group that tells them
abbrev pub GroupsAgree : (Map (List ℕ) → Type 0) → List (Option (List (Map (List ℕ)))) → Type 0
GroupsAgree P groups = All (λ g. IfSome g (AllOrNone P)) groups
