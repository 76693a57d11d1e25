-- When stores give a chunk, and what they lack where they don't. A store is the map from ids to bytes that it holds.
use Rattle.std.specs.Prelude.{◌≡◌, ℕ, List, take, Option, Some, None, Result, Ok, Err, Bool, IsTrue}
use Rattle.std.specs.List.{All, Any}
use Rattle.chunk_store.specs.Members.{GroupsAgree, maps_of, told_together}
use Rattle.chunk_store.specs.declared.shows.Shows.{Shows}
use Rattle.dsy_base.specs.Maps.{Map}
use Rattle.store_chain.specs.Lists.{FirstAt}
use Rattle.store_chain.specs.Queries.{IsWanted, ShowsElse}
use Rattle.store_chain.specs.declared.refused.Refused.{Refused}
use Rattle.store_chain.specs.declared.refused.Refused.TheVariants as refused
use Rattle.store_chain.specs.declared.query.Query.{Query}

-- the map holds nothing under the id; or bytes that are what is wanted; or bytes that show this
abbrev pub HoldsNone : Query → Map (List ℕ) → Type 0
HoldsNone w m = m w.id.0 ≡ None

abbrev pub Gives : Query → Map (List ℕ) → Type 0
Gives w m = (b : List ℕ) × (m w.id.0 ≡ Some b) × IsWanted w b

abbrev pub HoldsElse : Query → Shows → Map (List ℕ) → Type 0
HoldsElse w x m = (b : List ℕ) × (m w.id.0 ≡ Some b) × ShowsElse w b x

-- some member of these stores holds the bytes under the id, where all of them tell what they hold
abbrev pub SomeHolds : {S : Type 0} → (S → Option (List (Map (List ℕ)))) → List S → List ℕ → List ℕ → Type 0
SomeHolds members stores id b = (maps : List (Map (List ℕ))) → maps_of members stores ≡ Some maps
    → Any (λ m. m id ≡ Some b) maps

-- the maps lack the chunk: all hold nothing under the id, or this is the first that holds something, and none gives.
-- A map is no group. Faults and want of memory are free
abbrev pub LacksAll : Query → List (Map (List ℕ)) → Refused → Type 0
LacksAll w maps refused.Missing = All (HoldsNone w) maps
LacksAll w maps (refused.Damaged s x) = (s.member ≡ 0)
    × FirstAt (HoldsNone w) (HoldsElse w x) (λ m. Gives w m → ⊥) s.number maps
LacksAll w maps (refused.StoreFault s) = Unit {0}
LacksAll w maps refused.Memory = Unit {0}

-- no member of these stores gives the chunk, if the members of each store agree on it
abbrev pub NoneGives : Query → List (Option (List (Map (List ℕ)))) → Type 0
NoneGives w groups = (maps : List (Map (List ℕ))) → told_together groups ≡ Some maps → GroupsAgree (Gives w) groups
    → All (λ m. Gives w m → ⊥) maps

-- the same by what was answered. Faults and want of memory are free
abbrev pub LacksTogether : Query → List (Option (List (Map (List ℕ)))) → Refused → Type 0
LacksTogether w groups refused.Missing = NoneGives w groups
LacksTogether w groups (refused.Damaged s x) = NoneGives w groups
LacksTogether w groups (refused.StoreFault s) = Unit {0}
LacksTogether w groups refused.Memory = Unit {0}

-- the bytes are those of the first map that gives. One that had no memory may be passed
abbrev pub GivesFirst : Bool → Query → List (Map (List ℕ)) → List ℕ → Type 0
GivesFirst lacks_memory w maps b =
    (k : ℕ) × FirstAt (λ m. Gives w m → IsTrue lacks_memory) (λ m. m w.id.0 ≡ Some b) (λ m. Unit {0}) k maps

-- what is answered where no store fails, and what the buffer then holds: the chunk from the first that gives, or what
-- they lack. Want of memory is free
abbrev pub Obtains : Bool → Query → List (Map (List ℕ)) → Result ℕ Refused → List ℕ → Type 0
Obtains lacks_memory w maps (Ok n) out = GivesFirst lacks_memory w maps (take n out)
Obtains lacks_memory w maps (Err refused.Missing) out = LacksAll w maps refused.Missing
Obtains lacks_memory w maps (Err (refused.Damaged s x)) out = LacksAll w maps (refused.Damaged s x)
Obtains lacks_memory w maps (Err (refused.StoreFault s)) out = ⊥
Obtains lacks_memory w maps (Err refused.Memory) out = Unit {0}
