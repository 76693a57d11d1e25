-- What becomes of a dialer while servers are asked.
use Rattle.std.specs.Prelude.{◌≡◌, ◌++◌, ◌≤◌, List, length, drop, Option, Some, None, IfSome}
use Rattle.dsy_base.specs.Counts.{raised}
use Rattle.dsy_base.specs.Links.{DialState, Traffic}

-- the connections that had ended have ended still, in their order
abbrev pub EndedGrows : Option (List Traffic) → Option (List Traffic) → Type 0
EndedGrows (Some a) new = (more : List Traffic) × (new ≡ Some (a ++ more))
EndedGrows None new = new ≡ None

-- no connection is forgotten, and no fault: the count has not fallen, but for the greatest value that it stays at
pub record Dials (old new : DialState) : Type 0 where
  pub ended : EndedGrows old.ended new.ended
  pub faults : raised old.faults 0 ≤ new.faults

-- the connections that have ended since, where they are told
abbrev pub since : Option (List Traffic) → Option (List Traffic) → Option (List Traffic)
since (Some a) (Some b) = Some (drop (length a) b)
since (Some a) None = None
since None new = None

-- the connections of the one stand among those of the other, where the other is told
abbrev pub AreAmong : Option (List Traffic) → Option (List Traffic) → Type 0
AreAmong some all = IfSome all (λ t. (s : List Traffic) × (some ≡ Some s)
    × (front : List Traffic) × (rest : List Traffic) × (t ≡ front ++ (s ++ rest)))
