-- Connections: what comes from a peer and goes to it.
use Rattle.std.specs.Prelude.{◌≡◌, ℕ, List, [], ◌∷◌, ◌++◌, length, take, drop, Option, Some, None, IfSome}
use Rattle.std.specs.Option.{option_map}

-- the bytes of a connection: what was received, what is still to be received, and what was sent
pub record Traffic : Type 0 where
  pub received : List ℕ
  pub coming : List ℕ
  pub sent : List ℕ

-- a connection: its bytes, where the type tells them, and how often a call on it has failed
pub record LinkState : Type 0 where
  pub traffic : Option Traffic
  pub faults : ℕ

-- a dialer: the connections that have ended on it, and how often a call on it or on one of them has failed
pub record DialState : Type 0 where
  pub ended : Option (List Traffic)
  pub faults : ℕ

-- a listener: the connections that are to come, those that have ended, each with the count of its faults, and how often
-- a call of it has failed
pub record ListenState : Type 0 where
  pub coming : Option (List Traffic)
  pub ended : Option (List LinkState)
  pub faults : ℕ

-- nothing has come or gone yet, and no call has failed
pub record IsFreshLink (l : LinkState) : Type 0 where
  pub unfailed : l.faults ≡ 0
  pub received : IfSome l.traffic (λ t. t.received ≡ [])
  pub sent : IfSome l.traffic (λ t. t.sent ≡ [])

-- ---- reads and writes

-- the next n bytes have come
abbrev pub received : ℕ → Traffic → Traffic
received n t = record { received = t.received ++ take n t.coming; coming = drop n t.coming; sent = t.sent }

-- b is what came next, and has come
pub record ReadsNext (b : List ℕ) (old new : Option Traffic) : Type 0 where
  pub next : IfSome old (λ t. take (length b) t.coming ≡ b)
  pub received : new ≡ option_map (received (length b)) old

-- b was sent
abbrev pub sends : List ℕ → Traffic → Traffic
sends b t = record { received = t.received; coming = t.coming; sent = t.sent ++ b }

-- ---- connections in order

-- one more has ended
abbrev pub with_ended : Option (List Traffic) → Option Traffic → Option (List Traffic)
with_ended (Some ended) (Some t) = Some (ended ++ t ∷ [])
with_ended (Some ended) None = None
with_ended None t = None

-- those of another dialer have ended
abbrev pub with_all : Option (List Traffic) → Option (List Traffic) → Option (List Traffic)
with_all (Some ended) (Some more) = Some (ended ++ more)
with_all (Some ended) None = None
with_all None more = None

-- the first of those that are to come is this connection; where there is none, the list is told and has ended
abbrev pub Accepts : Option (Option Traffic) → Option (List Traffic) → Option (List Traffic) → Type 0
Accepts None old new = (old ≡ Some []) × (new ≡ Some [])
Accepts (Some next) (Some old) new = (t : Traffic) × (rest : List Traffic) × (next ≡ Some t) × (old ≡ t ∷ rest)
    × (new ≡ Some rest)
Accepts (Some next) None new = new ≡ None
