-- What is asked of a store, and what a store that asks a server has sent for that.
use Rattle.std.specs.Prelude.{◌≡◌, ℕ, ◌≤◌, List, [], ◌++◌, All, length, take, Option, Some, None}

-- what a store is asked: for the chunk of an id, whether it has something under an id, or to take bytes under an id
pub data Ask : Type 0 where
  Get : (id : List ℕ) → Ask
  Has : (id : List ℕ) → Ask
  Put : (id b : List ℕ) → Ask

-- the bytes of a whole request for each ask, and what each connection that has ended sent, in order, where this is told
pub record Requests : Type 0 where
  pub spells : Ask → List ℕ
  pub ended : Option (List (List ℕ))

-- the requests to each store of a group, by its number. A store that is no group has its own under each number
abbrev pub Sent : Type 0
Sent = ℕ → Requests

-- these bytes are the front of a whole request, for an ask of which P holds
pub record IsFrontOf (P : Ask → Type 0) (spells : Ask → List ℕ) (b : List ℕ) : Type 0 where
  pub ask : Ask
  pub asked : P ask
  pub size : ℕ
  pub inside : size ≤ length (spells ask)
  pub front : b ≡ take size (spells ask)

-- what was there is there still, and Q holds of all that came behind it. Where nothing was told, nothing is
abbrev pub AddsOnly : {X : Type 0} → (X → Type 0) → Option (List X) → Option (List X) → Type 0
AddsOnly {X} Q (Some old) new = (more : List X) × (new ≡ Some (old ++ more)) × All Q more
AddsOnly Q None new = new ≡ None

-- nothing was sent since but fronts of requests for asks of which P holds
pub record AddsRequests (P : Ask → Type 0) (old new : Requests) : Type 0 where
  pub spells : new.spells ≡ old.spells
  pub ended : AddsOnly (IsFrontOf P old.spells) old.ended new.ended

-- so it is of each store
abbrev pub Sends : (Ask → Type 0) → Sent → Sent → Type 0
Sends P old new = (n : ℕ) → AddsRequests P (old n) (new n)

-- no request was sent
abbrev pub no_requests : Requests
no_requests = record { spells = λ ask. []; ended = Some [] }

-- a store that isn't a server sends nothing
abbrev pub sends_nothing : Sent
sends_nothing n = no_requests
