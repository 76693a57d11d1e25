-- What comes next on a connection.
use Rattle.std.specs.Prelude.{◌≡◌, ℕ, ◌≤◌, List, length, take, Option, Some, IfSome}
use Rattle.http_serve.specs.Protocols.{Asked, RequestReading}
use Rattle.http_serve.specs.Requests.{IsNextRequest}
use Rattle.http_serve.specs.Streams.{Stream, skips}

-- the request comes first, and was looked at
abbrev pub ComesFirst : {R : Type 0} → RequestReading R → Asked R → Option Stream → Option Stream → Type 0
ComesFirst w a old new = IfSome old (λ s. (n : ℕ) × IsNextRequest w s.left n a × (new ≡ Some (skips n s)))

-- these bytes come first, as many as this, and were looked at
abbrev pub ComesNext : List ℕ → ℕ → Option Stream → Stream → Type 0
ComesNext body size new s = (size ≤ length s.left) × (body ≡ take size s.left) × (new ≡ Some (skips size s))
