-- A connection of which a part that was received waits to be looked at.
use Rattle.std.specs.Prelude.{◌≡◌, ℕ, ◌≤◌, List, ◌++◌, length, take, drop, Option, Some, None}
use Rattle.std.specs.Option.{option_map}
use Rattle.dsy_base.specs.Links.{Traffic, sends}

-- what is left to be looked at, and what was sent
pub record Stream : Type 0 where
  pub left : List ℕ
  pub sent : List ℕ

-- these bytes wait, and behind them stands all that is still to be received
abbrev pub stream_of : List ℕ → Traffic → Stream
stream_of waiting t = record { left = waiting ++ t.coming; sent = t.sent }

-- where it is told
abbrev pub stream_in : List ℕ → Option Traffic → Option Stream
stream_in waiting traffic = option_map (stream_of waiting) traffic

-- the first n bytes were looked at
abbrev pub skips : ℕ → Stream → Stream
skips n s = record { left = drop n s.left; sent = s.sent }

-- what was sent
abbrev pub sent_in : Option Stream → Option (List ℕ)
sent_in s = option_map (λ x. x.sent) s

-- a front of b was sent
abbrev pub SendsSomeFront : List ℕ → Option Traffic → Option Traffic → Type 0
SendsSomeFront b old new = (n : ℕ) × (new ≡ option_map (sends (take n b)) old)

-- more bytes were looked at, and stand behind those that were taken before
abbrev pub Moves : Option Stream → Option Stream → List ℕ → List ℕ → Type 0
Moves (Some s) new before after =
    (k : ℕ) × (k ≤ length s.left) × (after ≡ before ++ take k s.left) × (new ≡ Some (skips k s))
Moves None new before after = Unit {0}

-- all that the peer gives, what was received and what is to come
abbrev pub given_in : Option Traffic → Option (List ℕ)
given_in traffic = option_map (λ t. t.received ++ t.coming) traffic
