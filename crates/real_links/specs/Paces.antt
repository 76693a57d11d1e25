-- How long a peer may take over a message, in milliseconds.
use Rattle.std.specs.Prelude.{◌≡◌, ℕ, ◌+◌, ◌-◌, ◌*◌, ◌/◌, ◌^◌, ◌≤◌, min}
use Rattle.real_links.specs.declared.pace.Pace.{Pace}

-- what is left of a message's time: a minute, and a second for each KiB of it, less what was waited for
abbrev pub time_left : Pace → ℕ
time_left p = (60 + p.bytes / 1024) * 1000 - p.waited

-- how long the next call may wait: no longer than what is left, and a minute at most
abbrev pub longest_wait : Pace → ℕ
longest_wait p = min (time_left p) 60_000

-- n more bytes of a message have come or gone, and no wait was forgotten
pub record HasMoved (n : ℕ) (old new : Pace) : Type 0 where
  pub bytes : new.bytes ≡ min (old.bytes + n) (2 ^ 64 - 1)
  pub waited : old.waited ≤ new.waited
