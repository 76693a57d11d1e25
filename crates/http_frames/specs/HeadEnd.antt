-- Where a head ends: after its first empty line (RFC 9112, sections 2.1 and 2.2). LF alone may end a line.
use Rattle.std.specs.Prelude.{◌≡◌, ℕ, ◌-◌, ◌<◌, ◌≤◌, List, length, slice_index, nat_le}
use Rattle.std.specs.Prelude.{◌==◌, Bool, true, false, ◌&&◌, ◌||◌}

-- the most bytes that are looked at for the end of a head
abbrev pub head_limit : ℕ
head_limit = 16384

-- the first n bytes end with LF LF or LF CR LF
unfoldable pub ends_at : List ℕ → ℕ → Bool
ends_at b n =
    nat_le 2 n && slice_index b (n - 1) == 10
    && (slice_index b (n - 2) == 10 || (nat_le 3 n && slice_index b (n - 2) == 13 && slice_index b (n - 3) == 10))

-- the head ends after n bytes: these do, and no fewer
pub record IsFirstEnd (b : List ℕ) (n : ℕ) : Type 0 where
  pub inside : n ≤ length b
  pub ends : ends_at b n ≡ true
  pub least : (m : ℕ) → m < n → ends_at b m ≡ false
