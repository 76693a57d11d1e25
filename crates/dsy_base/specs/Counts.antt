-- Counts of faults. A count is kept in 64 bits and stays at its greatest value.
use Rattle.std.specs.Prelude.{◌≡◌, ◌≢◌, ℕ, ◌+◌, ◌-◌, ◌^◌, ◌<◌, ◌≤◌, ◌⊎◌, min, List, IsSome, Result, Err, OnOk, OnErr}
use Rattle.std.specs.Map.{count_at}
use Rattle.dsy_base.specs.Maps.{Map}

-- a count has risen, or stands at its greatest value
abbrev pub Rose : ℕ → ℕ → Type 0
Rose old new = (old < new) ⊎ (2 ^ 64 ≤ new + 1)

-- how the count of an object goes over one call on it, which may answer that it failed or that there was no memory: it
-- never falls, rises where the call failed, and stays where the call did what it was to do or where there was no memory
pub record CountsFaults {A E : Type 0} (failed memory : E) (old new : ℕ) (result : Result A E) : Type 0 where
  pub never_falls : old ≤ new
  pub cause : result ≡ Err failed → Rose old new
  pub done : OnOk result (new ≡ old)
  pub unfailed : result ≡ Err memory → new ≡ old

-- the same over a call that needs no memory: each refusal is a fault
pub record CountsRefusals {A E : Type 0} (old new : ℕ) (result : Result A E) : Type 0 where
  pub never_falls : old ≤ new
  pub done : OnOk result (new ≡ old)
  pub cause : OnErr result (Rose old new)

-- n more faults
abbrev pub raised : ℕ → ℕ → ℕ
raised count n = min (count + n) (2 ^ 64 - 1)

-- each name that was used has a number. A call on one name raises that name's number alone
pub record Counted (old new : Map ℕ) (name : List ℕ) : Type 0 where
  pub this : count_at old name ≤ count_at new name
  pub known : IsSome (old name) → IsSome (new name)
  pub others : (q : List ℕ) → q ≢ name → new q ≡ old q

-- the numbers after an object that was taken under the name is given back with n faults
pub record GivenBack (old new : Map ℕ) (name : List ℕ) (n : ℕ) : Type 0 where
  pub counted : Counted old new name
  pub added : count_at new name ≡ raised (count_at old name) n

-- a count hasn't risen, and doesn't stand at its greatest value
pub record Quiet (old new : ℕ) : Type 0 where
  pub same : new ≤ old
  pub below : new + 1 < 2 ^ 64

-- so it is with the number of each name
abbrev pub AllQuiet : Map ℕ → Map ℕ → Type 0
AllQuiet old new = (q : List ℕ) → Quiet (count_at old q) (count_at new q)
