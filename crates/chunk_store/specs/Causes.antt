-- How counts of faults go over several calls.
use Rattle.std.specs.Prelude.{◌≡◌, ℕ, ◌≤◌, Result, Err}
use Rattle.dsy_base.specs.Counts.{Rose}

-- a count over several calls on one object: it never falls, and rises where they failed
pub record CountsCause {A E : Type 0} (failed : E) (old new : ℕ) (result : Result A E) : Type 0 where
  pub never_falls : old ≤ new
  pub cause : result ≡ Err failed → Rose old new
