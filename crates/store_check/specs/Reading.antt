-- What reading ahead leaves of the looks.
use Rattle.std.specs.Prelude.{◌≡◌, ◌≤◌}
use Rattle.dsy_base.specs.declared.look.Look.{Ghosts as LookWords}

-- the look tells what it told, under its name, and its count of faults hasn't fallen
pub record KeepsLook {L : Type 0} (look : LookWords L) (old new : L) : Type 0 where
  pub files : look.files new ≡ look.files old
  pub place : look.place new ≡ look.place old
  pub faults : look.faults old ≤ look.faults new
