-- What reading ahead does to a reader.
use Rattle.std.specs.Prelude.{◌≡◌}
use Rattle.read_ahead.specs.declared.reader.Reader.{Ghosts as ReaderWords}

-- the reader went from the first state to the second, and can still read: as many items, and nothing that it wouldn't
-- have read before
pub record ReadsOn {A V : Type 0} (reader : ReaderWords V A) (old new : V) : Type 0 where
  pub able : reader.can_read new
  pub count : reader.count new ≡ reader.count old
  pub same : (a : A) → reader.is_right new a → reader.is_right old a
  pub on : (first : V) → reader.went first old → reader.went first new
