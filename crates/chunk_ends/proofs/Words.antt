-- The code's table is the definition's.
use Rattle.std.proofs.Common.{◌≡◌, ℕ, slice_index, refl, ap}
use Rattle.chunk_ends.specs.Table.{table}
use Rattle.chunk_ends.specs.declared.table.TheConstants.{TABLE}

same_table : TABLE ≡ table
unfolding table
same_table = refl

pub words_are : (byte : ℕ) → slice_index TABLE byte ≡ slice_index table byte
words_are byte = ap (λ t. slice_index t byte) same_table
