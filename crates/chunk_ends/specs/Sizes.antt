-- The sizes of chunks, in bytes.
use Rattle.std.specs.Prelude.{◌≡◌, ℕ, ◌-◌, ◌*◌, ◌/◌, ◌^◌, ◌≤◌, nat_lt, if◌then◌else◌, Option, Some, None, Result, Ok}
use Rattle.std.specs.Prelude.{Err}
use Rattle.caibx_fields.specs.Limits.{size_limit}
use Rattle.chunk_ends.specs.declared.sizes.SizeFault.{SizeFault}
use Rattle.chunk_ends.specs.declared.sizes.SizeFault.TheVariants as faults

-- the least and the greatest size of a chunk, and the average that cutting aims at
pub record Sizes : Type 0 where
  pub least : ℕ
  pub average : ℕ
  pub greatest : ℕ

-- what the average may be at most: 4 MiB
abbrev pub average_limit : ℕ
average_limit = 4194304

-- sizes by which one can cut
pub record AreSizes (s : Sizes) : Type 0 where
  pub window : 48 ≤ s.least
  pub rises : s.least ≤ s.average
  pub ordered : s.average ≤ s.greatest
  pub average : s.average ≤ average_limit
  pub greatest : s.greatest ≤ size_limit

-- the first rule that sizes break
abbrev pub size_fault : Sizes → Option SizeFault
size_fault s =
    if nat_lt s.least 48 then Some faults.MinTooSmall
    else if nat_lt s.average s.least then Some faults.Order
    else if nat_lt s.greatest s.average then Some faults.Order
    else if nat_lt average_limit s.average then Some faults.AvgTooLarge
    else if nat_lt size_limit s.greatest then Some faults.MaxTooLarge
    else None

-- sizes that break no rule are taken as they are, and else the first broken rule is the answer
abbrev pub SizesGiven : Sizes → Result Sizes SizeFault → Type 0
SizesGiven s (Ok made) = (size_fault s ≡ None) × (made ≡ s)
SizesGiven s (Err f) = size_fault s ≡ Some f

-- about every how many bytes a window closes a chunk: casync's quotient, in whole numbers
unfoldable pub discriminator_of : ℕ → ℕ
discriminator_of average = average * 10 ^ 15 / (1332375150000000 - 142888852 * average)
