-- What stands in a target in shards after its survey.
use Rattle.std.specs.Prelude.{◌≡◌, ℕ, ◌≤◌, IfSome}
use Rattle.caibx_codec.specs.Listing.{Listing, count_of, image_length}
use Rattle.dsy_base.specs.Bytes.{Held, held_resized}
use Rattle.owned_shards.specs.Wholes.{Whole}
use Rattle.range_survey.specs.Fates.{FirstFates, OpenWrong}

-- the shards are those of a target that held this and had failed so often at first. Each entry that is right in it is
-- kept, unless a call failed
pub record HasBegun (l : Listing) (old : Held) (faults : ℕ) (x : Whole) : Type 0 where
  pub rises : faults ≤ x.faults
  pub held : x.held ≡ held_resized old (image_length l)
  pub first : FirstFates x.fates (count_of l)
  pub wrong : IfSome x.held.bytes (λ t. OpenWrong l t x.fates faults x.faults (count_of l))
