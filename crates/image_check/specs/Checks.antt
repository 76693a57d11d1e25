-- What holding an image against an index may answer.
use Rattle.std.specs.Prelude.{◌≡◌, ◌≢◌, ℕ, ◌<◌, List, length, Result, Ok, Err}
use Rattle.caibx_codec.specs.Listing.{Listing, count_of, id_of, kind_of, slice_of, image_length}
use Rattle.caibx_codec.specs.Right.{IsRightAt}
use Rattle.chunk_store.specs.Digests.{digest_of}
use Rattle.image_check.specs.declared.check.CheckFault.{CheckFault}
use Rattle.image_check.specs.declared.check.CheckFault.TheVariants as check

-- each chunk of t below k has the listed id
abbrev pub AreRightBelow : List ℕ → Listing → ℕ → Type 0
AreRightBelow t l k = (i : ℕ) → i < k → IsRightAt t l i

-- chunk k of t is the first whose digest isn't the listed id, and has this digest
pub record IsFirstWrong (t : List ℕ) (l : Listing) (k : ℕ) (name : List ℕ) : Type 0 where
  pub listed : k < count_of l
  pub before : AreRightBelow t l k
  pub named : name ≡ digest_of (kind_of l) (slice_of l t k)
  pub wrong : name ≢ id_of l k

-- what is answered of an image of this size: its size, exactly where it isn't the listed length
abbrev pub TellsSize : Listing → ℕ → Result Unit CheckFault → Type 0
TellsSize l size (Err (check.Length n)) = (n ≡ size) × (n ≢ image_length l)
TellsSize l size (Ok r) = size ≡ image_length l
TellsSize l size (Err (check.Mismatch k got)) = size ≡ image_length l
TellsSize l size (Err check.ImageFault) = size ≡ image_length l
TellsSize l size (Err check.Memory) = size ≡ image_length l

-- a mismatch is of an entry that is listed, and with another digest
abbrev pub NamesEntry : Listing → CheckFault → Type 0
NamesEntry l (check.Mismatch k got) = (k < count_of l) × (got.0 ≢ id_of l k)
NamesEntry l (check.Length n) = Unit {0}
NamesEntry l check.ImageFault = Unit {0}
NamesEntry l check.Memory = Unit {0}

-- what is answered of the chunks of the image t: Ok where all are right, else the first that is wrong. Faults and
-- want of memory are free
abbrev pub TellsChunks : Listing → List ℕ → Result Unit CheckFault → Type 0
TellsChunks l t (Ok r) = AreRightBelow t l (count_of l)
TellsChunks l t (Err (check.Mismatch k got)) = IsFirstWrong t l k got.0
TellsChunks l t (Err (check.Length n)) = length t ≢ image_length l
TellsChunks l t (Err check.ImageFault) = Unit {0}
TellsChunks l t (Err check.Memory) = Unit {0}
