-- The index of an image: its chunks by their ends, each with its digest.
use Rattle.std.specs.Prelude.{◌≡◌, ℕ, ◌<◌, ◌≤◌, List, [], ◌∷◌, length, slice_index, slice_range, All, Result, Ok, Err}
use Rattle.caibx_fields.specs.Limits.{item_limit}
use Rattle.chunk_ends.specs.Cuts.{AreCuts}
use Rattle.chunk_ends.specs.Sizes.{Sizes}
use Rattle.buzhash_cut.specs.declared.image.CutFault.{CutFault}
use Rattle.buzhash_cut.specs.declared.image.CutFault.TheVariants as faults
use Rattle.caibx_codec.specs.Listing.{Listing}
use Rattle.dsy_base.specs.Bytes.{Held}
use Rattle.dsy_base.specs.Counts.{CountsFaults}
use Rattle.chunk_store.specs.Digests.{digest_of}
use Rattle.chunk_store.specs.declared.id.DigestKind.{DigestKind}
use Rattle.chunk_store.specs.declared.id.DigestKind.TheVariants as kinds

-- each end, from the chunk on that begins at `start`, with the digest of its chunk
abbrev pub named_from : DigestKind → List ℕ → ℕ → List ℕ → List (ℕ × List ℕ)
named_from kind image start [] = []
named_from kind image start (end ∷ ends) =
    (end, digest_of kind (slice_range image start end)) ∷ named_from kind image end ends

-- what the head of an index says that is made: casync's flag 0x8000000000000000, and that for SHA-512/256
abbrev pub flags_of : DigestKind → ℕ
flags_of kinds.Sha512T256 = 0xa000000000000000
flags_of kinds.Sha256 = 0x8000000000000000

-- the index that lists these ends
abbrev pub listing_of : DigestKind → Sizes → List ℕ → List ℕ → Listing
listing_of kind s image ends = record {
  flags = flags_of kind;
  least = s.least;
  average = s.average;
  greatest = s.greatest;
  entries = named_from kind image 0 ends;
}

-- l is the index of the image cut by these sizes, its chunks named by this digest
pub record IsIndexOfImage (kind : DigestKind) (s : Sizes) (image : List ℕ) (l : Listing) : Type 0 where
  pub ends : List ℕ
  pub cuts : AreCuts s image 0 ends
  pub lists : l ≡ listing_of kind s image ends

-- the image is cut into more chunks than an index may list
pub record HasTooManyCuts (s : Sizes) (image : List ℕ) : Type 0 where
  pub ends : List ℕ
  pub cuts : AreCuts s image 0 ends
  pub many : item_limit < length ends

-- what making the index of an image may answer
abbrev pub IndexGiven : DigestKind → Sizes → List ℕ → Result Listing CutFault → Type 0
IndexGiven kind s image (Ok l) = IsIndexOfImage kind s image l
IndexGiven kind s image (Err faults.TooManyItems) = HasTooManyCuts s image
IndexGiven kind s image (Err faults.ImageFault) = Unit {0}
IndexGiven kind s image (Err faults.Memory) = Unit {0}

-- what views hold is one image: they are of one size and, where they tell, of the same bytes
abbrev pub AreOfOneImage : List Held → Type 0
AreOfOneImage hs = All (λ h. All (λ k. (k.size ≡ h.size) × (k.bytes ≡ h.bytes)) hs) hs

-- how the counts of the views go over cutting: none falls, and the first view's is that of the answer: it rises where
-- the image couldn't be read, and stays where there is an index or no memory
pub record CountsViews {A E : Type 0} (failed memory : E) (old new : List ℕ) (result : Result A E) : Type 0 where
  pub never_falls : (i : ℕ) → slice_index old i ≤ slice_index new i
  pub first : CountsFaults failed memory (slice_index old 0) (slice_index new 0) result
