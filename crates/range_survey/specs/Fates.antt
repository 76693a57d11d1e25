-- What became of the entries of an index: one fate an entry, in their order. t are the bytes of a target.
use Rattle.std.specs.Prelude.{◌≡◌, ◌⊎◌, ℕ, ◌<◌, List, get_or, Bool, true, false}
use Rattle.std.specs.List.{Contains}
use Rattle.std.specs.Str.{bytes_eq}
use Rattle.caibx_codec.specs.Listing.{Listing, id_of, kind_of, slice_of}
use Rattle.caibx_codec.specs.Right.{IsRightAt}
use Rattle.chunk_store.specs.Digests.{digest_of}
use Rattle.range_survey.specs.Excuses.{Excuses}
use Rattle.range_survey.specs.declared.fate.Fate.{Fate}
use Rattle.range_survey.specs.declared.fate.Fate.TheVariants as fate

-- whether a fate is another than `Open`
abbrev pub is_settled : Fate → Bool
is_settled fate.Open = false
is_settled fate.Kept = true
is_settled fate.Copied = true
is_settled fate.Seeded = true
is_settled fate.Cached = true
is_settled fate.Fetched = true

-- the fates of entries that were made right
abbrev pub is_made : Fate → Bool
is_made fate.Open = false
is_made fate.Kept = false
is_made fate.Copied = true
is_made fate.Seeded = true
is_made fate.Cached = true
is_made fate.Fetched = true

-- the fate of entry i, which is open where there is none
abbrev pub fate_at : List Fate → ℕ → Fate
fate_at fates i = get_or fates i fate.Open

-- whether entry i is settled
abbrev pub settled : List Fate → ℕ → Bool
settled fates i = is_settled (fate_at fates i)

-- whether entry i is right in t
abbrev pub is_right_at : Listing → List ℕ → ℕ → Bool
is_right_at l t i = bytes_eq (digest_of (kind_of l) (slice_of l t i)) (id_of l i)

-- each settled entry below k is right in t
abbrev pub SettledRight : Listing → List ℕ → List Fate → ℕ → Type 0
SettledRight l t fates k = (i : ℕ) → i < k → settled fates i ≡ true → IsRightAt t l i

-- an open entry below k that is right in t all the same was missed: a read of it failed, as the count of faults went
-- from old to new
pub record OpenWrong (l : Listing) (t : List ℕ) (fates : List Fate) (old new k : ℕ) : Type 0 where
  pub failed : List ℕ
  pub excused : Excuses failed old new
  pub missed : (i : ℕ) → i < k → settled fates i ≡ false → IsRightAt t l i → Contains failed i

-- each entry below k is open, or was right at first
abbrev pub FirstFates : List Fate → ℕ → Type 0
FirstFates fates k = (i : ℕ) → i < k → (fate_at fates i ≡ fate.Open) ⊎ (fate_at fates i ≡ fate.Kept)
