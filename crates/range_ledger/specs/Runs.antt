-- What a run is over, and what a shard keeps of it. Entries and shards count from 0.
use Rattle.std.specs.Prelude.{◌≡◌, ◌≢◌, ◌⊎◌, ℕ, ◌+◌, ◌-◌, ◌^◌, ◌≤◌, List, [], ◌∷◌, length, replicate, slice_range}
use Rattle.std.specs.Prelude.{Bool, true, false, IfSome, IsTrue, zero, suc, if◌then◌else◌}
use Rattle.caibx_codec.specs.Listing.{Listing, count_of, id_of, kind_of, size_of, slice_of, start_of}
use Rattle.caibx_codec.specs.Right.{IsRightAt}
use Rattle.chunk_store.specs.Digests.{digest_of}
use Rattle.dsy_base.specs.Bytes.{Held}
use Rattle.extract_plan.specs.Deal.{Deal, deal_shards, shard_start}
use Rattle.range_survey.specs.Fates.{settled}
use Rattle.range_survey.specs.declared.fate.Fate.{Fate}
use Rattle.range_survey.specs.declared.fate.Fate.TheVariants as fate
use Rattle.range_ledger.specs.Extents.{Extent, IsIn, IsRightIn, IsValidExtent, length_in, slice_in}

-- what a run is over: its index, the base's bytes, into how many shards it is cut, which entries may be filled, and
-- whether the target tells its bytes
pub record Run : Type 0 where
  pub listing : Listing
  pub base : List ℕ
  pub shards : ℕ
  pub may : ℕ → Bool
  pub tells : Bool

-- the entry with which shard k begins
abbrev pub first_in : Run → ℕ → ℕ
first_in r k = shard_start (count_of r.listing) r.shards k

-- the entries of shard k
abbrev pub extent_of : Run → ℕ → Extent
extent_of r k = record { listing = r.listing; from = first_in r k; to = first_in r (k + 1) }

-- the base's bytes in shard k
abbrev pub base_in : Run → ℕ → List ℕ
base_in r k = slice_range r.base (start_of r.listing (first_in r k)) (start_of r.listing (first_in r (k + 1)))

-- the index and its plan are those of the run
pub record IsDealt (r : Run) (l : Listing) (d : Deal) : Type 0 where
  pub listing : l ≡ r.listing
  pub entries : length d.want_of ≡ count_of r.listing
  pub shards : deal_shards d ≡ r.shards

-- the fates of the entries of shard k before any is settled
abbrev pub open_in : Run → ℕ → List Fate
open_in r k = replicate (first_in r (k + 1) - first_in r k) fate.Open

-- what contracts see of a shard: its number, what became of its entries, how often its part has failed, and what the
-- part holds
pub record Seen : Type 0 where
  pub number : ℕ
  pub fates : List Fate
  pub faults : ℕ
  pub held : Held

-- entry e is one of its entries
abbrev pub Has : Run → Seen → ℕ → Type 0
Has r s e = IsIn (extent_of r s.number) e

-- whether entry e is settled in what is seen of a shard
abbrev pub has_settled : Run → Seen → ℕ → Bool
has_settled r s e = settled s.fates (e - first_in r s.number)

-- the bytes of the part that entry e covers
abbrev pub slice_at : Run → Seen → List ℕ → ℕ → List ℕ
slice_at r s t e = slice_in (extent_of r s.number) t e

-- the range of entry e is zeros, if it begins at or past `old` in the target
abbrev pub HasZeros : Run → ℕ → Seen → ℕ → Type 0
HasZeros r old s e = old ≤ start_of r.listing e
    → IfSome s.held.bytes (λ t. slice_at r s t e ≡ replicate (size_of r.listing e) 0)

-- so is each range of it
abbrev pub HasZerosFrom : Run → ℕ → Seen → Type 0
HasZerosFrom r old s = (e : ℕ) → Has r s e → HasZeros r old s e

-- a call on each of these entries has failed: they are no more than the count has risen from 0, unless that stands at
-- its greatest value
abbrev pub HaveFailed : List ℕ → ℕ → Type 0
HaveFailed entries faults = (length entries ≤ faults) ⊎ (2 ^ 64 ≤ faults + 1)

-- e is one of these entries
abbrev pub IsOneOf : List ℕ → ℕ → Type 0
IsOneOf [] e = ⊥
IsOneOf (f ∷ fs) e = (e ≡ f) ⊎ IsOneOf fs e

-- what holds for the bytes t of a shard's part: a settled entry is right, and right in the base too or may be filled;
-- an entry that isn't settled has the base's bytes, or a call on it has failed; and an entry that is right in the base
-- is settled and has the base's bytes, or a call on it has failed
pub record IsKept (r : Run) (s : Seen) (t : List ℕ) : Type 0 where
  pub failed : List ℕ
  pub few : HaveFailed failed s.faults
  pub right : (e : ℕ) → Has r s e → has_settled r s e ≡ true → IsRightIn (extent_of r s.number) t e
  pub filled : (e : ℕ) → Has r s e → has_settled r s e ≡ true → IsRightAt r.base r.listing e ⊎ (r.may e ≡ true)
  pub untouched : (e : ℕ) → Has r s e → has_settled r s e ≡ false
      → (slice_at r s t e ≡ slice_of r.listing r.base e) ⊎ IsOneOf failed e
  pub base_right : (e : ℕ) → Has r s e → IsRightAt r.base r.listing e
      → (has_settled r s e ≡ true) ⊎ IsOneOf failed e
  pub base_kept : (e : ℕ) → Has r s e → IsRightAt r.base r.listing e
      → (slice_at r s t e ≡ slice_of r.listing r.base e) ⊎ IsOneOf failed e

-- what holds for each shard, whether its part tells or not
pub record IsDealtShard (r : Run) (s : Seen) : Type 0 where
  pub valid : IsValidExtent (extent_of r s.number)
  pub count : first_in r s.number + length s.fates ≡ first_in r (s.number + 1)
  pub size : s.held.size ≡ length_in (extent_of r s.number)

-- what the type of a shard keeps
pub record IsShard (r : Run) (s : Seen) : Type 0 where
  pub dealt : IsDealtShard r s
  pub kept : IsTrue r.tells → IfSome s.held.bytes (IsKept r s)

-- what the type of a part keeps whose survey isn't over: it holds the base's bytes, and what is settled is right
pub record IsUnread (r : Run) (s : Seen) : Type 0 where
  pub bytes : IsTrue r.tells → IfSome s.held.bytes (λ t. t ≡ base_in r s.number)
  pub right : (e : ℕ) → Has r s e → has_settled r s e ≡ true
      → IsTrue r.tells → IfSome s.held.bytes (λ t. IsRightIn (extent_of r s.number) t e)

-- the survey of the part was made: what its type keeps once it is a shard
abbrev pub WasSurveyed : Run → Seen → Type 0
WasSurveyed r s = IsTrue r.tells → IfSome s.held.bytes (IsKept r s)

-- the bytes may be put into entry e: they are its chunk, and it may be filled
pub record MayFill (r : Run) (e : ℕ) (b : List ℕ) : Type 0 where
  pub size : length b ≡ size_of r.listing e
  pub named : IsTrue r.tells → digest_of (kind_of r.listing) b ≡ id_of r.listing e
  pub may : r.may e ≡ true

-- entry e is settled, and of the others those that were
pub record SettlesOne (r : Run) (old new : Seen) (e : ℕ) : Type 0 where
  pub size : length new.fates ≡ length old.fates
  pub this : has_settled r new e ≡ true
  pub others : (j : ℕ) → Has r old j → j ≢ e → has_settled r new j ≡ has_settled r old j

-- what holds of a part's bytes before and afterwards, where the run's target tells them
abbrev pub WhereTells : Run → Seen → Seen → (List ℕ → List ℕ → Type 0) → Type 0
WhereTells r old new P = IsTrue r.tells → IfSome old.held.bytes (λ t. IfSome new.held.bytes (P t))

-- how many of its first k entries are settled
abbrev pub settled_below : Run → Seen → ℕ → ℕ
settled_below r s zero = 0
settled_below r s (suc k) = settled_below r s k + (if has_settled r s (first_in r s.number + k) then 1 else 0)
