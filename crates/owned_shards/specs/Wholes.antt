-- What the shards of a target make up together. Entries and shards count from 0.
use Rattle.std.specs.Prelude.{◌≡◌, ◌⊎◌, ℕ, ◌+◌, ◌-◌, ◌^◌, ◌<◌, ◌≤◌, List, [], ◌∷◌, ◌++◌, length, zero, suc}
use Rattle.std.specs.Prelude.{replicate, slice_range, Bool, true, false, Option, Some, None, IfSome, IsTrue}
use Rattle.std.specs.Prelude.{if◌then◌else◌, is_some}
use Rattle.std.specs.List.{Contains, flat_map, sum_by}
use Rattle.caibx_codec.specs.Listing.{Listing, count_of, image_length, slice_of, start_of}
use Rattle.caibx_codec.specs.Right.{IsRightAt}
use Rattle.dsy_base.specs.Bytes.{Held, resized}
use Rattle.dsy_base.specs.Counts.{raised}
use Rattle.dsy_base.specs.Splits.{Left, extent_at, held_joined, joined}
use Rattle.extract_plan.specs.Deal.{AreShardEnds, Deal, deal_shards}
use Rattle.range_ledger.specs.Runs.{IsDealt, IsShard, Run, Seen, base_in, first_in, open_in}
use Rattle.range_survey.specs.Excuses.{Excuses}
use Rattle.range_survey.specs.Fates.{FirstFates, SettledRight, settled}
use Rattle.range_survey.specs.declared.fate.Fate.{Fate}

-- all bytes from offset `old` on are zeros
abbrev pub ZerosFrom : ℕ → List ℕ → Type 0
ZerosFrom old t = (a z : ℕ) → old ≤ a → a ≤ z → z ≤ length t → slice_range t a z ≡ replicate (z - a) 0

-- what contracts see of a target in shards: what it holds, what became of its entries, how often a call on it has
-- failed, and how often one had when it was split
pub record Whole : Type 0 where
  pub held : Held
  pub fates : List Fate
  pub faults : ℕ
  pub faults_before : ℕ

-- what became of the entries of these shards
abbrev pub fates_of : List Seen → List Fate
fates_of ss = flat_map (λ s. s.fates) ss

-- the bytes of these shards
abbrev pub joined_bytes : List Seen → List ℕ
joined_bytes ss = joined (λ (s : Seen). s.held) ss

-- how often a call on one of them has failed
abbrev pub joined_faults : List Seen → ℕ
joined_faults ss = sum_by (λ s. s.faults) ss

-- the target of which this is left beside these shards
abbrev pub whole_of : Left → Bool → List Seen → Whole
whole_of left tells ss = record {
  held = held_joined left tells (joined_bytes ss);
  fates = fates_of ss;
  faults = raised left.faults (joined_faults ss);
  faults_before = left.faults;
}

-- a shard of a run, whose part tells its bytes where the run says so
pub record IsTold (r : Run) (s : Seen) : Type 0 where
  pub kept : IsShard r s
  pub tells : is_some s.held.bytes ≡ r.tells
  pub sized : IfSome s.held.bytes (λ t. length t ≡ s.held.size)

-- the shards of a run from the k-th on, for each of which P holds
abbrev pub ShardsWith : (Seen → Type 0) → Run → ℕ → List Seen → Type 0
ShardsWith P r k [] = k ≡ r.shards
ShardsWith P r k (s ∷ ss) = (s.number ≡ k) × (P s × ShardsWith P r (k + 1) ss)

-- the shards of a run from the k-th on
abbrev pub AreShards : Run → ℕ → List Seen → Type 0
AreShards r k ss = ShardsWith (IsTold r) r k ss

-- each entry may be filled
abbrev pub MayFillAll : Run → Type 0
MayFillAll r = (e : ℕ) → r.may e ≡ true

-- the run is over this index by this plan, and over a target that holds this once it has the image's length
pub record IsRunOver (r : Run) (l : Listing) (d : Deal) (told : Bool) (old : Held) : Type 0 where
  pub dealt : IsDealt r l d
  pub workers : 0 < d.workers
  pub cuts : AreShardEnds l (deal_shards d) d.cuts
  pub base : IfSome old.bytes (λ o. r.base ≡ resized o (image_length l))
  pub tells : r.tells ≡ told

-- what a target in shards keeps
pub record IsWhole (r : Run) (told : Bool) (left : Left) (ss : List Seen) : Type 0 where
  pub shards : AreShards r 0 ss
  pub some : 0 < count_of r.listing → 0 < r.shards
  pub few : r.shards ≤ count_of r.listing
  pub size : left.size ≡ image_length r.listing
  pub counted : left.faults < 2 ^ 64
  pub tells : r.tells ≡ told

-- with all shards of the run again, this makes up a whole target
abbrev pub AwaitsShards : Run → Bool → Left → Type 0
AwaitsShards r told left = (ss : List Seen) → AreShards r 0 ss → IsWhole r told left ss

-- what holds for the bytes t of a target in shards, whichever workers had them: a settled entry is right, and either it
-- was right in the base or it may be filled; an entry that isn't settled has the base's bytes, or a call on it has
-- failed; and an entry that is right in the base is settled and has the base's bytes, or a call on it has failed
pub record KeptWhole (r : Run) (w : Whole) (t : List ℕ) : Type 0 where
  pub failed : List ℕ
  pub excused : Excuses failed w.faults_before w.faults
  pub right : SettledRight r.listing t w.fates (count_of r.listing)
  pub filled : (e : ℕ) → e < count_of r.listing → settled w.fates e ≡ true
      → IsRightAt r.base r.listing e ⊎ (r.may e ≡ true)
  pub untouched : (e : ℕ) → e < count_of r.listing → settled w.fates e ≡ false
      → (slice_of r.listing t e ≡ slice_of r.listing r.base e) ⊎ Contains failed e
  pub base_right : (e : ℕ) → e < count_of r.listing → IsRightAt r.base r.listing e
      → (settled w.fates e ≡ true) ⊎ Contains failed e
  pub base_kept : (e : ℕ) → e < count_of r.listing → IsRightAt r.base r.listing e
      → (slice_of r.listing t e ≡ slice_of r.listing r.base e) ⊎ Contains failed e

-- the fates of the first n shards, of which none is settled
abbrev pub open_below : Run → ℕ → List (List Fate)
open_below r zero = []
open_below r (suc n) = open_below r n ++ open_in r n ∷ []

-- the base's bytes, where the run's target tells them
abbrev pub base_told : Run → Option (List ℕ)
base_told r = if r.tells then Some r.base else None

-- the extent of shard k in the base
abbrev pub base_extent : Run → ℕ → Option (List ℕ) × ℕ
base_extent r k = extent_at (base_told r) (start_of r.listing (first_in r k)) (start_of r.listing (first_in r (k + 1)))

-- the extents of the first n shards
abbrev pub extents_below : Run → ℕ → List (Option (List ℕ) × ℕ)
extents_below r zero = []
extents_below r (suc n) = extents_below r n ++ base_extent r n ∷ []

-- a shard right after its survey: no entry was filled, and its part holds the base's bytes
pub record Begun (r : Run) (s : Seen) : Type 0 where
  pub told : IsTold r s
  pub first : (k : ℕ) → FirstFates s.fates k
  pub base : IsTrue r.tells → IfSome s.held.bytes (λ t. t ≡ base_in r s.number)
