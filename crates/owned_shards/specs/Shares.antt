-- The shares of workers that survey the shards of a target. Shards count from 0.
use Rattle.std.specs.Prelude.{◌≡◌, ℕ, ◌<◌, ◌≤◌, [], map, reverse, vec_capacity, vec_len, false, All}
use Rattle.caibx_codec.specs.Listing.{Listing, count_of, size_of}
use Rattle.dsy_base.specs.Splits.{extent}
use Rattle.owned_shards.specs.Wholes.{Begun, base_extent}
use Rattle.owned_shards.specs.declared.share.Share.{Share}
use Rattle.range_ledger.specs.Runs.{IsDealtShard, Run, Seen, has_settled}

-- this many bytes are room for each entry
abbrev pub TakesEach : Listing → ℕ → Type 0
TakesEach l n = (i : ℕ) → i < count_of l → size_of l i ≤ n

-- a shard before its survey: no entry is settled, and its part holds what the base does there
pub record IsUnsurveyed (r : Run) (s : Seen) : Type 0 where
  pub dealt : IsDealtShard r s
  pub none : (e : ℕ) → has_settled r s e ≡ false
  pub part : extent s.held ≡ base_extent r s.number

module _ {P R : Type 0} where
  -- a share that has no shard yet, but room for as many as it is to have
  pub record IsUndealt (a : Share P R) : Type 0 where
    pub unread : a.unread.items ≡ []
    pub shards : a.shards.items ≡ []
    pub room : a.count ≤ vec_capacity a.unread
    pub back : a.count ≤ vec_capacity a.shards

  -- a share none of whose shards was surveyed yet
  pub record AwaitsSurvey (r : Run) (a : Share P R) : Type 0 where
    pub unread : All (IsUnsurveyed r) a.unread.items
    pub shards : a.shards.items ≡ []
    pub room : vec_len a.unread ≤ vec_capacity a.shards

  -- the shards of share a are surveyed in share b, the last first
  pub record HasSurveyed (r : Run) (a b : Share P R) : Type 0 where
    pub numbers : map (λ s. s.number) b.shards.items ≡ reverse (map (λ s. s.number) a.unread.items)
    pub begun : All (Begun r) b.shards.items
