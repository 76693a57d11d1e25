-- Where the entries of a shard lie among those of the index.
use Rattle.std.proofs.Common.{◌≡◌, ℕ, zero, suc, ◌+◌, ◌-◌, ◌*◌, ◌/◌, ◌<◌, ◌≤◌, false, replicate, refl, ap, ◌∙◌, arith, length, subst, inl, inr}
use Rattle.std.proofs.Math.Nat.{div-le_of_le-mul, div-mul-le_self}
use Rattle.std.proofs.lemmas.Bool.{cases_eq}
use Rattle.std.proofs.lemmas.List.{length-replicate}
use Rattle.std.proofs.lemmas.Nat.{le-div}
use Rattle.caibx_codec.specs.Listing.{Listing, Rules, count_of, end_of, start_of}
use Rattle.dsy_base.specs.Bytes.{Held}
use Rattle.extract_plan.specs.Deal.{Deal, deal_shards, shard_start}
use Rattle.range_survey.specs.Fates.{settled}
use Rattle.range_survey.specs.declared.fate.Fate.TheVariants as fate
use Rattle.range_ledger.specs.Extents.{IsValidExtent, length_in}
use Rattle.range_ledger.specs.Runs.{Run, Seen, IsDealtShard, extent_of, first_in, has_settled}

start_inside : (n s k : ℕ) → k ≤ s → shard_start n s k ≤ n
start_inside n s k h = let most : k * n ≤ s * n = grind arith in div-le_of_le-mul s most

start_rises : (n s k : ℕ) → 0 < s → shard_start n s k ≤ shard_start n s (k + 1)
start_rises n s k some =
    let low : k * n / s * s ≤ k * n = div-mul-le_self (k * n) s in
    let more : k * n ≤ (k + 1) * n = grind arith in
    let le : k * n / s * s ≤ (k + 1) * n = omega (arith, low, more) in
    le-div (k * n / s) ((k + 1) * n) s some le

pub valid_shard : (r : Run) (k : ℕ) → Rules r.listing → k < r.shards → IsValidExtent (extent_of r k)
valid_shard r k rules lt = record {
  valid = rules;
  within = start_inside (count_of r.listing) r.shards (k + 1) (omega (arith, lt));
  some = start_rises (count_of r.listing) r.shards k (omega (arith, lt));
}

none_set : (n i : ℕ) → settled (replicate n fate.Open) i ≡ false
none_set zero i = refl
none_set (suc n) zero = refl
none_set (suc n) (suc i) = none_set n i

-- a shard of which nothing is settled
abbrev pub fresh : ℕ → ℕ → ℕ → Held → Seen
fresh k n faults held = record { number = k; fates = replicate n fate.Open; faults = faults; held = held }

pub none_settled : (r : Run) (k n faults : ℕ) (held : Held) (e : ℕ) → has_settled r (fresh k n faults held) e ≡ false
none_settled r k n faults held e = none_set n (e - first_in r k)

pub fresh_dealt : (r : Run) (k n faults : ℕ) (held : Held) → Rules r.listing → k < r.shards → first_in r k + n ≡ first_in r (k + 1)
    → held.size ≡ length_in (extent_of r k) → IsDealtShard r (fresh k n faults held)
fresh_dealt r k n faults held rules lt count size = record {
  valid = valid_shard r k rules lt;
  count = ap (λ m. first_in r k + m) (length-replicate n fate.Open) ∙ count;
  size = size;
}

pub start_more : (n s k : ℕ) → 0 < s → s ≤ n → shard_start n s k < shard_start n s (k + 1)
start_more n s k some full =
    let low : k * n / s * s ≤ k * n = div-mul-le_self (k * n) s in
    let more : (k + 1) * n ≡ k * n + n = grind arith in
    let step : (k * n / s + 1) * s ≡ k * n / s * s + s = grind arith in
    let le : (k * n / s + 1) * s ≤ (k + 1) * n = omega (arith, low, more, step, full) in
    let above : k * n / s + 1 ≤ (k + 1) * n / s = le-div (k * n / s + 1) ((k + 1) * n) s some le in
    omega (arith, above)

-- a shard of the plan has entries, which are entries of the index
pub record HasEntries (l : Listing) (first past : ℕ) : Type 0 where
  pub some : first < past
  pub within : past ≤ count_of l
  pub rises : start_of l first ≤ end_of l (past - 1)

pub has_entries : (l : Listing) (d : Deal) (k : ℕ) → Rules l → length d.want_of ≡ count_of l → k < deal_shards d
    → HasEntries l (shard_start (length d.want_of) (deal_shards d) k) (shard_start (length d.want_of) (deal_shards d) (k + 1))
has_entries l d k rules entries lt = record { some = some; within = within; rises = rises } where
  some : shard_start (length d.want_of) (deal_shards d) k < shard_start (length d.want_of) (deal_shards d) (k + 1)
  some = start_more (length d.want_of) (deal_shards d) k (omega (arith, lt)) (omega arith)

  within : shard_start (length d.want_of) (deal_shards d) (k + 1) ≤ count_of l
  within = omega (arith, start_inside (length d.want_of) (deal_shards d) (k + 1) (omega (arith, lt)), entries)

  rises : start_of l (shard_start (length d.want_of) (deal_shards d) k) ≤ end_of l (shard_start (length d.want_of) (deal_shards d) (k + 1) - 1)
  rises = span (shard_start (length d.want_of) (deal_shards d) k) (shard_start (length d.want_of) (deal_shards d) (k + 1) - 1) (omega (arith, some)) (omega (arith, some, within)) where
    span : (a z : ℕ) → a ≤ z → z < count_of l → start_of l a ≤ end_of l z
    span a z le past = elim (cases_eq a z) [
      | inl same ↦ subst (λ i. start_of l a ≤ end_of l i) same (omega (arith, rules.rises a (omega (arith, le, past))))
      | inr differ ↦ omega (arith, rules.ordered a z (omega (arith, le, differ)) past, rules.rises a (omega (arith, le, past)), rules.rises z past)
    ]
