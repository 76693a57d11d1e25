-- What is settled of a want, by what was answered for its chunk.
use Rattle.std.proofs.Common.{◌≡◌, ℕ, ◌<◌, ◌^◌, List, map, Result, Ok, Err, refl, ap, ◌∙◌, inl, inr, subst, arith}
use Rattle.assembler.proofs.Tallies.{TalliedAs, tallied_upstream, tallied_none}
use Rattle.assembler.specs.Economy.{SettledShared, SettlesBy}
use Rattle.range_survey.specs.Reports.{one_if}
use Rattle.assembler.specs.declared.fault.Lost.{Lost}
use Rattle.assembler.specs.declared.fault.Unsettled.TheVariants as unsettled
use Rattle.chunk_sources.proofs.Origins.{same_raised}
use Rattle.chunk_sources.specs.Economy.{AnsweredAs, ObtainedBy, as_upstream, origin_of}
use Rattle.range_survey.specs.declared.fate.Fate.{Fate}
use Rattle.range_survey.specs.declared.fate.Fate.TheVariants as fate
use Rattle.store_chain.specs.Chains.{Chained}
use Rattle.store_chain.specs.declared.refused.Refused.{Refused}
use Rattle.store_chain.specs.declared.refused.Refused.TheVariants as refused

-- a copy counts neither as seeded nor as cached or fetched
origin_seeded : (x : Fate) → one_if fate.Seeded (origin_of x) ≡ one_if fate.Seeded x
origin_seeded fate.Open = refl
origin_seeded fate.Kept = refl
origin_seeded fate.Copied = refl
origin_seeded fate.Seeded = refl
origin_seeded fate.Cached = refl
origin_seeded fate.Fetched = refl

origin_cached : (x : Fate) → one_if fate.Cached (origin_of x) ≡ one_if fate.Cached x
origin_cached fate.Open = refl
origin_cached fate.Kept = refl
origin_cached fate.Copied = refl
origin_cached fate.Seeded = refl
origin_cached fate.Cached = refl
origin_cached fate.Fetched = refl

origin_fetched : (x : Fate) → one_if fate.Fetched (origin_of x) ≡ one_if fate.Fetched x
origin_fetched fate.Open = refl
origin_fetched fate.Kept = refl
origin_fetched fate.Copied = refl
origin_fetched fate.Seeded = refl
origin_fetched fate.Cached = refl
origin_fetched fate.Fetched = refl

pub origin_upstream : (x : Fate) → as_upstream (origin_of x) ≡ origin_of (as_upstream x)
origin_upstream fate.Open = refl
origin_upstream fate.Kept = refl
origin_upstream fate.Copied = refl
origin_upstream fate.Seeded = refl
origin_upstream fate.Cached = refl
origin_upstream fate.Fetched = refl

-- the entries of a want are counted by its source
counts_source : (source : Fate) (n : ℕ) (m0 m1 : List Fate) → TalliedAs (origin_of source) n m0 m1 → TalliedAs source n m0 m1
counts_source source n m0 m1 counts =
    let from_seeds = counts.from_seeds in
    let from_cache = counts.from_cache in
    let from_stores = counts.from_stores in
    record {
      from_seeds = omega (arith, from_seeds, origin_seeded source);
      from_cache = omega (arith, from_cache, origin_cached source);
      from_stores = omega (arith, from_stores, origin_fetched source);
    }

ok_isnt_err : {A : Type 0} {x : A} → (◌≡◌ {A = Result A Refused} (Ok x) (Err refused.Memory)) → ⊥
ok_isnt_err is = absurd (cc)

-- a want was settled with a chunk that was got so, or all of it was settled before
module _ {S : Type 0} (source : Fate) (n : ℕ) (m0 m1 : List Fate) (old new : Chained S) where
  pub settles_got : (origin : Fate) → ObtainedBy source old new (Ok origin) → TalliedAs origin n m0 m1 → SettlesBy source n m0 m1 old new (Ok tt)
  settles_got origin got counts =
      (λ memory. got.0 ok_isnt_err, counts_source source n m0 m1 (subst (λ f. TalliedAs f n m0 m1) got.1 counts))

  -- with cache and stores as one
  pub shared_got : (origin : Fate) → AnsweredAs as_upstream source (Ok origin) → TalliedAs origin n m0 m1 → SettledShared source n m0 m1 (Ok tt)
  shared_got origin got counts =
      counts_source (as_upstream source) n (map as_upstream m0) (map as_upstream m1)
      (subst (λ f. TalliedAs f n (map as_upstream m0) (map as_upstream m1)) (got ∙ origin_upstream source) (tallied_upstream origin n m0 m1 counts))

-- the chunk wasn't obtained
same_err : {A : Type 0} (r q : Refused) → (◌≡◌ {A = Result A Refused} (Err r) (Err q)) → r ≡ q
same_err r q same = cc

pub settles_lost : {S : Type 0} (source : Fate) (n : ℕ) (m : List Fate) (old new : Chained S) (lost : Lost) → ObtainedBy source old new (Err lost.refused)
    → SettlesBy source n m m old new (Err (unsettled.Lost lost))
settles_lost source n m old new lost got = (λ memory. got.0 (λ same. memory lost refl (same_err lost.refused refused.Memory same)), (refl, got.1))

pub settles_kept : {S : Type 0} (source : Fate) (n : ℕ) (m : List Fate) (c : Chained S) → source ≡ fate.Kept → c.asks < 2 ^ 64 → SettlesBy source n m m c c (Ok tt)
settles_kept source n m c is below = rw is (λ memory. same_raised c.asks below, tallied_none n m)

-- the same with cache and stores as one
pub shared_lost : (source : Fate) (n : ℕ) (m : List Fate) (lost : Lost) → AnsweredAs as_upstream source (Err lost.refused) → SettledShared source n m m (Err (unsettled.Lost lost))
shared_lost source n m lost (inl lacked) = (refl, inl lacked)
shared_lost source n m lost (inr none) = (refl, inr (ap as_upstream none))

pub shared_kept : (source : Fate) (n : ℕ) (m : List Fate) → source ≡ fate.Kept → SettledShared source n m m (Ok tt)
shared_kept source n m is = rw is (tallied_none n (map as_upstream m))
