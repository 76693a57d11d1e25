-- What the chunks of all wants cost where nothing fails, by where each comes from.
use Rattle.std.specs.Prelude.{◌≡◌, ◌≢◌, ◌⊎◌, ℕ, ◌+◌, List, Bool, map, Result, Ok, Err}
use Rattle.range_survey.specs.Reports.{one_if, tally}
use Rattle.assembler.specs.declared.fault.ExtractFault.{ExtractFault}
use Rattle.assembler.specs.declared.fault.ExtractFault.TheVariants as faults
use Rattle.assembler.specs.declared.fault.Lost.{Lost}
use Rattle.assembler.specs.declared.fault.Unsettled.{Unsettled}
use Rattle.assembler.specs.declared.fault.Unsettled.TheVariants as unsettled
use Rattle.range_survey.specs.declared.report.Report.{Report}
use Rattle.chunk_sources.specs.Economy.{all_asks, as_upstream, pass_asks, source_if, sum_below}
use Rattle.dsy_base.specs.Counts.{raised}
use Rattle.range_survey.specs.declared.fate.Fate.{Fate}
use Rattle.range_survey.specs.declared.fate.Fate.TheVariants as fate
use Rattle.store_chain.specs.Chains.{Chained}
use Rattle.store_chain.specs.declared.refused.Refused.TheVariants as refused

-- this many entries more have a fate that says that a chunk was got
pub record Tallied (seeded cached fetched n : ℕ) (m0 m1 : List Fate) : Type 0 where
  pub from_seeds : tally fate.Seeded m1 n ≡ tally fate.Seeded m0 n + seeded
  pub from_cache : tally fate.Cached m1 n ≡ tally fate.Cached m0 n + cached
  pub from_stores : tally fate.Fetched m1 n ≡ tally fate.Fetched m0 n + fetched

-- as many as there are wants with such a source, where the want w has the source `source w`
abbrev pub TalliedBy : (ℕ → Fate) → ℕ → ℕ → List Fate → List Fate → Type 0
TalliedBy source wants n m0 m1 = Tallied (sum_below (λ w. one_if fate.Seeded (source w)) wants)
    (sum_below (λ w. one_if fate.Cached (source w)) wants) (sum_below (λ w. one_if fate.Fetched (source w)) wants) n m0
    m1

-- of these wants alone, with cache and stores as one
abbrev pub TalliedShared : (ℕ → Bool) → (ℕ → Fate) → ℕ → ℕ → List Fate → List Fate → Type 0
TalliedShared these source wants n m0 m1 =
    TalliedBy (source_if these (λ w. as_upstream (source w))) wants n (map as_upstream m0) (map as_upstream m1)

-- one want with this source was settled, where nothing failed. Want of memory is free
abbrev pub SettledBy : Fate → ℕ → List Fate → List Fate → Result Unit Unsettled → Type 0
SettledBy source n m0 m1 (Ok u) = Tallied (one_if fate.Seeded source) (one_if fate.Cached source)
    (one_if fate.Fetched source) n m0 m1
SettledBy source n m0 m1 (Err (unsettled.Lost x)) = (m1 ≡ m0) × ((x.refused ≡ refused.Memory) ⊎ (source ≡ fate.Open))
SettledBy source n m0 m1 (Err unsettled.TargetFault) = ⊥

-- the same with cache and stores as one
abbrev pub SettledShared : Fate → ℕ → List Fate → List Fate → Result Unit Unsettled → Type 0
SettledShared source n m0 m1 r = SettledBy (as_upstream source) n (map as_upstream m0) (map as_upstream m1) r

-- nothing that was asked lacked memory
abbrev pub HadMemory : Result Unit Unsettled → Type 0
HadMemory r = (lost : Lost) → r ≡ Err (unsettled.Lost lost) → lost.refused ≢ refused.Memory

module _ {S : Type 0} where
  -- one want with this source was settled, and the chain was asked as often as that takes
  abbrev pub SettlesBy : Fate → ℕ → List Fate → List Fate → Chained S → Chained S → Result Unit Unsettled → Type 0
  SettlesBy source n m0 m1 old new r =
      (HadMemory r → new.asks ≡ raised old.asks (pass_asks source)) × SettledBy source n m0 m1 r

  -- the calls of one pass, and what it settled, where the want w has the source `source w`
  pub record PassedBy (source : ℕ → Fate) (wants n : ℕ) (m0 m1 : List Fate) (old new : Chained S) : Type 0 where
    pub calls : new.asks ≡ raised old.asks (sum_below (λ w. pass_asks (source w)) wants)
    pub tallied : TalliedBy source wants n m0 m1

  -- the same of both passes, where the want w had the source `source w` before them
  pub record AssembledBy (source : ℕ → Fate) (wants n : ℕ) (m0 m1 : List Fate) (old new : Chained S) : Type 0 where
    pub calls : new.asks ≡ raised old.asks (sum_below (λ w. all_asks (source w)) wants)
    pub tallied : TalliedBy source wants n m0 m1

  -- how often an assembly asks the stores, where nothing fails: once for the chunk of each want that has no right entry
  -- and that neither a seed nor the cache gives, and once more where no source gives it. Want of memory is free
  abbrev pub AsksExactly : (ℕ → Fate) → ℕ → Chained S → Chained S → Result Report ExtractFault → Type 0
  AsksExactly source wants old new (Err faults.Memory) = Unit {0}
  AsksExactly source wants old new r = new.asks ≡ raised old.asks (sum_below (λ w. all_asks (source w)) wants)

-- what the report then says: a chunk is seeded, cached or fetched once, and all else is a copy
abbrev pub ReportsExactly : (ℕ → Fate) → ℕ → Report → Type 0
ReportsExactly source wants r = (r.seeded ≡ sum_below (λ w. one_if fate.Seeded (source w)) wants)
    × (r.cached ≡ sum_below (λ w. one_if fate.Cached (source w)) wants)
    × (r.fetched ≡ sum_below (λ w. one_if fate.Fetched (source w)) wants)

-- what it says where several workers share the cache: which of cache and stores gives a chunk isn't fixed then, since
-- another worker may have added it
abbrev pub ReportsTogether : (ℕ → Fate) → ℕ → Report → Type 0
ReportsTogether source wants r = (r.seeded ≡ sum_below (λ w. one_if fate.Seeded (source w)) wants)
    × (r.cached + r.fetched ≡ sum_below (λ w. one_if fate.Fetched (as_upstream (source w))) wants)

-- what holds where it wasn't ended for want of memory
abbrev pub UnlessMemory : {A : Type 0} → Type 0 → Result A ExtractFault → Type 0
UnlessMemory P (Err faults.Memory) = Unit {0}
UnlessMemory P r = P
