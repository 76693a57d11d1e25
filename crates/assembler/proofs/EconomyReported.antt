-- What an assembly cost and reports, over the base. The fates are m after the survey and n at the end, and the counts of
-- the target's faults a before the survey and b after it.
use Rattle.std.proofs.Common.{◌≡◌, ℕ, zero, suc, ◌+◌, ◌<◌, ◌≤◌, List, Option, Some, None, IfOk, IfSome, Result, Ok, Err, refl, sym, ap, ◌∙◌, inl, inr, arith}
use Rattle.std.proofs.lemmas.Bool.{cases_Bool}
use Rattle.std.proofs.lemmas.Slice.Eq.{bytes_eq-Decides}
use Rattle.assembler.proofs.Based.{Surveyed, stands_surveyed, missed_at}
use Rattle.assembler.proofs.EconomySums.{sum_both, sum_same}
use Rattle.assembler.proofs.Tallies.{either_upstream}
use Rattle.assembler.specs.Economy.{AsksExactly, AssembledBy, ReportsExactly, ReportsTogether, UnlessMemory}
use Rattle.chunk_sources.specs.Economy.{all_asks, as_upstream, sum_below}
use Rattle.range_survey.specs.Reports.{one_if, tally}
use Rattle.assembler.specs.declared.fault.ExtractFault.{ExtractFault}
use Rattle.assembler.specs.declared.fault.ExtractFault.TheVariants as faults
use Rattle.range_survey.specs.declared.report.Report.{Report}
use Rattle.caibx_codec.specs.Listing.{Listing, count_of, id_of, kind_of, slice_of}
use Rattle.chunk_sources.proofs.Lacking.{quiet_never}
use Rattle.chunk_store.specs.Digests.{digest_of}
use Rattle.dsy_base.specs.Counts.{Quiet, raised}
use Rattle.range_survey.specs.Fates.{FirstFates, is_right_at, settled}
use Rattle.range_survey.specs.declared.fate.Fate.{Fate}
use Rattle.range_survey.specs.declared.fate.Fate.TheVariants as fate
use Rattle.store_chain.specs.Chains.{Chained}

-- what a quiet survey has settled is what is right in the base
pub settled_right : (l : Listing) (m : List Fate) (a b : ℕ) → Quiet a b → (base : List ℕ) → Surveyed l m a b base → (i : ℕ) → i < count_of l
    → settled m i ≡ is_right_at l base i
settled_right l m a b quiet base over i inside =
    let decides = bytes_eq-Decides (digest_of (kind_of l) (slice_of l base i)) (id_of l i) in
    elim (cases_Bool (settled m i)) [
      | inl is ↦ is ∙ sym (decides.1 (over.yes i inside is))
      | inr isnt ↦ elim (cases_Bool (is_right_at l base i)) [
        | inl right ↦ absurd (quiet_never a b quiet (missed_at l (λ i. ⊥) m a b b (omega arith) base base (stands_surveyed l m a b base over) i inside isnt (decides.0 right)))
        | inr wrong ↦ isnt ∙ sym wrong
      ]
    ]

module _ {S : Type 0} (source : ℕ → Fate) (wants count : ℕ) (m n : List Fate) (old new : Chained S) where
  pub asks_err : (e : ExtractFault) → UnlessMemory {A = Unit {0}} (AssembledBy source wants count m n old new) (Err e) → AsksExactly source wants old new (Err e)
  asks_err (faults.Missing k id) by = by.calls
  asks_err (faults.Damaged k id s shows) by = by.calls
  asks_err (faults.StoreFault s) by = by.calls
  asks_err faults.TargetFault by = by.calls
  asks_err faults.Memory by = tt

  -- before the first write nothing was got from a source
  not_first : (f : Fate) → one_if f fate.Open ≡ 0 → one_if f fate.Kept ≡ 0 → (k : ℕ) → k ≤ count → FirstFates m count → tally f m k ≡ 0
  not_first f isnt_open isnt_kept zero le firsts = refl
  not_first f isnt_open isnt_kept (suc k) le firsts =
      let rest = not_first f isnt_open isnt_kept k (omega arith) firsts in
      elim (firsts k (omega arith)) [
        | inl is ↦ omega (arith, rest, ap (one_if f) is, isnt_open)
        | inr is ↦ omega (arith, rest, ap (one_if f) is, isnt_kept)
      ]

  pub reports_all : (r : Report) → FirstFates m count → AssembledBy source wants count m n old new → r.seeded ≡ tally fate.Seeded n count → r.cached ≡ tally fate.Cached n count → r.fetched ≡ tally fate.Fetched n count
      → ReportsExactly source wants r
  reports_all r firsts by seeded cached fetched = (
    omega (arith, seeded, by.tallied.from_seeds, not_first fate.Seeded refl refl count (omega arith) firsts),
    omega (arith, cached, by.tallied.from_cache, not_first fate.Cached refl refl count (omega arith) firsts),
    omega (arith, fetched, by.tallied.from_stores, not_first fate.Fetched refl refl count (omega arith) firsts),
  )

-- the same over sources that are the same
pub assembled_as : {S : Type 0} (s t : ℕ → Fate) (wants count : ℕ) (m n : List Fate) (old new : Chained S) → ((w : ℕ) → s w ≡ t w)
    → AssembledBy s wants count m n old new → AssembledBy t wants count m n old new
assembled_as s t wants count m n old new same by =
    let sums : (f : Fate → ℕ) → sum_below (λ w. f (s w)) wants ≡ sum_below (λ w. f (t w)) wants = λ f.
    sum_same (λ w. f (s w)) (λ w. f (t w)) wants (λ w less. ap f (same w)) in
    record {
      calls = by.calls ∙ ap (raised old.asks) (sums all_asks);
      tallied = record {
        from_seeds = by.tallied.from_seeds ∙ ap (λ k. tally fate.Seeded m count + k) (sums (one_if fate.Seeded));
        from_cache = by.tallied.from_cache ∙ ap (λ k. tally fate.Cached m count + k) (sums (one_if fate.Cached));
        from_stores = by.tallied.from_stores ∙ ap (λ k. tally fate.Fetched m count + k) (sums (one_if fate.Fetched));
      };
    }

-- what is reported exactly is so with cache and stores together
reports_together : (source : ℕ → Fate) (wants : ℕ) (r : Report) → ReportsExactly source wants r → ReportsTogether source wants r
reports_together source wants r (seeded, cached, fetched) =
    let both = sum_both (λ w. one_if fate.Cached (source w)) (λ w. one_if fate.Fetched (source w)) (λ w. one_if fate.Fetched (as_upstream (source w))) wants (λ w less. sym (either_upstream (source w))) in
    (seeded, omega (arith, cached, fetched, both))

pub together_told : (source : List ℕ → ℕ → Fate) (wants : ℕ) (answer : Result Report ExtractFault) (o : Option (List ℕ))
    → IfSome o (λ y. IfOk answer (ReportsExactly (source y) wants)) → IfSome o (λ y. IfOk answer (ReportsTogether (source y) wants))
together_told source wants answer None exact = tt
together_told source wants (Err e) (Some y) exact = tt
together_told source wants (Ok r) (Some y) exact = reports_together (source y) wants r exact
