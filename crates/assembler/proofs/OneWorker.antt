-- The pass of the only worker is one over all wants.
use Rattle.std.proofs.Common.{◌≡◌, ◌%◌, ◌==◌, ℕ, ◌<◌, true, false, if◌then◌else◌, ap, ◌∙◌, arith}
use Rattle.std.proofs.lemmas.Bool.{eq-eqb}
use Rattle.assembler.proofs.EconomyPaid.{passed_as}
use Rattle.assembler.proofs.Passed.{share_all}
use Rattle.assembler.specs.Economy.{PassedBy}
use Rattle.chunk_sources.specs.Caches.{IsAlone}
use Rattle.chunk_sources.specs.Economy.{source_if}
use Rattle.assembler.specs.Passes.{HasPassed, HasPassedShare, WhereQuiet, one_pass, source_at, want_at}
use Rattle.assembler.specs.Permits.{deals_to}
use Rattle.assembler.specs.Stages.{Stage, from}
use Rattle.caibx_codec.specs.Listing.{count_of}
use Rattle.chunk_sources.specs.Wants.{Task}
use Rattle.chunk_store.specs.declared.store.Store.{Ghosts as StoreWords}
use Rattle.dsy_base.specs.declared.view.View.{Ghosts as ViewWords}
use Rattle.extract_plan.specs.Deal.{Deal}
use Rattle.range_survey.specs.Fates.{settled}
use Rattle.range_survey.specs.declared.fate.Fate.TheVariants as fate

-- it is dealt each want
deals_all : (d : Deal) (w : ℕ) → d.workers ≡ 1 → deals_to d 0 w ≡ true
deals_all d w one = ap (λ n. w % n == 0) one ∙ eq-eqb (w % 1) 0 (omega arith)

module _ {S V : Type 0} (store : StoreWords S) (view : ViewWords V) (t : Task) (one : t.plan.workers ≡ 1) (a b : Stage S V) where
  pub passed_alone : IsAlone a.cache → HasPassedShare store view t (deals_to t.plan 0) a b → HasPassed store view t one_pass a b
  passed_alone alone passed = share_all store view t (deals_to t.plan 0) a b alone (λ w. deals_all t.plan w one) passed

  pub exactly_alone : WhereQuiet store view t.listing (from a) (from b) (λ cached maps.
      PassedBy (source_if (deals_to t.plan 0) (source_at view t a cached maps)) t.plan.wants (count_of t.listing) a.fates b.fates a.kit.chain b.kit.chain)
      → WhereQuiet store view t.listing (from a) (from b) (λ cached maps.
      PassedBy (source_at view t a cached maps) t.plan.wants (count_of t.listing) a.fates b.fates a.kit.chain b.kit.chain)
  exactly_alone passed = λ cached maps nothing sized.
      let source = source_at view t a cached maps in
      passed_as (source_if (deals_to t.plan 0) source) source t.plan.wants (count_of t.listing) a.fates b.fates a.kit.chain b.kit.chain
      (λ w less. ap (λ is. if is then source w else fate.Kept) (deals_all t.plan w one)) (passed cached maps nothing sized)

  pub left_alone : WhereQuiet store view t.listing (from a) (from b) (λ cached maps. (i : ℕ) → i < count_of t.listing → deals_to t.plan 0 (want_at t.plan i) ≡ true
      → settled b.fates i ≡ false → source_at view t a cached maps (want_at t.plan i) ≡ fate.Open)
      → WhereQuiet store view t.listing (from a) (from b) (λ cached maps. (i : ℕ) → i < count_of t.listing
      → settled b.fates i ≡ false → source_at view t a cached maps (want_at t.plan i) ≡ fate.Open)
  left_alone left = λ cached maps nothing sized i inside isnt. left cached maps nothing sized i inside (deals_all t.plan (want_at t.plan i) one) isnt
