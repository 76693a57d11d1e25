-- What several workers report exactly: where the target's type never fails, how many entries were kept, and where nothing
-- fails with any of the kits, how many wants were got from which source. Between it the target went over to shards of
-- which the survey was over at w0, and which were joined again at w1.
use Rattle.std.proofs.Common.{◌≡◌, ◌++◌, ◌∙◌, ◌<◌, ◌≤◌, ℕ, zero, suc, Bool, List, [], length, map, Option, Some, None, IfOk, IfSome, IsTrue, Result, Ok, Err, slice_index_or, true, false, if◌then◌else◌, refl, sym, ap, subst, inl, inr, arith}
use Rattle.std.proofs.lemmas.Bool.{cases_Bool}
use Rattle.assembler.proofs.EconomyPaid.{passed_as, tallied_same}
use Rattle.assembler.proofs.EconomyQuiet.{nothing_first}
use Rattle.assembler.specs.Assemblies.{IsObtainable, Verdict}
use Rattle.assembler.specs.Economy.{ReportsExactly, ReportsTogether}
use Rattle.assembler.specs.Passes.{source_at, want_at}
use Rattle.assembler.specs.OneKit.{lent}
use Rattle.assembler.specs.Permits.{deals_to}
use Rattle.assembler.specs.Stages.{Stage, Stretch, from}
use Rattle.assembler.specs.declared.fault.ExtractFault.{ExtractFault}
use Rattle.assembler.specs.declared.fault.ExtractFault.TheVariants as faults
use Rattle.cache_store.specs.Shelves.{Shelf}
use Rattle.caibx_codec.specs.Listing.{count_of, image_length, kind_of}
use Rattle.chunk_sources.specs.Caches.{OthersAddListed, HaveOneSize, Stocked, TakesWants, cache_faults, cached_in, IsListedAs}
use Rattle.chunk_sources.specs.Economy.{as_upstream, source_if, source_of, source_over}
use Rattle.chunk_sources.specs.Sources.{SourcesQuiet, sources, views_of}
use Rattle.chunk_sources.specs.Wants.{Task}
use Rattle.chunk_sources.specs.declared.kit.Kit.{Kit}
use Rattle.chunk_store.specs.declared.store.Store.{Ghosts as StoreWords}
use Rattle.dsy_base.specs.Bytes.{Held, resized}
use Rattle.dsy_base.specs.Counts.{Quiet}
use Rattle.dsy_base.specs.Maps.{Map}
use Rattle.dsy_base.specs.declared.view.View.{Ghosts as ViewWords}
use Rattle.extract_plan.specs.Deal.{AreWants, Deal}
use Rattle.extract_plan.specs.Places.{Placed}
use Rattle.image_workers.proofs.Dealt.{deals_owner, owner, owner_below}
use Rattle.image_workers.proofs.Going.{a_kit}
use Rattle.image_workers.proofs.Known.{all_kept, got_exactly, got_together, had_not_open, source_first}
use Rattle.image_workers.proofs.Exact.{settled_as}
use Rattle.image_workers.proofs.Spared.{WasInShards, both_so, none_quiet}
use Rattle.image_workers.proofs.Working.{stays_none}
use Rattle.image_workers.specs.Beside.{joined_stage}
use Rattle.image_workers.specs.Kits.{AreKitsAlike, at_kit}
use Rattle.image_workers.specs.Lanes.{AreFirst, HasWorked, worker_stage}
use Rattle.image_workers.specs.Reporting.{CountsFates, known_at, reported_at}
use Rattle.owned_shards.specs.Wholes.{Whole}
use Rattle.range_ledger.specs.Fills.{Grows}
use Rattle.range_ledger.specs.Runs.{Run}
use Rattle.range_survey.specs.Fates.{is_right_at, is_settled, settled}
use Rattle.range_survey.specs.Reports.{right_below}
use Rattle.range_survey.specs.declared.fate.Fate.{Fate}
use Rattle.range_survey.specs.declared.fate.Fate.TheVariants as fate
use Rattle.range_survey.specs.declared.report.Report.{Report}

module _ {S V : Type 0} (store : StoreWords S) (view : ViewWords V) (r : Run) (d : Deal) (x : Placed) (wants : AreWants r.listing d.wants d.want_of) where
  abbrev t : Task
  t = record { listing = r.listing; plan = d; places = x }

  -- what was quiet from before to after it was quiet on the way of a worker, which counts faults of its own, and sees
  -- the cache through a door that tells what the cache told at first
  pub quiet_worker : (f g h : ℕ) (a b : Kit S V) (m n : List Fate) (c e e0 s : Option Shelf) (cached maps : List (Map (List ℕ))) → h ≡ 0 → cached_in e0 ≡ Some cached → cache_faults e0 ≡ 0 → cache_faults s ≡ 0
      → SourcesQuiet store view (kind_of r.listing) (IsListedAs r.listing) (sources f a.seeds.items c a.chain) (sources g b.seeds.items e b.chain) cached maps
      → SourcesQuiet store view (kind_of r.listing) (IsListedAs r.listing) (from (worker_stage r m 0 e0 a)) (from (worker_stage r n h s b)) cached maps
  quiet_worker f g h a b m n c e e0 s cached maps none told fresh calm nothing = record {
    target = none_quiet h none;
    telling = nothing.telling;
    seeds = nothing.seeds;
    told_cache = told;
    cache = record { same = omega (arith, fresh, calm); below = omega (arith, calm) };
    told = nothing.told;
    agree = nothing.agree;
    stores = nothing.stores;
  }

  -- where nothing failed with any of the kits, nothing failed on the way of each worker: the first one has gone on
  pub quiet_ways : (kits worked outs : List (Kit S V)) (q j : Kit S V) (f g : ℕ) (c0 c1 e e0 : Option Shelf) (m : List Fate) (lists : List (List Fate)) (cached maps : List (Map (List ℕ)))
      (A : ℕ → Type 0) (w1 : Whole) (b c : Kit S V) (held : Held) (n : List Fate) → slice_index_or worked 0 j ≡ b → c ≡ slice_index_or outs 0 j
      → ((k : ℕ) → 0 < k → slice_index_or worked k j ≡ slice_index_or outs k j)
      → Stretch store view t A (joined_stage w1 c1 b) (record { held = held; faults = g; fates = n; kit = c; cache = e })
      → ((k : ℕ) → k < length kits → SourcesQuiet store view (kind_of r.listing) (IsListedAs r.listing) (at_kit (lent f kits c0) k q) (at_kit (lent g outs e) k j) cached maps)
      → cached_in e0 ≡ cached_in c0 → cache_faults e0 ≡ 0
      → (k h : ℕ) (s : Option Shelf) → k < length kits → h ≡ 0 → cache_faults s ≡ 0
      → SourcesQuiet store view (kind_of r.listing) (IsListedAs r.listing) (from (worker_stage r m 0 e0 (slice_index_or kits k q))) (from (worker_stage r (slice_index_or lists k []) h s (slice_index_or worked k j))) cached maps
  quiet_ways kits worked outs q j f g c0 c1 e e0 m lists cached maps A w1 b c held n first back later more quiet told fresh zero h s less none calm =
      let a = slice_index_or kits 0 q in
      let begin : Stage S V = record { held = held; faults = f; fates = m; kit = a; cache = c0 } in
      let end : Stage S V = record { held = held; faults = g; fates = n; kit = c; cache = e } in
      let all : SourcesQuiet store view (kind_of r.listing) (IsListedAs r.listing) (from begin) (from end) cached maps =
      subst (λ (z : Kit S V). SourcesQuiet store view (kind_of r.listing) (IsListedAs r.listing) (from begin) (sources g z.seeds.items e z.chain) cached maps) (sym back) (quiet 0 less) in
      subst (λ (z : Kit S V). SourcesQuiet store view (kind_of r.listing) (IsListedAs r.listing) (from (worker_stage r m 0 e0 a)) (from (worker_stage r (slice_index_or lists 0 []) h s z)) cached maps) (sym first)
      (quiet_worker f w1.faults h a b m (slice_index_or lists 0 []) c0 c1 e0 s cached maps none (told ∙ all.told_cache) fresh calm
      (nothing_first store view t A begin (joined_stage w1 c1 b) end cached maps more all))
  quiet_ways kits worked outs q j f g c0 c1 e e0 m lists cached maps A w1 b c held n first back later more quiet told fresh (suc k) h s less none calm =
      let a = slice_index_or kits (suc k) q in
      let here = quiet (suc k) less in
      subst (λ (z : Kit S V). SourcesQuiet store view (kind_of r.listing) (IsListedAs r.listing) (from (worker_stage r m 0 e0 a)) (from (worker_stage r (slice_index_or lists (suc k) []) h s z)) cached maps) (sym (later (suc k) (omega arith)))
      (quiet_worker f g h a (slice_index_or outs (suc k) j) m (slice_index_or lists (suc k) []) c0 e e0 s cached maps none (told ∙ here.told_cache) fresh calm here)

  module _ (kits outs : List (Kit S V)) (never : Bool) (f g : ℕ) (w0 w1 : Whole) (known : AreFirst r w0.fates) (lists : List (List Fate)) (lacked : ℕ → Bool)
      (workers : d.workers ≡ length kits) (some : 2 ≤ length kits) (zero_is : IsTrue never → g ≡ 0)
      (e0 : Option Shelf) (cache_never : Bool) (by : (k : ℕ) (q p : Kit S V) → k < length kits → HasWorked store view r t e0 never cache_never k (slice_index_or kits k q) w0.fates (slice_index_or outs k p) (slice_index_or lists k []) (lacked k)) where
    any : 0 < d.workers
    any = omega (arith, workers, some)

    within : (k : ℕ) → k < d.workers → k < length kits
    within k less = subst (λ n. k < n) workers less

    grows : (k : ℕ) → k < d.workers → Grows w0.fates (slice_index_or lists k [])
    grows k less = let q = a_kit kits (omega (arith, some)) in (by k q q (within k less)).passed.stretch.step.grows

    -- what the survey has settled is what is right in the base
    right_over : (y : List ℕ) → WasInShards store view r d x wants never (Some y) f g w0 w1 → IsTrue never → (i : ℕ) → i < count_of r.listing
        → settled w0.fates i ≡ is_right_at r.listing (resized y (image_length r.listing)) i
    right_over y was sure i inside =
        let quiet : Quiet f g = record { same = omega (arith, zero_is sure); below = omega (arith, zero_is sure) } in
        settled_as store view r d x wants never (Some y) f g w0 w1 was known sure quiet (sym was.told) i inside ∙ ap (λ b. is_right_at r.listing b i) was.base

    -- ---- how many were kept

    pub kept_so : (o : Option (List ℕ)) → WasInShards store view r d x wants never o f g w0 w1 → (n : List Fate) (res : Result Report ExtractFault) → IfOk res (CountsFates (reported_at d lists n) (count_of r.listing))
        → IsTrue never → IfOk res (λ rep. IfSome o (λ y. rep.kept ≡ right_below r.listing (resized y (image_length r.listing)) (count_of r.listing)))
    kept_so o was n (Err e) counts sure = tt
    kept_so None was n (Ok rep) counts sure = tt
    kept_so (Some y) was n (Ok rep) counts sure =
        counts.kept ∙ all_kept r.listing d any (resized y (image_length r.listing)) w0.fates known.first lists (right_over y was sure) grows n (count_of r.listing) (omega arith)

    -- ---- how many were got from which source

    -- nobody shares the cache where there is none
    pub none_adds : e0 ≡ None → (stores : List S) → OthersAddListed store r.listing stores e0
    none_adds none stores = subst (λ (y : Option Shelf). OthersAddListed store r.listing stores y) (sym none) tt

    pub none_faults : e0 ≡ None → (k : ℕ) (q p : Kit S V) (less : k < length kits) → cache_faults (by k q p less).door ≡ 0
    none_faults none k q p less =
        let so = by k q p less in
        let takes = TakesWants store t.listing t.plan (λ w. (w < t.plan.wants) × (deals_to t.plan k w ≡ true)) (slice_index_or kits k q).chain.stores in
        ap cache_faults (stays_none takes so.door (subst (λ (y : Option Shelf). Stocked takes y so.door) none so.passed.stretch.stocked))

    module _ (alike : AreKitsAlike store view t kits) (q j : Kit S V) (cached maps : List (Map (List ℕ))) (one : HaveOneSize r.listing e0 cached maps)
        (adds : (k : ℕ) → k < length kits → OthersAddListed store r.listing (slice_index_or kits k q).chain.stores e0)
        (calm : (k : ℕ) (less : k < length kits) → cache_faults (by k q j less).door ≡ 0)
        (quiet : (k : ℕ) (h : ℕ) (s : Option Shelf) → k < length kits → h ≡ 0 → cache_faults s ≡ 0 → SourcesQuiet store view (kind_of r.listing) (IsListedAs r.listing) (from (worker_stage r w0.fates 0 e0 (slice_index_or kits k q)))
        (from (worker_stage r (slice_index_or lists k []) h s (slice_index_or outs k j))) cached maps) (sure : IsTrue never) where
      abbrev views : List (Option Held)
      views = views_of view (slice_index_or kits 0 q).seeds.items

      module _ (y : List ℕ) (was : WasInShards store view r d x wants never (Some y) f g w0 w1) (had : (k : ℕ) → k < length kits → lacked k ≡ false) where
        abbrev base : List ℕ
        base = resized y (image_length r.listing)

        abbrev source : ℕ → Fate
        source w = source_of t base views cached maps w

        abbrev source_by : ℕ → ℕ → Fate
        source_by k w = source_at view t (worker_stage r w0.fates 0 e0 (slice_index_or kits k q)) cached maps w

        same_source : (k : ℕ) → k < length kits → (w : ℕ) → source_by k w ≡ source w
        same_source k less w = ap (λ (v : List (Option Held)). source_over t (settled w0.fates) v cached maps w) (alike k q less).0
            ∙ source_first t wants base w0.fates (right_over y was sure) views cached maps w

        none_failed : (k : ℕ) (less : k < length kits) → (by k q j less).faults ≡ 0
        none_failed k less = (by k q j less).sure (both_so never r.tells sure (sym was.told))

        -- nothing failed on the way of worker k
        way : (k : ℕ) (less : k < length kits) → SourcesQuiet store view (kind_of r.listing) (IsListedAs r.listing) (from (worker_stage r w0.fates 0 e0 (slice_index_or kits k q)))
            (from (worker_stage r (slice_index_or lists k []) (by k q j less).faults (by k q j less).door (slice_index_or outs k j))) cached maps
        way k less = quiet k (by k q j less).faults (by k q j less).door less (none_failed k less) (calm k less)

        made : ((i : ℕ) → i < count_of r.listing → IsObtainable t base views (cached ++ maps) i) → (i : ℕ) → i < count_of r.listing → is_settled (known_at lists (owner d any (want_at d i)) i) ≡ true
        made can i inside =
            let w = want_at d i in
            let k = owner d any w in
            let less = within k (owner_below d any w) in
            elim (cases_Bool (settled (slice_index_or lists k []) i)) [
              | inl is ↦ is
              | inr isnt ↦ absurd (had_not_open t wants base w0.fates (right_over y was sure) views cached maps i inside (can i inside)
                  (sym (same_source k less w) ∙ (by k q j less).left (adds k less) (had k less) cached maps (way k less) one i inside (deals_owner d any w) isnt))
            ]

        -- where there is no cache each source is known
        pub reports_so : e0 ≡ None → ((i : ℕ) → i < count_of r.listing → IsObtainable t base views (cached ++ maps) i) → (n : List Fate) (rep : Report)
            → CountsFates (reported_at d lists n) (count_of r.listing) rep → ReportsExactly source d.wants rep
        reports_so none can n rep counts =
            got_exactly d any (count_of r.listing) d.wants w0.fates known.first source lists n
            (λ k i less isnt. (by k q j (within k less)).others i isnt)
            (made can)
            (λ k less.
            let inside = within k less in
            let a = slice_index_or kits k q in
            let b = slice_index_or outs k j in
            let faults = (by k q j inside).faults in
            (passed_as (source_if (deals_to d k) (source_by k)) (source_if (deals_to d k) source) d.wants (count_of r.listing) w0.fates (slice_index_or lists k []) a.chain b.chain
            (λ w below. ap (λ (s : Fate). if deals_to d k w then s else fate.Kept) (same_source k inside w))
            ((by k q j inside).exactly none (had k inside) cached maps
            (subst (λ (z : Option Shelf). SourcesQuiet store view (kind_of r.listing) (IsListedAs r.listing) (from (worker_stage r w0.fates 0 z a)) (from (worker_stage r (slice_index_or lists k []) faults None b)) cached maps) none
            (quiet k faults None inside (none_failed k inside) refl))
            (subst (λ (z : Option Shelf). HaveOneSize r.listing z cached maps) none one))).tallied)
            rep counts

        -- else all but which of cache and stores it was
        pub together_so : ((i : ℕ) → i < count_of r.listing → IsObtainable t base views (cached ++ maps) i) → (n : List Fate) (rep : Report)
            → CountsFates (reported_at d lists n) (count_of r.listing) rep → ReportsTogether source d.wants rep
        together_so can n rep counts =
            got_together d lists n any (count_of r.listing) d.wants w0.fates known.first source
            (λ k i less isnt. (by k q j (within k less)).others i isnt)
            (made can)
            (λ k less.
            let inside = within k less in
            tallied_same (source_if (deals_to d k) (λ w. as_upstream (source_by k w))) (source_if (deals_to d k) (λ w. as_upstream (source w))) d.wants
            (λ w below. ap (λ (s : Fate). if deals_to d k w then as_upstream s else fate.Kept) (same_source k inside w))
            (count_of r.listing) (map as_upstream w0.fates) (map as_upstream (slice_index_or lists k []))
            ((by k q j inside).shared (adds k inside) (had k inside) cached maps (way k inside) one))
            rep counts

      -- as it is said of the answer, of either kind
      answered : (Reports : (ℕ → Fate) → ℕ → Report → Type 0) (o : Option (List ℕ)) → WasInShards store view r d x wants never o f g w0 w1
          → ((y : List ℕ) → WasInShards store view r d x wants never (Some y) f g w0 w1 → ((k : ℕ) → k < length kits → lacked k ≡ false)
          → ((i : ℕ) → i < count_of r.listing → IsObtainable t (resized y (image_length r.listing)) views (cached ++ maps) i) → (n : List Fate) (rep : Report)
          → CountsFates (reported_at d lists n) (count_of r.listing) rep → Reports (source_of t (resized y (image_length r.listing)) views cached maps) d.wants rep)
          → (n : List Fate) (res : Result Report ExtractFault) → IfOk res (CountsFates (reported_at d lists n) (count_of r.listing))
          → ((k : ℕ) → k < length kits → lacked k ≡ true → res ≡ Err faults.Memory) → IfSome o (λ y. Verdict r.listing (IsObtainable t (resized y (image_length r.listing)) views (cached ++ maps)) res)
          → IfSome o (λ y. IfOk res (Reports (source_of t (resized y (image_length r.listing)) views cached maps) d.wants))
      answered Reports None was so n res counts lost verdict = tt
      answered Reports (Some y) was so n (Err e) counts lost verdict = tt
      answered Reports (Some y) was so n (Ok rep) counts lost verdict =
          so y was
          (λ k less. elim (cases_Bool (lacked k)) [
            | inl is ↦ let never_so : Ok rep ≡ Err faults.Memory = lost k less is in absurd (cc)
            | inr isnt ↦ isnt
          ])
          verdict n rep counts

      pub reported_so : e0 ≡ None → (o : Option (List ℕ)) → WasInShards store view r d x wants never o f g w0 w1 → (n : List Fate) (res : Result Report ExtractFault) → IfOk res (CountsFates (reported_at d lists n) (count_of r.listing))
          → ((k : ℕ) → k < length kits → lacked k ≡ true → res ≡ Err faults.Memory) → IfSome o (λ y. Verdict r.listing (IsObtainable t (resized y (image_length r.listing)) views (cached ++ maps)) res)
          → IfSome o (λ y. IfOk res (ReportsExactly (source_of t (resized y (image_length r.listing)) views cached maps) d.wants))
      reported_so none o was = answered ReportsExactly o was (λ y so had. reports_so y so had none)

      pub reported_together : (o : Option (List ℕ)) → WasInShards store view r d x wants never o f g w0 w1 → (n : List Fate) (res : Result Report ExtractFault) → IfOk res (CountsFates (reported_at d lists n) (count_of r.listing))
          → ((k : ℕ) → k < length kits → lacked k ≡ true → res ≡ Err faults.Memory) → IfSome o (λ y. Verdict r.listing (IsObtainable t (resized y (image_length r.listing)) views (cached ++ maps)) res)
          → IfSome o (λ y. IfOk res (ReportsTogether (source_of t (resized y (image_length r.listing)) views cached maps) d.wants))
      reported_together o was = answered ReportsTogether o was (λ y so had. together_so y so had)
