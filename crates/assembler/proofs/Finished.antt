-- What the last passes of an assembly leave over the base, whatever was done before them: it stood at a before them and at
-- b at the end. At first chunks were got from `old`, and the target's bytes were `o`.
use Rattle.std.proofs.Common.{◌≡◌, ◌⊎◌, ◌++◌, ℕ, ◌<◌, ◌≤◌, List, length, map, slice_index, Option, Some, None, IfErr, IfSome, Result, OnOk, Ok, Err, is_some, true, false, refl, sym, ap, ◌∙◌, subst, inl, inr, arith}
use Rattle.std.proofs.lemmas.Bool.{cases_Bool, true≢false}
use Rattle.assembler.proofs.Based.{StandsOver, assembles_err, ends_map, leaves, leaves_torn, left_at, missed_at, only_such, right_all, right_at, some_map, told_map}
use Rattle.assembler.proofs.Counted.{quiet_part}
use Rattle.assembler.proofs.Entries.{among, among_of, first_among, ids_same, listed_of}
use Rattle.assembler.proofs.HadOn.{had_from}
use Rattle.assembler.proofs.Lost.{lacks_since, refused_since, seeds_since}
use Rattle.assembler.proofs.Others.{alone_given, given_told}
use Rattle.assembler.proofs.Stepped.{seeds_none, seeds_on}
use Rattle.assembler.proofs.Stocking.{gives_on, stocking_on}
use Rattle.assembler.specs.Assemblies.{After, Assembles, IsObtainable, IsUnobtained, KeepsBase, RightAlike, Verdict}
use Rattle.assembler.specs.Faults.{fault_of}
use Rattle.assembler.specs.Obtainable.{OnlyObtainable}
use Rattle.assembler.specs.Passes.{Ends, EndsBy, HadAll, HadAt, HasPassed, Loses, RefusedOnce, one_pass, want_at}
use Rattle.assembler.specs.Stages.{Stage, Stretch, from}
use Rattle.assembler.specs.declared.fault.ExtractFault.{ExtractFault}
use Rattle.assembler.specs.declared.fault.ExtractFault.TheVariants as faults
use Rattle.assembler.specs.declared.fault.Lost.{Lost}
use Rattle.cache_store.specs.Giving.{SomeGives}
use Rattle.caibx_codec.specs.Asks.{IsListedGet}
use Rattle.caibx_codec.specs.Listing.{Listing, count_of, id_of, image_length, kind_of, size_of, slice_of}
use Rattle.caibx_codec.specs.Right.{IsRightAt}
use Rattle.chunk_sources.proofs.Cached.{gives_part, stocked_none, stocked_told}
use Rattle.chunk_sources.proofs.Lacking.{Tells, quiet_never, seeds_never, stores_never, tells_of}
use Rattle.chunk_sources.proofs.SeedAnswers.{telling_on}
use Rattle.chunk_sources.specs.Caches.{HaveOneSize, IsAlone, IsListedAs, Stocked, TakesWants, cache_faults, cached_in, given_maps}
use Rattle.chunk_sources.specs.Losses.{CopiesFailed}
use Rattle.chunk_sources.specs.Sources.{KeepsSeeds, SeedsGive, Sources, SourcesQuiet, Telling, counts_of, views_of}
use Rattle.chunk_sources.specs.Wants.{IsAmong, Task}
use Rattle.chunk_store.specs.declared.id.ChunkId.{ChunkId}
use Rattle.chunk_store.specs.declared.store.Store.{Ghosts as StoreWords}
use Rattle.chunk_store.specs.Giving.{GivesChunk}
use Rattle.chunk_store.specs.Members.{GroupsAgree, maps_of, told_together}
use Rattle.dsy_base.proofs.Counts.{rose_later}
use Rattle.dsy_base.specs.Bytes.{Held, resized}
use Rattle.dsy_base.specs.Counts.{Rose}
use Rattle.dsy_base.specs.Maps.{Map}
use Rattle.dsy_base.specs.declared.view.View.{Ghosts as ViewWords}
use Rattle.extract_plan.specs.Deal.{AreWants, first_of, of_want}
use Rattle.extract_plan.specs.Places.{places_at}
use Rattle.owned_shards.specs.Wholes.{KeptWhole, Whole}
use Rattle.range_ledger.specs.Fills.{Fills, FillsTorn, WhereTold}
use Rattle.range_ledger.specs.Runs.{Run}
use Rattle.range_survey.proofs.Excused.{excuses_since}
use Rattle.range_survey.specs.Fates.{settled}
use Rattle.range_survey.specs.declared.fate.Fate.{Fate}
use Rattle.range_survey.specs.declared.report.Report.{Report}
use Rattle.store_chain.proofs.Kept.{kept_on, kept_still}
use Rattle.store_chain.specs.Chains.{KeepsStores}
use Rattle.store_chain.specs.declared.refused.Refused.{Refused}
use Rattle.store_chain.specs.declared.refused.Refused.TheVariants as refused

-- ---- bytes of three stages that may not be told

pub some_both : (o : Option (List ℕ)) (A B : List ℕ → Type 0) → IfSome o A → IfSome o B → IfSome o (λ y. A y × B y)
some_both None A B one other = tt
some_both (Some y) A B one other = (one, other)

pub some_between : (o mid : Option (List ℕ)) (A : List ℕ → List ℕ → Type 0) → is_some mid ≡ is_some o → WhereTold o mid A → IfSome o (λ y. (u : List ℕ) × A y u)
some_between None mid A same has = tt
some_between (Some y) None A same has = absurd (true≢false (sym same))
some_between (Some y) (Some u) A same has = (u, has)

pub told_between : (o mid t : Option (List ℕ)) (A B : List ℕ → List ℕ → Type 0) → is_some mid ≡ is_some o → WhereTold o mid A → WhereTold mid t B
    → WhereTold o t (λ y z. (u : List ℕ) × A y u × B u z)
told_between None mid t A B same one other = tt
told_between (Some y) None t A B same one other = absurd (true≢false (sym same))
told_between (Some y) (Some u) None A B same one other = tt
told_between (Some y) (Some u) (Some z) A B same one other = (u, one, other)

-- ---- shards that several workers had

module _ (r : Run) (w : Whole) (f : ℕ) (before : f ≤ w.faults_before) where
  abbrev over_run : List ℕ → List ℕ
  over_run y = resized y (image_length r.listing)

  abbrev Stands : List ℕ → List ℕ → Type 0
  Stands y t0 = StandsOver r.listing (λ e. r.may e ≡ true) w.fates f w.faults (over_run y) t0

  stands_kept : (y t0 : List ℕ) → r.base ≡ over_run y → length t0 ≡ image_length r.listing → KeptWhole r w t0 → Stands y t0
  stands_kept y t0 base size kept = subst (λ b. StandsOver r.listing (λ e. r.may e ≡ true) w.fates f w.faults b t0) base (record {
    failed = kept.failed;
    excused = excuses_since kept.failed f w.faults_before w.faults before kept.excused;
    size = size;
    right = kept.right;
    filled = kept.filled;
    untouched = kept.untouched;
    base_right = kept.base_right;
    base_kept = kept.base_kept;
  })

  -- what they keep over the target's first bytes, where these are told
  pub stands_joined : (o : Option (List ℕ)) → IfSome o (λ y. r.base ≡ over_run y) → IfSome w.held.bytes (λ t. length t ≡ image_length r.listing)
      → IfSome w.held.bytes (KeptWhole r w) → WhereTold o w.held.bytes Stands
  stands_joined o base size kept = go o w.held.bytes base size kept where
    go : (o mid : Option (List ℕ)) → IfSome o (λ y. r.base ≡ over_run y) → IfSome mid (λ t. length t ≡ image_length r.listing) → IfSome mid (KeptWhole r w) → WhereTold o mid Stands
    go None mid base size kept = tt
    go (Some y) None base size kept = tt
    go (Some y) (Some t0) base size kept = stands_kept y t0 base size kept

-- ---- one entry

module _ (t : Task) (wants : AreWants t.listing t.plan.wants t.plan.want_of) where
  pub here : (i : ℕ) → i < count_of t.listing → IsAmong (of_want t.plan (want_at t.plan i)) i
  here i inside = let size : length t.plan.want_of ≡ count_of t.listing = wants.size in among t.plan (want_at t.plan i) i (omega (arith, inside)) refl

  -- alike entries can be obtained alike
  obtainable_as : (base : List ℕ) (views : List (Option Held)) (maps : List (Map (List ℕ))) (i j : ℕ) → i < count_of t.listing → j < count_of t.listing → want_at t.plan j ≡ want_at t.plan i
      → IsObtainable t base views maps i → IsObtainable t base views maps j
  obtainable_as base views maps i j one other same (inl (k, listed, alike, right)) =
      let like = (wants.alike i j one other).0 (sym same) in
      inl (k, listed, (alike.0 ∙ like.0, alike.1 ∙ like.1), right)
  obtainable_as base views maps i j one other same (inr source) =
      let l = t.listing in
      let like = (wants.alike i j one other).0 (sym same) in
      inr (subst (λ w. SeedsGive views (places_at t.places w) (id_of l j) ⊎ SomeGives (kind_of l) (id_of l j) (size_of l j) maps) (sym same)
      (subst (λ n. SeedsGive views (places_at t.places (want_at t.plan i)) (id_of l j) ⊎ SomeGives (kind_of l) (id_of l j) n maps) like.1
      (subst (λ q. SeedsGive views (places_at t.places (want_at t.plan i)) q ⊎ SomeGives (kind_of l) q (size_of l i) maps) like.0 source)))

  module _ (Such : ℕ → Type 0) (m : List Fate) (base : List ℕ)
      (filled : (j : ℕ) → j < count_of t.listing → settled m j ≡ true → IsRightAt base t.listing j ⊎ Such j) where
    -- where a settled entry was obtained, it can be obtained
    obtainable : (views : List (Option Held)) (maps : List (Map (List ℕ))) → ((j : ℕ) → j < count_of t.listing → Such j → IsObtainable t base views maps j)
        → (i : ℕ) → i < count_of t.listing → HadAt t m views maps i → IsObtainable t base views maps i
    obtainable views maps can i inside (inl (j, other, is)) =
        let w = want_at t.plan i in
        let listed = listed_of t.listing t.plan w j wants other in
        elim (filled j listed is) [
          | inl right ↦ inl (j, listed, ids_same t.listing t.plan w j i wants other (here i inside), right)
          | inr such ↦ obtainable_as base views maps j i listed inside (sym (among_of t.plan w j other).1) (can j listed such)
        ]
    obtainable views maps can i inside (inr source) =
        let l = t.listing in
        let w = want_at t.plan i in
        let like = ids_same l t.plan w (first_of t.plan w) i wants (first_among l t.plan w wants (wants.within i inside)) (here i inside) in
        inr (subst (λ n. SeedsGive views (places_at t.places w) (id_of l i) ⊎ SomeGives (kind_of l) (id_of l i) n maps) like.1
        (subst (λ q. SeedsGive views (places_at t.places w) q ⊎ SomeGives (kind_of l) q (size_of l (first_of t.plan w)) maps) like.0 source))

  module _ (Such : ℕ → Type 0) (m : List Fate) (f b c : ℕ) (ab : f ≤ b) (bc : b ≤ c) (base t0 : List ℕ) (over : StandsOver t.listing Such m f b base t0) where
    -- an entry that is right in the base couldn't be read, by the survey or later
    copies : (i : ℕ) → i < count_of t.listing → CopiesFailed m (of_want t.plan (want_at t.plan i)) b c → RightAlike t.listing base i → Rose f c
    copies i inside failed (j, listed, alike, right) = elim (cases_Bool (settled m j)) [
      | inl is ↦
          let size : length t.plan.want_of ≡ count_of t.listing = wants.size in
          rose_later f b c ab (failed j (among t.plan (want_at t.plan i) j (omega (arith, listed)) ((wants.alike j i listed inside).1 alike)) is)
      | inr isnt ↦ missed_at t.listing Such m f b c bc base t0 over j listed isnt right
    ]

-- ---- the answer

verdict_named : (l : Listing) (P : ℕ → Type 0) (k : ℕ) (id : ChunkId) (r : Refused) → ((i : ℕ) → i < k → P i) → (P k → Tells r → ⊥)
    → ((s : ℕ) → r ≡ refused.StoreFault s → ⊥) → Verdict l P (Err (fault_of k id r))
verdict_named l P k id refused.Missing below never sound = (below, λ has. never has tt)
verdict_named l P k id (refused.Damaged s x) below never sound = (below, λ has. never has tt)
verdict_named l P k id (refused.StoreFault s) below never sound = sound s refl
verdict_named l P k id refused.Memory below never sound = tt

-- the assembly wasn't ended for want of memory
abbrev HadMemory : ExtractFault → Type 0
HadMemory faults.Memory = ⊥
HadMemory _ = Unit {0}

after_err : (l : Listing) (P : ℕ → Type 0) (base t : List ℕ) (e : ExtractFault)
    → (HadMemory e → (i : ℕ) → i < count_of l → (P i → IsRightAt t l i) × ((P i → ⊥) → slice_of l t i ≡ slice_of l base i)) → After l P base t (Err e)
after_err l P base t (faults.Missing k id) stands = stands tt
after_err l P base t (faults.Damaged k id s shows) stands = stands tt
after_err l P base t (faults.StoreFault s) stands = stands tt
after_err l P base t faults.TargetFault stands = stands tt
after_err l P base t faults.Memory stands = tt

-- ---- the sources before

module _ {S V : Type 0} (store : StoreWords S) (view : ViewWords V) (t : Task) where
  abbrev All : ℕ → Type 0
  All w = w < t.plan.wants

  -- what chunks are got from has come from old to new by extractions of these wants
  pub record Since (old new : Sources S V) : Type 0 where
    pub rises : old.faults ≤ new.faults
    pub seeds : KeepsSeeds view old.seeds new.seeds
    pub stores : KeepsStores store (IsListedGet t.listing) old.chain.stores new.chain.stores
    pub stocked : Stocked (TakesWants store t.listing t.plan (λ w. w < t.plan.wants) old.chain.stores) old.cache new.cache

  since_on : (s0 s1 s2 : Sources S V) → Since s0 s1 → Since s1 s2 → Since s0 s2
  since_on s0 s1 s2 first next = record {
    rises = omega (arith, first.rises, next.rises);
    seeds = seeds_on view s0.seeds s1.seeds s2.seeds first.seeds next.seeds;
    stores = kept_on store (IsListedGet t.listing) s0.chain.stores s1.chain.stores s2.chain.stores first.stores next.stores;
    stocked = stocking_on store t.listing t.plan All All All (λ w below. below) (λ w below. below) s0.chain.stores s1.chain.stores first.stores.members s0.cache s1.cache s2.cache
        first.stocked next.stocked;
  }

  -- after the survey nothing was got yet
  pub since_survey : (f : ℕ) (s : Sources S V) → f ≤ s.faults → Since (record { faults = f; seeds = s.seeds; cache = s.cache; chain = s.chain }) s
  since_survey f s rises = record {
    rises = rises;
    seeds = seeds_none view s.seeds;
    stores = kept_still store (IsListedGet t.listing) s.chain.stores;
    stocked = stocked_none (TakesWants store t.listing t.plan All s.chain.stores) s.cache;
  }

-- ---- which entries a pass may fill

module _ {S V : Type 0} (store : StoreWords S) (view : ViewWords V) (t : Task) (wants : AreWants t.listing t.plan.wants t.plan.want_of) (old : Sources S V) (a : Stage S V)
    (since : Since store view t old (from a)) (Such : ℕ → Type 0) (base : List ℕ)
    (filled : (i : ℕ) → i < count_of t.listing → settled a.fates i ≡ true → IsRightAt base t.listing i ⊎ Such i)
    (cached maps : List (Map (List ℕ))) (telling : Telling view.tells (views_of view old.seeds)) (told_cache : given_maps old.cache ≡ Some cached)
    (told : maps_of store.members old.chain.stores ≡ Some maps) where
  abbrev CanBeHad : ℕ → Type 0
  CanBeHad i = IsObtainable t base (views_of view old.seeds) (cached ++ maps) i

-- ---- the last passes

module _ {S V : Type 0} (store : StoreWords S) (view : ViewWords V) (t : Task) (o : Option (List ℕ)) (old : Sources S V) (Such : ℕ → Type 0) (a b : Stage S V) where
  abbrev Each : ℕ → Type 0
  Each w = w < t.plan.wants

  abbrev over_base : List ℕ → List ℕ
  over_base y = resized y (image_length t.listing)

  abbrev Kept : List ℕ → List ℕ → Type 0
  Kept y t0 = StandsOver t.listing Such a.fates old.faults a.faults (over_base y) t0

  abbrev Found : List ℕ → Type 0
  Found y = (t0 : List ℕ) × Kept y t0

  abbrev Filled : List ℕ → List ℕ → Type 0
  Filled y z = (t0 : List ℕ) × Kept y t0 × Fills t.listing a.fates b.fates a.faults b.faults t0 z

  -- what they leave over the base of o, and what stood before them
  pub record Finished (r : Result Unit ExtractFault) : Type 0 where
    pub wants : AreWants t.listing t.plan.wants t.plan.want_of
    pub since : Since store view t old (from a)
    pub alone : IsAlone old.cache
    pub tells : is_some a.held.bytes ≡ is_some o
    pub whole : WhereTold o a.held.bytes Kept
    pub had : HadAll store view t a b.fates
    pub stretch : Stretch store view t (λ w. w < t.plan.wants) a b
    pub ends : Ends store view t a b r

  -- so it is after the second pass alone, whatever the passes before it were, if what they settled is known so
  pub finished_retry : (r : Result Unit ExtractFault) → AreWants t.listing t.plan.wants t.plan.want_of → Since store view t old (from a) → IsAlone old.cache → is_some a.held.bytes ≡ is_some o
      → WhereTold o a.held.bytes Kept → HasPassed store view t one_pass a b → Ends store view t a b r → Finished r
  finished_retry r wants since alone tells whole passed ends = record {
    wants = wants;
    since = since;
    alone = alone;
    tells = tells;
    whole = whole;
    had = passed.had;
    stretch = passed.stretch;
    ends = ends;
  }

  module _ (r : Result Unit ExtractFault) (done : Finished r) where
    rises_on : a.faults ≤ b.faults
    rises_on = done.stretch.step.never_falls

    since_all : Since store view t old (from b)
    since_all = since_on store view t old (from a) (from b) done.since (record {
      rises = rises_on;
      seeds = done.stretch.step.seeds;
      stores = done.stretch.step.stores;
      stocked = done.stretch.stocked;
    })

    founds : IfSome o Found
    founds = some_between o a.held.bytes Kept done.tells done.whole

    filled : WhereTold o b.held.bytes Filled
    filled = told_between o a.held.bytes b.held.bytes Kept (Fills t.listing a.fates b.fates a.faults b.faults) done.tells done.whole done.stretch.step.bytes

    -- ---- bytes

    leaving : (y z : List ℕ) → Filled y z → KeepsBase t.listing old.faults b.faults (over_base y) z
    leaving y z s = leaves t.listing Such a.fates b.fates old.faults a.faults b.faults done.since.rises rises_on done.stretch.step.grows (over_base y) s.0 z s.1 s.2

    right_so : (y z : List ℕ) → Filled y z → (i : ℕ) → i < count_of t.listing → settled b.fates i ≡ true → IsRightAt z t.listing i
    right_so y z s = right_at t.listing Such a.fates b.fates old.faults a.faults b.faults done.since.rises rises_on done.stretch.step.grows (over_base y) s.0 z s.1 s.2

    bytes_by : (Unused : Type 0) (why : ExtractFault) → r ≡ Err why
        → EndsBy {A = Unit {0}} (λ lost. Loses store view t a b lost × ((i : ℕ) → i < lost.entry → settled b.fates i ≡ true)) (Rose a.faults b.faults) (Err why)
        → WhereTold o b.held.bytes (Assembles t.listing Unused old.faults b.faults (Err why))
    bytes_by Unused why so (inl lost) = told_map o b.held.bytes Found Filled (Assembles t.listing Unused old.faults b.faults (Err why))
        (λ y z found s.
        assembles_err t.listing Unused old.faults b.faults y z (leaving y z s)
        (λ x. Loses store view t a b x × ((i : ℕ) → i < x.entry → settled b.fates i ≡ true)) why
        (λ x is i less. right_so y z s i (omega (arith, less, is.0.listed)) (is.1 i less))
        lost)
        founds filled
    bytes_by Unused why so (inr (inl (is, rose))) =
        let h = done.ends.failed (so ∙ ap (λ (y : ExtractFault). Err y) is) in
        let w = want_at t.plan h.entry in
        let Torn : List ℕ → List ℕ → Type 0 = FillsTorn t.listing a.fates b.fates a.faults b.faults h.torn in
        subst (λ y. WhereTold o b.held.bytes (Assembles t.listing Unused old.faults b.faults (Err y))) (sym is)
        (told_map o b.held.bytes Found (λ y z. (t0 : List ℕ) × Kept y t0 × Torn t0 z) (Assembles t.listing Unused old.faults b.faults (Err faults.TargetFault))
        (λ y z found s. inr (leaves_torn t.listing Such a.fates b.fates old.faults a.faults b.faults done.since.rises rises_on done.stretch.step.grows (over_base y) s.0 z s.1 s.2.0
        h.entry h.torn h.listed h.was_open h.before
        (listed_of t.listing t.plan w h.torn done.wants h.among) (ids_same t.listing t.plan w h.torn h.entry done.wants h.among (here t done.wants h.entry h.listed)) s.2.1))
        founds (told_between o a.held.bytes b.held.bytes Kept Torn done.tells done.whole h.is_torn))
    bytes_by Unused why so (inr (inr is)) = subst (λ y. WhereTold o b.held.bytes (Assembles t.listing Unused old.faults b.faults (Err y))) (sym is)
        (told_map o b.held.bytes Found Filled (Assembles t.listing Unused old.faults b.faults (Err faults.Memory)) (λ y z found s. inr (leaving y z s)) founds filled)

    pub bytes_err : (Unused : Type 0) (why : ExtractFault) → r ≡ Err why → WhereTold o b.held.bytes (Assembles t.listing Unused old.faults b.faults (Err why))
    bytes_err Unused why so = bytes_by Unused why so (subst (EndsBy _ _) so done.ends.first)

    all_settled : (u : Unit {0}) → r ≡ Ok u → (i : ℕ) → i < count_of t.listing → settled b.fates i ≡ true
    all_settled u so = subst (λ q. OnOk q ((i : ℕ) → i < count_of t.listing → settled b.fates i ≡ true)) so done.ends.ok

    pub bytes_ok : (Unused : Type 0) (u : Unit {0}) → r ≡ Ok u → (report : Report) → WhereTold o b.held.bytes (Assembles t.listing Unused old.faults b.faults (Ok report))
    bytes_ok Unused u so report = told_map o b.held.bytes Found Filled (Assembles t.listing Unused old.faults b.faults (Ok report))
        (λ y z found s. (
          right_all t.listing Such a.fates b.fates old.faults a.faults b.faults done.since.rises rises_on done.stretch.step.grows (over_base y) s.0 z s.1 s.2 (all_settled u so),
          leaving y z s,
        ))
        founds filled

    -- ---- lost entries

    abbrev Unobtained : Lost → Type 0
    Unobtained lost = IsUnobtained store view t o old (from b) lost

    copies_lost : (y : List ℕ) → Found y → (lost : Lost) → Loses store view t a b lost → RightAlike t.listing (over_base y) lost.entry → Rose old.faults b.faults
    copies_lost y found lost is =
        copies t done.wants Such a.fates old.faults a.faults b.faults done.since.rises rises_on (over_base y) found.0 found.1 lost.entry is.listed is.copies

    unobtained : (lost : Lost) → Loses store view t a b lost → Unobtained lost
    unobtained lost is = record {
      listed = is.listed;
      id_is = is.id_is;
      copies = some_map o Found (λ y. RightAlike t.listing (over_base y) lost.entry → Rose old.faults b.faults) (λ y found. copies_lost y found lost is) founds;
      seeds = seeds_since view old.seeds a.kit.seeds.items b.kit.seeds.items (places_at t.places (want_at t.plan lost.entry)) lost.id.0 done.since.seeds is.seeds;
      cache = lacks_since store view t Each old.chain.stores (id_of t.listing lost.entry) (size_of t.listing lost.entry) old.cache a.cache b.cache done.since.stocked is.cache;
      stores = refused_since store view t lost old.chain.stores a.kit.chain.stores b.kit.chain.stores done.since.stores is.stores;
    }

    pub lost_err : (why : ExtractFault) → r ≡ Err why → EndsBy {A = Unit {0}} Unobtained (Rose old.faults b.faults) (Err why)
    lost_err why so = ends_map _ Unobtained (Rose a.faults b.faults) (Rose old.faults b.faults) why (λ lost is. unobtained lost is.0)
        (rose_later old.faults a.faults b.faults done.since.rises) (subst (EndsBy _ _) so done.ends.first)

    -- ---- whatever fails

    abbrev views : List (Option Held)
    views = views_of view old.seeds

    module _ (cached maps : List (Map (List ℕ))) where
      abbrev Can : List ℕ → ℕ → Type 0
      Can y i = IsObtainable t (over_base y) views (cached ++ maps) i

      -- an entry that was made right before can be obtained
      abbrev pub SuchCan : List ℕ → Type 0
      SuchCan y = (i : ℕ) → i < count_of t.listing → Such i → Can y i

      module _ (telling : Telling view.tells views) (told_cache : cached_in old.cache ≡ Some cached) (told : maps_of store.members old.chain.stores ≡ Some maps) where
        had_at : (i : ℕ) → i < count_of t.listing → settled b.fates i ≡ true → HadAt t a.fates views (cached ++ maps) i
        had_at i inside is =
            let given = alone_given old.cache done.alone ∙ told_cache in
            let later = given_told (TakesWants store t.listing t.plan Each old.chain.stores) old.cache a.cache cached done.since.stocked given in
            had_from t done.wants store view Each old (from a) done.since.seeds.held done.since.stocked cached later.0 maps given later.1 told a.fates (want_at t.plan i)
            (done.had (telling_on view.tells views (views_of view a.kit.seeds.items) done.since.seeds.held telling) later.0 maps later.1 (ap told_together done.since.stores.members ∙ told) i inside is)

        -- what is settled can be obtained
        can : (y : List ℕ) → Found y → SuchCan y → (i : ℕ) → i < count_of t.listing → settled b.fates i ≡ true → Can y i
        can y found such i inside is =
            obtainable t done.wants Such a.fates (over_base y) found.1.filled views (cached ++ maps) such i inside (had_at i inside is)

        pub only_ok : (u : Unit {0}) → r ≡ Ok u → (report : Report) → IfSome o SuchCan → WhereTold o b.held.bytes (λ y z. OnlyObtainable t.listing (Can y) old.faults b.faults (Ok report) y z)
        only_ok u so report such = told_map o b.held.bytes SuchCan Filled
            (λ y z. OnlyObtainable t.listing (Can y) old.faults b.faults (Ok report) y z) (λ y z has s i inside. can y (s.0, s.1) has i inside (all_settled u so i inside)) such filled

        pub only_err : (why : ExtractFault) → IfSome o SuchCan → WhereTold o b.held.bytes (λ y z. OnlyObtainable t.listing (Can y) old.faults b.faults (Err why) y z)
        only_err why such = told_map o b.held.bytes SuchCan Filled (λ y z. OnlyObtainable t.listing (Can y) old.faults b.faults (Err why) y z)
            (λ y z has s. inr (only_such t.listing Such a.fates b.fates old.faults a.faults b.faults done.since.rises rises_on done.stretch.step.grows (over_base y) s.0 z s.1 s.2 (Can y)
            (can y (s.0, s.1) has)))
            such filled

      -- ---- where nothing fails

      module _ (nothing : SourcesQuiet store view (kind_of t.listing) (IsListedAs t.listing) old (from b) cached maps) (one : HaveOneSize t.listing old.cache cached maps) where
        -- the stores didn't fail in the call that refused
        sound : (lost : Lost) → RefusedOnce store view t lost old.chain.stores b.kit.chain.stores → (s : ℕ) → lost.refused ≡ refused.StoreFault s → ⊥
        sound lost is s failed =
            let at : List S → ℕ = λ stores. slice_index (map store.faults stores) s in
            let part = quiet_part (at old.chain.stores) (at is.before) (at is.after) (at b.kit.chain.stores) (is.until.never_fall s) (is.since.never_fall s) (nothing.stores s) in
            quiet_never (at is.before) (at is.after) part (is.refused.cause s failed)

        -- what was lost can't be obtained
        never : (y : List ℕ) → Found y → (lost : Lost) → Loses store view t a b lost → Can y lost.entry → Tells lost.refused → ⊥
        never y found lost is (inl alike) tells = quiet_never old.faults b.faults nothing.target (copies_lost y found lost is alike)
        never y found lost is (inr (inl seeds)) tells =
            let places = places_at t.places (want_at t.plan lost.entry) in
            seeds_never views places lost.id.0 (counts_of view old.seeds) (counts_of view b.kit.seeds.items) nothing.seeds (unobtained lost is).seeds
            (subst (λ q. SeedsGive views places q) (sym is.id_is) seeds)
        never y found lost is (inr (inr given)) tells = elim (gives_part (kind_of t.listing) (id_of t.listing lost.entry) (size_of t.listing lost.entry) cached maps given) [
          | inl cache ↦
              let later = stocked_told (TakesWants store t.listing t.plan Each old.chain.stores) old.cache b.cache cached since_all.stocked nothing.told_cache in
              let gives = gives_on store t.listing t.plan Each old.chain.stores old.cache b.cache cached later.0 maps since_all.stocked nothing.told_cache later.1
              nothing.told done.wants (λ w below. below) one (id_of t.listing lost.entry) (size_of t.listing lost.entry) (lost.entry, is.listed, refl, refl) cache in
              quiet_never (cache_faults old.cache) (cache_faults b.cache) nothing.cache ((unobtained lost is).cache later.0 later.1 gives)
          | inr stores ↦
              let stores_refused = (unobtained lost is).stores in
              let kept = stores_refused.until.members in
              stores_never (kind_of t.listing) lost.id (size_of t.listing lost.entry) (map store.members stores_refused.before) maps (ap told_together kept ∙ nothing.told)
              (subst (GroupsAgree (λ m. GivesChunk (kind_of t.listing) lost.id.0 (size_of t.listing lost.entry) (m lost.id.0))) (sym kept)
              (nothing.agree lost.id.0 (size_of t.listing lost.entry) (lost.entry, is.listed, sym is.id_is, refl)))
              lost.refused tells (sound lost stores_refused) stores_refused.refused.together
              (subst (λ q. SomeGives (kind_of t.listing) q (size_of t.listing lost.entry) maps) (sym is.id_is) stores)
        ]

        -- what is settled can be obtained
        had : (y : List ℕ) → Found y → SuchCan y → (i : ℕ) → i < count_of t.listing → settled b.fates i ≡ true → Can y i
        had = can nothing.telling nothing.told_cache nothing.told

        verdict_err : (why : ExtractFault) (y : List ℕ) → Found y → SuchCan y
            → EndsBy {A = Unit {0}} (λ lost. Loses store view t a b lost × ((i : ℕ) → i < lost.entry → settled b.fates i ≡ true)) (Rose a.faults b.faults) (Err why)
            → Verdict t.listing (Can y) (Err why)
        verdict_err why y found such (inl (lost, is, was)) = subst (λ e. Verdict t.listing (Can y) (Err e)) (sym is)
            (verdict_named t.listing (Can y) lost.entry lost.id lost.refused
            (λ i less. had y found such i (omega (arith, less, was.0.listed)) (was.1 i less))
            (never y found lost was.0) (sound lost (unobtained lost was.0).stores))
        verdict_err why y found such (inr (inl (is, rose))) = absurd (quiet_never old.faults b.faults nothing.target (rose_later old.faults a.faults b.faults done.since.rises rose))
        verdict_err why y found such (inr (inr is)) = subst (λ e. Verdict t.listing (Can y) (Err e)) (sym is) tt

        module _ (such : IfSome o SuchCan) where
          both : IfSome o (λ y. Found y × SuchCan y)
          both = some_both o Found SuchCan founds such

          pub exactly_err : (why : ExtractFault) → r ≡ Err why → IfSome o (λ y. Verdict t.listing (Can y) (Err why))
          exactly_err why so = some_map o (λ y. Found y × SuchCan y) (λ y. Verdict t.listing (Can y) (Err why))
              (λ y is. verdict_err why y is.0 is.1 (subst (EndsBy _ _) so done.ends.first)) both

          pub exactly_ok : (u : Unit {0}) → r ≡ Ok u → (report : Report) → IfSome o (λ y. Verdict t.listing (Can y) (Ok report))
          exactly_ok u so report = some_map o (λ y. Found y × SuchCan y) (λ y. Verdict t.listing (Can y) (Ok report))
              (λ y is i inside. had y is.0 is.1 i inside (all_settled u so i inside)) both

          abbrev StandsAfter : List ℕ → List ℕ → Type 0
          StandsAfter y z = (i : ℕ) → i < count_of t.listing → (Can y i → IsRightAt z t.listing i) × ((Can y i → ⊥) → slice_of t.listing z i ≡ slice_of t.listing (over_base y) i)

          -- an entry that can't be obtained was never written
          untouched : (y z : List ℕ) → SuchCan y → Filled y z → (i : ℕ) → i < count_of t.listing → (Can y i → ⊥) → slice_of t.listing z i ≡ slice_of t.listing (over_base y) i
          untouched y z has s i inside hasnt = elim (cases_Bool (settled b.fates i)) [
            | inl is ↦ absurd (hasnt (had y (s.0, s.1) has i inside is))
            | inr isnt ↦ elim (left_at t.listing Such a.fates b.fates old.faults a.faults b.faults done.since.rises rises_on done.stretch.step.grows (over_base y) s.0 z s.1 s.2 i inside isnt) [
              | inl same ↦ same
              | inr rose ↦ absurd (quiet_never old.faults b.faults nothing.target rose)
            ]
          ]

          pub after_ok : (u : Unit {0}) → r ≡ Ok u → (report : Report) → WhereTold o b.held.bytes (λ y z. After t.listing (Can y) (over_base y) z (Ok report))
          after_ok u so report = told_map o b.held.bytes SuchCan Filled (λ y z. After t.listing (Can y) (over_base y) z (Ok report))
              (λ y z has s i inside. (λ can_be. right_so y z s i inside (all_settled u so i inside), untouched y z has s i inside)) such filled

          after_lost : (why : ExtractFault) (y z : List ℕ) → SuchCan y → Filled y z
              → (why ≡ faults.Memory) ⊎ (Rose a.faults b.faults ⊎ ((i : ℕ) → i < count_of t.listing → settled b.fates i ≡ false → (lost : Lost)
              × (want_at t.plan lost.entry ≡ want_at t.plan i) × Loses store view t a b lost))
              → HadMemory why → StandsAfter y z
          after_lost why y z has s (inl is) memory = absurd (subst HadMemory is memory)
          after_lost why y z has s (inr (inl rose)) memory = absurd (quiet_never old.faults b.faults nothing.target (rose_later old.faults a.faults b.faults done.since.rises rose))
          after_lost why y z has s (inr (inr left)) memory = λ i inside. (
            λ can_be. elim (cases_Bool (settled b.fates i)) [
              | inl is ↦ right_so y z s i inside is
              | inr isnt ↦
                  let lost = left i inside isnt in
                  absurd (never y (s.0, s.1) lost.0 lost.2
                  (obtainable_as t done.wants (over_base y) views (cached ++ maps) i lost.0.entry inside lost.2.listed lost.1 can_be)
                  (tells_of lost.0.refused lost.2.had_memory))
            ],
            untouched y z has s i inside,
          )

          pub after_fault : (why : ExtractFault) → r ≡ Err why → WhereTold o b.held.bytes (λ y z. After t.listing (Can y) (over_base y) z (Err why))
          after_fault why so = told_map o b.held.bytes SuchCan Filled (λ y z. After t.listing (Can y) (over_base y) z (Err why))
              (λ y z has s. after_err t.listing (Can y) (over_base y) z why (after_lost why y z has s (subst (λ q. IfErr q (λ e. (e ≡ faults.Memory) ⊎ (Rose a.faults b.faults ⊎ ((i : ℕ) → i < count_of t.listing
              → settled b.fates i ≡ false → (lost : Lost) × (want_at t.plan lost.entry ≡ want_at t.plan i) × Loses store view t a b lost)))) so done.ends.left)))
              such filled
