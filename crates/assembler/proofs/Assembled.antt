-- What an assembly says of its sources, over the base: it stood at a after the survey and at b at the end. At first the
-- count of the target's faults was f, and its bytes were `o`.
use Rattle.std.proofs.Common.{◌≡◌, ◌⊎◌, ◌++◌, ℕ, ◌≤◌, List, [], length, Option, Some, None, IfOk, IfSome, IsSomeAnd, Result, Ok, Err, true, refl, sym, ap, ◌∙◌, subst, inl, inr, arith, is_some}
use Rattle.std.proofs.lemmas.Bool.{cases_Bool}
use Rattle.std.proofs.lemmas.List.{length-append, length-replicate, length-take}
use Rattle.std.specs.Option.{option_map}
use Rattle.assembler.proofs.Based.{StandsOver, Surveyed, stands_surveyed, missed_at, only_first, over_of, some_map}
use Rattle.assembler.proofs.Asked.{asks_none}
use Rattle.assembler.proofs.Counted.{quiet_part}
use Rattle.assembler.proofs.EconomyReported.{asks_err, assembled_as, reports_all, settled_right}
use Rattle.assembler.proofs.EconomyRetried.{unless_map}
use Rattle.assembler.proofs.EconomySources.{source_same}
use Rattle.assembler.proofs.Entries.{listed_of}
use Rattle.assembler.proofs.Finished.{Finished, SuchCan, after_fault, after_ok, bytes_err, bytes_ok, exactly_err, exactly_ok, lost_err, only_err, only_ok, since_survey}
use Rattle.assembler.proofs.Stepped.{seeds_none}
use Rattle.assembler.proofs.Stocking.{listed_takes}
use Rattle.assembler.specs.Assemblies.{After, Assembles, AssemblyAsks, KeepsBase, IsAssembled, IsObtainable, IsUnobtained, SparedOver, Verdict}
use Rattle.assembler.specs.Economy.{AsksExactly, AssembledBy, ReportsExactly, UnlessMemory}
use Rattle.assembler.specs.Obtainable.{OnlyObtainable}
use Rattle.assembler.specs.OneKit.{AreUnused}
use Rattle.assembler.specs.Passes.{Ends, EndsBy, HasPassed, WhereQuiet, source_at, two_passes}
use Rattle.assembler.specs.Stages.{Stage, from}
use Rattle.assembler.specs.declared.fault.ExtractFault.{ExtractFault}
use Rattle.assembler.specs.declared.fault.ExtractFault.TheVariants as faults
use Rattle.cache_store.specs.Shelves.{Shelf}
use Rattle.caibx_codec.specs.Asks.{IsListedGet}
use Rattle.caibx_codec.specs.Listing.{Listing, count_of, image_length, kind_of}
use Rattle.caibx_codec.specs.Right.{IsRightAt}
use Rattle.chunk_sources.proofs.Cached.{stocked_none}
use Rattle.chunk_sources.proofs.Lacking.{quiet_never}
use Rattle.chunk_sources.specs.Asks.{IsSpared, asks_below, calls_below}
use Rattle.chunk_sources.specs.Caches.{HaveOneSize, IsAlone, TakesListed, cached_in, IsListedAs}
use Rattle.chunk_sources.specs.Economy.{source_of}
use Rattle.chunk_sources.specs.Sources.{Sources, SourcesQuiet, Telling, sources, views_of}
use Rattle.chunk_sources.specs.Wants.{Task}
use Rattle.chunk_store.specs.declared.store.Store.{Ghosts as StoreWords}
use Rattle.chunk_store.specs.Members.{maps_of}
use Rattle.dsy_base.specs.Bytes.{Held, held_resized, resized}
use Rattle.dsy_base.specs.Counts.{Rose}
use Rattle.dsy_base.specs.Maps.{Map}
use Rattle.dsy_base.specs.declared.view.View.{Ghosts as ViewWords}
use Rattle.extract_plan.specs.Deal.{AreWants, want_id}
use Rattle.range_ledger.specs.Fills.{WhereTold}
use Rattle.range_survey.proofs.Excused.{excuses_none}
use Rattle.range_survey.specs.Fates.{FirstFates, OpenWrong, SettledRight, is_right_at, settled}
use Rattle.range_survey.specs.Reports.{tally}
use Rattle.range_survey.specs.declared.fate.Fate.{Fate}
use Rattle.range_survey.specs.declared.fate.Fate.TheVariants as fate
use Rattle.range_survey.specs.declared.report.Report.{Report}
use Rattle.extract_plan.specs.declared.seed.Seed.{Seed}
use Rattle.store_chain.proofs.Kept.{kept_still}
use Rattle.store_chain.specs.Chains.{Chained}

-- ---- both passes

module _ {S V : Type 0} (store : StoreWords S) (view : ViewWords V) (t : Task) (o : Option (List ℕ)) (f : ℕ) (a b : Stage S V) where
  abbrev over_base : List ℕ → List ℕ
  over_base y = resized y (image_length t.listing)

  abbrev Found : List ℕ → Type 0
  Found y = Surveyed t.listing a.fates f a.faults (over_base y)

  -- what both passes leave over the base of o
  pub record Ran (r : Result Unit ExtractFault) : Type 0 where
    pub wants : AreWants t.listing t.plan.wants t.plan.want_of
    pub alone : IsAlone a.cache
    pub rises : f ≤ a.faults
    pub base : a.held.bytes ≡ option_map over_base o
    pub over : IfSome o Found
    pub firsts : FirstFates a.fates (count_of t.listing)
    pub passed : HasPassed store view t two_passes a b
    pub ends : Ends store view t a b r
    pub exactly : WhereQuiet store view t.listing (from a) (from b)
        (λ cached maps. UnlessMemory (AssembledBy (source_at view t a cached maps) t.plan.wants (count_of t.listing) a.fates b.fates a.kit.chain b.kit.chain) r)

  -- what chunks were got from at first
  abbrev pub first_sources : Sources S V
  first_sources = sources f a.kit.seeds.items a.cache a.kit.chain

  module _ (r : Result Unit ExtractFault) (ran : Ran r) where
    rises_on : a.faults ≤ b.faults
    rises_on = ran.passed.stretch.step.never_falls

    abbrev Whole : List ℕ → List ℕ → Type 0
    Whole y t0 = StandsOver t.listing (λ i. ⊥) a.fates f a.faults (over_base y) t0

    is_whole : (p : Option (List ℕ)) → IfSome p Found → WhereTold p (option_map over_base p) Whole
    is_whole None over = tt
    is_whole (Some y) over = stands_surveyed t.listing a.fates f a.faults (over_base y) over

    as_told : (p : Option (List ℕ)) → is_some (option_map over_base p) ≡ is_some p
    as_told None = refl
    as_told (Some y) = refl

    -- both passes are the last ones, before which no entry was made right
    pub finished : Finished store view t o first_sources (λ i. ⊥) a b r
    finished = record {
      wants = ran.wants;
      since = since_survey store view t f (from a) ran.rises;
      alone = ran.alone;
      tells = ap (λ (p : Option (List ℕ)). is_some p) ran.base ∙ as_told o;
      whole = subst (λ (p : Option (List ℕ)). WhereTold o p Whole) (sym ran.base) (is_whole o ran.over);
      had = ran.passed.had;
      stretch = ran.passed.stretch;
      ends = ran.ends;
    }

    -- ---- how often stores were asked

    spared_over : (w : ℕ) → SparedOver store view t o first_sources (from b) w → IsSpared store view t (λ j. settled a.fates j ≡ true) (from a) (from b) w
    spared_over w (inl ((j, other, right), quiet)) = go o ran.over right where
      go : (p : Option (List ℕ)) → IfSome p Found → IsSomeAnd p (λ y. IsRightAt (over_base y) t.listing j) → IsSpared store view t (λ j. settled a.fates j ≡ true) (from a) (from b) w
      go None over has = absurd has
      go (Some y) over has = elim (cases_Bool (settled a.fates j)) [
        | inl is ↦ inl ((j, other, is), quiet_part f a.faults b.faults b.faults ran.rises (omega arith) quiet)
        | inr isnt ↦ absurd (quiet_never f b.faults quiet (missed_at t.listing (λ i. ⊥) a.fates f a.faults b.faults rises_on (over_base y) (over_base y)
            (stands_surveyed t.listing a.fates f a.faults (over_base y) over) j
            (listed_of t.listing t.plan w j ran.wants other) isnt has))
      ]
    spared_over w (inr rest) = inr rest

    pub asks_over : AssemblyAsks store view t o first_sources (from b)
    asks_over = λ spared are.
        let asks = ran.passed.asks spared (λ w below is. spared_over w (are w below is)) in
        record { no_fewer = asks.no_fewer; calls = asks.calls; no_less = asks.no_less; most = asks.most }

    abbrev views : List (Option Held)
    views = views_of view a.kit.seeds.items

    module _ (cached maps : List (Map (List ℕ))) (nothing : SourcesQuiet store view (kind_of t.listing) (IsListedAs t.listing) first_sources (from b) cached maps) (one : HaveOneSize t.listing a.cache cached maps) where
      -- ---- what it cost

      abbrev source : List ℕ → ℕ → Fate
      source y = source_of t (over_base y) views cached maps

      -- what was so of its source at first was so over the base
      sourced : (y : List ℕ) → Found y → (w : ℕ) → source_at view t a cached maps w ≡ source y w
      sourced y over w =
          source_same t views maps w cached cached (settled a.fates) (is_right_at t.listing (over_base y))
          (λ i other. settled_right t.listing a.fates f a.faults (quiet_part f f a.faults b.faults (omega arith) rises_on nothing.target) (over_base y) over i
          (listed_of t.listing t.plan w i ran.wants other))
          refl

      assembled : (y : List ℕ) → Found y → UnlessMemory (AssembledBy (source y) t.plan.wants (count_of t.listing) a.fates b.fates a.kit.chain b.kit.chain) r
      assembled y over = unless_map _ _ r
          (assembled_as (source_at view t a cached maps) (source y) t.plan.wants (count_of t.listing) a.fates b.fates a.kit.chain b.kit.chain (sourced y over))
          (ran.exactly cached maps (record {
            target = quiet_part f a.faults b.faults b.faults ran.rises (omega arith) nothing.target;
            telling = nothing.telling;
            seeds = nothing.seeds;
            told_cache = nothing.told_cache;
            cache = nothing.cache;
            told = nothing.told;
            agree = nothing.agree;
            stores = nothing.stores;
          }) one)

      pub economy_err : (why : ExtractFault) → r ≡ Err why → IfSome o (λ y. AsksExactly (source y) t.plan.wants a.kit.chain b.kit.chain (Err why))
      economy_err why so = some_map o Found (λ y. AsksExactly (source y) t.plan.wants a.kit.chain b.kit.chain (Err why))
          (λ y over. asks_err (source y) t.plan.wants (count_of t.listing) a.fates b.fates a.kit.chain b.kit.chain why (subst (UnlessMemory _) so (assembled y over))) ran.over

      pub economy_ok : (u : Unit {0}) → r ≡ Ok u → (report : Report) → IfSome o (λ y. AsksExactly (source y) t.plan.wants a.kit.chain b.kit.chain (Ok report))
      economy_ok u so report = some_map o Found (λ y. AsksExactly (source y) t.plan.wants a.kit.chain b.kit.chain (Ok report))
          (λ y over. let by : AssembledBy (source y) t.plan.wants (count_of t.listing) a.fates b.fates a.kit.chain b.kit.chain = subst (UnlessMemory _) so (assembled y over) in by.calls) ran.over

      pub reported_ok : (u : Unit {0}) → r ≡ Ok u → (report : Report)
          → report.seeded ≡ tally fate.Seeded b.fates (count_of t.listing) → report.cached ≡ tally fate.Cached b.fates (count_of t.listing) → report.fetched ≡ tally fate.Fetched b.fates (count_of t.listing)
          → IfSome o (λ y. ReportsExactly (source y) t.plan.wants report)
      reported_ok u so report seeded cached_is fetched = some_map o Found (λ y. ReportsExactly (source y) t.plan.wants report)
          (λ y over. reports_all (source y) t.plan.wants (count_of t.listing) a.fates b.fates a.kit.chain b.kit.chain report
          ran.firsts (subst (UnlessMemory _) so (assembled y over)) seeded cached_is fetched) ran.over

some_all : (o : Option (List ℕ)) (P : List ℕ → Type 0) → ((y : List ℕ) → P y) → IfSome o P
some_all None P all = tt
some_all (Some y) P all = all y

told_all : (o p : Option (List ℕ)) (P : List ℕ → List ℕ → Type 0) → ((y z : List ℕ) → P y z) → WhereTold o p P
told_all None p P all = tt
told_all (Some y) None P all = tt
told_all (Some y) (Some z) P all = all y z

-- ---- as the calls say it

module _ {S V : Type 0} (store : StoreWords S) (view : ViewWords V) (t : Task) (old : Held) (f : ℕ) (a b : Stage S V) (r : Result Unit ExtractFault)
    (index : Listing) (same : index ≡ t.listing) (wants : AreWants index t.plan.wants t.plan.want_of) (alone : IsAlone a.cache) (is : a.held ≡ held_resized old (image_length index)) (rises : f ≤ a.faults)
    (sized : IfSome a.held.bytes (λ y. length y ≡ a.held.size)) (right : IfSome a.held.bytes (λ y. SettledRight t.listing y a.fates (count_of t.listing)))
    (wrong : IfSome a.held.bytes (λ y. OpenWrong index y a.fates f a.faults (count_of index))) (firsts : FirstFates a.fates (count_of index))
    (passed : HasPassed store view t two_passes a b) (ends : Ends store view t a b r)
    (exactly : WhereQuiet store view t.listing (from a) (from b)
    (λ cached maps. UnlessMemory (AssembledBy (source_at view t a cached maps) t.plan.wants (count_of t.listing) a.fates b.fates a.kit.chain b.kit.chain) r)) where
  resized_so : a.held ≡ held_resized old (image_length t.listing)
  resized_so = is ∙ ap (λ (l : Listing). held_resized old (image_length l)) same

  pub ran_of : Ran store view t old.bytes f a b r
  ran_of = record {
    wants = subst (λ (l : Listing). AreWants l t.plan.wants t.plan.want_of) same wants;
    alone = alone;
    rises = rises;
    base = ap (λ (h : Held). h.bytes) resized_so;
    over = over_of t.listing a.fates f a.faults old a.held resized_so sized right
        (subst (λ (l : Listing). IfSome a.held.bytes (λ y. OpenWrong l y a.fates f a.faults (count_of l))) same wrong);
    firsts = subst (λ (l : Listing). FirstFates a.fates (count_of l)) same firsts;
    passed = passed;
    ends = ends;
    exactly = exactly;
  }

-- what an assembly that has run has done
module _ {S V : Type 0} (store : StoreWords S) (view : ViewWords V) (t : Task) (o : Option (List ℕ)) (f : ℕ) (a b : Stage S V) (r : Result Unit ExtractFault) (ran : Ran store view t o f a b r) where
  did : (answer : Result Report ExtractFault)
      → WhereTold o b.held.bytes (Assembles t.listing (AreUnused (first_sources store view t o f a b) (from b)) f b.faults answer)
      → EndsBy (IsUnobtained store view t o (first_sources store view t o f a b) (from b)) (Rose f b.faults) answer
      → (Telling view.tells (views_of view a.kit.seeds.items) → (cached maps : List (Map (List ℕ))) → cached_in a.cache ≡ Some cached → maps_of store.members a.kit.chain.stores ≡ Some maps
      → WhereTold o b.held.bytes (λ y z. OnlyObtainable t.listing (IsObtainable t (resized y (image_length t.listing)) (views_of view a.kit.seeds.items) (cached ++ maps)) f b.faults answer y z))
      → WhereQuiet store view t.listing (first_sources store view t o f a b) (from b) (λ cached maps. IfSome o (λ y. Verdict t.listing
      (IsObtainable t (resized y (image_length t.listing)) (views_of view a.kit.seeds.items) (cached ++ maps)) answer))
      → WhereQuiet store view t.listing (first_sources store view t o f a b) (from b) (λ cached maps. WhereTold o b.held.bytes (λ y z. After t.listing
      (IsObtainable t (resized y (image_length t.listing)) (views_of view a.kit.seeds.items) (cached ++ maps)) (resized y (image_length t.listing)) z answer))
      → WhereQuiet store view t.listing (first_sources store view t o f a b) (from b) (λ cached maps. IfSome o (λ y. AsksExactly
      (source_of t (resized y (image_length t.listing)) (views_of view a.kit.seeds.items) cached maps) t.plan.wants a.kit.chain b.kit.chain answer))
      → WhereQuiet store view t.listing (first_sources store view t o f a b) (from b) (λ cached maps. IfSome o (λ y. IfOk answer (ReportsExactly
      (source_of t (resized y (image_length t.listing)) (views_of view a.kit.seeds.items) cached maps) t.plan.wants)))
      → IsAssembled store view t o b.held.bytes (first_sources store view t o f a b) (from b) answer
  did answer bytes lost had exactly after economy reported = record {
    bytes = bytes;
    lost = lost;
    had = had;
    exactly = exactly;
    after = after;
    economy = economy;
    reported = reported;
    asks = asks_over store view t o f a b r ran;
    stores = ran.passed.stretch.step.stores;
    kind = ran.passed.stretch.step.kind;
    stocked = listed_takes store t.listing t.plan a.kit.chain.stores a.cache b.cache ran.wants ran.passed.stretch.stocked;
    seeds = ran.passed.stretch.step.seeds;
  }

  abbrev first : Sources S V
  first = first_sources store view t o f a b

  done : Finished store view t o first (λ i. ⊥) a b r
  done = finished store view t o f a b r ran

  none_such : (cached maps : List (Map (List ℕ))) → IfSome o (SuchCan store view t o first (λ i. ⊥) a b r done cached maps)
  none_such cached maps = some_all o (SuchCan store view t o first (λ i. ⊥) a b r done cached maps) (λ y i inside none. absurd none)

  pub assembled_err : (why : ExtractFault) → r ≡ Err why → IsAssembled store view t o b.held.bytes first (from b) (Err why)
  assembled_err why so = did (Err why) (bytes_err store view t o first (λ i. ⊥) a b r done (AreUnused first (from b)) why so) (lost_err store view t o first (λ i. ⊥) a b r done why so)
      (λ telling cached maps has told. only_err store view t o first (λ i. ⊥) a b r done cached maps telling has told why (none_such cached maps))
      (λ cached maps nothing one. exactly_err store view t o first (λ i. ⊥) a b r done cached maps nothing one (none_such cached maps) why so)
      (λ cached maps nothing one. after_fault store view t o first (λ i. ⊥) a b r done cached maps nothing one (none_such cached maps) why so)
      (λ cached maps nothing one. economy_err store view t o f a b r ran cached maps nothing one why so)
      (λ cached maps nothing one. some_all o (λ y. Unit {0}) (λ y. tt))

  pub assembled_ok : (u : Unit {0}) → r ≡ Ok u → (report : Report)
      → report.seeded ≡ tally fate.Seeded b.fates (count_of t.listing) → report.cached ≡ tally fate.Cached b.fates (count_of t.listing) → report.fetched ≡ tally fate.Fetched b.fates (count_of t.listing)
      → IsAssembled store view t o b.held.bytes first (from b) (Ok report)
  assembled_ok u so report seeded cached_is fetched = did (Ok report) (bytes_ok store view t o first (λ i. ⊥) a b r done (AreUnused first (from b)) u so report) tt
      (λ telling cached maps has told. only_ok store view t o first (λ i. ⊥) a b r done cached maps telling has told u so report (none_such cached maps))
      (λ cached maps nothing one. exactly_ok store view t o first (λ i. ⊥) a b r done cached maps nothing one (none_such cached maps) u so report)
      (λ cached maps nothing one. after_ok store view t o first (λ i. ⊥) a b r done cached maps nothing one (none_such cached maps) u so report)
      (λ cached maps nothing one. economy_ok store view t o f a b r ran cached maps nothing one u so report)
      (λ cached maps nothing one. reported_ok store view t o f a b r ran cached maps nothing one u so report seeded cached_is fetched)

-- no entry was written
length_resized : (o : List ℕ) (n : ℕ) → length (resized o n) ≡ n
length_resized o n = rw (length-append, length-take, length-replicate) (omega arith)

keeps_itself : (l : Listing) (a b : ℕ) → a ≤ b → (y : List ℕ) → KeepsBase l a b (resized y (image_length l)) (resized y (image_length l))
keeps_itself l a b ab y = record {
  failed = [];
  excused = excuses_none a b ab;
  size = length_resized y (image_length l);
  each = λ i inside. inr (inl refl);
  kept = λ i inside right. inl refl;
}

-- a refusal before any write: the target has its old bytes, or these with the image's length
pub assembles_none : (l : Listing) (Unused : Type 0) → Unused → (old new : Held) (a b : ℕ) → a ≤ b → (e : ExtractFault)
    → ((e ≡ faults.TargetFault) × Rose a b) ⊎ (e ≡ faults.Memory) → (new ≡ old) ⊎ (new ≡ held_resized old (image_length l))
    → WhereTold old.bytes new.bytes (Assembles l Unused a b (Err e))
assembles_none l Unused unused old new a b ab e why stands = at e why stands where
  longer : List ℕ → List ℕ
  longer y = resized y (image_length l)

  same : (o : Option (List ℕ)) (q : ExtractFault) → ((y : List ℕ) → Assembles l Unused a b (Err q) y y) → WhereTold o o (Assembles l Unused a b (Err q))
  same None q is = tt
  same (Some y) q is = is y

  long : (o : Option (List ℕ)) (q : ExtractFault) → ((y : List ℕ) → Assembles l Unused a b (Err q) y (longer y)) → WhereTold o (option_map longer o) (Assembles l Unused a b (Err q))
  long None q is = tt
  long (Some y) q is = is y

  both : (q : ExtractFault) → ((y : List ℕ) → Assembles l Unused a b (Err q) y y) → ((y : List ℕ) → Assembles l Unused a b (Err q) y (longer y))
      → (new ≡ old) ⊎ (new ≡ held_resized old (image_length l)) → WhereTold old.bytes new.bytes (Assembles l Unused a b (Err q))
  both q kept set (inl is) = subst (λ (h : Held). WhereTold old.bytes h.bytes (Assembles l Unused a b (Err q))) (sym is) (same old.bytes q kept)
  both q kept set (inr is) = subst (λ (h : Held). WhereTold old.bytes h.bytes (Assembles l Unused a b (Err q))) (sym is) (long old.bytes q set)

  at : (q : ExtractFault) → ((q ≡ faults.TargetFault) × Rose a b) ⊎ (q ≡ faults.Memory) → (new ≡ old) ⊎ (new ≡ held_resized old (image_length l))
      → WhereTold old.bytes new.bytes (Assembles l Unused a b (Err q))
  at q (inl (is, rose)) how = subst (λ (x : ExtractFault). WhereTold old.bytes new.bytes (Assembles l Unused a b (Err x))) (sym is)
      (both faults.TargetFault (λ y. inl (unused, inl refl)) (λ y. inl (unused, inr refl)) how)
  at q (inr is) how = subst (λ (x : ExtractFault). WhereTold old.bytes new.bytes (Assembles l Unused a b (Err x))) (sym is)
      (both faults.Memory (λ y. inl refl) (λ y. inr (keeps_itself l a b ab y)) how)

-- what holds where nothing was used may be said in other words
pub assembles_as : (l : Listing) (Unused Other : Type 0) (a b : ℕ) (r : Result Report ExtractFault) (o t : List ℕ) → (Unused → Other)
    → Assembles l Unused a b r o t → Assembles l Other a b r o t
assembles_as l Unused Other a b (Ok r) o t said is = is
assembles_as l Unused Other a b (Err (faults.Missing k id)) o t said is = is
assembles_as l Unused Other a b (Err (faults.Damaged k id s shows)) o t said is = is
assembles_as l Unused Other a b (Err (faults.StoreFault s)) o t said is = is
assembles_as l Unused Other a b (Err faults.TargetFault) o t said (inl is) = inl (said is.0, is.1)
assembles_as l Unused Other a b (Err faults.TargetFault) o t said (inr torn) = inr torn
assembles_as l Unused Other a b (Err faults.Memory) o t said is = is

pub told_as : (l : Listing) {Unused Other : Type 0} (a b : ℕ) (r : Result Report ExtractFault) (o p : Option (List ℕ)) → (Unused → Other)
    → WhereTold o p (Assembles l Unused a b r) → WhereTold o p (Assembles l Other a b r)
told_as l a b r None p said is = tt
told_as l a b r (Some y) None said is = tt
told_as l {Unused} {Other} a b r (Some y) (Some z) said is = assembles_as l Unused Other a b r y z said is

-- one that was refused before any write
module _ {S V : Type 0} (store : StoreWords S) (view : ViewWords V) (t : Task) (old new : Held) (a b : ℕ) (ab : a ≤ b) (seeds : List (Seed V)) (cache : Option Shelf) (chain : Chained S) where
  abbrev Earlier : Sources S V
  Earlier = sources a seeds cache chain

  abbrev Later : Sources S V
  Later = sources b seeds cache chain

  abbrev CanBeHad : List (Map (List ℕ)) → List ℕ → ℕ → Type 0
  CanBeHad maps y i = IsObtainable t (resized y (image_length t.listing)) (views_of view seeds) maps i

  pub assembled_none : (e : ExtractFault)
      → ((e ≡ faults.TargetFault) × Rose a b) ⊎ (e ≡ faults.Memory) → (new ≡ old) ⊎ (new ≡ held_resized old (image_length t.listing))
      → IsAssembled store view t old.bytes new.bytes Earlier Later (Err e)
  assembled_none e why stands = record {
    bytes = assembles_none t.listing (AreUnused Earlier Later) (refl, (refl, refl)) old new a b ab e why stands;
    lost = elim why [
      | inl failed ↦ inr (inl failed)
      | inr memory ↦ inr (inr memory)
    ];
    had = λ telling cached maps has told. only_first t.listing (CanBeHad (cached ++ maps)) a b ab e old.bytes new.bytes (elim stands [
      | inl same ↦ inl (ap (λ (h : Held). h.bytes) same)
      | inr long ↦ inr (ap (λ (h : Held). h.bytes) long)
    ]);
    exactly = λ cached maps nothing one. some_all old.bytes (λ y. Verdict t.listing (CanBeHad (cached ++ maps) y) (Err e)) (λ y. elim why [
      | inl failed ↦ absurd (quiet_never a b nothing.target failed.1)
      | inr memory ↦ subst (λ (q : ExtractFault). Verdict t.listing (CanBeHad (cached ++ maps) y) (Err q)) (sym memory) tt
    ]);
    after = λ cached maps nothing one. told_all old.bytes new.bytes (λ y z. After t.listing (CanBeHad (cached ++ maps) y) (resized y (image_length t.listing)) z (Err e)) (λ y z. elim why [
      | inl failed ↦ absurd (quiet_never a b nothing.target failed.1)
      | inr memory ↦ subst (λ (q : ExtractFault). After t.listing (CanBeHad (cached ++ maps) y) (resized y (image_length t.listing)) z (Err q)) (sym memory) tt
    ]);
    economy = λ cached maps nothing one. some_all old.bytes (λ y. AsksExactly (source_of t (resized y (image_length t.listing)) (views_of view seeds) cached maps) t.plan.wants chain chain (Err e)) (λ y. elim why [
      | inl failed ↦ absurd (quiet_never a b nothing.target failed.1)
      | inr memory ↦ subst (λ (q : ExtractFault). AsksExactly (source_of t (resized y (image_length t.listing)) (views_of view seeds) cached maps) t.plan.wants chain chain (Err q)) (sym memory) tt
    ]);
    reported = λ cached maps nothing one. some_all old.bytes (λ y. Unit {0}) (λ y. tt);
    asks = λ spared are. asks_none store (two_passes (calls_below spared t.plan.wants)) (λ q. two_passes (asks_below (want_id t.listing t.plan) spared t.plan.wants q)) chain;
    stores = kept_still store (IsListedGet t.listing) chain.stores;
    kind = refl;
    stocked = stocked_none (TakesListed store t.listing chain.stores) cache;
    seeds = seeds_none view seeds;
  }
