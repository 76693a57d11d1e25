-- What is said of an assembly with any number of kits: what holds with one kit, what holds where nothing was used, and
-- what holds for kits before they were given room.
use Rattle.std.proofs.Common.{◌≡◌, ◌⊎◌, ◌<◌, ◌≤◌, ◌+◌, ◌++◌, ◌%◌, ◌==◌, ℕ, zero, suc, List, [], ◌∷◌, All, Any, Bool, true, if◌then◌else◌, Option, Some, None, IfOk, IfSome, IsTrue, Result, Ok, Err, length, map, slice_index_or, refl, sym, ap, subst, ◌∙◌, inl, inr, arith, false, lit≤}
use Rattle.std.proofs.lemmas.Bool.{eq-eqb}
use Rattle.std.proofs.lemmas.List.{append-nil, get_or_default, length-map}
use Rattle.std.specs.Str.{bytes_eq}
use Rattle.assembler.proofs.Asked.{asks_none}
use Rattle.assembler.proofs.Assembled.{assembled_none, assembles_none, told_as}
use Rattle.assembler.proofs.Based.{only_first}
use Rattle.assembler.proofs.EconomyReported.{together_told}
use Rattle.assembler.proofs.EconomyRetried.{unless_any}
use Rattle.assembler.proofs.Stepped.{seeds_none}
use Rattle.assembler.specs.Assemblies.{After, Assembles, IsAssembled, IsObtainable, IsUnobtained, SparedOver, Verdict}
use Rattle.assembler.specs.Economy.{AsksExactly, ReportsExactly, ReportsTogether, UnlessMemory}
use Rattle.assembler.specs.Obtainable.{OnlyObtainable}
use Rattle.assembler.specs.OneKit.{Lent, lent}
use Rattle.assembler.specs.Passes.{EndsBy, WhereQuiet}
use Rattle.assembler.specs.Permits.{deals_to}
use Rattle.assembler.specs.declared.fault.ExtractFault.{ExtractFault}
use Rattle.assembler.specs.declared.fault.ExtractFault.TheVariants as faults
use Rattle.cache_store.specs.Shelves.{Shelf}
use Rattle.caibx_codec.specs.Asks.{IsListedGet}
use Rattle.caibx_codec.specs.Listing.{Listing, count_of, image_length, size_of, kind_of}
use Rattle.chunk_sources.proofs.Lacking.{quiet_never}
use Rattle.chunk_sources.specs.Asks.{AsksAtMost, asks_below, asks_for, calls_below, calls_for, others_spared}
use Rattle.chunk_sources.proofs.Cached.{stocked_none}
use Rattle.chunk_sources.specs.Caches.{CacheGives, Stocked, TakesListed, given_maps, IsListedAs}
use Rattle.chunk_sources.specs.Economy.{source_of, all_asks, pass_asks, source_if, sum_below}
use Rattle.chunk_sources.specs.Sources.{Sources, SourcesQuiet, Telling, sources, views_of}
use Rattle.chunk_sources.specs.Wants.{Task}
use Rattle.chunk_sources.specs.declared.kit.Kit.{Kit}
use Rattle.chunk_store.specs.Members.{maps_of}
use Rattle.chunk_store.specs.declared.id.DigestKind.{DigestKind}
use Rattle.chunk_store.specs.declared.store.Store.{Ghosts as StoreWords}
use Rattle.dsy_base.specs.Bytes.{Held, held_resized, resized}
use Rattle.dsy_base.specs.Counts.{Quiet, Rose, raised}
use Rattle.dsy_base.specs.Maps.{Map}
use Rattle.dsy_base.specs.declared.view.View.{Ghosts as ViewWords}
use Rattle.extract_plan.specs.Deal.{Deal, first_of, want_id}
use Rattle.extract_plan.specs.declared.seed.Seed.{Seed}
use Rattle.image_workers.specs.Beside.{PermitsWith}
use Rattle.image_workers.specs.Kits.{AreKitsAlike, AsksDealt, IsAssembledBy, IsSparedFor, IsUnshared, KitUsed, KnowsFaults, NoneUsed, SomeKitHas, at_kit, dealt_asks, worker_asks, worker_calls}
use Rattle.image_workers.specs.Shared.{all_stores, door_shelf}
use Rattle.image_assembly.specs.Readied.{Permits}
use Rattle.owned_shards.specs.Wholes.{base_told}
use Rattle.range_ledger.specs.Fills.{WhereTold}
use Rattle.range_ledger.specs.Runs.{Run}
use Rattle.range_survey.specs.Reports.{right_below}
use Rattle.range_survey.specs.declared.fate.Fate.{Fate}
use Rattle.range_survey.specs.declared.fate.Fate.TheVariants as fate
use Rattle.range_survey.specs.declared.report.Report.{Report}
use Rattle.store_chain.proofs.Kept.{kept_still}
use Rattle.store_chain.specs.Chains.{Chained}

-- ---- what can be obtained in other words

told_map : (o p : Option (List ℕ)) {P Q : List ℕ → List ℕ → Type 0} → ((y z : List ℕ) → P y z → Q y z) → WhereTold o p P → WhereTold o p Q
told_map None p each has = tt
told_map (Some y) None each has = tt
told_map (Some y) (Some z) each has = each y z has

only_more : (l : Listing) (P Q : ℕ → Type 0) (a b : ℕ) (r : Result Report ExtractFault) (o t : List ℕ) → ((i : ℕ) → P i → Q i) → OnlyObtainable l P a b r o t → OnlyObtainable l Q a b r o t
only_more l P Q a b (Ok r) o t more is = λ i inside. more i (is i inside)
only_more l P Q a b (Err e) o t more (inl same) = inl same
only_more l P Q a b (Err e) o t more (inr is) = inr (record {
  failed = is.failed;
  excused = is.excused;
  each = λ i inside. elim (is.each i inside) [
    | inl can ↦ inl (more i can)
    | inr other ↦ inr other
  ];
})

some_more : (o : Option (List ℕ)) {P Q : List ℕ → Type 0} → ((y : List ℕ) → P y → Q y) → IfSome o P → IfSome o Q
some_more None each has = tt
some_more (Some y) each has = each y has

-- a target that never fails is quiet
pub kept_sure : (r : Result Report ExtractFault) (P : Report → Type 0) (f n : ℕ) → n ≡ 0 → IfOk r (λ x. Quiet f n → P x) → IfOk r P
kept_sure (Ok x) P f n none has = has (record { same = omega (arith, none); below = omega (arith, none) })
kept_sure (Err e) P f n none has = tt

-- ---- the only worker

-- it is dealt each want
deals_all : (d : Deal) (w : ℕ) → d.workers ≡ 1 → deals_to d 0 w ≡ true
deals_all d w one = ap (λ n. w % n == 0) one ∙ eq-eqb (w % 1) 0 (omega arith)

abbrev asks_if : ℕ → Bool → ℕ
asks_if m b = if b then 0 else m

module _ (f g : ℕ → Bool) (same : (w : ℕ) → f w ≡ g w) where
  calls_same : (n : ℕ) → calls_below f n ≡ calls_below g n
  calls_same zero = refl
  calls_same (suc n) = ap (λ (b : Bool). calls_below f n + (if b then 0 else 1)) (same n) ∙ ap (λ (k : ℕ). k + calls_for g n) (calls_same n)

  asks_alike : (ids : ℕ → List ℕ) (q : List ℕ) (n : ℕ) → asks_below ids f n q ≡ asks_below ids g n q
  asks_alike ids q zero = refl
  asks_alike ids q (suc n) =
      ap (λ (k : ℕ). k + asks_for ids f n q) (asks_alike ids q n)
      ∙ ap (λ (b : Bool). asks_below ids g n q + asks_if (if bytes_eq (ids n) q then 1 else 0) b) (same n)

-- a pass asks no more often than both do
pass_within : (these : Bool) (source : Fate) → pass_asks (if these then source else fate.Kept) ≤ all_asks source
pass_within false source = omega arith
pass_within true fate.Open = lit≤ tt
pass_within true fate.Kept = lit≤ tt
pass_within true fate.Copied = lit≤ tt
pass_within true fate.Seeded = lit≤ tt
pass_within true fate.Cached = lit≤ tt
pass_within true fate.Fetched = lit≤ tt

sum_within : (f g : ℕ → ℕ) (n : ℕ) → ((w : ℕ) → f w ≤ g w) → sum_below f n ≤ sum_below g n
sum_within f g zero less = omega arith
sum_within f g (suc n) less = omega (arith, sum_within f g n less, less n)

raised_within : (c a b new : ℕ) → a ≤ b → new ≡ raised c b → raised c a ≤ new
raised_within c a b new less is = omega (arith, less, is)

module _ {S V : Type 0} (store : StoreWords S) (view : ViewWords V) (t : Task) (o : Option (List ℕ)) (old new : Sources S V) where
  abbrev over_base : List (Map (List ℕ)) → List (Map (List ℕ)) → List ℕ → ℕ → Fate
  over_base cached maps y = source_of t (resized y (image_length t.listing)) (views_of view old.seeds) cached maps

  abbrev DealtQuiet : Type 0
  DealtQuiet = WhereQuiet store view t.listing old new (λ cached maps. IfSome o (λ y.
      AsksDealt 0 (dealt_asks t (resized y (image_length t.listing)) (views_of view old.seeds) cached maps 0) old.chain.asks new.chain.asks))

  dealt_within : WhereQuiet store view t.listing old new (λ cached maps. IfSome o (λ y. new.chain.asks ≡ raised old.chain.asks (sum_below (λ w. all_asks (over_base cached maps y w)) t.plan.wants))) → DealtQuiet
  dealt_within calls = λ cached maps nothing one. some_more o
      (λ y is. raised_within old.chain.asks (dealt_asks t (resized y (image_length t.listing)) (views_of view old.seeds) cached maps 0) (sum_below (λ w. all_asks (over_base cached maps y w)) t.plan.wants) new.chain.asks
      (sum_within (λ w. pass_asks (source_if (deals_to t.plan 0) (over_base cached maps y) w)) (λ w. all_asks (over_base cached maps y w)) t.plan.wants (λ w. pass_within (deals_to t.plan 0 w) (over_base cached maps y w))) is)
      (calls cached maps nothing one)

  -- where both passes asked exactly as often as they must, the worker of the one kit has asked for what it is dealt
  dealt_enough : (answer : Result Report ExtractFault)
      → WhereQuiet store view t.listing old new (λ cached maps. IfSome o (λ y. AsksExactly (over_base cached maps y) t.plan.wants old.chain new.chain answer)) → UnlessMemory DealtQuiet answer
  dealt_enough (Ok report) calls = dealt_within calls
  dealt_enough (Err (faults.Missing k id)) calls = dealt_within calls
  dealt_enough (Err (faults.Damaged k id s shows)) calls = dealt_within calls
  dealt_enough (Err (faults.StoreFault s)) calls = dealt_within calls
  dealt_enough (Err faults.TargetFault) calls = dealt_within calls
  dealt_enough (Err faults.Memory) calls = tt

module _ {S V : Type 0} (store : StoreWords S) (view : ViewWords V) (t : Task) (never cache_never : Bool) (o p : Option (List ℕ)) where
  -- ---- one kit

  asks_of_one : t.plan.workers ≡ 1 → (spared : ℕ → Bool) (a b : Chained S)
      → AsksAtMost store (calls_below spared t.plan.wants + calls_below spared t.plan.wants)
      (λ q. asks_below (want_id t.listing t.plan) spared t.plan.wants q + asks_below (want_id t.listing t.plan) spared t.plan.wants q) a b
      → AsksAtMost store (worker_calls t.plan spared 0) (worker_asks t.listing t.plan spared 0) a b
  asks_of_one one spared a b asks =
      let n = t.plan.wants in
      let ids = want_id t.listing t.plan in
      let share = others_spared (deals_to t.plan 0) spared in
      let same : (w : ℕ) → share w ≡ spared w = λ w. ap (λ (b : Bool). if b then spared w else true) (deals_all t.plan w one) in
      let calls = calls_same share spared same n in
      record {
        no_fewer = asks.no_fewer;
        calls = omega (arith, asks.calls, calls);
        no_less = asks.no_less;
        most = λ q k. omega (arith, asks.most q k, asks_alike share spared same ids q n);
      }

  pub by_one : t.plan.workers ≡ 1 → (f n : ℕ) (k j : Kit S V) (e c : Option Shelf) (answer : Result Report ExtractFault)
      → WhereTold o p (Assembles t.listing ⊥ f n answer) → IsAssembled store view t o p (sources f k.seeds.items e k.chain) (sources n j.seeds.items c j.chain) answer
      → (IsTrue never → IfOk answer (λ r. IfSome o (λ y. r.kept ≡ right_below t.listing (resized y (image_length t.listing)) (count_of t.listing))))
      → IsAssembledBy store view t never cache_never o p (lent f (k ∷ []) e) (lent n (j ∷ []) c) answer
  by_one one f n k j e c answer bytes is kept = record {
    bytes = told_as t.listing f n answer o p (λ (no : ⊥). absurd no) bytes;
    lost = λ q r. is.lost;
    had = λ all cached has.
        let at = all 0 k (omega arith) in
        told_map o p (λ y z. only_more t.listing (IsObtainable t (resized y (image_length t.listing)) (views_of view k.seeds.items) (cached ++ at.1.0)) (SomeKitHas store view t (k ∷ []) cached y) f n answer y z
        (λ i can. (0, k, omega arith, refl, (at.1.0, at.1.1, can)))) (is.had at.0 cached at.1.0 has at.1.1);
    exactly = λ alike q r. is.exactly;
    after = λ alike q r. is.after;
    reported = λ unshared sure alike q r cached maps quiet one_size. is.reported cached maps (quiet 0 (omega arith)) one_size;
    shared = λ sure calm alike q r cached maps quiet one_size. together_told (λ y. source_of t (resized y (image_length t.listing)) (views_of view k.seeds.items) cached maps) t.plan.wants answer o
        (is.reported cached maps (quiet 0 (omega arith)) one_size);
    kept = kept;
    stocked = subst (λ (xs : List S). Stocked (TakesListed store t.listing xs) e c) (sym (append-nil k.chain.stores)) is.stocked;
    first = λ why q. is.stocked;
    kits = refl;
    each = λ i q r less. used i q r less;
  } where
    used : (i : ℕ) (q r : Kit S V) → i < 1 → KitUsed store view t never cache_never o (lent f (k ∷ []) e) i (at_kit (lent f (k ∷ []) e) i q) (at_kit (lent n (j ∷ []) c) i r) answer
    used zero q r less = record {
      asks = λ spared are. asks_of_one one spared k.chain j.chain (is.asks spared (λ w below so. spares w (are w below so)));
      exactly = λ unshared sure. dealt_enough store view t o (sources f k.seeds.items e k.chain) (sources n j.seeds.items c j.chain) answer is.economy;
      stores = is.stores;
      seeds = is.seeds;
      kind = is.kind;
    } where
      spares : (w : ℕ) → IsSparedFor store view t never cache_never o (lent f (k ∷ []) e) (sources f k.seeds.items e k.chain) (sources n j.seeds.items c j.chain) w
          → SparedOver store view t o (sources f k.seeds.items e k.chain) (sources n j.seeds.items c j.chain) w
      spares w (inl (inl ((i, among, right), quiet))) = inl ((i, among, right.0), quiet)
      spares w (inl (inr (inl seeds))) = inr (inl seeds)
      spares w (inl (inr (inr gives))) = let none = gives.gives in let less : none.0 < 0 = none.2 in absurd (omega (arith, less))
      spares w (inr (gives, known)) = inr (inr (subst (λ (xs : List S). CacheGives store t.listing xs (want_id t.listing t.plan w) (size_of t.listing (first_of t.plan w)) e c) (append-nil k.chain.stores) gives))
    used (suc i) q r less = absurd (omega (arith, less))

-- ---- nothing was used

-- where the target failed, what is so where nothing fails
unless_failed : (f n : ℕ) (fault : ExtractFault) → ((fault ≡ faults.TargetFault) × Rose f n) ⊎ (fault ≡ faults.Memory) → (P : Type 0) → (Rose f n → P) → UnlessMemory {A = Report} P (Err fault)
unless_failed f n fault (inl failed) P so = unless_any {A = Report} P (Err fault) (so failed.1)
unless_failed f n fault (inr memory) P so = subst (λ (w : ExtractFault). UnlessMemory {A = Report} P (Err w)) (sym memory) tt

module _ {S V : Type 0} (store : StoreWords S) (view : ViewWords V) (t : Task) (never cache_never : Bool) (old new : Held) (f n : ℕ) (fn : f ≤ n) (e : Option Shelf) (fault : ExtractFault)
    (why : ((fault ≡ faults.TargetFault) × Rose f n) ⊎ (fault ≡ faults.Memory)) (stands : (new ≡ old) ⊎ (new ≡ held_resized old (image_length t.listing))) where
  unused_by : (kits : List (Kit S V)) (k : ℕ) (q r : Kit S V) → k < length kits → KitUsed store view t never cache_never old.bytes (lent f kits e) k (at_kit (lent f kits e) k q) (at_kit (lent n kits e) k r) (Err fault)
  unused_by kits k q r less =
      let j = slice_index_or kits k q in
      subst (λ (z : Kit S V). KitUsed store view t never cache_never old.bytes (lent f kits e) k (at_kit (lent f kits e) k q) (sources n z.seeds.items e z.chain) (Err fault)) (get_or_default kits k q r less)
      (record {
        asks = λ spared are. asks_none store (worker_calls t.plan spared k) (worker_asks t.listing t.plan spared k) j.chain;
        exactly = λ unshared sure. unless_failed f n fault why _ (λ rose cached maps nothing one. absurd (quiet_never f n nothing.target rose));
        stores = kept_still store (IsListedGet t.listing) j.chain.stores;
        seeds = seeds_none view j.seeds.items;
        kind = refl;
      })

  pub by_none : (kits : List (Kit S V)) → 0 < length kits → IsAssembledBy store view t never cache_never old.bytes new.bytes (lent f kits e) (lent n kits e) (Err fault)
  by_none [] some = absurd (omega (arith, some))
  by_none (k ∷ ks) some =
      let is = assembled_none store view t old new f n fn k.seeds.items e k.chain fault why stands in
      record {
        bytes = assembles_none t.listing (NoneUsed (lent f (k ∷ ks) e) (lent n (k ∷ ks) e)) (refl, refl) old new f n fn fault why stands;
        lost = λ q r. is.lost;
        had = λ all cached has. only_first t.listing (SomeKitHas store view t (k ∷ ks) cached) f n fn fault old.bytes new.bytes (elim stands [
          | inl same ↦ inl (ap (λ (h : Held). h.bytes) same)
          | inr long ↦ inr (ap (λ (h : Held). h.bytes) long)
        ]);
        exactly = λ alike q r. is.exactly;
        after = λ alike q r. is.after;
        reported = λ unshared sure alike q r cached maps quiet one. is.reported cached maps (quiet 0 (omega arith)) one;
        shared = λ sure calm alike q r cached maps quiet one. together_told (λ y. source_of t (resized y (image_length t.listing)) (views_of view k.seeds.items) cached maps) t.plan.wants (Err fault) old.bytes
            (is.reported cached maps (quiet 0 (omega arith)) one);
        kept = λ sure. tt;
        stocked = stocked_none (TakesListed store t.listing (all_stores (k ∷ ks))) e;
        first = λ why q. is.stocked;
        kits = refl;
        each = λ i q r less. unused_by (k ∷ ks) i q r less;
      }

-- ---- kits with other room

pub at_map : {A B : Type 0} (h : A → B) (xs : List A) (n : ℕ) (d : A) → h (slice_index_or xs n d) ≡ slice_index_or (map h xs) n (h d)
at_map h [] n d = refl
at_map h (x ∷ xs) zero d = refl
at_map h (x ∷ xs) (suc n) d = at_map h xs n d

at_same : {A B : Type 0} (h : A → B) (ms xs : List A) → map h ms ≡ map h xs → (n : ℕ) (d : A) → h (slice_index_or ms n d) ≡ h (slice_index_or xs n d)
at_same h ms xs same n d = at_map h ms n d ∙ ap (λ zs. slice_index_or zs n (h d)) same ∙ sym (at_map h xs n d)

module _ {S V : Type 0} (ms xs : List (Kit S V)) (chains : map (λ k. k.chain) ms ≡ map (λ k. k.chain) xs) (seeds : map (λ k. k.seeds) ms ≡ map (λ k. k.seeds) xs) where
  pub as_long : length ms ≡ length xs
  as_long = sym (length-map ms (λ (k : Kit S V). k.chain)) ∙ ap length chains ∙ length-map xs (λ (k : Kit S V). k.chain)

  pub chain_at : (n : ℕ) (d : Kit S V) → (slice_index_or ms n d).chain ≡ (slice_index_or xs n d).chain
  chain_at = at_same (λ (k : Kit S V). k.chain) ms xs chains

  pub seeds_at : (n : ℕ) (d : Kit S V) → (slice_index_or ms n d).seeds ≡ (slice_index_or xs n d).seeds
  seeds_at = at_same (λ (k : Kit S V). k.seeds) ms xs seeds

  sources_at : (f : ℕ) (e : Option Shelf) (n : ℕ) (d : Kit S V) → at_kit (lent f ms e) n d ≡ at_kit (lent f xs e) n d
  sources_at f e n d =
      ap (λ c. sources f (slice_index_or ms n d).seeds.items e c) (chain_at n d)
      ∙ ap (λ s. sources f s.items e (slice_index_or xs n d).chain) (seeds_at n d)

  -- what is so by chain and seeds
  pub all_same : (P : Chained S → List (Seed V) → Type 0) → All (λ k. P k.chain k.seeds.items) xs → All (λ k. P k.chain k.seeds.items) ms
  all_same P all n d less =
      subst (λ c. P c (slice_index_or ms n d).seeds.items) (sym (chain_at n d))
      (subst (λ s. P (slice_index_or xs n d).chain s.items) (sym (seeds_at n d)) (all n d (omega (arith, less, as_long))))

  pub any_same : (P : Chained S → List (Seed V) → Type 0) → Any (λ k. P k.chain k.seeds.items) xs → Any (λ k. P k.chain k.seeds.items) ms
  any_same P (n, k, less, is, so) =
      let less_too : n < length ms = omega (arith, less, as_long) in
      let here = slice_index_or ms n k in (
        n,
        here,
        less_too,
        get_or_default ms n here k less_too,
        subst (λ c. P c here.seeds.items) (sym (chain_at n k ∙ ap (λ (z : Kit S V). z.chain) is))
            (subst (λ s. P k.chain s.items) (sym (seeds_at n k ∙ ap (λ (z : Kit S V). z.seeds) is)) so),
      )

module _ {S V : Type 0} (store : StoreWords S) (view : ViewWords V) (ms xs : List (Kit S V)) (chains : map (λ k. k.chain) ms ≡ map (λ k. k.chain) xs) (seeds : map (λ k. k.seeds) ms ≡ map (λ k. k.seeds) xs) where
  abbrev Tells : Chained S → List (Seed V) → Type 0
  Tells c s = Telling view.tells (views_of view s) × ((maps : List (Map (List ℕ))) × (maps_of store.members c.stores ≡ Some maps))

  abbrev Has : Task → List (Map (List ℕ)) → List ℕ → ℕ → Chained S → List (Seed V) → Type 0
  Has t cached y i c s = (maps : List (Map (List ℕ))) × (maps_of store.members c.stores ≡ Some maps) × IsObtainable t (resized y (image_length t.listing)) (views_of view s) (cached ++ maps) i

  long : length ms ≡ length xs
  long = as_long ms xs chains seeds

  -- all stores together
  abbrev stores_in : List (Chained S) → List S
  stores_in [] = []
  stores_in (c ∷ cs) = c.stores ++ stores_in cs

  stores_are : (ks : List (Kit S V)) → all_stores ks ≡ stores_in (map (λ k. k.chain) ks)
  stores_are [] = refl
  stores_are (k ∷ ks) = ap (λ zs. k.chain.stores ++ zs) (stores_are ks)

  same_stores : all_stores ms ≡ all_stores xs
  same_stores = stores_are ms ∙ ap stores_in chains ∙ sym (stores_are xs)

  -- the run permits with them as with those
  pub permits_same : (r : Run) (t : Task) (kind : DigestKind) (first : Option (Map (List ℕ))) (taken : List ℕ) (failed : ℕ) (pairs : Option (List (List ℕ × ℕ))) (maps : Option (List (Map (List ℕ)))) (cache : Option Shelf)
      → Permits store view r t xs kind first taken failed pairs maps cache → Permits store view r t ms kind first taken failed pairs maps cache
  permits_same r t kind first taken failed pairs maps cache is = record {
    digest = is.digest;
    shelf = is.shelf;
    listed = is.listed;
    stores = is.stores ∙ ap (λ (ys : List S). maps_of store.members ys) (sym same_stores);
    each = all_same ms xs chains seeds (λ c s. PermitsWith view.tells r t (views_of view s) (given_maps (door_shelf kind first pairs maps 0 cache)) (maps_of store.members c.stores)) is.each;
    had = λ all cached told. some_more (base_told r) (λ y has i inside may. any_same ms xs chains seeds (Has t cached y i) (has i inside may))
        (is.had (all_same xs ms (sym chains) (sym seeds) Tells all) cached told);
  }

  -- so has an assembly with them
  module _ (t : Task) (never cache_never : Bool) (o p : Option (List ℕ)) (f : ℕ) (e : Option Shelf) (new : Lent S V) (answer : Result Report ExtractFault) where
    pub by_same : WhereTold o p (Assembles t.listing (NoneUsed (lent f xs e) new) f new.faults answer) → IsAssembledBy store view t never cache_never o p (lent f ms e) new answer
        → IsAssembledBy store view t never cache_never o p (lent f xs e) new answer
    by_same bytes is = record {
      bytes = bytes;
      lost = λ q j. subst (λ (s : Sources S V). EndsBy (IsUnobtained store view t o s (at_kit new 0 j)) (Rose f new.faults) answer) (sources_at ms xs chains seeds f e 0 q) (is.lost q j);
      had = λ all cached has. told_map o p (λ y z. only_more t.listing (SomeKitHas store view t ms cached y) (SomeKitHas store view t xs cached y) f new.faults answer y z
          (λ i. any_same xs ms (sym chains) (sym seeds) (Has t cached y i))) (is.had (all_same ms xs chains seeds Tells all) cached has);
      exactly = λ alike q j. subst (λ (s : Sources S V). WhereQuiet store view t.listing s (at_kit new 0 j) (λ cached maps. IfSome o (λ y. Verdict t.listing
          (IsObtainable t (resized y (image_length t.listing)) (views_of view s.seeds) (cached ++ maps)) answer))) (sources_at ms xs chains seeds f e 0 q) (is.exactly (alike_too alike) q j);
      after = λ alike q j. subst (λ (s : Sources S V). WhereQuiet store view t.listing s (at_kit new 0 j) (λ cached maps. WhereTold o p (λ y z. After t.listing
          (IsObtainable t (resized y (image_length t.listing)) (views_of view s.seeds) (cached ++ maps)) (resized y (image_length t.listing)) z answer))) (sources_at ms xs chains seeds f e 0 q)
          (is.after (alike_too alike) q j);
      reported = λ unshared sure alike q j cached maps quiet one. subst (λ (s : Sources S V). IfSome o (λ y. IfOk answer (ReportsExactly
          (source_of t (resized y (image_length t.listing)) (views_of view s.seeds) cached maps) t.plan.wants))) (sources_at ms xs chains seeds f e 0 q)
          (is.reported (unshared_too unshared) sure (alike_too alike) q j cached maps
          (λ k less. subst (λ (s : Sources S V). SourcesQuiet store view (kind_of t.listing) (IsListedAs t.listing) s (at_kit new k j) cached maps) (sym (sources_at ms xs chains seeds f e k q)) (quiet k (omega (arith, less, long)))) one);
      shared = λ sure calm alike q j cached maps quiet one. subst (λ (s : Sources S V). IfSome o (λ y. IfOk answer (ReportsTogether
          (source_of t (resized y (image_length t.listing)) (views_of view s.seeds) cached maps) t.plan.wants))) (sources_at ms xs chains seeds f e 0 q)
          (is.shared sure calm (alike_too alike) q j cached maps
          (λ k less. subst (λ (s : Sources S V). SourcesQuiet store view (kind_of t.listing) (IsListedAs t.listing) s (at_kit new k j) cached maps) (sym (sources_at ms xs chains seeds f e k q)) (quiet k (omega (arith, less, long)))) one);
      kept = is.kept;
      stocked = subst (λ (ys : List S). Stocked (TakesListed store t.listing ys) e new.cache) same_stores is.stocked;
      first = λ why q. subst (λ (s : Sources S V). Stocked (TakesListed store t.listing s.chain.stores) e new.cache) (sources_at ms xs chains seeds f e 0 q) (is.first (elim why [
        | inl unshared ↦ inl (unshared_too unshared)
        | inr alike ↦ inr (alike_too alike)
      ]) q);
      kits = is.kits ∙ long;
      each = λ k q j less. used_too k (at_kit (lent f xs e) k q) (at_kit new k j)
          (subst (λ (s : Sources S V). KitUsed store view t never cache_never o (lent f ms e) k s (at_kit new k j) answer) (sources_at ms xs chains seeds f e k q) (is.each k q j (omega (arith, less, long))));
    } where
      unshared_too : IsUnshared (lent f xs e) → IsUnshared (lent f ms e)
      unshared_too (inl one) = inl (long ∙ one)
      unshared_too (inr none) = inr none

      knows_too : (sure : Bool) → KnowsFaults sure xs → KnowsFaults sure ms
      knows_too sure (inl one) = inl (long ∙ one)
      knows_too sure (inr is) = inr is

      spared_too : (s n : Sources S V) (w : ℕ) → IsSparedFor store view t never cache_never o (lent f xs e) s n w → IsSparedFor store view t never cache_never o (lent f ms e) s n w
      spared_too s n w (inl (inl ((i, among, (right, known)), quiet))) = inl (inl ((i, among, (right, knows_too never known)), quiet))
      spared_too s n w (inl (inr rest)) = inl (inr rest)
      spared_too s n w (inr (gives, known)) =
          inr (subst (λ (ys : List S). CacheGives store t.listing ys (want_id t.listing t.plan w) (size_of t.listing (first_of t.plan w)) s.cache n.cache) (sym same_stores) gives, knows_too cache_never known)

      used_too : (k : ℕ) (s n : Sources S V) → KitUsed store view t never cache_never o (lent f ms e) k s n answer → KitUsed store view t never cache_never o (lent f xs e) k s n answer
      used_too k s n used = record {
        asks = λ spared are. used.asks spared (λ w below so. spared_too s n w (are w below so));
        exactly = λ unshared. used.exactly (unshared_too unshared);
        stores = used.stores;
        seeds = used.seeds;
        kind = used.kind;
      }

      members_at : (k : ℕ) (q : Kit S V) → map store.members (slice_index_or ms k q).chain.stores ≡ map store.members (slice_index_or xs k q).chain.stores
      members_at k q = ap (λ (c : Chained S). map store.members c.stores) (chain_at ms xs chains seeds k q)

      views_at : (k : ℕ) (q : Kit S V) → views_of view (slice_index_or ms k q).seeds.items ≡ views_of view (slice_index_or xs k q).seeds.items
      views_at k q = ap (λ s. views_of view s.items) (seeds_at ms xs chains seeds k q)

      alike_too : AreKitsAlike store view t xs → AreKitsAlike store view t ms
      alike_too alike k q less =
          let so = alike k q (omega (arith, less, long)) in
          (views_at k q ∙ so.0 ∙ sym (views_at 0 q), members_at k q ∙ so.1 ∙ sym (members_at 0 q))
