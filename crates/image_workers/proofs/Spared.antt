-- How often each worker asks, by what is spared over the whole assembly: between it the target went over to shards of
-- which the survey was over at w0, and which were joined again at w1.
use Rattle.std.proofs.Common.{◌≡◌, ◌⊎◌, ◌∙◌, ◌&&◌, ◌+◌, ◌<◌, ◌≤◌, ℕ, List, [], Bool, Option, Some, None, IfSome, IsSomeAnd, IsTrue, Result, is_some, length, slice_index, slice_index_or, true, refl, sym, ap, subst, inl, inr, arith}
use Rattle.std.proofs.lemmas.Bool.{true≢false}
use Rattle.assembler.proofs.Asked.{asks_on, asks_up}
use Rattle.assembler.proofs.Counted.{quiet_part}
use Rattle.assembler.proofs.Entries.{listed_of}
use Rattle.assembler.proofs.Stepped.{seeds_on}
use Rattle.assembler.specs.Economy.{UnlessMemory}
use Rattle.assembler.specs.OneKit.{Lent, lent}
use Rattle.assembler.specs.Passes.{HasPassed, WhereQuiet, one_pass}
use Rattle.assembler.specs.Permits.{deals_to}
use Rattle.assembler.specs.Stages.{Stage, from}
use Rattle.assembler.specs.declared.fault.ExtractFault.{ExtractFault}
use Rattle.cache_store.specs.Giving.{SomeGives}
use Rattle.cache_store.specs.Shelves.{Shelf}
use Rattle.caibx_codec.specs.Asks.{IsListedGet}
use Rattle.caibx_codec.specs.Listing.{count_of, image_length, kind_of, size_of}
use Rattle.caibx_codec.specs.Right.{IsRightAt}
use Rattle.chunk_sources.proofs.Lacking.{quiet_never}
use Rattle.chunk_sources.specs.Asks.{CacheGivesWant, IsSpared, IsSparedBeside, IsSparedIf, asks_below, calls_below, others_spared}
use Rattle.chunk_sources.specs.Caches.{AddsSize, CacheGives, Stocked}
use Rattle.chunk_sources.specs.Sources.{HeldAt, Sources, counts_of, sources, views_of}
use Rattle.chunk_sources.specs.Wants.{IsAmong, Task}
use Rattle.chunk_sources.specs.declared.kit.Kit.{Kit}
use Rattle.chunk_store.specs.declared.store.Store.{Ghosts as StoreWords}
use Rattle.dsy_base.specs.Bytes.{resized}
use Rattle.dsy_base.specs.Counts.{Quiet, Rose}
use Rattle.dsy_base.specs.Maps.{Map}
use Rattle.dsy_base.specs.declared.view.View.{Ghosts as ViewWords}
use Rattle.extract_plan.specs.Deal.{AreWants, Deal, first_of, of_want, want_id}
use Rattle.extract_plan.specs.Places.{Placed}
use Rattle.image_workers.specs.Beside.{joined_stage}
use Rattle.image_workers.proofs.Sharing.{Adds, door, door_size, gives_between, gives_first}
use Rattle.image_workers.specs.Kits.{AsksDealt, IsSparedFor, IsUnshared, KitUsed, KnowsFaults, dealt_asks, once_more}
use Rattle.image_workers.specs.Shared.{all_stores}
use Rattle.image_workers.specs.Lanes.{HasWorked, worker_stage}
use Rattle.owned_shards.specs.Wholes.{KeptWhole, Whole}
use Rattle.range_ledger.specs.Runs.{Run}
use Rattle.range_survey.proofs.Excused.{excused_rose}
use Rattle.range_survey.specs.Fates.{settled}
use Rattle.range_survey.specs.declared.fate.Fate.{Fate}
use Rattle.range_survey.specs.declared.report.Report.{Report}
use Rattle.store_chain.proofs.Kept.{kept_on}
use Rattle.store_chain.specs.Faults.{NoneFalls}

-- ---- the base

-- the target tells that this entry is right in the base
right_in_base : (r : Run) (o : Option (List ℕ)) → IfSome o (λ y. r.base ≡ resized y (image_length r.listing)) → is_some o ≡ r.tells → (j : ℕ)
    → IsSomeAnd o (λ b. IsRightAt (resized b (image_length r.listing)) r.listing j) → IsTrue r.tells × IsRightAt r.base r.listing j
right_in_base r None base told j right = absurd right
right_in_base r (Some y) base told j right = (sym told, subst (λ b. IsRightAt b r.listing j) (sym base) right)

-- then it is settled in the shards, or a call on them failed
pub settled_or : (r : Run) (w : Whole) (o : Option (List ℕ)) → is_some o ≡ r.tells → IfSome o (KeptWhole r w) → IsTrue r.tells → (j : ℕ) → j < count_of r.listing → IsRightAt r.base r.listing j
    → (settled w.fates j ≡ true) ⊎ Rose w.faults_before w.faults
settled_or r w None told kept tells j inside right = absurd (true≢false (sym tells ∙ sym told))
settled_or r w (Some y) told kept tells j inside right = elim (kept.base_right j inside right) [
  | inl is ↦ inl is
  | inr failed ↦ inr (excused_rose kept.failed j w.faults_before w.faults failed kept.excused)
]

pub both_so : (x y : Bool) → x ≡ true → y ≡ true → (x && y) ≡ true
both_so x y one other = ap (λ b. b && y) one ∙ other

pub none_quiet : (n : ℕ) → n ≡ 0 → Quiet 0 n
none_quiet n none = record { same = omega (arith, none); below = omega (arith, none) }

-- ---- over a part of a stretch

module _ {S V : Type 0} (store : StoreWords S) (view : ViewWords V) (t : Task) where
  no_cache : (stores : List S) (e : Option Shelf) (id : List ℕ) (size : ℕ) → CacheGives store t.listing stores id size None e → ⊥
  no_cache stores e id size gives = let some : SomeGives (kind_of t.listing) id size [] = gives.gives in let less : some.0 < 0 = some.2 in omega (arith, less)

  -- an entry is right in the base, which all workers know
  abbrev RightFor : Bool → Option (List ℕ) → Lent S V → ℕ → Type 0
  RightFor never o all j = IsSomeAnd o (λ b. IsRightAt (resized b (image_length t.listing)) t.listing j) × KnowsFaults never all.kits

  -- what is spared from s0 to s1 is spared between, from a0 to a1
  spared_as : (never cache_never : Bool) (o : Option (List ℕ)) (all : Lent S V) (Now : ℕ → Type 0) (s0 s1 a0 a1 : Sources S V) (w : ℕ)
      → ((j : ℕ) → IsAmong (of_want t.plan w) j → RightFor never o all j → Quiet s0.faults s1.faults → Now j × Quiet a0.faults a1.faults)
      → views_of view a0.seeds ≡ views_of view s0.seeds → NoneFalls (counts_of view s0.seeds) (counts_of view a0.seeds) → NoneFalls (counts_of view a1.seeds) (counts_of view s1.seeds)
      → (Cached : Type 0) → (CacheGives store t.listing (all_stores all.kits) (want_id t.listing t.plan w) (size_of t.listing (first_of t.plan w)) s0.cache s1.cache → KnowsFaults cache_never all.kits → Cached)
      → IsSparedFor store view t never cache_never o all s0 s1 w → IsSparedIf store view t Cached Now a0 a1 w
  spared_as never cache_never o all Now s0 s1 a0 a1 w so held before after Cached given (inl (inl ((j, among, is), quiet))) = let now = so j among is quiet in inl ((j, among, now.0), now.1)
  spared_as never cache_never o all Now s0 s1 a0 a1 w so held before after Cached given (inl (inr (inl (k, p, inside, at, (has, quiet))))) =
      let count : Sources S V → ℕ = λ y. slice_index (counts_of view y.seeds) p.seed in
      inr (inl (
        k,
        p,
        inside,
        at,
        (subst (λ views. HeldAt views p (want_id t.listing t.plan w)) (sym held) has, quiet_part (count s0) (count a0) (count a1) (count s1) (before p.seed) (after p.seed) quiet),
      ))
  spared_as never cache_never o all Now s0 s1 a0 a1 w so held before after Cached given (inl (inr (inr gives))) =
      absurd (no_cache s0.chain.stores s1.cache (want_id t.listing t.plan w) (size_of t.listing (first_of t.plan w)) gives)
  spared_as never cache_never o all Now s0 s1 a0 a1 w so held before after Cached given (inr (gives, known)) = inr (inr (given gives known))

-- ---- the workers

module _ {S V : Type 0} (store : StoreWords S) (view : ViewWords V) (r : Run) (d : Deal) (x : Placed) (wants : AreWants r.listing d.wants d.want_of) where
  abbrev t : Task
  t = record { listing = r.listing; plan = d; places = x }

  -- what is known of the target where it was in shards: its bytes were o, and the count of its faults goes from f to g
  pub record WasInShards (never : Bool) (o : Option (List ℕ)) (f g : ℕ) (w0 w1 : Whole) : Type 0 where
    pub base : IfSome o (λ y. r.base ≡ resized y (image_length r.listing))
    pub told : is_some o ≡ r.tells
    pub before : f ≤ w0.faults_before
    pub sure : IsTrue never → w0.faults ≡ w0.faults_before
    pub same : w1.faults_before ≡ w0.faults_before
    pub rises : w1.faults_before ≤ w1.faults
    pub ends : w1.faults ≤ g
    pub tells : is_some w0.held.bytes ≡ r.tells
    pub kept : IfSome w0.held.bytes (KeptWhole r w0)
    pub tells_then : is_some w1.held.bytes ≡ r.tells
    pub kept_then : IfSome w1.held.bytes (KeptWhole r w1)

  -- how often worker k asks where nothing fails
  abbrev pub ExactlyDealt : Bool → Option (List ℕ) → ℕ → Sources S V → Sources S V → Result Report ExtractFault → Type 0
  ExactlyDealt never o k old new answer = IsTrue never → UnlessMemory (WhereQuiet store view r.listing old new (λ cached maps. IfSome o (λ y.
      AsksDealt k (dealt_asks t (resized y (image_length r.listing)) (views_of view old.seeds) cached maps k) old.chain.asks new.chain.asks))) answer

  module _ (kits : List (Kit S V)) (first : Option (Map (List ℕ))) (c0 : Option Shelf) (opens : IfSome c0 (λ s. first ≡ s.files)) (never cache_never : Bool) (o : Option (List ℕ)) (f g : ℕ)
      (w0 w1 : Whole) (was : WasInShards never o f g w0 w1) (some : 2 ≤ length kits) where
    abbrev all : Lent S V
    all = lent f kits c0

    -- the door of each worker
    abbrev e0 : Option Shelf
    e0 = door store r.listing kits first c0

    -- an entry of the want is right in the base, which all workers know
    abbrev Is : ℕ → Type 0
    Is j = RightFor store view t never o all j

    is_never : (never : Bool) → KnowsFaults never kits → IsTrue never
    is_never never (inl one) = absurd (omega (arith, one, some))
    is_never never (inr so) = so

    -- then the survey has settled it
    settled_first : (j : ℕ) → j < count_of r.listing → Is j → Quiet f g → settled w0.fates j ≡ true
    settled_first j inside is quiet =
        let right = right_in_base r o was.base was.told j is.0 in
        elim (settled_or r w0 w0.held.bytes was.tells was.kept right.0 j inside right.1) [
          | inl so ↦ so
          | inr rose ↦
              let no : Quiet w0.faults_before w0.faults = record {
                same = omega (arith, was.sure (is_never never is.1));
                below = omega (arith, was.sure (is_never never is.1), was.same, was.rises, was.ends, quiet.below);
              } in absurd (quiet_never w0.faults_before w0.faults no rose)
        ]

    -- and it is settled at the second pass
    settled_then : (j : ℕ) → j < count_of r.listing → Is j → Quiet f g → settled w1.fates j ≡ true
    settled_then j inside is quiet =
        let right = right_in_base r o was.base was.told j is.0 in
        elim (settled_or r w1 w1.held.bytes was.tells_then was.kept_then right.0 j inside right.1) [
          | inl so ↦ so
          | inr rose ↦ absurd (quiet_never w1.faults_before w1.faults (quiet_part f w1.faults_before w1.faults g (omega (arith, was.before, was.same)) was.ends quiet) rose)
        ]

    module _ (k : ℕ) (z b : Kit S V) (less : k < length kits) (n : List Fate) (lacked : Bool) (by : HasWorked store view r t e0 never cache_never k (slice_index_or kits k z) w0.fates b n lacked) where
      abbrev a : Kit S V
      a = slice_index_or kits k z

      -- a want that is spared over the whole is spared over its way
      spared_first : (s1 : Sources S V) → s1.faults ≡ g → NoneFalls (counts_of view b.seeds.items) (counts_of view s1.seeds) → (w : ℕ)
          → IsSparedFor store view t never cache_never o all (sources f a.seeds.items c0 a.chain) s1 w
          → IsSparedBeside store view t (λ j. settled w0.fates j ≡ true) (from (worker_stage r w0.fates 0 e0 a)) (from (worker_stage r n by.faults by.door b)) w
      spared_first s1 count after w is = spared_as store view t never cache_never o all (λ j. settled w0.fates j ≡ true) (sources f a.seeds.items c0 a.chain) s1 (from (worker_stage r w0.fates 0 e0 a))
          (from (worker_stage r n by.faults by.door b)) w
          (λ j among right quiet. (
            settled_first j (listed_of r.listing d w j wants among) right (subst (Quiet f) count quiet),
            none_quiet by.faults (by.sure (both_so never r.tells (is_never never right.1) (right_in_base r o was.base was.told j right.0).0)),
          ))
          refl (λ s. omega arith) after
          (CacheGivesWant store view t (from (worker_stage r w0.fates 0 e0 a)) (from (worker_stage r n by.faults by.door b)) w × AddsSize (want_id r.listing d w) (size_of r.listing (first_of d w)) e0)
          (λ gives known. (
            gives_first store view r.listing d x wants kits first c0 s1.cache by.door opens (by.calm (is_never cache_never known)) k z less (want_id r.listing d w) (size_of r.listing (first_of d w)) gives,
            door_size store r.listing kits first c0 (want_id r.listing d w) (size_of r.listing (first_of d w)) gives.one_size,
          ))
          is

      -- what became of the kit of another worker than the first
      pub used_once : (e : Option Shelf) (answer : Result Report ExtractFault) → (IsUnshared all → ExactlyDealt never o k (sources f a.seeds.items c0 a.chain) (sources g b.seeds.items e b.chain) answer)
          → KitUsed store view t never cache_never o all k (sources f a.seeds.items c0 a.chain) (sources g b.seeds.items e b.chain) answer
      used_once e answer exactly = record {
        asks = λ spared are.
            let f0 = others_spared (deals_to d k) spared in
            let ids = want_id r.listing d in
            asks_up store (calls_below f0 d.wants) (calls_below f0 d.wants + once_more k (calls_below spared d.wants)) (λ q. asks_below ids f0 d.wants q)
            (λ q. asks_below ids f0 d.wants q + once_more k (asks_below ids spared d.wants q)) a.chain b.chain (omega arith) (λ q. omega arith)
            (by.passed.asks spared (λ w below these is. spared_first (sources g b.seeds.items e b.chain) refl (λ s. omega arith) w (are w below is)));
        exactly = exactly;
        stores = by.passed.stretch.step.stores;
        seeds = by.passed.stretch.step.seeds;
        kind = by.passed.stretch.step.kind;
      }

    -- what became of the kit of the first worker, which made the second pass with it
    module _ (z b : Kit S V) (n : List Fate) (lacked : Bool) (by : HasWorked store view r t e0 never cache_never 0 (slice_index_or kits 0 z) w0.fates b n lacked) (c1 : Option Shelf)
        (stocked : Stocked (Adds store r.listing kits) c0 c1) (end : Stage S V) (passed : HasPassed store view t one_pass (joined_stage w1 c1 b) end) where
      abbrev was_first : Kit S V
      was_first = slice_index_or kits 0 z

      any_kit : 0 < length kits
      any_kit = omega (arith, some)

      spared_second : end.faults ≡ g → (w : ℕ) → IsSparedFor store view t never cache_never o all (sources f was_first.seeds.items c0 was_first.chain) (from end) w
          → IsSpared store view t (λ j. settled w1.fates j ≡ true) (from (joined_stage w1 c1 b)) (from end) w
      spared_second count w is =
          let step = by.passed.stretch.step in
          spared_as store view t never cache_never o all (λ j. settled w1.fates j ≡ true) (sources f was_first.seeds.items c0 was_first.chain) (from end) (from (joined_stage w1 c1 b)) (from end) w
          (λ j among right quiet. (
            settled_then j (listed_of r.listing d w j wants among) right (subst (Quiet f) count quiet),
            quiet_part f w1.faults end.faults end.faults (omega (arith, was.before, was.same, was.rises)) (omega arith) quiet,
          ))
          step.seeds.held step.seeds.never_fall (λ s. omega arith) (CacheGivesWant store view t (from (joined_stage w1 c1 b)) (from end) w)
          (λ gives known. gives_between store view r.listing d x wants kits c0 c1 stocked z b any_kit step.stores.members end.cache passed.stretch.stocked (want_id r.listing d w) (size_of r.listing (first_of d w)) gives)
          is

      pub used_twice : end.faults ≡ g → (answer : Result Report ExtractFault) → (IsUnshared all → ExactlyDealt never o 0 (sources f was_first.seeds.items c0 was_first.chain) (from end) answer)
          → KitUsed store view t never cache_never o all 0 (sources f was_first.seeds.items c0 was_first.chain) (from end) answer
      used_twice count answer exactly =
          let step = by.passed.stretch.step in
          let next = passed.stretch.step in
          record {
            asks = λ spared are.
                let f0 = others_spared (deals_to d 0) spared in
                let ids = want_id r.listing d in
                asks_on store (calls_below f0 d.wants) (calls_below spared d.wants) (λ q. asks_below ids f0 d.wants q) (λ q. asks_below ids spared d.wants q) was_first.chain b.chain end.kit.chain
                (by.passed.asks spared (λ w below these is. spared_first 0 z b any_kit n lacked by (from end) count next.seeds.never_fall w (are w below is)))
                (passed.asks spared (λ w below is. spared_second count w (are w below is)));
            exactly = exactly;
            stores = kept_on store (IsListedGet r.listing) was_first.chain.stores b.chain.stores end.kit.chain.stores step.stores next.stores;
            seeds = seeds_on view was_first.seeds.items b.seeds.items end.kit.seeds.items step.seeds next.seeds;
            kind = next.kind ∙ step.kind;
          }
