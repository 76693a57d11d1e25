-- How often each worker asks where nothing fails, of a target whose type never does: what the survey has settled is what
-- is right in the base, so that the source of a want is that over the base.
use Rattle.std.proofs.Common.{◌≡◌, ◌∙◌, ℕ, zero, suc, ◌<◌, List, Bool, Option, Some, None, IfSome, IsTrue, Result, Err, is_some, if◌then◌else◌, map, slice_index, true, false, refl, sym, ap, subst, inl, inr, arith}
use Rattle.std.proofs.lemmas.Bool.{cases_Bool, true≢false}
use Rattle.std.proofs.lemmas.Slice.Eq.{bytes_eq-Decides}
use Rattle.assembler.proofs.Counted.{quiet_part}
use Rattle.assembler.proofs.EconomyRetried.{unless_any}
use Rattle.assembler.proofs.EconomySources.{source_same}
use Rattle.assembler.proofs.EconomySums.{sum_same}
use Rattle.assembler.proofs.Entries.{listed_of}
use Rattle.assembler.specs.Economy.{UnlessMemory}
use Rattle.assembler.specs.Passes.{HasPassed, WhereQuiet, one_pass, source_at}
use Rattle.assembler.specs.Permits.{deals_to}
use Rattle.assembler.specs.Stages.{Stage, from}
use Rattle.assembler.specs.declared.fault.ExtractFault.{ExtractFault}
use Rattle.assembler.specs.declared.fault.ExtractFault.TheVariants as faults
use Rattle.cache_store.specs.Shelves.{Shelf}
use Rattle.caibx_codec.specs.Listing.{count_of, id_of, image_length, kind_of, slice_of}
use Rattle.chunk_sources.proofs.Lacking.{quiet_never}
use Rattle.chunk_sources.specs.Caches.{HaveOneSize, IsListedAs}
use Rattle.chunk_sources.specs.Economy.{pass_asks, source_if, source_of}
use Rattle.chunk_sources.specs.Sources.{Sources, SourcesQuiet, counts_of, sources, views_of}
use Rattle.chunk_sources.specs.Wants.{Task}
use Rattle.chunk_sources.specs.declared.kit.Kit.{Kit}
use Rattle.chunk_store.specs.Digests.{digest_of}
use Rattle.chunk_store.specs.declared.store.Store.{Ghosts as StoreWords}
use Rattle.dsy_base.specs.Bytes.{resized}
use Rattle.dsy_base.specs.Counts.{Quiet, raised}
use Rattle.dsy_base.specs.Maps.{Map}
use Rattle.dsy_base.specs.declared.view.View.{Ghosts as ViewWords}
use Rattle.extract_plan.specs.Deal.{AreWants, Deal}
use Rattle.extract_plan.specs.Places.{Placed}
use Rattle.image_workers.proofs.Spared.{ExactlyDealt, WasInShards, both_so, none_quiet, settled_or}
use Rattle.image_workers.specs.Beside.{joined_stage}
use Rattle.image_workers.specs.Kits.{AsksDealt, dealt_asks}
use Rattle.image_workers.specs.Lanes.{AreFirst, HasWorked, worker_stage}
use Rattle.owned_shards.specs.Wholes.{Whole}
use Rattle.range_ledger.specs.Runs.{Run}
use Rattle.range_survey.specs.Fates.{is_right_at, settled}
use Rattle.range_survey.specs.declared.fate.Fate.{Fate}
use Rattle.range_survey.specs.declared.fate.Fate.TheVariants as fate
use Rattle.range_survey.specs.declared.report.Report.{Report}
use Rattle.store_chain.specs.Faults.{EachQuiet, NoneFalls}

-- counts that were quiet were so until then
quiet_until : (a b c : List ℕ) → NoneFalls b c → EachQuiet a c → EachQuiet a b
quiet_until a b c falls quiet k = quiet_part (slice_index a k) (slice_index a k) (slice_index b k) (slice_index c k) (omega arith) (falls k) (quiet k)

-- exactly so often is enough for each worker
dealt_by : (k n old new : ℕ) → new ≡ raised old n → AsksDealt k n old new
dealt_by zero n old new is = omega (arith, is)
dealt_by (suc k) n old new is = is

-- where a worker lacked memory nothing is said
unless_lacked : (P : Type 0) (answer : Result Report ExtractFault) (lacked : Bool) → (lacked ≡ true → answer ≡ Err faults.Memory) → (lacked ≡ false → P) → UnlessMemory P answer
unless_lacked P answer lacked lacks had = elim (cases_Bool lacked) [
  | inl is ↦ subst (UnlessMemory P) (sym (lacks is)) tt
  | inr isnt ↦ unless_any P answer (had isnt)
]

-- where one of them did nothing else is answered
pub lacking_one : (answer : Result Report ExtractFault) (some one : Bool) → (some ≡ true → answer ≡ Err faults.Memory) → (some ≡ false → one ≡ false) → one ≡ true → answer ≡ Err faults.Memory
lacking_one answer some one lacks none is = elim (cases_Bool some) [
  | inl found ↦ lacks found
  | inr missing ↦ absurd (true≢false (sym is ∙ none missing))
]

-- over bytes that are told
where_told : (o : Option (List ℕ)) (P Q : List ℕ → Type 0) (tells : Bool) → is_some o ≡ tells → ((y : List ℕ) → IsTrue tells → P y → Q y) → IfSome o P → IfSome o Q
where_told None P Q tells told f has = tt
where_told (Some y) P Q tells told f has = f y (sym told) has

module _ {S V : Type 0} (store : StoreWords S) (view : ViewWords V) (r : Run) (d : Deal) (x : Placed) (wants : AreWants r.listing d.wants d.want_of) where
  abbrev t : Task
  t = record { listing = r.listing; plan = d; places = x }

  module _ (never : Bool) (o : Option (List ℕ)) (f g : ℕ) (w0 w1 : Whole) (was : WasInShards store view r d x wants never o f g w0 w1) (known : AreFirst r w0.fates) where
    -- no call failed in the survey
    survey_quiet : IsTrue never → Quiet f g → Quiet w0.faults_before w0.faults
    survey_quiet sure quiet = record {
      same = omega (arith, was.sure sure);
      below = omega (arith, was.sure sure, was.same, was.rises, was.ends, quiet.below);
    }

    -- what it has settled is what is right in the base
    pub settled_as : IsTrue never → Quiet f g → IsTrue r.tells → (i : ℕ) → i < count_of r.listing → settled w0.fates i ≡ is_right_at r.listing r.base i
    settled_as sure quiet tells i inside =
        let decides = bytes_eq-Decides (digest_of (kind_of r.listing) (slice_of r.listing r.base i)) (id_of r.listing i) in
        elim (cases_Bool (settled w0.fates i)) [
          | inl is ↦ is ∙ sym (decides.1 (known.right tells i inside is))
          | inr isnt ↦ elim (cases_Bool (is_right_at r.listing r.base i)) [
            | inl right ↦ elim (settled_or r w0 w0.held.bytes was.tells was.kept tells i inside (decides.0 right)) [
              | inl is ↦ absurd (true≢false (sym is ∙ isnt))
              | inr rose ↦ absurd (quiet_never w0.faults_before w0.faults (survey_quiet sure quiet) rose)
            ]
            | inr wrong ↦ isnt ∙ sym wrong
          ]
        ]

    -- the source of a want, as a worker knows it, is that over the base
    pub sourced : IsTrue never → Quiet f g → IsTrue r.tells → (a : Kit S V) (cached maps : List (Map (List ℕ))) (w : ℕ)
        → source_at view t (worker_stage r w0.fates 0 None a) cached maps w ≡ source_of t r.base (views_of view a.seeds.items) cached maps w
    sourced sure quiet tells a cached maps w =
        source_same t (views_of view a.seeds.items) maps w cached cached (settled w0.fates) (is_right_at r.listing r.base)
        (λ i among. settled_as sure quiet tells i (listed_of r.listing d w i wants among)) refl

    module _ (e0 : Option Shelf) (cache_never : Bool) (none : e0 ≡ None) (k : ℕ) (a b : Kit S V) (n : List Fate) (lacked : Bool) (by : HasWorked store view r t e0 never cache_never k a w0.fates b n lacked) where
      abbrev first : Sources S V
      first = sources f a.seeds.items None a.chain

      -- where nothing fails until the last, nothing does on its way
      pub on_its_way : (last : Sources S V) → NoneFalls (counts_of view b.seeds.items) (counts_of view last.seeds) → NoneFalls (map store.faults b.chain.stores) (map store.faults last.chain.stores)
          → IsTrue never → IsTrue r.tells → (cached maps : List (Map (List ℕ))) → SourcesQuiet store view (kind_of r.listing) (IsListedAs r.listing) first last cached maps
          → SourcesQuiet store view (kind_of r.listing) (IsListedAs r.listing) (from (worker_stage r w0.fates 0 None a)) (from (worker_stage r n by.faults None b)) cached maps
      on_its_way last seeds stores sure tells cached maps nothing = record {
        target = none_quiet by.faults (by.sure (both_so never r.tells sure tells));
        telling = nothing.telling;
        seeds = quiet_until (counts_of view a.seeds.items) (counts_of view b.seeds.items) (counts_of view last.seeds) seeds nothing.seeds;
        told_cache = nothing.told_cache;
        cache = none_quiet 0 refl;
        told = nothing.told;
        agree = nothing.agree;
        stores = quiet_until (map store.faults a.chain.stores) (map store.faults b.chain.stores) (map store.faults last.chain.stores) stores nothing.stores;
      }

      -- it has asked as often as what it was dealt takes, over the base
      calls_dealt : lacked ≡ false → IsTrue never → IsTrue r.tells → Quiet f g → (cached maps : List (Map (List ℕ)))
          → SourcesQuiet store view (kind_of r.listing) (IsListedAs r.listing) (from (worker_stage r w0.fates 0 None a)) (from (worker_stage r n by.faults None b)) cached maps → HaveOneSize r.listing None cached maps
          → (base : List ℕ) → r.base ≡ base → b.chain.asks ≡ raised a.chain.asks (dealt_asks t base (views_of view a.seeds.items) cached maps k)
      calls_dealt had sure tells quiet cached maps nothing one base is =
          let over : (ℕ → Fate) → ℕ → ℕ = λ source w. pass_asks (source_if (deals_to d k) source w) in
          (by.exactly none had cached maps nothing one).calls
          ∙ ap (raised a.chain.asks) (sum_same (over (source_at view t (worker_stage r w0.fates 0 None a) cached maps)) (over (source_of t base (views_of view a.seeds.items) cached maps)) d.wants
          (λ w less. ap (λ (s : Fate). pass_asks (if deals_to d k w then s else fate.Kept))
          (sourced sure quiet tells a cached maps w ∙ ap (λ (z : List ℕ). source_of t z (views_of view a.seeds.items) cached maps w) is)))

      -- so it is at the last
      exact_by : (last : Sources S V) → last.faults ≡ g → NoneFalls (counts_of view b.seeds.items) (counts_of view last.seeds) → NoneFalls (map store.faults b.chain.stores) (map store.faults last.chain.stores)
          → ((m : ℕ) → b.chain.asks ≡ raised a.chain.asks m → AsksDealt k m a.chain.asks last.chain.asks)
          → (answer : Result Report ExtractFault) → (lacked ≡ true → answer ≡ Err faults.Memory) → ExactlyDealt store view r d x wants never o k first last answer
      exact_by last count seeds stores so answer lacks sure =
          unless_lacked (WhereQuiet store view r.listing first last (λ cached maps.
          IfSome o (λ y. AsksDealt k (dealt_asks t (resized y (image_length r.listing)) (views_of view a.seeds.items) cached maps k) a.chain.asks last.chain.asks))) answer lacked lacks
          (λ had cached maps nothing one. where_told o (λ y. r.base ≡ resized y (image_length r.listing))
          (λ y. AsksDealt k (dealt_asks t (resized y (image_length r.listing)) (views_of view a.seeds.items) cached maps k) a.chain.asks last.chain.asks) r.tells was.told
          (λ y tells is. so (dealt_asks t (resized y (image_length r.listing)) (views_of view a.seeds.items) cached maps k)
          (calls_dealt had sure tells (subst (Quiet f) count nothing.target) cached maps (on_its_way last seeds stores sure tells cached maps nothing) one (resized y (image_length r.listing)) is))
          was.base)

      -- a worker that makes one pass
      pub exact_once : (e : Option Shelf) (answer : Result Report ExtractFault) → (lacked ≡ true → answer ≡ Err faults.Memory)
          → ExactlyDealt store view r d x wants never o k first (sources g b.seeds.items e b.chain) answer
      exact_once e answer lacks =
          exact_by (sources g b.seeds.items e b.chain) refl (λ s. omega arith) (λ s. omega arith) (λ m is. dealt_by k m a.chain.asks b.chain.asks is) answer lacks

    -- the first worker, which makes another
    pub exact_twice : (e0 : Option Shelf) (cache_never : Bool) → e0 ≡ None → (a b : Kit S V) (n : List Fate) (lacked : Bool) → HasWorked store view r t e0 never cache_never 0 a w0.fates b n lacked
        → (c1 : Option Shelf) (end : Stage S V) → end.faults ≡ g → HasPassed store view t one_pass (joined_stage w1 c1 b) end
        → (answer : Result Report ExtractFault) → (lacked ≡ true → answer ≡ Err faults.Memory) → ExactlyDealt store view r d x wants never o 0 (sources f a.seeds.items None a.chain) (from end) answer
    exact_twice e0 cache_never none a b n lacked by c1 end count passed answer lacks =
        let more = (passed.asks (λ w. false) (λ w below is. absurd (true≢false (sym is)))).no_fewer in
        exact_by e0 cache_never none 0 a b n lacked by (from end) count passed.stretch.step.seeds.never_fall passed.stretch.step.stores.never_fall (λ m is. omega (arith, is, more)) answer lacks
