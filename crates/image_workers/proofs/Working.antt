-- What a worker has done, by what its pass says.
use Rattle.std.proofs.Common.{◌≡◌, ℕ, ◌&&◌, ◌<◌, List, [], Bool, true, false, Option, Some, None, IfErr, IsTrue, OnOk, Result, Ok, Err, refl, sym, subst, ◌∙◌, inl, inr}
use Rattle.std.proofs.lemmas.Bool.{true≢false}
use Rattle.std.specs.Result.{is_err}
use Rattle.assembler.specs.Economy.{PassedBy, TalliedShared}
use Rattle.assembler.specs.Passes.{HasPassedShare, WhereQuiet, source_at, want_at}
use Rattle.assembler.specs.Permits.{deals_to}
use Rattle.assembler.specs.Stages.{Stage, from}
use Rattle.cache_store.specs.Shelves.{Shelf}
use Rattle.caibx_codec.specs.Listing.{count_of, image_length}
use Rattle.chunk_sources.specs.Caches.{OthersAddListed, IsAlone, Stocked, TakesWants, cache_faults}
use Rattle.chunk_sources.specs.Economy.{source_if}
use Rattle.chunk_sources.specs.Losses.{MayLack}
use Rattle.chunk_sources.specs.Wants.{Task}
use Rattle.chunk_sources.specs.declared.kit.Kit.{Kit}
use Rattle.chunk_store.specs.declared.store.Store.{Ghosts as StoreWords}
use Rattle.dsy_base.specs.declared.fault.Memory.{Memory}
use Rattle.dsy_base.specs.declared.view.View.{Ghosts as ViewWords}
use Rattle.image_workers.specs.Lanes.{HasWorked, worker_stage}
use Rattle.range_ledger.specs.Runs.{Run}
use Rattle.range_survey.specs.Fates.{fate_at, settled}
use Rattle.range_survey.specs.declared.fate.Fate.{Fate}
use Rattle.range_survey.specs.declared.fate.Fate.TheVariants as fate

-- where there was no cache there is none
pub stays_none : (Takes : List ℕ → List ℕ → Type 0) (s : Option Shelf) → Stocked Takes None s → s ≡ None
stays_none Takes None same = refl
stays_none Takes (Some t) same = absurd same

is_ok_of : {P : Type 0} (res : Result Unit Memory) → is_err res ≡ false → OnOk res P → P
is_ok_of (Ok u) isnt has = has
is_ok_of (Err e) isnt has = absurd (true≢false isnt)

lacked_of : {P : Type 0} (res : Result Unit Memory) → is_err res ≡ true → IfErr res (λ _. P) → P
lacked_of (Ok u) is has = absurd (true≢false (sym is))
lacked_of (Err e) is has = has

pub without_cache : {S : Type 0} (store : StoreWords S) → MayLack store None → IsTrue store.may_lack_memory
without_cache store (inl may) = may
without_cache store (inr some) = absurd (cc)

module _ {S V : Type 0} (store : StoreWords S) (view : ViewWords V) (r : Run) (t : Task) (e : Option Shelf) (never cache_never : Bool) (k : ℕ) (a b : Kit S V) (m n : List Fate) (f0 faults : ℕ) (s : Option Shelf) where
  -- what it has come to, seeing this of the cache
  abbrev pub later : Option Shelf → Stage S V
  later x = record { held = record { bytes = None; size = image_length r.listing; name = [] }; faults = faults; fates = n; kit = b; cache = x }

  abbrev pub Paid : ℕ → Option Shelf → Option Shelf → (Type 0 → Type 0) → Type 0
  Paid f x y If = WhereQuiet store view r.listing (from (worker_stage r m f x a)) (from (later y)) (λ cached maps. If (PassedBy (source_if (deals_to t.plan k)
      (source_at view t (worker_stage r m f x a) cached maps)) t.plan.wants (count_of r.listing) m n a.chain b.chain))

  -- what it has settled, with cache and stores as one
  abbrev pub Shared : ℕ → (Type 0 → Type 0) → Type 0
  Shared f If = WhereQuiet store view r.listing (from (worker_stage r m f e a)) (from (later s)) (λ cached maps. If (TalliedShared (deals_to t.plan k)
      (source_at view t (worker_stage r m f e a) cached maps) t.plan.wants (count_of r.listing) m n))

  -- what stays open where nothing fails has no source
  abbrev pub Left : ℕ → (Type 0 → Type 0) → Type 0
  Left f If = WhereQuiet store view r.listing (from (worker_stage r m f e a)) (from (later s)) (λ cached maps. If ((i : ℕ) → i < count_of r.listing → deals_to t.plan k (want_at t.plan i) ≡ true
      → settled n i ≡ false → source_at view t (worker_stage r m f e a) cached maps (want_at t.plan i) ≡ fate.Open))

  abbrev Adds : Type 0
  Adds = OthersAddListed store r.listing a.chain.stores e

  abbrev Takes : List ℕ → List ℕ → Type 0
  Takes = TakesWants store t.listing t.plan (λ w. (w < t.plan.wants) × (deals_to t.plan k w ≡ true)) a.chain.stores

  pub worked : (lacked : Bool) (res : Result Unit Memory) → lacked ≡ is_err res → f0 ≡ 0 → (IsTrue (never && r.tells) → faults ≡ 0) → (IsTrue cache_never → cache_faults s ≡ 0)
      → HasPassedShare store view t (deals_to t.plan k) (worker_stage r m f0 e a) (later s)
      → IfErr res (λ _. MayLack store e) → (IsAlone e → Paid f0 e s (λ P. OnOk res P)) → (Adds → Shared f0 (λ P. OnOk res P)) → (Adds → Left f0 (λ P. OnOk res P))
      → ((i : ℕ) → deals_to t.plan k (want_at t.plan i) ≡ false → fate_at n i ≡ fate_at m i) → HasWorked store view r t e never cache_never k a m b n lacked
  worked lacked res is zero_is sure calm passed memory exactly shared left others =
      let stays : e ≡ None → s ≡ None = λ none. stays_none Takes s (subst (λ (x : Option Shelf). Stocked Takes x s) none passed.stretch.stocked) in
      let alone : e ≡ None → IsAlone e = λ none. subst (λ (x : Option Shelf). IsAlone x) (sym none) tt in
      record {
        faults = faults;
        door = s;
        sure = sure;
        calm = calm;
        passed = subst (λ (f : ℕ). HasPassedShare store view t (deals_to t.plan k) (worker_stage r m f e a) (later s)) zero_is passed;
        memory = λ so. lacked_of res (sym is ∙ so) memory;
        exactly = λ none so. subst (λ (y : Option Shelf). Paid 0 None y (λ P. P)) (stays none)
            (subst (λ (x : Option Shelf). Paid 0 x s (λ P. P)) none
            (subst (λ (f : ℕ). Paid f e s (λ P. P)) zero_is (λ cached maps nothing one. is_ok_of res (sym is ∙ so) (exactly (alone none) cached maps nothing one))));
        shared = λ adds so. subst (λ (f : ℕ). Shared f (λ P. P)) zero_is (λ cached maps nothing one. is_ok_of res (sym is ∙ so) (shared adds cached maps nothing one));
        left = λ adds so. subst (λ (f : ℕ). Left f (λ P. P)) zero_is (λ cached maps nothing one. is_ok_of res (sym is ∙ so) (left adds cached maps nothing one));
        others = others;
      }
