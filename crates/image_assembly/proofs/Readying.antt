-- What a prepared assembly is ready for.
use Rattle.std.proofs.Common.{◌≡◌, ◌<◌, ◌≤◌, ◌++◌, ℕ, List, Any, Bool, true, Option, Some, None, IfSome, IsTrue, is_some, length, refl, slice_index_or, sym, ap, subst, ◌∙◌, inl}
use Rattle.std.specs.Option.{option_map}
use Rattle.assembler.specs.Assemblies.{IsObtainable}
use Rattle.assembler.specs.Stages.{Ready}
use Rattle.cache_store.specs.Shelves.{Shelf}
use Rattle.caibx_codec.specs.Listing.{Listing, count_of, image_length, kind_of, size_of}
use Rattle.chunk_sources.specs.Caches.{given_maps}
use Rattle.chunk_sources.specs.Sources.{views_of}
use Rattle.chunk_sources.specs.Wants.{Task}
use Rattle.chunk_sources.specs.declared.kit.Kit.{Kit}
use Rattle.chunk_store.specs.Members.{maps_of}
use Rattle.chunk_store.specs.declared.id.DigestKind.{DigestKind}
use Rattle.chunk_store.specs.declared.store.Store.{Ghosts as StoreWords}
use Rattle.dsy_base.specs.Bytes.{Held, held_resized, resized}
use Rattle.dsy_base.specs.Maps.{Map}
use Rattle.dsy_base.specs.declared.view.View.{Ghosts as ViewWords}
use Rattle.extract_plan.specs.Deal.{AreWants}
use Rattle.extract_plan.specs.Places.{PlacesKnown}
use Rattle.image_workers.proofs.Permitting.{permits}
use Rattle.image_workers.proofs.Sharing.{door, door_adds, door_kind}
use Rattle.image_assembly.proofs.Picks.{if_so, resized_again}
use Rattle.image_workers.specs.Beside.{BegunBeside, PermitsKit}
use Rattle.image_workers.specs.Kits.{MayFillFrom}
use Rattle.image_workers.specs.Lanes.{IsReadyFor, worker_stage}
use Rattle.image_workers.specs.Shared.{MayAddFrom, door_shelf, pairs_of}
use Rattle.image_assembly.specs.Readied.{IsReadied, Permits, Readied}
use Rattle.owned_shards.specs.Wholes.{base_told}
use Rattle.range_ledger.specs.Runs.{Run}
use Rattle.range_survey.specs.Fates.{SettledRight}
use Rattle.range_survey.specs.declared.fate.Fate.{Fate}

some_mapped : {A B : Type 0} (h : A → B) (o : Option A) → is_some (option_map h o) ≡ is_some o
some_mapped h None = refl
some_mapped h (Some x) = refl

pub if_map : {A B : Type 0} (h : A → B) (o : Option A) (P : B → Type 0) → IfSome o (λ x. P (h x)) → IfSome (option_map h o) P
if_map h None P has = tt
if_map h (Some x) P has = has

unmap : {A B : Type 0} (h : A → B) (o : Option A) (P : B → Type 0) → IfSome (option_map h o) P → IfSome o (λ x. P (h x))
unmap h None P has = tt
unmap h (Some x) P has = has

-- a target with its new length tells as it did
pub resized_tells : (old new : Held) (n : ℕ) → new ≡ held_resized old n → is_some new.bytes ≡ is_some old.bytes
resized_tells old new n is = ap (λ (h : Held). is_some h.bytes) is ∙ some_mapped (λ t. resized t n) old.bytes

-- what holds for the bytes that are told holds for the base
pub right_in : (l : Listing) (base : List ℕ) (m : List Fate) (n : ℕ) (o : Option (List ℕ)) (b : Bool) → is_some o ≡ b → IfSome o (λ t. base ≡ t) → IfSome o (λ t. SettledRight l t m n) → IsTrue b → SettledRight l base m n
right_in l base m n None b some is has tells = absurd (cc)
right_in l base m n (Some t) b some is has tells = subst (λ (y : List ℕ). SettledRight l y m n) (sym is) has

module _ {S V : Type 0} (store : StoreWords S) (view : ViewWords V) (r : Run) (told : Bool) (tried : List Bool) (x : Readied S V) (is : IsReadied store view r told tried x) where
  -- the task, by the run's index
  abbrev pub t : Task
  t = record { listing = r.listing; plan = x.task.plan; places = x.task.places }

  pub wants_so : AreWants r.listing x.task.plan.wants x.task.plan.want_of
  wants_so = subst (λ (l : Listing). AreWants l x.task.plan.wants x.task.plan.want_of) is.listing is.plan.wants

  -- a kit, over a stage that knows any fates
  pub ready_kit : (k : ℕ) (q : Kit S V) → k < length x.kits → (held : Held) (faults : ℕ) (fates : List Fate) (cache : Option Shelf) → IfSome cache (λ s. s.kind ≡ kind_of x.task.listing)
      → Ready t (record { held = held; faults = faults; fates = fates; kit = slice_index_or x.kits k q; cache = cache })
  ready_kit k q less held faults fates cache cached =
      let kit = slice_index_or x.kits k q in
      let kind : kit.chain.kind ≡ kind_of x.task.listing = is.kind k q less in
      record {
        wants = wants_so;
        places = subst (λ (l : Listing). PlacesKnown l x.task.plan x.task.places (length kit.seeds.items)) is.listing (is.places k q less);
        kind = kind ∙ ap (λ (l : Listing). kind_of l) is.listing;
        room = subst (λ (l : Listing). (i : ℕ) → i < count_of l → size_of l i ≤ length kit.buffer.items) is.listing (is.room k q less).enough;
        cache = subst (λ (d : DigestKind). IfSome cache (λ s. s.kind ≡ d)) (sym kind) cached;
      }

  -- ---- several workers, with a cache of which a type names this

  module _ (kind : DigestKind) (first : Option (Map (List ℕ))) (taken : List ℕ) (failed : ℕ) (pairs : Option (List (List ℕ × ℕ))) (maps : Option (List (Map (List ℕ)))) (cache : Option Shelf)
      (permit : Permits store view r x.task x.kits kind first taken failed pairs maps cache) where
    -- the door of each worker
    abbrev e0 : Option Shelf
    e0 = door_shelf kind first pairs maps 0 cache

    pub pairs_so : pairs ≡ Some (pairs_of r.listing)
    pairs_so = permit.listed ∙ ap (λ (l : Listing). Some (pairs_of l)) is.listing

    pub digest_so : kind ≡ kind_of r.listing
    digest_so = permit.digest ∙ ap (λ (l : Listing). kind_of l) is.listing

    door_is : e0 ≡ door store r.listing x.kits first cache
    door_is = ap (λ (k : DigestKind). door_shelf k first pairs maps 0 cache) digest_so ∙ ap (λ (p : Option (List (List ℕ × ℕ))). door_shelf (kind_of r.listing) first p maps 0 cache) pairs_so
        ∙ ap (λ (m : Option (List (Map (List ℕ)))). door_shelf (kind_of r.listing) first (Some (pairs_of r.listing)) m 0 cache) permit.stores

    pub permits_at : (k : ℕ) (q : Kit S V) → k < length x.kits → PermitsKit store view r t e0 (slice_index_or x.kits k q)
    permits_at k q less =
        subst (λ (l : Listing). PermitsKit store view r (record { listing = l; plan = x.task.plan; places = x.task.places }) e0 (slice_index_or x.kits k q)) is.listing (permit.each k q less)

    -- each worker
    pub ready_for : (k : ℕ) (q : Kit S V) → k < length x.kits → IsReadyFor store view r t e0 k (slice_index_or x.kits k q) x.whole.fates
    ready_for k q less =
        let kit = slice_index_or x.kits k q in
        record {
          known = is.first;
          ready = ready_kit k q less (worker_stage r x.whole.fates 0 e0 kit).held 0 x.whole.fates e0 (subst (λ (e : Option Shelf). IfSome e (λ s. s.kind ≡ kind_of x.task.listing)) (sym door_is)
              (subst (λ (l : Listing). IfSome (door store r.listing x.kits first cache) (λ s. s.kind ≡ kind_of l)) (sym is.listing) (door_kind store r.listing x.kits first cache)));
          adds = subst (λ (e : Option Shelf). MayAddFrom store r.listing kit.chain.stores e) (sym door_is) (door_adds store r.listing x.kits first cache k q less);
          may = permits r x.task.plan x.task.places wants_so store view (views_of view kit.seeds.items) (given_maps e0) (maps_of store.members kit.chain.stores) (permits_at k q less) (worker_stage r x.whole.fates 0 e0 kit)
              (λ given told. (given, told, λ id n gives. gives)) refl refl
              (λ tells i inside so. inl (is.first.right tells i inside so)) _;
        }

  -- ---- the target of which the shards were made

  module _ (old : Held) (held : x.whole.held ≡ held_resized old (image_length x.task.listing)) where
    resized_so : x.whole.held ≡ held_resized old (image_length r.listing)
    resized_so = held ∙ ap (λ (l : Listing). held_resized old (image_length l)) is.listing

    told_so : is_some old.bytes ≡ r.tells
    told_so = sym (resized_tells old x.whole.held (image_length r.listing) resized_so) ∙ is.shown ∙ is.tells

    based : IfSome old.bytes (λ y. r.base ≡ resized y (image_length r.listing))
    based = unmap (λ y. resized y (image_length r.listing)) old.bytes (λ t. r.base ≡ t) (subst (λ (h : Held). IfSome h.bytes (λ t. r.base ≡ t)) resized_so is.base)

    pub begun_beside : (f : ℕ) → f ≤ x.whole.faults_before → BegunBeside r old f x.whole
    begun_beside f before = record { before = before; base = based; told = told_so }

    -- what may be filled can be obtained over these bytes, with the image's length
    abbrev HadOver : List (Map (List ℕ)) → List ℕ → Type 0
    HadOver cached z = (i : ℕ) → i < count_of r.listing → r.may i ≡ true
        → Any (λ (k : Kit S V). (maps : List (Map (List ℕ))) × (maps_of store.members k.chain.stores ≡ Some maps) × IsObtainable t z (views_of view k.seeds.items) (cached ++ maps) i) x.kits

    abbrev Over : List (Map (List ℕ)) → List ℕ → Type 0
    Over cached y = HadOver cached (resized y (image_length r.listing))

    over_base : (cached : List (Map (List ℕ))) (o : Option (List ℕ)) → is_some o ≡ r.tells → IfSome o (λ y. r.base ≡ resized y (image_length r.listing)) → IfSome (base_told r) (Over cached) → IfSome o (Over cached)
    over_base cached None some base has = tt
    over_base cached (Some y) some base has =
        let n = image_length r.listing in
        subst (HadOver cached) (ap (λ (b : List ℕ). resized b n) base ∙ resized_again y n) (subst (λ (o : Option (List ℕ)). IfSome o (Over cached)) (if_so r.tells (Some r.base) None (sym some)) has)

    pub fills_from : (cache : Option Shelf) → MayFillFrom store view x.task r.may (base_told r) cache x.kits → MayFillFrom store view t r.may old.bytes cache x.kits
    fills_from cache has all cached told = over_base cached old.bytes told_so based
        (subst (λ (l : Listing). MayFillFrom store view (record { listing = l; plan = x.task.plan; places = x.task.places }) r.may (base_told r) cache x.kits) is.listing has all cached told)
