-- How often servers were asked by an assembly over files that were taken.
use Rattle.std.proofs.Common.{◌≡◌, ◌⊎◌, ℕ, ◌+◌, ◌<◌, ◌^◌, List, [], ◌∷◌, IfSome, map, slice_index, Option, None, Some, IsSomeAnd, refl, sym, ap, subst, ◌∙◌, inl, inr, arith}
use Rattle.std.proofs.lemmas.Bool.{cases_lt}
use Rattle.std.proofs.lemmas.List.{get_or_default}
use Rattle.std.specs.List.{AllZip, Any}
use Rattle.std.specs.Map.{count_at}
use Rattle.assembler.proofs.Entries.{among_of, first_among, listed_of}
use Rattle.cache_store.specs.Giving.{SomeGives}
use Rattle.cache_store.specs.Shelves.{Shelf}
use Rattle.caibx_codec.specs.Listing.{Listing, image_length, kind_of, size_of}
use Rattle.chunk_store.specs.declared.id.DigestKind.TheVariants as kinds
use Rattle.caibx_codec.specs.Right.{IsRightAt}
use Rattle.chunk_sources.specs.Asks.{IsSpared}
use Rattle.chunk_sources.specs.Caches.{CacheGives, cache_faults, cached_in}
use Rattle.chunk_sources.specs.Sources as origins
use Rattle.chunk_sources.specs.Sources.{HeldAt, counts_of, views_of}
use Rattle.chunk_sources.specs.Wants.{Task}
use Rattle.chunk_store.specs.Folders.{chunks}
use Rattle.chunk_store.specs.Giving.{GivesChunk}
use Rattle.chunk_store.specs.declared.store.Store.{Ghosts as StoreWords}
use Rattle.command_steps.proofs.Numbers.{rose_not_quiet}
use Rattle.command_steps.specs.Seeds.{name_at}
use Rattle.command_steps.specs.Seeds.{IsViewed}
use Rattle.command_worlds.specs.Worlds.{FileRose, FolderRose}
use Rattle.dsy_base.specs.Bytes.{Held, resized}
use Rattle.dsy_base.specs.Counts.{Quiet, Rose}
use Rattle.dsy_base.specs.Disk.{Disk}
use Rattle.dsy_base.specs.Maps.{Map}
use Rattle.dsy_base.specs.declared.view.View.{Ghosts as ViewWords}
use Rattle.extract_plan.specs.Deal.{Deal, IsPlan, first_of, want_id}
use Rattle.extract_plan.specs.Places.{ArePlaces, IsSeedIndex, nth_place, place, places_at}
use Rattle.extract_command.proofs.Shelved.{name_in}
use Rattle.extract_command.proofs.Seeded.{had_at, label_at, label_of}
use Rattle.extract_command.specs.Extract.{AllKnow, CacheSpares, FileQuiet, Into, IsSparedOnDisk, NeverFail, folder_of, SeedHas, Seeds, old_of}

-- a count that didn't rise
quiet_unless : (old new : ℕ) → (Rose old new → ⊥) → Quiet old new
quiet_unless old new none = elim (cases_lt old new) [
  | inl more ↦ absurd (none (inl more))
  | inr same ↦ elim (cases_lt (new + 1) (2 ^ 64)) [
    | inl below ↦ record { same = omega (arith, same); below = below }
    | inr full ↦ absurd (none (inr (omega (arith, full))))
  ]
]

module _ {S V : Type 0} (store : StoreWords S) (view : ViewWords V) (t : Task) (from to : origins.Sources S V) (d b e : Disk) (m : Map (List ℕ)) (told : d.files ≡ Some m) (count : ℕ) (plan : IsPlan t.listing count t.plan) (sure : NeverFail) (workers : ℕ) (o : Into) (z : Seeds)
    (zip : AllZip (IsViewed d b) z.images (views_of view from.seeds)) (is : IsSeedIndex t.listing t.plan z.listings t.places) (later : (q : List ℕ) → FileRose d b q → FileRose d e q)
    (rises : (n : ℕ) → Rose (slice_index (counts_of view from.seeds) n) (slice_index (counts_of view to.seeds) n) → FileRose d e (name_at (map label_of (views_of view from.seeds)) n))
    (t0 : Option (List ℕ)) (took : t0 ≡ Some (old_of m o)) (rose : Rose from.faults to.faults → FileRose d e o.name) where
  abbrev l : Listing
  l = t.listing

  abbrev p : Deal
  p = t.plan

  abbrev views : List (Option Held)
  views = views_of view from.seeds

  quiet_file : (q : List ℕ) → FileQuiet d e q → FileRose d e q → ⊥
  quiet_file q quiet rise = rose_not_quiet (count_at d.file_counts q) (count_at d.file_counts q) (count_at e.file_counts q) (omega arith) rise quiet

  -- the seed that has it gives it, and didn't fail
  seed_at : (w s : ℕ) (h : SeedHas (kind_of l) m z (want_id l p w) (size_of l (first_of p w)) s) → FileQuiet d e h.image → w < p.wants
      → Any (λ q. HeldAt views q (want_id l p w) × Quiet (slice_index (counts_of view from.seeds) q.seed) (slice_index (counts_of view to.seeds) q.seed)) (places_at t.places w)
  seed_at w s h quiet below =
      let i = first_of p w in
      let among = first_among l p w plan.wants below in
      let inside = listed_of l p w i plan.wants among in
      let at : slice_index p.want_of i ≡ w = (among_of p w i among).1 in
      let are : ArePlaces (kind_of l) z.listings (want_id l p w) (size_of l i) (places_at t.places w) = subst (λ n. ArePlaces (kind_of l) z.listings (want_id l p w) (size_of l i) (places_at t.places n)) at (is.places i inside) in
      elim (had_at d b m told z views zip (kind_of l) (want_id l p w) (size_of l i) (places_at t.places w) are s h) [
        | inl rise ↦ absurd (quiet_file h.image quiet (later h.image rise))
        | inr u ↦
            let here = nth_place (places_at t.places w) u.0 in
            let named : name_at (map label_of views) here.seed ≡ h.image = ap (name_at (map label_of views)) u.2 ∙ label_at views s u.4 u.5 ∙ u.6 in (
              u.0,
              here,
              u.1,
              get_or_default (places_at t.places w) u.0 here (place kinds.Sha512T256 0 0 0) u.1,
              (
                u.3,
                quiet_unless (slice_index (counts_of view from.seeds) here.seed) (slice_index (counts_of view to.seeds) here.seed)
                    (λ rise. quiet_file h.image quiet (subst (λ q. FileRose d e q) named (rises here.seed rise))),
              ),
            )
      ]

  -- want w is obtained without the stores
  abbrev pub SparedWith : ℕ → Type 0
  SparedWith w = IsSpared store view t (λ j. IsSomeAnd t0 (λ b. IsRightAt (resized b (image_length t.listing)) t.listing j) × AllKnow workers sure.out) from to w

  pub spared_over : (cache : Option (List ℕ)) (w : ℕ) → w < p.wants → IsSparedOnDisk sure workers d e m cache o l z p w
      → SparedWith w ⊎ (IsSomeAnd cache (λ c. CacheSpares d e c l (want_id l p w) (size_of l (first_of p w))) × AllKnow workers sure.cache)
  spared_over cache w below (inl right) = inl (inl (
    (
      right.0.0,
      right.0.1,
      (subst (λ t. IsSomeAnd t (λ b. IsRightAt (resized b (image_length l)) l right.0.0)) (sym took) right.0.2, right.2),
    ),
    quiet_unless from.faults to.faults (λ rise. quiet_file o.name right.1 (rose rise)),
  ))
  spared_over cache w below (inr (inl seed)) = inl (inr (inl (seed_at w seed.0 seed.1 seed.2 below)))
  spared_over cache w below (inr (inr spares)) = inr spares

-- what holds for what is told
pub of_told : {X : Type 0} (o : Option X) (P : X → Type 0) (R : Type 0) → ((a : X) → o ≡ Some a → P a → R) → IsSomeAnd o P → R
of_told None P R f h = absurd h
of_told (Some a) P R f h = f a refl h

-- ---- the cache

-- the only folder of one
one_folder : (n : Map (Map (List ℕ))) (c : List ℕ) (f : Map (List ℕ)) (cs : List (Map (List ℕ))) → n c ≡ Some f → map n (c ∷ []) ≡ map Some cs → cs ≡ f ∷ []
one_folder n c f [] is same = absurd (cc)
one_folder n c f (g ∷ []) is same = let here : n c ≡ Some g = cc in let one : g ≡ f = cc in ap (λ (h : Map (List ℕ)). h ∷ []) one
one_folder n c f (g ∷ h ∷ rest) is same = absurd (cc)

module _ {S : Type 0} (store : StoreWords S) (stores : List S) (d e : Disk) (l : Listing) (id : List ℕ) (size : ℕ) where
  abbrev pub Gives : Option Shelf → Type 0
  Gives o = IsSomeAnd (cached_in o) (SomeGives (kind_of l) id size)

  pub cache_gives : (e0 e1 : Option Shelf) (cache : Option (List ℕ)) → name_in e1 ≡ cache → IfSome d.folders (λ n. (cs : List (Map (List ℕ))) × (map n (folder_of cache) ≡ map Some cs) × (cached_in e0 ≡ Some (map chunks cs)))
      → IfSome e1 (λ t. Rose (cache_faults e0) t.faults → FolderRose d e t.place) → IsSomeAnd cache (λ c. CacheSpares d e c l id size) → CacheGives store l stores id size e0 e1
  cache_gives e0 e1 None named there rise spares = absurd spares
  cache_gives e0 None (Some c) named there rise spares = absurd (cc)
  cache_gives e0 (Some t) (Some c) named there rise spares =
      let placed : t.place ≡ c = cc in
      record {
        gives = of_told d.folders (λ m. IsSomeAnd (m c) (λ f. GivesChunk (kind_of l) id size (chunks f id))) (Gives e0)
            (λ m told. of_told (m c) (λ f. GivesChunk (kind_of l) id size (chunks f id)) (Gives e0) (λ f has gives.
            let at : (cs : List (Map (List ℕ))) × (map m (c ∷ []) ≡ map Some cs) × (cached_in e0 ≡ Some (map chunks cs)) =
            subst (λ o. IfSome o (λ n. (cs : List (Map (List ℕ))) × (map n (c ∷ []) ≡ map Some cs) × (cached_in e0 ≡ Some (map chunks cs)))) told there in
            let held : cached_in e0 ≡ Some (chunks f ∷ []) = at.2 ∙ ap (λ (cs : List (Map (List ℕ))). Some (map chunks cs)) (one_folder m c f at.0 has at.1) in
            subst (λ o. IsSomeAnd o (SomeGives (kind_of l) id size)) (sym held) (0, chunks f, omega arith, refl, gives))) spares.gives;
        sound = quiet_unless (cache_faults e0) t.faults (λ rose.
            rose_not_quiet (count_at d.folder_counts c) (count_at d.folder_counts c) (count_at e.folder_counts c) (omega arith) (subst (λ q. FolderRose d e q) placed (rise rose)) spares.quiet);
        one_size = λ n b listed chunk held. spares.one_size n listed;
      }
