-- The run that an assembly picks permits what it has to, and no more.
use Rattle.std.proofs.Common.{◌≡◌, ◌⊎◌, ◌≤◌, ◌||◌, ◌==◌, ℕ, ◌<◌, List, [], ◌∷◌, ◌++◌, length, take, replicate, ◌-◌, Bool, true, false, Decides, Option, Some, None, All, IfSome, IsTrue, is_some, if◌then◌else◌, slice_index_or, refl, sym, ap, subst, ◌∙◌, inl, inr, arith}
use Rattle.std.proofs.lemmas.Bool.{cases_Bool, eq-eqb, eqb-true, false≢true, true≢false}
use Rattle.std.proofs.lemmas.Bool.Decides.{Decides-or}
use Rattle.std.proofs.lemmas.List.{append-nil, get_or_default, length-append, length-replicate, length-take, take_all}
use Rattle.std.proofs.lemmas.List.Folds.{Any-from_list_any, list_any-from_Any, list_any_at}
use Rattle.std.proofs.lemmas.Option.{none-some, same_Some}
use Rattle.std.proofs.lemmas.Slice.Eq.{bytes_eq-Decides}
use Rattle.std.specs.List.{list_any}
use Rattle.std.specs.Option.{option_map}
use Rattle.assembler.proofs.Entries.{among, first_among, ids_same, listed_of}
use Rattle.assembler.specs.Assemblies.{IsObtainable}
use Rattle.assembler.specs.Passes.{want_at}
use Rattle.cache_store.specs.Giving.{SomeGives}
use Rattle.cache_store.specs.Shelves.{Shelf}
use Rattle.caibx_codec.specs.Listing.{count_of, id_of, image_length, kind_of, size_of, slice_of}
use Rattle.caibx_codec.specs.Right.{IsRightAt}
use Rattle.chunk_sources.proofs.Cached.{gives_left, gives_part, gives_right, told_at}
use Rattle.chunk_sources.proofs.Origins.{seeds_decide, some_right, stores_decide}
use Rattle.chunk_sources.specs.Caches.{cached_in, given_maps, shared_maps}
use Rattle.chunk_sources.specs.Economy.{seeds_give, stores_give}
use Rattle.chunk_sources.specs.Sources.{SeedsGive, Telling, views_of}
use Rattle.chunk_sources.specs.Wants.{IsAmong, Task}
use Rattle.chunk_sources.specs.declared.kit.Kit.{Kit}
use Rattle.chunk_store.specs.Folders.{chunks}
use Rattle.chunk_store.specs.Giving.{GivesChunk}
use Rattle.chunk_store.specs.Digests.{digest_of}
use Rattle.chunk_store.specs.Members.{maps_of}
use Rattle.chunk_store.specs.declared.id.DigestKind.{DigestKind}
use Rattle.chunk_store.specs.declared.store.Store.{Ghosts as StoreWords}
use Rattle.dsy_base.specs.Bytes.{Held, resized}
use Rattle.dsy_base.specs.Maps.{Map}
use Rattle.dsy_base.specs.declared.view.View.{Ghosts as ViewWords}
use Rattle.extract_plan.specs.Deal.{AreWants, first_of, of_want, want_id}
use Rattle.extract_plan.specs.Places.{places_at}
use Rattle.image_workers.proofs.Doors.{named_opens}
use Rattle.image_workers.proofs.Sharing.{kit_of, mute_kit}
use Rattle.image_workers.specs.Beside.{MayFillAlike, PermitsKit}
use Rattle.image_workers.specs.Shared.{NamesShelf, all_stores, door_shelf, pairs_of}
use Rattle.image_workers.specs.Kits.{MayFillFrom, SomeKitHas}
use Rattle.image_assembly.specs.Readied.{Permits}
use Rattle.image_assembly.proofs.Picking.{both_told, kit_maps, may_fill, may_have, picked, seeds_tell, some_may_have, want_had}
use Rattle.owned_shards.specs.Wholes.{MayFillAll}
use Rattle.range_survey.specs.Fates.{is_right_at}

-- ---- tests

may_when : (tells one has : Bool) → (tells ≡ true → has ≡ true) → (if tells then one || has else true) ≡ true
may_when true true has is = refl
may_when true false has is = is refl
may_when false one has is = refl

may_then : (tells one has : Bool) → tells ≡ true → one ≡ false → (if tells then one || has else true) ≡ true → has ≡ true
may_then true true has t o is = absurd (true≢false o)
may_then true false has t o is = is
may_then false one has t o is = absurd (false≢true t)

some_if : {X : Type 0} (b : Bool) (o : Option X) (x : X) → (if b then o else None) ≡ Some x → (b ≡ true) × (o ≡ Some x)
some_if true o x is = (refl, is)
some_if false o x is = absurd (cc)

pub if_so : {X : Type 0} (b : Bool) (x y : X) → b ≡ true → (if b then x else y) ≡ x
if_so true x y is = refl
if_so false x y is = absurd (false≢true is)

pub if_told : (b : Bool) (base : List ℕ) (P : List ℕ → Type 0) → (b ≡ true → P base) → IfSome (if b then Some base else None) P
if_told true base P has = has refl
if_told false base P has = tt

-- ---- what is told

-- what cache and stores tell together
record BothTold (cached maps : Option (List (Map (List ℕ)))) (all : List (Map (List ℕ))) : Type 0 where
  held : List (Map (List ℕ))
  given : List (Map (List ℕ))
  cache : cached ≡ Some held
  stores : maps ≡ Some given
  whole : all ≡ held ++ given

both_are : (cached maps : Option (List (Map (List ℕ)))) (all : List (Map (List ℕ))) → both_told cached maps ≡ Some all → BothTold cached maps all
both_are None maps all told = absurd (none-some all told)
both_are (Some held) None all told = absurd (none-some all told)
both_are (Some held) (Some given) all told = record { held = held; given = given; cache = refl; stores = refl; whole = sym (same_Some (held ++ given) all told) }

both_mute : (cached maps : Option (List (Map (List ℕ)))) → maps ≡ None → both_told cached maps ≡ None
both_mute None maps mute = refl
both_mute (Some held) maps mute = ap (option_map (λ ms. held ++ ms)) mute

telling_of : (tells : Bool) (views : List (Option Held)) → seeds_tell tells views ≡ true → Telling tells views
telling_of tells views is = λ some. sym (if_so (list_any (λ v. is_some v) views) tells true (list_any-from_Any (λ v. is_some v) views some)) ∙ is

tells_of : (tells : Bool) (views : List (Option Held)) → Telling tells views → seeds_tell tells views ≡ true
tells_of tells views telling = elim (cases_Bool (list_any (λ v. is_some v) views)) [
  | inl is ↦ if_so (list_any (λ v. is_some v) views) tells true is ∙ telling (Any-from_list_any (λ v. is_some v) views is)
  | inr isnt ↦ ap (λ b. if b then tells else true) isnt
]

-- ---- a target with its new length

pub length_resized : (o : List ℕ) (n : ℕ) → length (resized o n) ≡ n
length_resized o n = rw (length-append, length-take, length-replicate) (omega arith)

pub resized_same : (y : List ℕ) (n : ℕ) → length y ≡ n → resized y n ≡ y
resized_same y n is =
    let none : n - length y ≡ 0 = omega (arith, is) in
    ap (λ (k : ℕ). take n y ++ replicate k 0) none ∙ append-nil (take n y) ∙ take_all n y (omega (arith, is))

pub resized_again : (y : List ℕ) (n : ℕ) → resized (resized y n) n ≡ resized y n
resized_again y n = resized_same (resized y n) n (length_resized y n)

-- ---- a want

module _ (t : Task) (base : List ℕ) (wants : AreWants t.listing t.plan.wants t.plan.want_of) where
  right_decides : (e : ℕ) → Decides (is_right_at t.listing base e) (IsRightAt base t.listing e)
  right_decides e = bytes_eq-Decides (digest_of (kind_of t.listing) (slice_of t.listing base e)) (id_of t.listing e)

  abbrev SomeRight : ℕ → Type 0
  SomeRight w = (i : ℕ) × IsAmong (of_want t.plan w) i × (is_right_at t.listing base i ≡ true)

  some_of : (w : ℕ) → list_any (is_right_at t.listing base) (of_want t.plan w) ≡ true → SomeRight w
  some_of w is =
      let a = Any-from_list_any (is_right_at t.listing base) (of_want t.plan w) is in
      (a.1, (a.0, a.2, get_or_default (of_want t.plan w) a.0 0 a.1 a.2 ∙ a.3), a.4)

  had_decides : (views : List (Option Held)) (maps : List (Map (List ℕ))) (w : ℕ) → Decides (want_had t base views maps w)
      (SomeRight w ⊎ (SeedsGive views (places_at t.places w) (want_id t.listing t.plan w) ⊎ SomeGives (kind_of t.listing) (want_id t.listing t.plan w) (size_of t.listing (first_of t.plan w)) maps))
  had_decides views maps w =
      let l = t.listing in
      let d = t.plan in
      Decides-or (list_any (is_right_at l base) (of_want d w)) (seeds_give views (places_at t.places w) (want_id l d w) || stores_give (kind_of l) (want_id l d w) (size_of l (first_of d w)) maps)
      (some_of w, λ h. some_right (is_right_at l base) (of_want d w) h.0 h.1 h.2)
      (Decides-or (seeds_give views (places_at t.places w) (want_id l d w)) (stores_give (kind_of l) (want_id l d w) (size_of l (first_of d w)) maps)
      (seeds_decide views (places_at t.places w) (want_id l d w)) (stores_decide (kind_of l) (want_id l d w) (size_of l (first_of d w)) maps))

  here : (i : ℕ) → i < count_of t.listing → IsAmong (of_want t.plan (want_at t.plan i)) i
  here i inside =
      let size : length t.plan.want_of ≡ count_of t.listing = wants.size in
      among t.plan (want_at t.plan i) i (omega (arith, size, inside)) refl

  obtained : (views : List (Option Held)) (maps : List (Map (List ℕ))) (i : ℕ) → i < count_of t.listing → want_had t base views maps (want_at t.plan i) ≡ true → IsObtainable t base views maps i
  obtained views maps i inside is =
      let l = t.listing in
      let d = t.plan in
      let w = want_at d i in
      let same = ids_same l d w i (first_of d w) wants (here i inside) (first_among l d w wants (wants.within i inside)) in
      elim ((had_decides views maps w).0 is) [
        | inl right ↦ inl (right.0, listed_of l d w right.0 wants right.1, ids_same l d w right.0 i wants right.1 (here i inside), (right_decides right.0).0 right.2)
        | inr (inl seeds) ↦ inr (inl (subst (λ q. SeedsGive views (places_at t.places w) q) (sym same.0) seeds))
        | inr (inr gives) ↦ inr (inr (subst (λ (n : ℕ). SomeGives (kind_of l) (id_of l i) n maps) (sym same.1)
            (subst (λ q. SomeGives (kind_of l) q (size_of l (first_of d w)) maps) (sym same.0) gives)))
      ]

  had_of : (views : List (Option Held)) (maps : List (Map (List ℕ))) (i : ℕ) → i < count_of t.listing → IsObtainable t base views maps i → want_had t base views maps (want_at t.plan i) ≡ true
  had_of views maps i inside can =
      let l = t.listing in
      let d = t.plan in
      let w = want_at d i in
      let size : length d.want_of ≡ count_of l = wants.size in
      let same = ids_same l d w i (first_of d w) wants (here i inside) (first_among l d w wants (wants.within i inside)) in
      (had_decides views maps w).1 (elim can [
        | inl (j, listed, alike, right) ↦ inl (j, among d w j (omega (arith, size, listed)) ((wants.alike j i listed inside).1 alike), (right_decides j).1 right)
        | inr (inl seeds) ↦ inr (inl (subst (λ q. SeedsGive views (places_at t.places w) q) same.0 seeds))
        | inr (inr gives) ↦ inr (inr (subst (λ q. SomeGives (kind_of l) q (size_of l (first_of d w)) maps) same.0 (subst (λ (n : ℕ). SomeGives (kind_of l) (id_of l i) n maps) same.1 gives)))
      ])

  have_when : (views : List (Option Held)) (o : Option (List (Map (List ℕ)))) (w : ℕ) → ((maps : List (Map (List ℕ))) → o ≡ Some maps → want_had t base views maps w ≡ true) → may_have t base views o w ≡ true
  have_when views None w has = refl
  have_when views (Some maps) w has = has maps refl

  -- ---- the kits

  module _ {S V : Type 0} (store : StoreWords S) (view : ViewWords V) (tells : Bool) (kits : List (Kit S V)) (c0 : Option Shelf) where
    abbrev cached_now : Option (List (Map (List ℕ)))
    cached_now = cached_in c0

    abbrev views_at : Kit S V → List (Option Held)
    views_at k = views_of view k.seeds.items

    abbrev test : ℕ → Kit S V → Bool
    test w k = may_have t base (views_at k) (kit_maps store view cached_now k) w

    -- what a kit tells that tells all
    kit_tells : (k : Kit S V) (all : List (Map (List ℕ))) → kit_maps store view cached_now k ≡ Some all → Telling view.tells (views_at k) × BothTold cached_now (maps_of store.members k.chain.stores) all
    kit_tells k all is =
        let both = some_if (seeds_tell view.tells (views_at k)) (both_told cached_now (maps_of store.members k.chain.stores)) all is in
        (telling_of view.tells (views_at k) both.0, both_are cached_now (maps_of store.members k.chain.stores) all both.1)

    maps_told : (k : Kit S V) (held maps : List (Map (List ℕ))) → Telling view.tells (views_at k) → cached_now ≡ Some held → maps_of store.members k.chain.stores ≡ Some maps → kit_maps store view cached_now k ≡ Some (held ++ maps)
    maps_told k held maps telling cache told =
        if_so (seeds_tell view.tells (views_at k)) (both_told cached_now (maps_of store.members k.chain.stores)) None (tells_of view.tells (views_at k) telling)
        ∙ ap (λ o. both_told o (maps_of store.members k.chain.stores)) cache ∙ ap (option_map (λ ms. held ++ ms)) told

    -- one of the kits may have what is tested so
    some_kit : (w n : ℕ) (k : Kit S V) → n < length kits → slice_index_or kits n k ≡ k → test w k ≡ true → some_may_have store view t base cached_now kits w ≡ true
    some_kit w n k less at is = list_any_at (test w) kits n k less (subst (λ (q : Kit S V). test w q ≡ true) (sym at) is)

    -- one that tells not all may have anything
    mute_has : (w : ℕ) (k : Kit S V) → kit_maps store view cached_now k ≡ None → test w k ≡ true
    mute_has w k none = ap (λ o. may_have t base (views_at k) o w) none

    mute_maps : (k : Kit S V) → maps_of store.members k.chain.stores ≡ None → kit_maps store view cached_now k ≡ None
    mute_maps k mute = go (seeds_tell view.tells (views_at k)) where
      go : (b : Bool) → (if b then both_told cached_now (maps_of store.members k.chain.stores) else None) ≡ None
      go true = both_mute cached_now (maps_of store.members k.chain.stores) mute
      go false = refl

    -- a kit whose stores hold the chunk may have it
    gives_has : (w : ℕ) (k : Kit S V) (maps : List (Map (List ℕ))) → maps_of store.members k.chain.stores ≡ Some maps
        → SomeGives (kind_of t.listing) (want_id t.listing t.plan w) (size_of t.listing (first_of t.plan w)) maps → test w k ≡ true
    gives_has w k maps told gives = have_when (views_at k) (kit_maps store view cached_now k) w (λ all is.
        let b = (kit_tells k all is).1 in
        let same : b.given ≡ maps = same_Some b.given maps (sym b.stores ∙ told) in
        (had_decides (views_at k) all w).1 (inr (inr (subst (λ ms. SomeGives (kind_of t.listing) (want_id t.listing t.plan w) (size_of t.listing (first_of t.plan w)) ms) (sym b.whole)
        (gives_right (kind_of t.listing) (want_id t.listing t.plan w) (size_of t.listing (first_of t.plan w)) b.held b.given
        (subst (λ ms. SomeGives (kind_of t.listing) (want_id t.listing t.plan w) (size_of t.listing (first_of t.plan w)) ms) (sym same) gives))))))

    -- what can be obtained of what the cache gives meanwhile some kit may have
    module _ (n : ℕ) (q : Kit S V) (less : n < length kits) where
      abbrev kit_here : Kit S V
      kit_here = slice_index_or kits n q

      at_here : slice_index_or kits n kit_here ≡ kit_here
      at_here = get_or_default kits n kit_here q less

      abbrev Fits : ℕ → List (Map (List ℕ)) → Type 0
      Fits w ms = SomeGives (kind_of t.listing) (want_id t.listing t.plan w) (size_of t.listing (first_of t.plan w)) ms

      -- all of it can be obtained with this kit, or it stands in another kit's store
      had_by_some : (i : ℕ) → i < count_of t.listing → (held ms own all : List (Map (List ℕ))) → all ≡ held ++ own → maps_of store.members (all_stores kits) ≡ Some ms
          → IsObtainable t base (views_at kit_here) ((held ++ ms) ++ own) i
          → (want_had t base (views_at kit_here) all (want_at t.plan i) ≡ true) ⊎ (some_may_have store view t base cached_now kits (want_at t.plan i) ≡ true)
      had_by_some i inside held ms own all whole told can = elim ((had_decides (views_at kit_here) ((held ++ ms) ++ own) (want_at t.plan i)).0 (had_of (views_at kit_here) ((held ++ ms) ++ own) i inside can)) [
        | inl right ↦ inl ((had_decides (views_at kit_here) all (want_at t.plan i)).1 (inl right))
        | inr (inl seeds) ↦ inl ((had_decides (views_at kit_here) all (want_at t.plan i)).1 (inr (inl seeds)))
        | inr (inr gives) ↦ elim (gives_part (kind_of t.listing) (want_id t.listing t.plan (want_at t.plan i)) (size_of t.listing (first_of t.plan (want_at t.plan i))) (held ++ ms) own gives) [
          | inr here ↦ inl (gave i (gives_right (kind_of t.listing) (want_id t.listing t.plan (want_at t.plan i)) (size_of t.listing (first_of t.plan (want_at t.plan i))) held own here))
          | inl cache ↦ elim (gives_part (kind_of t.listing) (want_id t.listing t.plan (want_at t.plan i)) (size_of t.listing (first_of t.plan (want_at t.plan i))) held ms cache) [
            | inl first ↦ inl (gave i (gives_left (kind_of t.listing) (want_id t.listing t.plan (want_at t.plan i)) (size_of t.listing (first_of t.plan (want_at t.plan i))) held own first))
            | inr other ↦
                let k = kit_of store (λ (m : Map (List ℕ)). GivesChunk (kind_of t.listing) (want_id t.listing t.plan (want_at t.plan i)) (size_of t.listing (first_of t.plan (want_at t.plan i)))
                (m (want_id t.listing t.plan (want_at t.plan i)))) kits ms told other in
                inr (some_kit (want_at t.plan i) k.at k.kit k.inside k.is (gives_has (want_at t.plan i) k.kit k.part k.told k.any))
          ]
        ]
      ] where
        gave : (i : ℕ) → Fits (want_at t.plan i) (held ++ own) → want_had t base (views_at kit_here) all (want_at t.plan i) ≡ true
        gave i gives = (had_decides (views_at kit_here) all (want_at t.plan i)).1 (inr (inr (subst (Fits (want_at t.plan i)) (sym whole) gives)))

    -- what the door to the cache gives, where all stores tell
    door_gives : (kind : DigestKind) (first : Option (Map (List ℕ))) (pairs : Option (List (List ℕ × ℕ))) (maps : Option (List (Map (List ℕ)))) (c : Option Shelf) → IfSome c (λ s. first ≡ s.files) → (held ms : List (Map (List ℕ)))
        → cached_in c ≡ Some held → maps ≡ Some ms → (given : List (Map (List ℕ))) × (given_maps (door_shelf kind first pairs maps 0 c) ≡ Some given) × ((more : List (Map (List ℕ))) → (given ≡ held ++ ms) ⊎ (given ≡ held))
    door_gives kind first pairs maps None opens held ms cache told = ([], refl, λ more. inr (same_Some [] held cache))
    door_gives kind first pairs maps (Some s) opens held ms cache told =
        let at = told_at s.files held cache in (
          chunks at.0 ∷ ms,
          ap (λ (f : Option (Map (List ℕ))). shared_maps f maps) (opens ∙ at.1) ∙ ap (λ (o : Option (List (Map (List ℕ)))). shared_maps (Some at.0) o) told,
          λ more. inl (ap (λ zs. zs ++ ms) (sym at.2)),
        )

    pub permits_each : (kind : DigestKind) (first : Option (Map (List ℕ))) (pairs : Option (List (List ℕ × ℕ))) (maps : Option (List (Map (List ℕ)))) → IfSome c0 (λ s. first ≡ s.files) → maps ≡ maps_of store.members (all_stores kits)
        → All (PermitsKit store view (picked store view tells t base cached_now kits) t (door_shelf kind first pairs maps 0 c0)) kits
    permits_each kind first pairs maps opens stores n q less = λ i inside so.
        let w = want_at t.plan i in
        let k = slice_index_or kits n q in
        elim (cases_Bool (may_fill store view tells t base cached_now kits w)) [
          | inl is ↦ is
          | inr isnt ↦ may_when tells (length kits == 1) (some_may_have store view t base cached_now kits w) (λ told. some_told i inside isnt told so (maps_of store.members (all_stores kits)) refl)
        ]
      where
        some_told : (i : ℕ) → i < count_of t.listing → may_fill store view tells t base cached_now kits (want_at t.plan i) ≡ false → tells ≡ true
            → (IsTrue tells → Telling view.tells (views_at (slice_index_or kits n q)) → (given own : List (Map (List ℕ))) → given_maps (door_shelf kind first pairs maps 0 c0) ≡ Some given
            → maps_of store.members (slice_index_or kits n q).chain.stores ≡ Some own
            → IsObtainable t base (views_at (slice_index_or kits n q)) (given ++ own) i ⊎ MayFillAlike (picked store view tells t base cached_now kits) t i)
            → (o : Option (List (Map (List ℕ)))) → maps_of store.members (all_stores kits) ≡ o → some_may_have store view t base cached_now kits (want_at t.plan i) ≡ true
        some_told i inside isnt told so None is =
            let m = mute_kit store kits is in
            some_kit (want_at t.plan i) m.at m.kit m.inside m.is (mute_has (want_at t.plan i) m.kit (mute_maps m.kit m.mute))
        some_told i inside isnt told so (Some ms) is = list_any_at (test (want_at t.plan i)) kits n q less
            (have_when (views_at (slice_index_or kits n q)) (kit_maps store view cached_now (slice_index_or kits n q)) (want_at t.plan i) (λ all are.
            let tell = kit_tells (slice_index_or kits n q) all are in
            let b = tell.1 in
            let own_told : maps_of store.members (slice_index_or kits n q).chain.stores ≡ Some b.given = b.stores in
            let all_stores_told : maps_of store.members (all_stores kits) ≡ Some ms = is in
            let door = door_gives kind first pairs maps c0 opens b.held ms b.cache (stores ∙ is) in
            elim (so told tell.0 door.0 b.given door.1 own_told) [
              | inl can ↦ elim (had_by_some n q less i inside b.held ms b.given all b.whole all_stores_told (elim (door.2 ms) [
                | inl both ↦ subst (λ (g : List (Map (List ℕ))). IsObtainable t base (views_at (slice_index_or kits n q)) (g ++ b.given) i) both can
                | inr alone ↦ wider i b.held ms b.given (subst (λ (g : List (Map (List ℕ))). IsObtainable t base (views_at (slice_index_or kits n q)) (g ++ b.given) i) alone can)
              ])) [
                | inl had ↦ had
                | inr some ↦ absurd (true≢false (sym (may_then_fill told some) ∙ isnt))
              ]
              | inr (j, listed, same, may) ↦ absurd (true≢false (sym may ∙ ap (λ (v : ℕ). may_fill store view tells t base cached_now kits v) same ∙ isnt))
            ]))
          where
            may_then_fill : tells ≡ true → some_may_have store view t base cached_now kits (want_at t.plan i) ≡ true → may_fill store view tells t base cached_now kits (want_at t.plan i) ≡ true
            may_then_fill told some = may_when tells (length kits == 1) (some_may_have store view t base cached_now kits (want_at t.plan i)) (λ so. some)

            wider : (i : ℕ) (held ms own : List (Map (List ℕ))) → IsObtainable t base (views_at (slice_index_or kits n q)) (held ++ own) i → IsObtainable t base (views_at (slice_index_or kits n q)) ((held ++ ms) ++ own) i
            wider i held ms own (inl right) = inl right
            wider i held ms own (inr (inl seeds)) = inr (inl seeds)
            wider i held ms own (inr (inr gives)) = inr (inr (elim (gives_part (kind_of t.listing) (id_of t.listing i) (size_of t.listing i) held own gives) [
              | inl here ↦ gives_left (kind_of t.listing) (id_of t.listing i) (size_of t.listing i) (held ++ ms) own (gives_left (kind_of t.listing) (id_of t.listing i) (size_of t.listing i) held ms here)
              | inr later ↦ gives_right (kind_of t.listing) (id_of t.listing i) (size_of t.listing i) (held ++ ms) own later
            ]))

    pub fills_had : (tells ≡ true → length base ≡ image_length t.listing) → 2 ≤ length kits
        → MayFillFrom store view t (λ e. may_fill store view tells t base cached_now kits (want_at t.plan e)) (if tells then Some base else None) c0 kits
    fills_had sized many all cached cache = if_told tells base (λ y. (i : ℕ) → i < count_of t.listing → may_fill store view tells t base cached_now kits (want_at t.plan i) ≡ true → SomeKitHas store view t kits cached y i)
        (λ told i inside may.
        let w = want_at t.plan i in
        let several : (length kits == 1) ≡ false = not_one (length kits) many in
        let a = Any-from_list_any (test w) kits (may_then tells (length kits == 1) (some_may_have store view t base cached_now kits w) told several may) in
        let k = a.1 in
        let knows = subst (λ (q : Kit S V). Telling view.tells (views_of view q.seeds.items) × ((maps : List (Map (List ℕ))) × (maps_of store.members q.chain.stores ≡ Some maps))) a.3 (all a.0 a.1 a.2) in
        let maps = knows.1.0 in
        let had : want_had t base (views_of view k.seeds.items) (cached ++ maps) w ≡ true =
        subst (λ o. may_have t base (views_of view k.seeds.items) o w ≡ true) (maps_told k cached maps knows.0 cache knows.1.1) a.4 in (
          a.0,
          k,
          a.2,
          a.3,
          (
            maps,
            knows.1.1,
            subst (λ (b : List ℕ). IsObtainable t b (views_of view k.seeds.items) (cached ++ maps) i) (sym (resized_same base (image_length t.listing) (sized told)))
                (obtained (views_of view k.seeds.items) (cached ++ maps) i inside had),
          ),
        ))
      where
        not_one : (n : ℕ) → 2 ≤ n → (n == 1) ≡ false
        not_one n more = elim (cases_Bool (n == 1)) [
          | inl is ↦ absurd (let one = eqb-true n 1 is in omega (arith, one, more))
          | inr isnt ↦ isnt
        ]

    pub picked_permits : (tells ≡ true → length base ≡ image_length t.listing) → 2 ≤ length kits → (kind : DigestKind) → kind ≡ kind_of t.listing → (first : Option (Map (List ℕ))) (taken : List ℕ) (failed : ℕ) (pairs : Option (List (List ℕ × ℕ)))
        (maps : Option (List (Map (List ℕ)))) → IfSome c0 (NamesShelf kind first taken failed) → pairs ≡ Some (pairs_of t.listing) → maps ≡ maps_of store.members (all_stores kits)
        → Permits store view (picked store view tells t base cached_now kits) t kits kind first taken failed pairs maps c0
    picked_permits sized many kind digest first taken failed pairs maps names listed stores = record {
      digest = digest;
      shelf = names;
      listed = listed;
      stores = stores;
      each = permits_each kind first pairs maps (named_opens kind first taken failed c0 names) stores;
      had = fills_had sized many;
    }

    pub picked_one : length kits ≡ 1 → MayFillAll (picked store view tells t base cached_now kits)
    picked_one is e = may_one tells (length kits == 1) (some_may_have store view t base cached_now kits (want_at t.plan e)) (eq-eqb (length kits) 1 is) where
      may_one : (b one has : Bool) → one ≡ true → (if b then one || has else true) ≡ true
      may_one true true has is = refl
      may_one true false has is = absurd (false≢true is)
      may_one false one has is = refl
