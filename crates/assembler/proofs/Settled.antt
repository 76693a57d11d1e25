-- The entries of a want as its call sees them, and what a call that settles them says of all.
use Rattle.std.proofs.Common.{◌≡◌, ◌⊎◌, ℕ, ◌<◌, ◌≤◌, List, length, slice_index, Option, Result, Ok, Err, true, false, refl, sym, ap, subst, ◌∙◌, inl, inr, arith}
use Rattle.std.proofs.lemmas.Bool.{cases_lt}
use Rattle.assembler.proofs.Entries.{first_among, ids_same, listed_of}
use Rattle.assembler.proofs.Filled.{rose_still}
use Rattle.assembler.specs.Losses.{IsFirstOpen, Where, lost_want}
use Rattle.assembler.specs.declared.fault.Lost.{Lost}
use Rattle.assembler.specs.declared.fault.Unsettled.{Unsettled}
use Rattle.assembler.specs.declared.fault.Unsettled.TheVariants as unsettled
use Rattle.caibx_codec.specs.Asks.{IsListedGet}
use Rattle.caibx_codec.specs.Listing.{count_of, id_of, kind_of, size_of}
use Rattle.chunk_sources.proofs.Origins.{kept_source}
use Rattle.cache_store.specs.Shelves.{Shelf}
use Rattle.chunk_sources.specs.Caches.{TakesChunk, TakesWants}
use Rattle.chunk_sources.specs.Economy.{source_over}
use Rattle.chunk_sources.specs.Losses.{AskedLast, RefusedBy, chunk_of}
use Rattle.chunk_sources.specs.Sources.{sources}
use Rattle.chunk_sources.specs.Wants.{AllOf, IsAmong, Task, Wanted, want_chunk}
use Rattle.chunk_store.specs.Asks.{Get}
use Rattle.chunk_store.specs.declared.id.ChunkId.{ChunkId}
use Rattle.chunk_store.specs.declared.store.Store.{Ghosts as StoreWords}
use Rattle.dsy_base.specs.Bytes.{Held}
use Rattle.dsy_base.specs.Maps.{Map}
use Rattle.dsy_base.specs.declared.view.View.{Ghosts as ViewWords}
use Rattle.extract_plan.proofs.Entries.{entries_rise}
use Rattle.extract_plan.specs.Deal.{AreWants, first_of, of_want, want_id}
use Rattle.extract_plan.specs.Places.{PlacesKnown, PlacesFit, places_at}
use Rattle.extract_plan.specs.declared.seed.Seed.{Seed}
use Rattle.extract_plan.specs.declared.seed.SeedPlace.{SeedPlace}
use Rattle.range_survey.specs.Fates.{settled}
use Rattle.range_survey.specs.declared.fate.Fate.{Fate}
use Rattle.range_survey.specs.declared.fate.Fate.TheVariants as fate
use Rattle.store_chain.proofs.Kept.{kept_weaker}
use Rattle.store_chain.specs.Chains.{Chained, KeepsStores}

pub where_both : (P Q R : Lost → Type 0) (F G : Type 0) (r : Result Unit Unsettled) → ((x : Lost) → P x → Q x → R x) → Where P F r → Where Q G r → Where R G r
where_both P Q R F G (Ok u) f p q = tt
where_both P Q R F G (Err (unsettled.Lost x)) f p q = f x p q
where_both P Q R F G (Err unsettled.TargetFault) f p q = q

pub where_map : (P Q : Lost → Type 0) (F : Type 0) (r : Result Unit Unsettled) → ((x : Lost) → P x → Q x) → Where P F r → Where Q F r
where_map P Q F (Ok u) f p = tt
where_map P Q F (Err (unsettled.Lost x)) f p = f x p
where_map P Q F (Err unsettled.TargetFault) f p = p

module _ (t : Task) (w : ℕ) (wants : AreWants t.listing t.plan.wants t.plan.want_of) (below : w < t.plan.wants) (es : List ℕ) (is : es ≡ of_want t.plan w) where
  there : (i : ℕ) → IsAmong es i → IsAmong (of_want t.plan w) i
  there i among = subst (λ (xs : List ℕ). IsAmong xs i) is among

  pub listed : (i : ℕ) → IsAmong es i → i < count_of t.listing
  listed i among = listed_of t.listing t.plan w i wants (there i among)

  pub inside : (k : ℕ) → k < length es → slice_index es k < count_of t.listing
  inside k lt = listed (slice_index es k) (k, lt, refl)

  module _ (one : ℕ) (among : IsAmong es one) (id : List ℕ) (named : id ≡ id_of t.listing one) (n : ℕ) (sized : n ≡ size_of t.listing one) where
    -- all have the id and the size of one of them
    pub all_as : AllOf t.listing id n es
    all_as = λ k lt.
        let here : IsAmong es (slice_index es k) = (k, lt, refl) in
        let same = ids_same t.listing t.plan w (slice_index es k) one wants (there _ here) (there one among) in
        record { listed = listed (slice_index es k) here; id_is = same.0 ∙ sym named; size_is = same.1 ∙ sym sized }

    as_first : size_of t.listing (first_of t.plan w) ≡ n
    as_first = (ids_same t.listing t.plan w (first_of t.plan w) one wants (first_among t.listing t.plan w wants below) (there one among)).1 ∙ sym sized

    named_first : id ≡ want_id t.listing t.plan w
    named_first = named ∙ (ids_same t.listing t.plan w one (first_of t.plan w) wants (there one among) (first_among t.listing t.plan w wants below)).0

    pub fit : (seeds : ℕ) (ps : List SeedPlace) → PlacesKnown t.listing t.plan t.places seeds → ps ≡ places_at t.places w → PlacesFit (kind_of t.listing) seeds n ps
    fit seeds ps known at =
        let here = subst (λ (m : ℕ). PlacesFit (kind_of t.listing) seeds m (places_at t.places w)) as_first (known.fit w below) in
        subst (λ (qs : List SeedPlace). PlacesFit (kind_of t.listing) seeds n qs) (sym at) here

    -- what is sought is the chunk of the want
    pub same_chunk : (ps : List SeedPlace) → ps ≡ places_at t.places w
        → (◌≡◌ {A = Wanted} (record { kind = kind_of t.listing; id = id; size = n; entries = es; places = ps }) (want_chunk t w))
    same_chunk ps at =
        ap (λ (q : List ℕ). record { kind = kind_of t.listing; id = q; size = n; entries = es; places = ps }) named_first
        ∙ ap (λ (m : ℕ). record { kind = kind_of t.listing; id = want_id t.listing t.plan w; size = m; entries = es; places = ps }) (sym as_first)
        ∙ ap (λ (xs : List ℕ). record { kind = kind_of t.listing; id = want_id t.listing t.plan w; size = size_of t.listing (first_of t.plan w); entries = xs; places = ps }) is
        ∙ ap (λ (qs : List SeedPlace). record { kind = kind_of t.listing; id = want_id t.listing t.plan w; size = size_of t.listing (first_of t.plan w); entries = of_want t.plan w; places = qs }) at

    -- what is added for it is added for the want, and what stores are asked for is listed
    pub takes_as : {S : Type 0} (store : StoreWords S) (stores : List S) (q b : List ℕ) → TakesChunk store (kind_of t.listing) id n stores q b
        → TakesWants store t.listing t.plan (λ v. v ≡ w) stores q b
    takes_as store stores q b takes = (
      w,
      refl,
      subst (λ (m : ℕ). TakesChunk store (kind_of t.listing) (want_id t.listing t.plan w) m stores q b) (sym as_first)
          (subst (λ (p : List ℕ). TakesChunk store (kind_of t.listing) p n stores q b) named_first takes),
    )

    pub keeps_as : {S : Type 0} (store : StoreWords S) (old new : List S) → KeepsStores store (λ a. a ≡ Get id) old new → KeepsStores store (IsListedGet t.listing) old new
    keeps_as store old new kept =
        kept_weaker store (λ a. a ≡ Get id) (IsListedGet t.listing) (λ a is. record { entry = one; listed = listed one among; asked = is ∙ ap (λ (q : List ℕ). Get q) named }) old new kept

  rises : (j k : ℕ) → j < k → k < length es → slice_index es j < slice_index es k
  rises = subst (λ (xs : List ℕ). (j k : ℕ) → j < k → k < length xs → slice_index xs j < slice_index xs k) (sym is) (entries_rise t.plan.want_of w)

  not_later : (j k : ℕ) → slice_index es j < slice_index es k → j < length es → j < k
  not_later j k less lt = elim (cases_lt j k) [
    | inl earlier ↦ earlier
    | inr from ↦ elim (cases_lt k j) [
      | inl later ↦ absurd (omega (arith, rises k j later lt, less))
      | inr to ↦ let same : j ≡ k = omega (arith, from, to) in absurd (omega (arith, less, ap (slice_index es) same))
    ]
  ]

  -- the first open one in their order is the least
  pub first_open : (m : List Fate) (k : ℕ) (x : Lost) → k < length es → slice_index es k ≡ x.entry → settled m x.entry ≡ false
      → ((j : ℕ) → j < k → settled m (slice_index es j) ≡ true) → x.id.0 ≡ id_of t.listing x.entry → IsFirstOpen t.listing m (of_want t.plan w) x
  first_open m k x lt at not_yet before named = record {
    among = there x.entry (k, lt, at);
    id_is = named;
    is_open = not_yet;
    first = λ i less among.
        let again : IsAmong es i = subst (λ (xs : List ℕ). IsAmong xs i) (sym is) among in
        let earlier = not_later again.0 k (omega (arith, again.2, at, less)) again.1 in
        subst (λ (n : ℕ). settled m n ≡ true) again.2 (before again.0 earlier);
  }

  -- where all are settled the want is
  pub all_kept : (m : List Fate) (views : List (Option Held)) (cached maps : List (Map (List ℕ)))
      → ((k : ℕ) → k < length es → settled m (slice_index es k) ≡ true) → source_over t (settled m) views cached maps w ≡ fate.Kept
  all_kept m views cached maps all =
      let first = first_among t.listing t.plan w wants below in
      let here : IsAmong es (first_of t.plan w) = subst (λ (xs : List ℕ). IsAmong xs (first_of t.plan w)) (sym is) first in
      kept_source (settled m) (want_chunk t w) views cached maps (first_of t.plan w) first (subst (λ (i : ℕ). settled m i ≡ true) here.2 (all here.0 here.1))

-- the stores refused the chunk of the lost entry
pub refused_as : {S : Type 0} (store : StoreWords S) (t : Task) (one n : ℕ) (id : ChunkId) (x : Lost) (old new : List S) → n ≡ size_of t.listing one
    → x.entry ≡ one → x.id ≡ id → RefusedBy store (chunk_of (kind_of t.listing) id n) old new x.refused → RefusedBy store (lost_want t.listing x) old new x.refused
refused_as store t one n id x old new sized at named h =
    let a = subst (λ (m : ℕ). RefusedBy store (chunk_of (kind_of t.listing) id m) old new x.refused) (sized ∙ ap (size_of t.listing) (sym at)) h in
    subst (λ (q : ChunkId). RefusedBy store (chunk_of (kind_of t.listing) q (size_of t.listing x.entry)) old new x.refused) (sym named) a

-- the chain that was asked was asked so, though a write failed since
module _ {S V : Type 0} (store : StoreWords S) (view : ViewWords V) (q : Wanted) (m : List Fate) (old mid new : ℕ) (le : mid ≤ new)
    (s0 s1 : List (Seed V)) (e0 e1 : Option Shelf) (c0 c1 : Chained S) where
  abbrev Until : ℕ → Type 0
  Until n = AskedLast store view q m (sources old s0 e0 c0) (sources n s1 e1 c1)

  last_still : Until mid → Until new
  last_still last = record {
    once = last.once;
    copies = λ i among is. rose_still old mid new le (last.copies i among is);
    seeds = last.seeds;
    cache = last.cache;
  }

  pub asks_still : (c1 ≡ c0) ⊎ Until mid → (c1 ≡ c0) ⊎ Until new
  asks_still (inl same) = inl same
  asks_still (inr last) = inr (last_still last)

-- asking for what is sought is asking for the chunk of the want
module _ {S V : Type 0} (store : StoreWords S) (view : ViewWords V) (m : List Fate) {p q : Wanted} (same : p ≡ q) (a b : ℕ) (e f : Option Shelf) (c d : Chained S)
    (s0 t0 s1 t1 : List (Seed V)) (first : s0 ≡ t0) (last : s1 ≡ t1) where
  pub last_as : AskedLast store view p m (sources a s0 e c) (sources b s1 f d) → AskedLast store view q m (sources a t0 e c) (sources b t1 f d)
  last_as h =
      let one = subst (λ (x : Wanted). AskedLast store view x m (sources a s0 e c) (sources b s1 f d)) same h in
      let two = subst (λ (xs : List (Seed V)). AskedLast store view q m (sources a xs e c) (sources b s1 f d)) first one in
      subst (λ (xs : List (Seed V)). AskedLast store view q m (sources a t0 e c) (sources b xs f d)) last two

  pub asks_as : (d ≡ c) ⊎ AskedLast store view p m (sources a s0 e c) (sources b s1 f d) → (d ≡ c) ⊎ AskedLast store view q m (sources a t0 e c) (sources b t1 f d)
  asks_as (inl stays) = inl stays
  asks_as (inr h) = inr (last_as h)
