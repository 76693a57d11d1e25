-- An index has one plan for each number of workers, and a list of one kit has one kit.
use Rattle.std.proofs.Common.{◌≡◌, ◌∙◌, ℕ, zero, suc, ◌<◌, ◌+◌, List, [], ◌∷◌, ◌++◌, All, Option, length, map, slice_index, slice_index_or, slice_set, refl, sym, ap, subst, arith}
use Rattle.std.proofs.lemmas.List.{ext_get_or, length-append, length-map}
use Rattle.assembler.specs.OneKit.{ByPlan, OfKit, lent}
use Rattle.cache_store.specs.Shelves.{Shelf}
use Rattle.chunk_sources.specs.Sources.{Sources, sources}
use Rattle.chunk_sources.specs.Wants.{Task}
use Rattle.chunk_sources.specs.declared.kit.Kit.{Kit}
use Rattle.extract_plan.specs.Places.{Placed, PlacesFit, PlacesKnown, places_at}
use Rattle.caibx_codec.specs.Listing.{Listing, count_of, kind_of, size_of}
use Rattle.extract_plan.specs.Deal.{AreShardEnds, AreWants, Deal, IsPlan, deal_shards, entries_of, shards_of}

-- ---- the plan

module _ (l : Listing) where
  -- the number of an entry isn't less in one list of wants than in the other, if those before it are the same
  not_less : (n m : ℕ) (xs ys : List ℕ) → AreWants l n xs → AreWants l m ys → (i : ℕ) → i < count_of l
      → ((j : ℕ) → j < i → slice_index xs j ≡ slice_index ys j) → slice_index xs i < slice_index ys i → ⊥
  not_less n m xs ys a b i inside same less =
      let at = b.ordered i (slice_index xs i) inside less in
      let there : at.0 < count_of l = omega (arith, at.1, inside) in
      let alike = (a.alike at.0 i there inside).0 (same at.0 at.1 ∙ at.2) in
      let equal = (b.alike at.0 i there inside).1 alike in
      let now : slice_index xs i ≡ slice_index ys i = sym at.2 ∙ equal in
      omega (arith, now, less)

  same_below : (n m : ℕ) (xs ys : List ℕ) → AreWants l n xs → AreWants l m ys → (k i : ℕ) → i < k → i < count_of l
      → slice_index xs i ≡ slice_index ys i
  same_below n m xs ys a b zero i less inside = absurd (omega (arith, less))
  same_below n m xs ys a b (suc k) i less inside =
      let before : (j : ℕ) → j < i → slice_index xs j ≡ slice_index ys j = λ j lt. same_below n m xs ys a b k j (omega (arith, lt, less)) (omega (arith, lt, inside)) in
      let one = not_less n m xs ys a b i inside before in
      let other = not_less m n ys xs b a i inside (λ j lt. sym (before j lt)) in
      omega (arith, one, other)

  same_wants : (n m : ℕ) (xs ys : List ℕ) → AreWants l n xs → AreWants l m ys → xs ≡ ys
  same_wants n m xs ys a b = ext_get_or 0 xs ys (a.size ∙ sym b.size)
      (λ i lt. same_below n m xs ys a b (suc i) i (omega arith) (subst (λ (c : ℕ). i < c) a.size lt))

  no_more : (n m : ℕ) (xs ys : List ℕ) → AreWants l n xs → AreWants l m ys → n < m → ⊥
  no_more n m xs ys a b less =
      let at = b.every n less in
      let in_a = a.within at.0 at.1 in
      let same = same_below n m xs ys a b (suc at.0) at.0 (omega arith) at.1 in
      let there : slice_index ys at.0 ≡ n = at.2 in
      omega (arith, in_a, same, there)

  same_cuts : (s : ℕ) (xs ys : List ℕ) → AreShardEnds l s xs → AreShardEnds l s ys → xs ≡ ys
  same_cuts s xs ys a b = ext_get_or 0 xs ys (a.size ∙ sym b.size)
      (λ k lt. let inside : k < s = subst (λ (c : ℕ). k < c) a.size lt in a.ends k inside ∙ sym (b.ends k inside))

  pub same_plan : (count : ℕ) (d e : Deal) → IsPlan l count d → IsPlan l count e → d ≡ e
  same_plan count d e p q =
      let workers : d.workers ≡ e.workers = p.workers ∙ sym q.workers in
      let want_of : d.want_of ≡ e.want_of = same_wants d.wants e.wants d.want_of e.want_of p.wants q.wants in
      let less = no_more d.wants e.wants d.want_of e.want_of p.wants q.wants in
      let more = no_more e.wants d.wants e.want_of d.want_of q.wants p.wants in
      let wants : d.wants ≡ e.wants = omega (arith, less, more) in
      let shards : deal_shards d ≡ deal_shards e = ap (λ (n : ℕ). shards_of n (length d.want_of)) workers ∙ ap (λ (xs : List ℕ). shards_of e.workers (length xs)) want_of in
      let cuts : d.cuts ≡ e.cuts = same_cuts (deal_shards e) d.cuts e.cuts (subst (λ (n : ℕ). AreShardEnds l n d.cuts) shards p.cuts) q.cuts in
      ap (λ (n : ℕ). record { workers = n; wants = d.wants; want_of = d.want_of; cuts = d.cuts }) workers
      ∙ ap (λ (n : ℕ). record { workers = e.workers; wants = n; want_of = d.want_of; cuts = d.cuts }) wants
      ∙ ap (λ (xs : List ℕ). record { workers = e.workers; wants = e.wants; want_of = xs; cuts = d.cuts }) want_of
      ∙ ap (λ (xs : List ℕ). record { workers = e.workers; wants = e.wants; want_of = e.want_of; cuts = xs }) cuts

  -- places by one plan are places by another
  pub places_on : (n m : ℕ) (d e : Deal) → IsPlan l n d → IsPlan l m e → (x : Placed) (seeds : ℕ) → PlacesKnown l d x seeds → PlacesKnown l e x seeds
  places_on n m d e p q x seeds is =
      let want_of : d.want_of ≡ e.want_of = same_wants d.wants e.wants d.want_of e.want_of p.wants q.wants in
      let less = no_more d.wants e.wants d.want_of e.want_of p.wants q.wants in
      let more = no_more e.wants d.wants e.want_of d.want_of q.wants p.wants in
      let wants : d.wants ≡ e.wants = omega (arith, less, more) in
      record {
        size = is.size ∙ ap (λ (k : ℕ). k + 1) wants;
        fit = λ w inside. subst (λ (xs : List ℕ). PlacesFit (kind_of l) seeds (size_of l (slice_index (entries_of xs w) 0)) (places_at x w)) want_of (is.fit w (omega (arith, inside, wants)));
      }

-- the plans for one worker and for several have the same wants
module _ (l : Listing) (count : ℕ) (p q : Deal) (one : IsPlan l 1 p) (several : IsPlan l count q) where
  -- the plan for one worker with the wants of the other
  abbrev pub with_wants : Deal
  with_wants = record { workers = 1; wants = q.wants; want_of = q.want_of; cuts = p.cuts }

  with_wants_is : IsPlan l 1 with_wants
  with_wants_is =
      let shards : shards_of p.workers (length p.want_of) ≡ shards_of 1 (length q.want_of) = ap (λ (n : ℕ). shards_of n (length p.want_of)) one.workers ∙ ap (shards_of 1) (one.wants.size ∙ sym several.wants.size) in
      record { workers = refl; wants = several.wants; cuts = subst (λ (n : ℕ). AreShardEnds l n p.cuts) shards one.cuts }

  pub same_but_workers : p ≡ with_wants
  same_but_workers = same_plan l 1 p with_wants one with_wants_is

-- ---- the kit

module _ {K : Type 0} where
  -- the list of one
  pub alone : (xs : List K) (y : K) → length xs ≡ 1 → y ≡ slice_index_or xs 0 y → xs ≡ y ∷ []
  alone [] y one is = absurd (omega (arith, one))
  alone (x ∷ []) y one is = ap (λ q. q ∷ []) (sym is)
  alone (x ∷ z ∷ xs) y one is = absurd (omega (arith, one))

  -- the list of which the last was taken
  pub last_alone : (xs ys : List K) (k : K) → xs ≡ ys ++ k ∷ [] → length xs ≡ 1 → xs ≡ k ∷ []
  last_alone xs [] k is one = is
  last_alone xs (y ∷ ys) k is one =
      let long : length xs ≡ suc (length (ys ++ k ∷ [])) = ap (λ zs. length zs) is in
      absurd (omega (arith, long, one, length-append ys (k ∷ [])))

  pub none_left : (xs ys : List K) (k : K) → xs ≡ ys ++ k ∷ [] → length xs ≡ 1 → ys ≡ []
  none_left xs [] k is one = refl
  none_left xs (y ∷ ys) k is one =
      let long : length xs ≡ suc (length (ys ++ k ∷ [])) = ap (λ zs. length zs) is in
      absurd (omega (arith, long, one, length-append ys (k ∷ [])))

  pub one_of : (xs : List K) → length xs ≡ 1 → (y : K) × (xs ≡ y ∷ [])
  one_of [] one = absurd (omega (arith, one))
  one_of (x ∷ []) one = (x, refl)
  one_of (x ∷ z ∷ xs) one = absurd (omega (arith, one))

  -- another takes its place
  pub alone_set : (xs : List K) (y : K) → length xs ≡ 1 → slice_set xs 0 y ≡ y ∷ []
  alone_set [] y one = absurd (omega (arith, one))
  alone_set (x ∷ []) y one = refl
  alone_set (x ∷ z ∷ xs) y one = absurd (omega (arith, one))

  pub all_alone : (P : K → Type 0) (xs : List K) (y : K) → xs ≡ y ∷ [] → P y → All P xs
  all_alone P xs y is has = subst (λ zs. All P zs) (sym is) one
    where
      one : All P (y ∷ [])
      one zero d lt = has
      one (suc n) d lt = absurd (omega (arith, lt))

  pub of_alone : (P : K → Type 0) (xs : List K) (y : K) → xs ≡ y ∷ [] → All P xs → P y
  of_alone P xs y is all = subst (λ zs. All P zs) is all 0 y (omega arith)

  pub head_same : (x y : K) → x ∷ [] ≡ y ∷ [] → x ≡ y
  head_same x y same = ap (λ xs. slice_index_or xs 0 x) same

  -- what holds for the only kit, whose place another took
  pub of_only : (xs ys : List K) (k j : K) → xs ≡ k ∷ [] → ys ≡ j ∷ [] → {So : K → K → Type 0} → So k j → OfKit xs ys So
  of_only xs ys k j first last {So} is = record {
    so = λ q p one other. subst (λ (r : K). So r p) (head_same k q (sym first ∙ one)) (subst (λ (r : K). So k r) (head_same j p (sym last ∙ other)) is);
  }

  -- what holds for a kit that stayed
  pub of_same : (xs : List K) {So : K → K → Type 0} → ((k : K) → So k k) → OfKit xs xs So
  of_same xs {So} is = record { so = λ k j first last. subst (λ r. So k r) (head_same k j (sym first ∙ last)) (is k) }

-- what holds for the only kit, by the plan of the index, holds for the kit before it had room
pub by_kit : {S V : Type 0} (l : Listing) (x : Placed) (s : Task) (a b : ℕ) (e f : Option Shelf) (xs ms ys : List (Kit S V)) → s.listing ≡ l → IsPlan l (length xs) s.plan → s.places ≡ x
    → map (λ k. k.chain) ms ≡ map (λ k. k.chain) xs → map (λ k. k.seeds) ms ≡ map (λ k. k.seeds) xs → {So : Task → Sources S V → Sources S V → Type 0}
    → OfKit ms ys (λ k j. So s (sources a k.seeds.items e k.chain) (sources b j.seeds.items f j.chain)) → ByPlan l x (lent a xs e) (lent b ys f) So
by_kit {S} {V} l x s a b e f xs ms ys listed plan placed chains seeds {So} is = record {
  so = λ t q p t_listed t_placed planned first last.
      let alone_in : length xs ≡ 1 = ap (λ (zs : List (Kit S V)). length zs) first in
      let one : length ms ≡ 1 = sym (length-map ms (λ (n : Kit S V). n.chain)) ∙ ap (λ zs. length zs) chains ∙ length-map xs (λ (n : Kit S V). n.chain) ∙ alone_in in
      let k = one_of ms one in
      let chain : k.0.chain ≡ q.chain = head_same k.0.chain q.chain (sym (ap (map (λ (n : Kit S V). n.chain)) k.1) ∙ (chains ∙ ap (map (λ (n : Kit S V). n.chain)) first)) in
      let seed : k.0.seeds ≡ q.seeds = head_same k.0.seeds q.seeds (sym (ap (map (λ (n : Kit S V). n.seeds)) k.1) ∙ (seeds ∙ ap (map (λ (n : Kit S V). n.seeds)) first)) in
      let task_is : (◌≡◌ {A = Task} s t) =
      ap (λ (n : Listing). record { listing = n; plan = s.plan; places = s.places }) (listed ∙ sym t_listed)
      ∙ (ap (λ (n : Deal). record { listing = t.listing; plan = n; places = s.places }) (same_plan l 1 s.plan t.plan (subst (λ (n : ℕ). IsPlan l n s.plan) alone_in plan) planned)
      ∙ ap (λ (n : Placed). record { listing = t.listing; plan = t.plan; places = n }) (placed ∙ sym t_placed)) in
      subst (λ (n : Task). So n (sources a q.seeds.items e q.chain) (sources b p.seeds.items f p.chain)) task_is
      (subst (λ v. So s (sources a v.items e q.chain) (sources b p.seeds.items f p.chain)) seed
      (subst (λ v. So s (sources a k.0.seeds.items e v) (sources b p.seeds.items f p.chain)) chain (is.so k.0 p k.1 last)));
}
