-- Where the chunk of an entry comes from, where nothing fails: out of zeros, or else from one seed, or else from one
-- store.
use Rattle.std.proofs.Common.{◌≡◌, ℕ, zero, suc, ◌+◌, ◌-◌, ◌<◌, ◌≤◌, ◌&&◌, ◌||◌, ◌==◌, not, nat_le, List, [], ◌∷◌, Bool, true, false, length, replicate, slice_index, slice_index_or, slice_range, Option, Some, None, refl, sym, ap, subst, ◌∙◌, inl, inr, arith, if◌then◌else◌}
use Rattle.std.proofs.lemmas.Bool.{le-leb}
use Rattle.std.proofs.lemmas.Bool.Decides.{Decides-eqb}
use Rattle.std.proofs.lemmas.Slice.Eq.{bytes_eq-Decides}
use Rattle.std.specs.List.{list_any, slice_get}
use Rattle.std.specs.Str.{bytes_eq}
use Rattle.assembler.proofs.Entries.{among, first_among, ids_same}
use Rattle.assembler.specs.Assemblies.{IsObtainable, RightAlike}
use Rattle.range_survey.specs.Reports.{one_if}
use Rattle.cache_store.specs.Giving.{SomeGives}
use Rattle.caibx_codec.specs.Listing.{Listing, Rules, count_of, end_of, id_of, image_length, kind_of, size_of, start_of}
use Rattle.caibx_codec.specs.Right.{IsRight, IsRightAt}
use Rattle.chunk_sources.specs.Economy.{given_at, seeds_give, source_of, stores_give}
use Rattle.chunk_store.specs.Digests.{digest_of}
use Rattle.chunk_store.specs.declared.id.DigestKind.{DigestKind}
use Rattle.dsy_base.specs.Bytes.{Held, resized}
use Rattle.dsy_base.specs.Maps.{Map}
use Rattle.extract_plan.specs.Deal.{AreWants, Deal, first_of, of_want, want_id}
use Rattle.extract_plan.specs.Places.{IsSeedIndex, Placed, nth_place, place, places_at}
use Rattle.extract_plan.specs.declared.seed.SeedPlace.{SeedPlace}
use Rattle.image_demo.proofs.FirstEntries.{alike_decides, any_filtered, any_in_range, any_of_range, entries_alike}
use Rattle.image_demo.specs.Figures.{is_alike, is_in_seed, is_in_zeros}
use Rattle.image_demo.specs.Tasks.{task_of}
use Rattle.range_survey.specs.Fates.{is_right_at}
use Rattle.range_survey.specs.declared.fate.Fate.{Fate}
use Rattle.range_survey.specs.declared.fate.Fate.TheVariants as fate

same_bool : (a b : Bool) → (a ≡ true → b ≡ true) → (b ≡ true → a ≡ true) → a ≡ b
same_bool true b f g = sym (f refl)
same_bool false true f g = g refl
same_bool false false f g = refl

or_false : (a b : Bool) → a ≡ false → (a || b) ≡ b
or_false a b h = rw h refl

-- a list in which something passes isn't empty
any_some : {X : Type 0} (f : X → Bool) (xs : List X) → list_any f xs ≡ true → 0 < length xs
any_some f [] h = absurd (cc)
any_some f (x ∷ xs) h = omega arith

-- the place k passes
any_at : (f : SeedPlace → Bool) (ps : List SeedPlace) (k : ℕ) → k < length ps → f (nth_place ps k) ≡ true → list_any f ps ≡ true
any_at f [] k inside h = absurd (omega (arith, inside))
any_at f (p ∷ ps) zero inside h = rw h refl
any_at f (p ∷ ps) (suc k) inside h = go (f p) refl (any_at f ps k (omega (arith, inside)) h) where
  go : (b : Bool) → f p ≡ b → list_any f ps ≡ true → list_any f (p ∷ ps) ≡ true
  go true is rest = rw is refl
  go false is rest = rw is rest

pub zeros_filled : (n : ℕ) → resized [] n ≡ replicate n 0
zeros_filled n = none n ∙ ap (λ k. replicate k 0) less where
  none : (n : ℕ) → resized [] n ≡ replicate (n - 0) 0
  none zero = refl
  none (suc n) = refl

  less : n - 0 ≡ n
  less = omega arith

module _ (l m : Listing) (d : Deal) (x : Placed) (wants : AreWants l d.wants d.want_of) (index : IsSeedIndex l d (m ∷ []) x) where
  abbrev want : ℕ → ℕ
  want i = slice_index d.want_of i

  abbrev found : ℕ → List SeedPlace
  found i = places_at x (want i)

  -- the only seed
  only : (s : ℕ) (q : Listing) → slice_get (m ∷ []) s ≡ Some q → q ≡ m
  only zero q h = cc
  only (suc s) q h = absurd (cc)

  -- where there is a place, the seed's index lists the chunk
  listed : (i : ℕ) → i < count_of l → 0 < length (found i) → is_in_seed l m i ≡ true
  listed i below some =
      let p = (index.places i below).sound 0 some in
      let e : p.listing ≡ m = only _ p.listing p.seed in
      let inside : p.entry < count_of m = subst (λ q. p.entry < count_of q) e p.inside in
      any_of_range (is_alike l i m) 0 (count_of m) p.entry (omega arith) (omega (arith, inside))
      ((alike_decides l i m p.entry).1 (subst (λ q. id_of q p.entry ≡ id_of l i) e p.id_is, subst (λ q. size_of q p.entry ≡ size_of l i) e p.size_is))

  module _ (held : Held) (t : List ℕ) (told : held.bytes ≡ Some t) (right : IsRight t m) (same_kind : kind_of m ≡ kind_of l) (rules : Rules m) (size : image_length m ≡ held.size) where
    abbrev views : List (Option Held)
    views = Some held ∷ []

    -- what stands at the place of an entry of the seed
    gives : (i j : ℕ) → j < count_of m → id_of m j ≡ id_of l i → size_of m j ≡ size_of l i → given_at (Some held) (place (kind_of l) 0 (start_of m j) (size_of l i)) (id_of l i) ≡ true
    gives i j inside named sized =
        let rises : start_of m j < end_of m j = rules.rises j inside in
        let within : end_of m j ≤ image_length m = rules.inside j inside in
        let end : start_of m j + size_of l i ≡ end_of m j = omega (arith, sized, rises) in
        let fits : nat_le (start_of m j + size_of l i) held.size ≡ true = le-leb _ _ (omega (arith, end, within, size)) in
        let name : bytes_eq (digest_of (kind_of l) (slice_range t (start_of m j) (start_of m j + size_of l i))) (id_of l i) ≡ true =
        (bytes_eq-Decides _ _).1 (ap (λ e. digest_of (kind_of l) (slice_range t (start_of m j) e)) end ∙ ap (λ k. digest_of k (slice_range t (start_of m j) (end_of m j))) (sym same_kind) ∙ right.entries j inside ∙ named) in
        rw told (rw fits name)

    -- the seed gives what its index lists
    pub seed_gives : (i : ℕ) → i < count_of l → seeds_give views (found i) (id_of l i) ≡ is_in_seed l m i
    seed_gives i below = same_bool _ _ (λ h. listed i below (any_some _ (found i) h)) back where
      back : is_in_seed l m i ≡ true → seeds_give views (found i) (id_of l i) ≡ true
      back h =
          let e = any_in_range (is_alike l i m) 0 (count_of m) h in
          let alike = (alike_decides l i m e.0).0 e.3 in
          let k = (index.places i below).complete 0 e.0 m refl (omega (arith, e.2)) alike.0 alike.1 in
          any_at (λ p. given_at (slice_index_or views p.seed None) p (id_of l i)) (found i) k.0 k.1
          (subst (λ p. given_at (slice_index_or views p.seed None) p (id_of l i) ≡ true) (sym k.2) (gives i e.0 (omega (arith, e.2)) alike.0 alike.1))

    module _ (base : List ℕ) (zeros : base ≡ replicate (image_length l) 0) (map : Map (List ℕ)) where
      kept_alike : (i : ℕ) → i < count_of l → list_any (is_right_at l base) (of_want d (want i)) ≡ is_in_zeros l i
      kept_alike i below = (λ k. list_any (is_right_at l (zeros k)) (entries_alike l d wants i below k))

      -- an entry that is right in zeros
      right_alike : (i : ℕ) → RightAlike l base i → is_in_zeros l i ≡ true
      right_alike i (j, inside, alike, right_at) =
          any_filtered (is_alike l i l) (is_right_at l (replicate (image_length l) 0)) 0 (count_of l) j (omega arith) (omega (arith, inside)) (
            (alike_decides l i l j).1 alike,
            (bytes_eq-Decides _ _).1 (subst (λ b. IsRightAt b l j) zeros right_at),
          )

      -- a store that gives the chunk
      stored : (kind : DigestKind) (id : List ℕ) (size : ℕ) → SomeGives kind id size (map ∷ []) → stores_give kind id size (map ∷ []) ≡ true
      stored kind id size (zero, n, inside, is, (b, holds, chunk)) =
          let here : map id ≡ Some b = subst (λ f. f id ≡ Some b) (sym is) holds in
          let named : bytes_eq (digest_of kind b) id ≡ true = (bytes_eq-Decides _ _).1 chunk.named in
          let sized : (length b == size) ≡ true = (Decides-eqb _ _).1 chunk.sized in
          rw here (rw named (rw sized refl))
      stored kind id size (suc k, n, inside, is, rest) = absurd (omega (arith, inside))

      -- a chunk that can be obtained, and is neither in zeros nor in the seed, is in the store
      fetched : (i : ℕ) → i < count_of l → IsObtainable (task_of l d x) base views (map ∷ []) i → is_in_zeros l i ≡ false → is_in_seed l m i ≡ false
          → stores_give (kind_of l) (id_of l i) (size_of l i) (map ∷ []) ≡ true
      fetched i below (inl alike) none n = absurd (clash (sym none ∙ right_alike i alike)) where
        clash : false ≡ true → ⊥
        clash e = cc
      fetched i below (inr (inl (k, p, inside, is, given))) none n = absurd (clash (sym n ∙ listed i below (omega (arith, inside)))) where
        clash : false ≡ true → ⊥
        clash e = cc
      fetched i below (inr (inr held_there)) none n = stored _ _ _ held_there

      abbrev source : ℕ → Fate
      source w = source_of (task_of l d x) base views [] (map ∷ []) w

      stands : (i : ℕ) → i < count_of l → source (want i) ≡ (if is_in_zeros l i then fate.Kept else if is_in_seed l m i then fate.Seeded else if stores_give (kind_of l) (id_of l i) (size_of l i) (map ∷ []) then fate.Fetched else fate.Open)
      stands i below = (λ k. pick (kept_alike i below k) (seen k) (stores_give (kind_of l) (ids.0 k) (ids.1 k) (map ∷ []))) where
        pick : Bool → Bool → Bool → Fate
        pick a b c = if a then fate.Kept else if b then fate.Seeded else if c then fate.Fetched else fate.Open

        size_is : length d.want_of ≡ count_of l
        size_is = wants.size

        ids : (want_id l d (want i) ≡ id_of l i) × (size_of l (first_of d (want i)) ≡ size_of l i)
        ids = ids_same l d (want i) (first_of d (want i)) i wants (first_among l d (want i) wants (wants.within i below)) (among d (want i) i (omega (arith, below, size_is)) refl)

        seen : seeds_give views (found i) (want_id l d (want i)) ≡ is_in_seed l m i
        seen = ap (seeds_give views (found i)) ids.0 ∙ seed_gives i below

      module _ (obtainable : (i : ℕ) → i < count_of l → IsObtainable (task_of l d x) base views (map ∷ []) i) where
        one_seeded : (a b c : Bool) → one_if fate.Seeded (if a then fate.Kept else if b then fate.Seeded else if c then fate.Fetched else fate.Open) ≡ (if not a && b then 1 else 0)
        one_seeded true b c = refl
        one_seeded false true c = refl
        one_seeded false false true = refl
        one_seeded false false false = refl

        pub seeded_each : (i : ℕ) → i < count_of l → one_if fate.Seeded (source (want i)) ≡ (if not (is_in_zeros l i) && is_in_seed l m i then 1 else 0)
        seeded_each i below = ap (one_if fate.Seeded) (stands i below) ∙ one_seeded (is_in_zeros l i) (is_in_seed l m i) _

        one_fetched : (a b c : Bool) → (a ≡ false → b ≡ false → c ≡ true) → one_if fate.Fetched (if a then fate.Kept else if b then fate.Seeded else if c then fate.Fetched else fate.Open) ≡ (if not a && not b then 1 else 0)
        one_fetched true b c h = refl
        one_fetched false true c h = refl
        one_fetched false false true h = refl
        one_fetched false false false h = absurd (clash (h refl refl)) where
          clash : false ≡ true → ⊥
          clash e = cc

        pub fetched_each : (i : ℕ) → i < count_of l → one_if fate.Fetched (source (want i)) ≡ (if not (is_in_zeros l i) && not (is_in_seed l m i) then 1 else 0)
        fetched_each i below = ap (one_if fate.Fetched) (stands i below) ∙ one_fetched (is_in_zeros l i) (is_in_seed l m i) _ (fetched i below (obtainable i below))

      pub cached_none : (w : ℕ) → one_if fate.Cached (source w) ≡ 0
      cached_none w = go (list_any (is_right_at l base) (of_want d w)) (seeds_give views (places_at x w) (want_id l d w)) (stores_give (kind_of l) (want_id l d w) (size_of l (first_of d w)) (map ∷ [])) where
        go : (a b c : Bool) → one_if fate.Cached (if a then fate.Kept else if b then fate.Seeded else if c then fate.Fetched else fate.Open) ≡ 0
        go true b c = refl
        go false true c = refl
        go false false true = refl
        go false false false = refl
