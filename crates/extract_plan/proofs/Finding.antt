-- One entry of a seed more is looked up.
use Rattle.std.proofs.Common.{◌≡◌, ◌≢◌, ℕ, ◌+◌, ◌<◌, ◌≤◌, ◌⊎◌, List, [], ◌∷◌, ◌++◌, Option, Some, None, length, take, slice_index, refl, ap, sym, ◌∙◌, subst, arith, inl, inr, ⊎_elim, length-append}
use Rattle.std.specs.List.{slice_get}
use Rattle.std.proofs.lemmas.Bool.{cases_eq}
use Rattle.std.proofs.lemmas.Grind.{common_steps}
use Rattle.std.proofs.lemmas.List.{get_or_append_left, get_or_push, take_more}
use Rattle.std.proofs.lemmas.List.Sums.{fold_push}
use Rattle.std.proofs.lemmas.Option.{get_or_from_slice_get, slice_get_within}
use Rattle.caibx_codec.specs.Listing.{Listing, count_of, id_of, size_of, start_of}
use Rattle.chunk_store.specs.declared.id.DigestKind.{DigestKind}
use Rattle.chunk_store.specs.declared.id.DigestKind.TheVariants as kinds
use Rattle.extract_plan.specs.Found.{AreFound, IsDone, IsFoundPlace}
use Rattle.extract_plan.specs.Places.{ComesBefore, items_of, place, nth_place}
use Rattle.extract_plan.specs.declared.seed.SeedPlace.{SeedPlace}

some_same : {A : Type 0} (a b : A) (o : Option A) → o ≡ Some a → o ≡ Some b → a ≡ b
some_same a b o p q = cc

pub items_more : (seeds : List Listing) (s : ℕ) (m : Listing) → slice_get seeds s ≡ Some m →
    items_of (take (s + 1) seeds) ≡ items_of (take s seeds) + count_of m
items_more seeds s m is =
    let here : slice_get seeds s ≡ Some m = is in
    ap items_of (take_more seeds s m (slice_get_within seeds s m is))
    ∙ fold_push (λ n l. n + count_of l) 0 (take s seeds) _
    ∙ ap (λ l. items_of (take s seeds) + count_of l) (get_or_from_slice_get seeds s m m is)

not_done : {P : Type 0} (t j : ℕ) → IsDone 0 0 t j → P
not_done t j done = ⊎_elim (λ (a : t < 0). absurd (omega arith)) (λ (e : (t ≡ 0) × (j < 0)). absurd (omega (arith, e.1))) done

done_more : (s n t j : ℕ) → IsDone s n t j → IsDone s (n + 1) t j
done_more s n t j done = ⊎_elim (λ (a : t < s). inl a) (λ (e : (t ≡ s) × (j < n)). inr (e.0, omega (arith, e.1))) done

done_seed : (s n t j : ℕ) → IsDone s n t j → IsDone (s + 1) 0 t j
done_seed s n t j done = ⊎_elim (λ (a : t < s). inl (omega arith)) (λ (e : (t ≡ s) × (j < n)). inl (omega (arith, e.0))) done

-- the entry was done before, or it is entry n of seed s
was_done : (s n t j : ℕ) → IsDone s (n + 1) t j → IsDone s n t j ⊎ ((t ≡ s) × (j ≡ n))
was_done s n t j done = ⊎_elim
    (λ (a : t < s). inl (inl a))
    (λ (e : (t ≡ s) × (j < n + 1)). ⊎_elim
    (λ (here : j ≡ n). inr (e.0, here))
    (λ (other : j ≢ n). inl (inr (e.0, omega (arith, e.1))))
    (cases_eq j n))
    done

pub found_none : (kind : DigestKind) (number : List ℕ → ℕ → Option ℕ) (seeds : List Listing) → AreFound kind number seeds 0 0 [] []
found_none kind number seeds = record {
  size = refl;
  few = omega arith;
  sound = λ k h. absurd (omega arith);
  complete = λ t j w m is done below named. not_done t j done;
  ordered = λ j k a h. absurd (omega arith);
}

found_later : (kind : DigestKind) (number : List ℕ → ℕ → Option ℕ) (seeds : List Listing) (s n r o w : ℕ) (p : SeedPlace) →
    ((t j : ℕ) → IsDone s n t j → IsDone r o t j) → IsFoundPlace kind number seeds s n w p → IsFoundPlace kind number seeds r o w p
found_later kind number seeds s n r o w p later x = record {
  listing = x.listing;
  seed = x.seed;
  entry = x.entry;
  inside = x.inside;
  done = later p.seed x.entry x.done;
  named = x.named;
  start = x.start;
  size = x.size;
  kind_is = x.kind_is;
}

module _ (kind : DigestKind) (number : List ℕ → ℕ → Option ℕ) (seeds : List Listing) (s n : ℕ) (m : Listing) (ws : List ℕ) (ps : List SeedPlace)
    (is : slice_get seeds s ≡ Some m) (h : AreFound kind number seeds s n ws ps) where
  listing_is : (t : ℕ) (l : Listing) → t ≡ s → slice_get seeds t ≡ Some l → l ≡ m
  listing_is t l e here = some_same l m (slice_get seeds s) (ap (slice_get seeds) (sym e) ∙ here) is

  -- seed s has no more entries
  pub found_seed : n ≡ count_of m → AreFound kind number seeds (s + 1) 0 ws ps
  found_seed all = record {
    size = h.size;
    few = let few : length ps ≤ items_of (take s seeds) + n = h.few in let more = items_more seeds s m is in omega arith;
    sound = λ k a. found_later kind number seeds s n (s + 1) 0 _ _ (done_seed s n) (h.sound k a);
    complete = λ t j w l here done below named. ⊎_elim
        (λ (e : t ≡ s).
        let inside : j < n = omega (arith, ap count_of (listing_is t l e here)) in
        h.complete t j w l here (inr (e, inside)) below named)
        (λ (ne : t ≢ s). h.complete t j w l here (inl (⊎_elim (λ (a : t < s + 1). omega arith) (λ (e : (t ≡ s + 1) × (j < 0)). absurd (omega (arith, e.1))) done)) below named)
        (cases_eq t s);
    ordered = h.ordered;
  }

  -- entry n of seed s has no number
  pub found_skipped : number (id_of m n) (size_of m n) ≡ None → AreFound kind number seeds s (n + 1) ws ps
  found_skipped none = record {
    size = h.size;
    few = let few : length ps ≤ items_of (take s seeds) + n = h.few in omega arith;
    sound = λ k a. found_later kind number seeds s n s (n + 1) _ _ (done_more s n) (h.sound k a);
    complete = λ t j w l here done below named. ⊎_elim
        (λ (was : IsDone s n t j). h.complete t j w l here was below named)
        (λ (e : (t ≡ s) × (j ≡ n)).
        let same : l ≡ m = listing_is t l e.0 here in
        let one : number (id_of l j) (size_of l j) ≡ number (id_of m n) (size_of m n) =
        ap (λ x. number (id_of x j) (size_of x j)) same ∙ ap (λ x. number (id_of m x) (size_of m x)) e.1 in
        let gone : None ≡ Some w = sym none ∙ sym one ∙ named in
        absurd (cc))
        (was_done s n t j done);
    ordered = h.ordered;
  }

num_at : (xs : List ℕ) (y i : ℕ) → i < length xs → slice_index (xs ++ y ∷ []) i ≡ slice_index xs i
num_at xs y i h = grind (arith, common_steps)

num_last : (xs : List ℕ) (y i : ℕ) → i ≡ length xs → slice_index (xs ++ y ∷ []) i ≡ y
num_last xs y i h = grind (arith, common_steps)

pub place_at : (ps : List SeedPlace) (p : SeedPlace) (i : ℕ) → i < length ps → nth_place (ps ++ p ∷ []) i ≡ nth_place ps i
place_at ps p i h = get_or_append_left ps (p ∷ []) (place kinds.Sha512T256 0 0 0) i h

pub place_last : (ps : List SeedPlace) (p : SeedPlace) (i : ℕ) → i ≡ length ps → nth_place (ps ++ p ∷ []) i ≡ p
place_last ps p i h = get_or_push ps p (place kinds.Sha512T256 0 0 0) i (sym h)

-- entry n of seed s has number w
module _ (kind : DigestKind) (number : List ℕ → ℕ → Option ℕ) (seeds : List Listing) (s n w : ℕ) (m : Listing) (ws : List ℕ) (ps : List SeedPlace)
    (is : slice_get seeds s ≡ Some m) (inside : n < count_of m) (named : number (id_of m n) (size_of m n) ≡ Some w)
    (rises : (j : ℕ) → j < n → start_of m j < start_of m n) (h : AreFound kind number seeds s n ws ps) where
  abbrev new : SeedPlace
  new = place kind s (start_of m n) (size_of m n)

  abbrev more_ws : List ℕ
  more_ws = ws ++ w ∷ []

  abbrev more_ps : List SeedPlace
  more_ps = ps ++ new ∷ []

  size_more : length more_ps ≡ length ps + 1
  size_more = length-append ps (new ∷ [])

  new_found : IsFoundPlace kind number seeds s (n + 1) w new
  new_found = record {
    listing = m;
    seed = is;
    entry = n;
    inside = inside;
    done = inr (refl, omega arith);
    named = named;
    start = refl;
    size = refl;
    kind_is = refl;
  }

  sound_more : (k : ℕ) → k < length more_ps → IsFoundPlace kind number seeds s (n + 1) (slice_index more_ws k) (nth_place more_ps k)
  sound_more k a =
      let size : length ws ≡ length ps = h.size in
      ⊎_elim
      (λ (e : k ≡ length ps).
      subst (λ (p : SeedPlace). IsFoundPlace kind number seeds s (n + 1) (slice_index more_ws k) p) (sym (place_last ps new k e))
      (subst (λ (v : ℕ). IsFoundPlace kind number seeds s (n + 1) v new) (sym (num_last ws w k (omega arith))) new_found))
      (λ (ne : k ≢ length ps).
      let low : k < length ps = omega (arith, size_more) in
      subst (λ (p : SeedPlace). IsFoundPlace kind number seeds s (n + 1) (slice_index more_ws k) p) (sym (place_at ps new k low))
      (subst (λ (v : ℕ). IsFoundPlace kind number seeds s (n + 1) v (nth_place ps k)) (sym (num_at ws w k (omega arith)))
      (found_later kind number seeds s n s (n + 1) _ _ (done_more s n) (h.sound k low))))
      (cases_eq k (length ps))

  -- a place of this number stands in the longer lists
  abbrev HasMore : ℕ → SeedPlace → Type 0
  HasMore v p = (k : ℕ) × (k < length more_ps) × (slice_index more_ws k ≡ v) × (nth_place more_ps k ≡ p)

  has_more : (v : ℕ) (p : SeedPlace) → ((k : ℕ) × (k < length ps) × (slice_index ws k ≡ v) × (nth_place ps k ≡ p)) → HasMore v p
  has_more v p x =
      let size : length ws ≡ length ps = h.size in
      let low : x.0 < length ws = omega (arith, x.1) in
      (x.0, omega (arith, size_more, x.1), num_at ws w x.0 low ∙ x.2, place_at ps new x.0 x.1 ∙ x.3)

  has_new : HasMore w new
  has_new = (length ps, omega (arith, size_more), num_last ws w (length ps) (sym h.size), place_last ps new (length ps) refl)

  complete_more : (t j v : ℕ) (l : Listing) → slice_get seeds t ≡ Some l → IsDone s (n + 1) t j → j < count_of l →
      number (id_of l j) (size_of l j) ≡ Some v → HasMore v (place kind t (start_of l j) (size_of l j))
  complete_more t j v l here done below is_v = ⊎_elim
      (λ (was : IsDone s n t j). has_more v _ (h.complete t j v l here was below is_v))
      (λ (e : (t ≡ s) × (j ≡ n)).
      let same : l ≡ m = some_same l m (slice_get seeds s) (ap (slice_get seeds) (sym e.0) ∙ here) is in
      let one : number (id_of l j) (size_of l j) ≡ number (id_of m n) (size_of m n) =
      ap (λ x. number (id_of x j) (size_of x j)) same ∙ ap (λ x. number (id_of m x) (size_of m x)) e.1 in
      let v_is : w ≡ v = some_same w v (number (id_of l j) (size_of l j)) (one ∙ named) is_v in
      let place_is : new ≡ place kind t (start_of l j) (size_of l j) =
      ap (λ x. place kind x (start_of m n) (size_of m n)) (sym e.0)
      ∙ ap (λ x. place kind t (start_of m x) (size_of m x)) (sym e.1)
      ∙ ap (λ x. place kind t (start_of x j) (size_of x j)) (sym same) in
      subst (λ (x : ℕ). HasMore x (place kind t (start_of l j) (size_of l j))) v_is (subst (HasMore w) place_is has_new))
      (was_done s n t j done)

  comes_before : (p : SeedPlace) (v : ℕ) → IsFoundPlace kind number seeds s n v p → ComesBefore p new
  comes_before p v x = ⊎_elim
      (λ (a : p.seed < s). inl a)
      (λ (e : (p.seed ≡ s) × (x.entry < n)).
      let same : x.listing ≡ m = some_same x.listing m (slice_get seeds s) (ap (slice_get seeds) (sym e.0) ∙ x.seed) is in
      let start : p.start ≡ start_of m x.entry = x.start ∙ ap (λ l. start_of l x.entry) same in
      inr (e.0, omega (arith, start, rises x.entry e.1)))
      x.done

  ordered_more : (j k : ℕ) → j < k → k < length more_ps → ComesBefore (nth_place more_ps j) (nth_place more_ps k)
  ordered_more j k a b =
      let low : j < length ps = omega (arith, size_more) in
      subst (λ (p : SeedPlace). ComesBefore p (nth_place more_ps k)) (sym (place_at ps new j low))
      (⊎_elim
      (λ (e : k ≡ length ps). subst (ComesBefore (nth_place ps j)) (sym (place_last ps new k e)) (comes_before (nth_place ps j) (slice_index ws j) (h.sound j low)))
      (λ (ne : k ≢ length ps).
      let last : k < length ps = omega (arith, size_more) in
      subst (ComesBefore (nth_place ps j)) (sym (place_at ps new k last)) (h.ordered j k a last))
      (cases_eq k (length ps)))

  pub found_more : AreFound kind number seeds s (n + 1) more_ws more_ps
  found_more = record {
    size = length-append ws (w ∷ []) ∙ ap (λ k. k + 1) h.size ∙ sym size_more;
    few = let few : length ps ≤ items_of (take s seeds) + n = h.few in omega (arith, size_more);
    sound = sound_more;
    complete = complete_more;
    ordered = ordered_more;
  }
