-- Places sorted by their wants are those of each want.
use Rattle.std.proofs.Common.{◌≡◌, ℕ, ◌+◌, ◌-◌, ◌<◌, ◌≤◌, List, Option, Some, length, take, drop, min, get_or, slice_index, slice_range, ap, sym, ◌∙◌, subst, arith, inl}
use Rattle.std.specs.List.{slice_get}
use Rattle.std.proofs.lemmas.List.{get_or-drop, get_or-take, length-drop, length-take}
use Rattle.std.proofs.lemmas.Option.{slice_get_within}
use Rattle.caibx_codec.specs.Listing.{Listing, count_of, id_of, size_of, start_of}
use Rattle.chunk_store.specs.declared.id.DigestKind.{DigestKind}
use Rattle.chunk_store.specs.declared.id.DigestKind.TheVariants as kinds
use Rattle.extract_plan.specs.Deal.{AreWants, entries_of}
use Rattle.extract_plan.specs.Found.{AreFound, AreNumbered}
use Rattle.extract_plan.specs.Links.{AreSorted}
use Rattle.extract_plan.specs.Places.{ArePlaces, ComesBefore, IsPlace, place, nth_place}
use Rattle.extract_plan.specs.declared.seed.SeedPlace.{SeedPlace}
use Rattle.extract_plan.proofs.Entries.{entries_rise, entry_inside, entry_of, entry_stands}

some_same : (a b : ℕ) (o : Option ℕ) → o ≡ Some a → o ≡ Some b → a ≡ b
some_same a b o p q = cc

range_length : {A : Type 0} (xs : List A) (a b : ℕ) → a ≤ b → b ≤ length xs → length (slice_range xs a b) ≡ b - a
range_length xs a b low high =
    let one : length (take (b - a) (drop a xs)) ≡ min (b - a) (length (drop a xs)) = length-take (b - a) (drop a xs) in
    let two : length (drop a xs) ≡ length xs - a = length-drop a xs in
    omega arith

range_at : {A : Type 0} (xs : List A) (a b k : ℕ) (d : A) → k < b - a → get_or (slice_range xs a b) k d ≡ get_or xs (a + k) d
range_at xs a b k d h = get_or-take (b - a) (drop a xs) k d h ∙ get_or-drop a xs k d

-- an entry that has this id and size, by the number that they have
abbrev pub HasEntry : Listing → List ℕ → List ℕ → ℕ → ℕ → Type 0
HasEntry l want_of q s w = (i : ℕ) × (i < count_of l) × (id_of l i ≡ q) × (size_of l i ≡ s) × (slice_index want_of i ≡ w)

pub has_entry : (l : Listing) (number : List ℕ → ℕ → Option ℕ) (want_of : List ℕ) → AreNumbered l (count_of l) number want_of →
    (q : List ℕ) (s w : ℕ) → number q s ≡ Some w → HasEntry l want_of q s w
has_entry l number want_of h q s w is =
    let x = h.listed q s w is in
    let one : number (id_of l x.0) (size_of l x.0) ≡ Some w = ap (λ y. number y (size_of l x.0)) x.2 ∙ ap (number q) x.3 ∙ is in
    (x.0, x.1, x.2, x.3, some_same _ _ _ (h.known x.0 x.1) one)

pub found_below : (l : Listing) (wants : ℕ) (kind : DigestKind) (number : List ℕ → ℕ → Option ℕ) (want_of : List ℕ) (seeds : List Listing) (s n : ℕ) (ws : List ℕ)
    (ps : List SeedPlace) → AreWants l wants want_of → AreNumbered l (count_of l) number want_of → AreFound kind number seeds s n ws ps →
    (i : ℕ) → i < length ws → slice_index ws i < wants
found_below l wants kind number want_of seeds s n ws ps are numbered found i h =
    let size : length ws ≡ length ps = found.size in
    let x = found.sound i (omega arith) in
    let e = has_entry l number want_of numbered _ _ _ x.named in
    subst (λ (w : ℕ). w < wants) e.4 (are.within e.0 e.1)

module _ (l : Listing) (wants : ℕ) (kind : DigestKind) (number : List ℕ → ℕ → Option ℕ) (want_of : List ℕ) (seeds : List Listing) (ws : List ℕ) (ps : List SeedPlace)
    (starts order : List ℕ) (items : List SeedPlace)
    (are : AreWants l wants want_of) (numbered : AreNumbered l (count_of l) number want_of) (found : AreFound kind number seeds (length seeds) 0 ws ps)
    (sorted : AreSorted ws starts order wants) (size : length items ≡ length order)
    (value : (k : ℕ) → k < length order → nth_place items k ≡ nth_place ps (slice_index order k)) where
  abbrev part : ℕ → List SeedPlace
  part w = slice_range items (slice_index starts w) (slice_index starts (w + 1))

  -- the places of a want are as many as its entries of the list
  part_length : (w : ℕ) → w < wants → length (part w) ≡ length (entries_of ws w)
  part_length w h =
      let a = slice_index starts w in
      let b = slice_index starts (w + 1) in
      let low : a ≤ b = sorted.rises w h in
      let high : b ≤ length order = sorted.fits (w + 1) (omega arith) in
      range_length items a b low (omega arith) ∙ sym (range_length order a b low high) ∙ ap length (sorted.entries w h)

  part_at : (w k : ℕ) → w < wants → k < length (part w) → nth_place (part w) k ≡ nth_place ps (slice_index (entries_of ws w) k)
  part_at w k h inside =
      let a = slice_index starts w in
      let b = slice_index starts (w + 1) in
      let low : a ≤ b = sorted.rises w h in
      let high : b ≤ length order = sorted.fits (w + 1) (omega arith) in
      let long : length (part w) ≡ b - a = range_length items a b low (omega arith) in
      let k_in : k < b - a = omega arith in
      let entry : slice_index order (a + k) ≡ slice_index (entries_of ws w) k = sym (range_at order a b k 0 k_in) ∙ ap (λ xs. slice_index xs k) (sorted.entries w h) in
      range_at items a b k (place kinds.Sha512T256 0 0 0) k_in ∙ value (a + k) (omega arith) ∙ ap (nth_place ps) entry

  part_is : (w k i : ℕ) (p : SeedPlace) → w < wants → k < length (part w) → slice_index (entries_of ws w) k ≡ i → nth_place ps i ≡ p →
      nth_place (part w) k ≡ p
  part_is w k i p h inside entry is = part_at w k h inside ∙ ap (nth_place ps) entry ∙ is

  entry_in : (w k : ℕ) → k < length (entries_of ws w) → slice_index (entries_of ws w) k < length ps
  entry_in w k h = let long : length ws ≡ length ps = found.size in omega (arith, entry_inside ws w k h)

  sound_at : (i k : ℕ) → i < count_of l → k < length (part (slice_index want_of i)) →
      IsPlace kind seeds (id_of l i) (size_of l i) (nth_place (part (slice_index want_of i)) k)
  sound_at i k a h =
      let w = slice_index want_of i in
      let below : w < wants = are.within i a in
      let inside : k < length (entries_of ws w) = omega (arith, part_length w below) in
      let e = slice_index (entries_of ws w) k in
      let x = found.sound e (entry_in w k inside) in
      let y = has_entry l number want_of numbered _ _ _ x.named in
      let same : slice_index want_of y.0 ≡ slice_index want_of i = y.4 ∙ entry_of ws w k inside in
      let alike = (are.alike y.0 i y.1 a).0 same in
      let size_is : size_of x.listing x.entry ≡ size_of l i = sym y.3 ∙ alike.1 in
      let here : IsPlace kind seeds (id_of l i) (size_of l i) (nth_place ps e) = record {
        listing = x.listing;
        seed = x.seed;
        entry = x.entry;
        inside = x.inside;
        id_is = sym y.2 ∙ alike.0;
        size_is = size_is;
        start = x.start;
        size = x.size ∙ size_is;
        kind_is = x.kind_is;
      } in
      subst (λ (p : SeedPlace). IsPlace kind seeds (id_of l i) (size_of l i) p) (sym (part_at w k below h)) here

  complete_at : (i s j : ℕ) (m : Listing) → i < count_of l → slice_get seeds s ≡ Some m → j < count_of m → id_of m j ≡ id_of l i → size_of m j ≡ size_of l i →
      (k : ℕ) × (k < length (part (slice_index want_of i))) × (nth_place (part (slice_index want_of i)) k ≡ place kind s (start_of m j) (size_of l i))
  complete_at i s j m a here below id_is size_is =
      let w = slice_index want_of i in
      let under : w < wants = are.within i a in
      let long : length ws ≡ length ps = found.size in
      let named : number (id_of m j) (size_of m j) ≡ Some w = ap (λ x. number x (size_of m j)) id_is ∙ ap (number (id_of l i)) size_is ∙ numbered.known i a in
      let x = found.complete s j w m here (inl (slice_get_within seeds s m here)) below named in
      let y = entry_stands ws w x.0 (omega (arith, x.1)) x.2 in
      let inside : y.0 < length (part w) = omega (arith, y.1, part_length w under) in
      (y.0, inside, part_is w y.0 x.0 (place kind s (start_of m j) (size_of l i)) under inside y.2 (x.3 ∙ ap (place kind s (start_of m j)) size_is))

  ordered_at : (w j k : ℕ) → w < wants → j < k → k < length (part w) → ComesBefore (nth_place (part w) j) (nth_place (part w) k)
  ordered_at w j k under a h =
      let inside : k < length (entries_of ws w) = omega (arith, part_length w under) in
      let before = found.ordered _ _ (entries_rise ws w j k a inside) (entry_in w k inside) in
      subst (λ (p : SeedPlace). ComesBefore p (nth_place (part w) k)) (sym (part_at w j under (omega arith)))
      (subst (ComesBefore (nth_place ps (slice_index (entries_of ws w) j))) (sym (part_at w k under h)) before)

  pub places_are : (i : ℕ) → i < count_of l → ArePlaces kind seeds (id_of l i) (size_of l i) (part (slice_index want_of i))
  places_are i a = record {
    sound = λ k h. sound_at i k a h;
    complete = λ s j m here below id_is size_is. complete_at i s j m a here below id_is size_is;
    ordered = λ j k b h. ordered_at (slice_index want_of i) j k (are.within i a) b h;
  }
