-- The wants of the first entries of an index.
use Rattle.std.proofs.Common.{◌≡◌, ◌≢◌, ℕ, ◌+◌, ◌<◌, ◌≤◌, List, [], ◌∷◌, ◌++◌, length, slice_index, refl, ap, sym, ◌∙◌, subst, arith, ⊎_elim, length-append}
use Rattle.std.proofs.lemmas.Bool.{cases_eq}
use Rattle.std.proofs.lemmas.Grind.{common_steps}
use Rattle.caibx_codec.specs.Listing.{Listing, count_of, id_of, size_of}
use Rattle.extract_plan.specs.Deal.{AreAlike, AreWants}

pub record Grouped (l : Listing) (n : ℕ) (want_of : List ℕ) (wants : ℕ) : Type 0 where
  pub size : length want_of ≡ n
  pub few : wants ≤ n
  pub alike : (i j : ℕ) → i < n → j < n → AreAlike l i j → slice_index want_of i ≡ slice_index want_of j
  pub same : (i j : ℕ) → i < n → j < n → slice_index want_of i ≡ slice_index want_of j → AreAlike l i j
  pub within : (i : ℕ) → i < n → slice_index want_of i < wants
  pub every : (w : ℕ) → w < wants → (i : ℕ) × (i < n) × (slice_index want_of i ≡ w)
  pub ordered : (i w : ℕ) → i < n → w < slice_index want_of i → (j : ℕ) × (j < i) × (slice_index want_of j ≡ w)

pub wants_are : (l : Listing) (n : ℕ) (want_of : List ℕ) (wants : ℕ) → n ≡ count_of l → Grouped l n want_of wants → AreWants l wants want_of
wants_are l n want_of wants e h =
    let is : Grouped l (count_of l) want_of wants = subst (λ (m : ℕ). Grouped l m want_of wants) e h in
    record {
      size = is.size;
      alike = λ i j a b. (is.same i j a b, is.alike i j a b);
      within = is.within;
      every = is.every;
      ordered = is.ordered;
    }

-- the wants with one more entry
old_at : (want_of : List ℕ) (w i : ℕ) → i < length want_of → slice_index (want_of ++ w ∷ []) i ≡ slice_index want_of i
old_at want_of w i h = grind (arith, common_steps)

new_at : (want_of : List ℕ) (w i : ℕ) → i ≡ length want_of → slice_index (want_of ++ w ∷ []) i ≡ w
new_at want_of w i h = grind (arith, common_steps)

-- entry n is alike to an entry before, whose want this is
abbrev pub IsAgain : Listing → ℕ → List ℕ → ℕ → Type 0
IsAgain l n want_of w = (r : ℕ) × (r < n) × (slice_index want_of r ≡ w) × AreAlike l r n

-- entry n is alike to none before, and its want is the next
abbrev pub IsNew : Listing → ℕ → ℕ → ℕ → Type 0
IsNew l n wants w = (w ≡ wants) × ((r : ℕ) → r < n → AreAlike l r n → ⊥)

module _ (l : Listing) (n : ℕ) (want_of : List ℕ) (wants w : ℕ) (h : Grouped l n want_of wants) where
  abbrev pub more : List ℕ
  more = want_of ++ w ∷ []

  before : (i : ℕ) → i < n → slice_index more i ≡ slice_index want_of i
  before i a = let size : length want_of ≡ n = h.size in old_at want_of w i (omega arith)

  last : (i : ℕ) → i ≡ n → slice_index more i ≡ w
  last i e = new_at want_of w i (e ∙ sym h.size)

  ordered_before : (i v : ℕ) → i < n → v < slice_index want_of i → (j : ℕ) × (j < i) × (slice_index more j ≡ v)
  ordered_before i v a b = let x = h.ordered i v a b in (x.0, x.1, before x.0 (omega (arith, x.1)) ∙ x.2)

  every_before : (v : ℕ) → v < wants → (i : ℕ) × (i < n) × (slice_index more i ≡ v)
  every_before v a = let x = h.every v a in (x.0, x.1, before x.0 x.1 ∙ x.2)

  size_more : length more ≡ n + 1
  size_more = length-append want_of (w ∷ []) ∙ ap (λ k. k + 1) h.size

  -- an entry before that is alike and has the same want
  abbrev Earlier : ℕ → Type 0
  Earlier i = (r : ℕ) × (r < n) × (slice_index want_of r ≡ slice_index more i) × AreAlike l r i

  earlier : IsAgain l n want_of w → (i : ℕ) → i < n + 1 → Earlier i
  earlier (r, low, was, alike) i a = ⊎_elim
      (λ (e : i ≡ n).
      let here : Earlier i = (r, low, was ∙ sym (last i e), (alike.0 ∙ ap (id_of l) (sym e), alike.1 ∙ ap (size_of l) (sym e))) in here)
      (λ (ne : i ≢ n).
      let below : i < n = omega arith in
      let here : Earlier i = (i, below, sym (before i below), (refl, refl)) in here)
      (cases_eq i n)

  pub grouped_again : IsAgain l n want_of w → Grouped l (n + 1) more wants
  grouped_again again = record {
    size = size_more;
    few = let few : wants ≤ n = h.few in omega arith;
    alike = λ i j a b e.
        let x = earlier again i a in
        let y = earlier again j b in
        sym x.2 ∙ h.alike x.0 y.0 x.1 y.1 (x.3.0 ∙ e.0 ∙ sym y.3.0, x.3.1 ∙ e.1 ∙ sym y.3.1) ∙ y.2;
    same = λ i j a b e.
        let x = earlier again i a in
        let y = earlier again j b in
        let alike = h.same x.0 y.0 x.1 y.1 (x.2 ∙ e ∙ sym y.2) in
        (sym x.3.0 ∙ alike.0 ∙ y.3.0, sym x.3.1 ∙ alike.1 ∙ y.3.1);
    within = λ i a. let x = earlier again i a in subst (λ (v : ℕ). v < wants) x.2 (h.within x.0 x.1);
    every = λ v a. let x = every_before v a in (x.0, omega (arith, x.1), x.2);
    ordered = λ i v a b. ⊎_elim
        (λ (e : i ≡ n).
        let x = earlier again i a in
        let y = ordered_before x.0 v x.1 (subst (λ (k : ℕ). v < k) (sym x.2) b) in
        (y.0, omega (arith, x.1, y.1), y.2))
        (λ (ne : i ≢ n). let below : i < n = omega arith in ordered_before i v below (subst (λ (k : ℕ). v < k) (before i below) b))
        (cases_eq i n);
  }

  alike_new : IsNew l n wants w → (i j : ℕ) → i < n + 1 → j < n + 1 → AreAlike l i j → slice_index more i ≡ slice_index more j
  alike_new fresh i j a b e = ⊎_elim
      (λ (x : i ≡ n). ⊎_elim
      (λ (y : j ≡ n). last i x ∙ sym (last j y))
      (λ (ne : j ≢ n). absurd (fresh.1 j (omega arith) (sym e.0 ∙ ap (id_of l) x, sym e.1 ∙ ap (size_of l) x)))
      (cases_eq j n))
      (λ (ne : i ≢ n). let below : i < n = omega arith in ⊎_elim
      (λ (y : j ≡ n). absurd (fresh.1 i below (e.0 ∙ ap (id_of l) y, e.1 ∙ ap (size_of l) y)))
      (λ (other : j ≢ n). let beside : j < n = omega arith in before i below ∙ h.alike i j below beside e ∙ sym (before j beside))
      (cases_eq j n))
      (cases_eq i n)

  pub grouped_new : IsNew l n wants w → Grouped l (n + 1) more (wants + 1)
  grouped_new fresh = record {
    size = size_more;
    few = let few : wants ≤ n = h.few in omega arith;
    alike = alike_new fresh;
    same = λ i j a b e. ⊎_elim
        (λ (x : i ≡ n). ⊎_elim
        (λ (y : j ≡ n). (ap (id_of l) (x ∙ sym y), ap (size_of l) (x ∙ sym y)))
        (λ (ne : j ≢ n). let below : j < n = omega arith in absurd (omega (arith, h.within j below, before j below, last i x, fresh.0)))
        (cases_eq j n))
        (λ (ne : i ≢ n). let below : i < n = omega arith in ⊎_elim
        (λ (y : j ≡ n). absurd (omega (arith, h.within i below, before i below, last j y, fresh.0)))
        (λ (other : j ≢ n). let beside : j < n = omega arith in h.same i j below beside (sym (before i below) ∙ e ∙ before j beside))
        (cases_eq j n))
        (cases_eq i n);
    within = λ i a. ⊎_elim
        (λ (e : i ≡ n). omega (arith, last i e, fresh.0))
        (λ (ne : i ≢ n). let below : i < n = omega arith in omega (arith, h.within i below, before i below))
        (cases_eq i n);
    every = λ v a. ⊎_elim
        (λ (e : v ≡ wants). (n, omega arith, last n refl ∙ fresh.0 ∙ sym e))
        (λ (ne : v ≢ wants). let x = every_before v (omega arith) in (x.0, omega (arith, x.1), x.2))
        (cases_eq v wants);
    ordered = λ i v a b. ⊎_elim
        (λ (e : i ≡ n). let x = every_before v (omega (arith, last i e, fresh.0)) in (x.0, omega (arith, x.1), x.2))
        (λ (ne : i ≢ n). let below : i < n = omega arith in ordered_before i v below (subst (λ (k : ℕ). v < k) (before i below) b))
        (cases_eq i n);
  }

pub grouped_none : (l : Listing) (want_of : List ℕ) → want_of ≡ [] → Grouped l 0 want_of 0
grouped_none l want_of empty = record {
  size = ap length empty;
  few = omega arith;
  alike = λ i j a b e. absurd (omega arith);
  same = λ i j a b e. absurd (omega arith);
  within = λ i a. absurd (omega arith);
  every = λ w a. absurd (omega arith);
  ordered = λ i w a b. absurd (omega arith);
}
