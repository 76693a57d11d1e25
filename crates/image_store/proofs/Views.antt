-- The views that come back, and what holds for each.
use Rattle.std.proofs.Common.{◌≡◌, ℕ, zero, suc, ◌<◌, List, [], ◌∷◌, ◌++◌, length-append, refl, length, map, slice_index, slice_index_or, All, ap, arith, ◌∙◌, sym, subst, Option, Result, Ok, Err, IfOk}
use Rattle.std.proofs.lemmas.List.{get_or-map, length-map}
use Rattle.std.proofs.lemmas.List.Elements.{All-map}
use Rattle.buzhash_cut.specs.Image.{AreOfOneImage, CountsViews}
use Rattle.buzhash_cut.specs.declared.image.CutFault.{CutFault}
use Rattle.buzhash_cut.specs.declared.image.CutFault.TheVariants as faults
use Rattle.dsy_base.specs.Bytes.{Held}
use Rattle.dsy_base.specs.Counts.{CountsFaults}

pub if_ok : {A E : Type 0} (r : Result A E) (P Q : A → Type 0) → ((x : A) → P x → Q x) → IfOk r P → IfOk r Q
if_ok (Ok x) P Q f h = f x h
if_ok (Err e) P Q f h = tt

module _ {X : Type 0} (H : X → Held) where
  all_unmapped : (P : Held → Type 0) (vs : List X) → All P (map H vs) → All (λ v. P (H v)) vs
  all_unmapped P vs all k d lt = subst P (get_or-map H vs k d (H d) lt) (all k (H d) (omega (arith, lt, length-map vs H)))

  -- what holds by what each view holds is true of views that hold the same
  pub all_kept : (P : Held → Type 0) (vs ws : List X) → map H ws ≡ map H vs → All (λ v. P (H v)) vs → All (λ v. P (H v)) ws
  all_kept P vs ws kept all = all_unmapped P ws (subst (All P) (sym kept) (All-map P H vs all))

  -- the same with something else that is equal
  pub all_kept_as : {K : Type 0} (a b : K) → a ≡ b → (P : K → Held → Type 0) (vs ws : List X) → map H ws ≡ map H vs → All (λ v. P a (H v)) vs → All (λ v. P b (H v)) ws
  all_kept_as a b is P vs ws kept all = subst (λ k. All (λ v. P k (H v)) ws) is (all_kept (P a) vs ws kept all)

  -- what holds for the first view's image holds for each
  pub all_of_first : (vs : List X) (w : X) → 0 < length vs → w ≡ slice_index_or vs 0 w → AreOfOneImage (map H vs) → (P : Option (List ℕ) → Type 0) → P (H w).bytes → All (λ v. P (H v).bytes) vs
  all_of_first vs w some first alike P here k d lt =
      let first_in : 0 < length (map H vs) = omega (arith, some, length-map vs H) in
      let within : k < length (map H vs) = omega (arith, lt, length-map vs H) in
      let there : slice_index_or (map H vs) 0 (H w) ≡ H w = get_or-map H vs 0 w (H w) some ∙ ap H (sym first) in
      let each : slice_index_or (map H vs) k (H w) ≡ H (slice_index_or vs k d) = get_or-map H vs k d (H w) lt in
      let same : (H (slice_index_or vs k d)).bytes ≡ (H w).bytes = sym (ap (λ (h : Held). h.bytes) each) ∙ (alike 0 (H w) first_in k (H w) within).1 ∙ ap (λ (h : Held). h.bytes) there in
      subst P (sym same) here

-- the counts go on after a call that failed at none
pub counts_then : {A B E : Type 0} (failed memory : E) (xs ys zs : List ℕ) (x : A) (result : Result B E) → CountsViews {A = A} failed memory xs ys (Ok x) → CountsViews failed memory ys zs result → CountsViews failed memory xs zs result
counts_then failed memory xs ys zs x result before then = record {
  never_falls = λ k. omega (arith, before.never_falls k, then.never_falls k);
  first = subst (λ (a : ℕ). CountsFaults failed memory a (slice_index zs 0) result) before.first.done then.first;
}

-- ---- one view

one_long : {X Y : Type 0} (H : X → Y) (old new : List X) (v : X) → old ≡ v ∷ [] → map H new ≡ map H old → length new ≡ 1
one_long {X} H old new v one same = go new (same ∙ ap (map H) one) where
  go : (xs : List X) → map H xs ≡ H v ∷ [] → length xs ≡ 1
  go [] e = absurd (omega (arith, ap length e))
  go (x ∷ []) e = refl
  go (x ∷ y ∷ ys) e = absurd (omega (arith, ap length e))

one_left : {X : Type 0} (rest new : List X) (w : X) → new ≡ rest ++ w ∷ [] → length new ≡ 1 → new ≡ w ∷ []
one_left [] new w is one = is
one_left (x ∷ rest) new w is one = absurd (omega (arith, ap length is, length-append rest (w ∷ []), one))

one_view : {X Y : Type 0} (f : X → ℕ) (H : X → Y) (old new rest : List X) (v w : X) → old ≡ v ∷ [] → map H new ≡ map H old → new ≡ rest ++ w ∷ []
    → new ≡ w ∷ []
one_view f H old new rest v w one same is = one_left rest new w is (one_long H old new v one same)

-- the counts of the view among them
pub view_counts : {X Y A : Type 0} (f : X → ℕ) (H : X → Y) (old new rest : List X) (v w : X) (result : Result A CutFault) → old ≡ v ∷ [] → map H new ≡ map H old → new ≡ rest ++ w ∷ []
    → CountsViews faults.ImageFault faults.Memory (map f old) (map f new) result → CountsFaults faults.ImageFault faults.Memory (f v) (f w) result
view_counts {X} f H old new rest v w result one same is counts =
    let last = one_view f H old new rest v w one same is in
    (subst (λ (l : List X). CountsViews faults.ImageFault faults.Memory (map f l) (f w ∷ []) result) one (subst (λ (l : List X). CountsViews faults.ImageFault faults.Memory (map f old) (map f l) result) last counts)).first

-- one view is of one image
one_held : (h : Held) → AreOfOneImage (h ∷ [])
one_held h zero d lt zero e within = (refl, refl)
one_held h zero d lt (suc j) e within = absurd (omega arith)
one_held h (suc i) d lt j e within = absurd (omega arith)

pub one_image : {X : Type 0} (H : X → Held) (vs : List X) (v : X) → vs ≡ v ∷ [] → AreOfOneImage (map H vs)
one_image H vs v is = subst AreOfOneImage (sym (ap (map H) is)) (one_held (H v))
