-- Readers of views, and the views that come back.
use Rattle.std.proofs.Common.{◌≡◌, ℕ, zero, suc, ◌≤◌, List, [], ◌∷◌, ◌++◌, map, reverse, slice_index, slice_index_or, All, refl, sym, ap, ◌∙◌, subst, arith}
use Rattle.std.proofs.lemmas.List.{get_or-map, length-map, reverse-reverse}
use Rattle.std.specs.List.{AllZip}
use Rattle.dsy_base.specs.Bytes.{Held}
use Rattle.image_slices.specs.Consumers.{IsAlike, NoFaultCountFalls}

-- the views in their order, from those that were taken from the end
pub hired : {W : Type 0} (vs ms left : List W) → left ≡ [] → left ++ reverse ms ≡ reverse vs → vs ≡ ms
hired {W} vs ms left none is =
    sym (reverse-reverse vs) ∙ ap reverse (sym is ∙ ap (λ (xs : List W). xs ++ reverse ms) none) ∙ reverse-reverse ms

-- each of the views holds the image
pub alike_all : {V : Type 0} (H : V → Held) (h : Held) (vs : List V) → All (IsAlike h) (map H vs) → All (λ v. IsAlike h (H v)) vs
alike_all H h vs alike k d less = subst (IsAlike h) (get_or-map H vs k d h less) (alike k h (omega (arith, less, length-map vs H)))

module _ {W V : Type 0} (of : W → V) where
  -- what holds of the views holds of their readers
  pub from_views : (P : V → Type 0) (N Q : W → Type 0) → ((r : W) → N r → P (of r) → Q r) → (vs : List V) (rs : List W) → vs ≡ map of rs → All P vs → All N rs → All Q rs
  from_views P N Q on vs rs is views readers k d less =
      let r = slice_index_or rs k d in
      let all : All P (map of rs) = subst (All P) is views in
      let here : P (of r) = subst P (get_or-map of rs k d (of d) less) (all k (of d) (omega (arith, less, length-map rs of))) in
      on r (readers k d less) here

  map_twice : {X : Type 0} (f : V → X) (ws : List W) → map f (map of ws) ≡ map (λ w. f (of w)) ws
  map_twice f [] = refl
  map_twice {X} f (w ∷ ws) = ap (λ (xs : List X). f (of w) ∷ xs) (map_twice f ws)

  -- what is seen of the views is seen through their readers
  pub seen_through : {X : Type 0} (f : V → X) (vs : List V) (rs : List W) → vs ≡ map of rs → map f vs ≡ map (λ w. f (of w)) rs
  seen_through f vs rs is = ap (map f) is ∙ map_twice f rs

  module _ (Went : W → W → Type 0) where
    pub went_none : ((r : W) → Went r r) → (rs : List W) → AllZip Went rs rs
    went_none none [] = tt
    went_none none (r ∷ rs) = (none r, went_none none rs)

    -- what each reader keeps is seen of all
    pub same_seen : {X : Type 0} (f : V → X) → ((r s : W) → Went r s → f (of s) ≡ f (of r)) → (rs ss : List W) → AllZip Went rs ss → map (λ w. f (of w)) ss ≡ map (λ w. f (of w)) rs
    same_seen f same [] [] went = refl
    same_seen f same [] (s ∷ ss) went = absurd went
    same_seen f same (r ∷ rs) [] went = absurd went
    same_seen f same (r ∷ rs) (s ∷ ss) went =
        let first : f (of s) ≡ f (of r) = same r s went.0 in
        let rest : map (λ w. f (of w)) ss ≡ map (λ w. f (of w)) rs = same_seen f same rs ss went.1 in
        cc

    -- and so is what never falls
    rises : (f : V → ℕ) → ((r s : W) → Went r s → f (of r) ≤ f (of s)) → (rs ss : List W) → AllZip Went rs ss → (i : ℕ) → slice_index (map (λ w. f (of w)) rs) i ≤ slice_index (map (λ w. f (of w)) ss) i
    rises f up [] [] went i = omega arith
    rises f up [] (s ∷ ss) went i = absurd went
    rises f up (r ∷ rs) [] went i = absurd went
    rises f up (r ∷ rs) (s ∷ ss) went zero = up r s went.0
    rises f up (r ∷ rs) (s ∷ ss) went (suc i) = rises f up rs ss went.1 i

    pub none_falls : (f : V → ℕ) → ((r s : W) → Went r s → f (of r) ≤ f (of s)) → (rs ss : List W) → AllZip Went rs ss → NoFaultCountFalls (map (λ w. f (of w)) rs) (map (λ w. f (of w)) ss)
    none_falls f up rs ss went = record { never_falls = rises f up rs ss went }
