-- Chunks of an image that are closed stay its chunks, whatever follows.
use Rattle.std.proofs.Common.{◌≡◌, ℕ, ◌+◌, ◌≤◌, List, [], ◌∷◌, ◌++◌, length, take, drop, true, refl, sym, ap, subst, ◌∙◌, arith, inl, length-append, length-drop}
use Rattle.std.proofs.lemmas.List.{drop-append-le, take-append-le}
use Rattle.chunk_ends.specs.Cuts.{closes, IsCut}
use Rattle.chunk_ends.specs.Feeding.{AreClosed}
use Rattle.chunk_ends.specs.Sizes.{Sizes}

module _ (s : Sizes) where
  cut_on : (rest more : List ℕ) (n : ℕ) → IsCut s rest n → closes s (take n rest) ≡ true → IsCut s (rest ++ more) n
  cut_on rest more n cut closed = record {
    some = cut.some;
    inside = omega (arith, cut.inside, length-append rest more);
    least = λ k some below. ap (closes s) (take-append-le k rest more (omega (arith, cut.inside))) ∙ cut.least k some below;
    closed = inl (ap (closes s) (take-append-le n rest more cut.inside) ∙ closed);
  }

  pub closed_on : (image more : List ℕ) (start : ℕ) (ends : List ℕ) (end : ℕ) → AreClosed s image start ends end → AreClosed s (image ++ more) start ends end
  closed_on image more start [] end all = all
  closed_on image more start (e ∷ ends) end all =
      let n : ℕ = all.0 in
      let rest : List ℕ = drop start image in
      let some : 1 ≤ n = all.1.some in
      let inside : n ≤ length rest = all.1.inside in
      let here : drop start (image ++ more) ≡ rest ++ more = drop-append-le start image more (omega (arith, length-drop start image)) in
      let same : take n (drop start (image ++ more)) ≡ take n rest = ap (take n) here ∙ take-append-le n rest more inside in
      (n, subst (λ (x : List ℕ). IsCut s x n) (sym here) (cut_on rest more n all.1 all.2), ap (closes s) same ∙ all.2, all.3, closed_on image more e ends end all.4)

  -- one chunk more
  pub closed_more : (image : List ℕ) (start : ℕ) (ends : List ℕ) (end n : ℕ) → AreClosed s image start ends end → IsCut s (drop end image) n → closes s (take n (drop end image)) ≡ true
      → AreClosed s image start (ends ++ (end + n) ∷ []) (end + n)
  closed_more image start [] end n all cut closed =
      (n, subst (λ (i : ℕ). IsCut s (drop i image) n) (sym all) cut, subst (λ (i : ℕ). closes s (take n (drop i image)) ≡ true) (sym all) closed, ap (λ (i : ℕ). i + n) (sym all), refl)
  closed_more image start (e ∷ ends) end n all cut closed = (all.0, all.1, all.2, all.3, closed_more image e ends end n all.4 cut closed)
