-- What the place of a group of stores tells of its stores.
use Rattle.std.proofs.Common.{◌≡◌, ◌∙◌, ◌++◌, ℕ, List, [], ◌∷◌, length, take, drop, map, refl, sym, ap}
use Rattle.std.proofs.Math.Seq.{drop-append_seam, take-append_seam}
use Rattle.store_chain.proofs.Pairs.{cons_head, cons_tail}
use Rattle.store_group.specs.Groups.{places_of}

same_front : (a b r t : List ℕ) → length a ≡ length b → a ++ r ≡ b ++ t → (a ≡ b) × (r ≡ t)
same_front a b r t many same = (
  sym (take-append_seam a r) ∙ ap (take (length a)) same ∙ ap (λ (n : ℕ). take n (b ++ t)) many ∙ take-append_seam b t,
  sym (drop-append_seam a r) ∙ ap (drop (length a)) same ∙ ap (λ (n : ℕ). drop n (b ++ t)) many ∙ drop-append_seam b t,
)

module _ {S : Type 0} (place : S → List ℕ) where
  -- stores whose places are told alike have the same places
  pub places_same : (xs ys : List S) → places_of place xs ≡ places_of place ys → map place xs ≡ map place ys
  places_same [] [] same = refl
  places_same [] (y ∷ ys) same = absurd (cc)
  places_same (x ∷ xs) [] same = absurd (cc)
  places_same (x ∷ xs) (y ∷ ys) same =
      let many : length (place x) ≡ length (place y) = cons_head (length (place x)) (length (place y)) (place x ++ places_of place xs) (place y ++ places_of place ys) same in
      let rest : place x ++ places_of place xs ≡ place y ++ places_of place ys = cons_tail (length (place x)) (length (place y)) (place x ++ places_of place xs) (place y ++ places_of place ys) same in
      let both = same_front (place x) (place y) (places_of place xs) (places_of place ys) many rest in
      let others = places_same xs ys both.1 in
      λ i. both.0 i ∷ others i
