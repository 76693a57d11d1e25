-- An image is cut to its end.
use Rattle.std.proofs.Common.{◌≡◌, ℕ, zero, suc, ◌+◌, ◌-◌, ◌<◌, ◌≤◌, ◌⊎◌, List, [], ◌∷◌, length, take, drop, Bool, true, false, refl, subst, arith, inl, inr, length-drop}
use Rattle.std.proofs.lemmas.Bool.{cases_lt}
use Rattle.chunk_ends.specs.Cuts.{closes, IsCut, AreCuts}
use Rattle.chunk_ends.specs.Sizes.{Sizes}

either : (b : Bool) → (b ≡ true) ⊎ (b ≡ false)
either true = inl refl
either false = inr refl

none_next : (s : Sizes) (rest : List ℕ) (k : ℕ) → closes s (take k rest) ≡ false → ((j : ℕ) → 1 ≤ j → j < k → closes s (take j rest) ≡ false)
    → (j : ℕ) → 1 ≤ j → j < k + 1 → closes s (take j rest) ≡ false
none_next s rest k here none j some below = elim (cases_lt j k) [
  | inl before ↦ none j some before
  | inr after ↦ let is : k ≡ j = omega arith in subst (λ (i : ℕ). closes s (take i rest) ≡ false) is here
]

-- what isn't empty has a first cut
cut_from : (s : Sizes) (rest : List ℕ) (fuel k : ℕ) → k + fuel ≡ length rest → 1 ≤ k → ((j : ℕ) → 1 ≤ j → j < k → closes s (take j rest) ≡ false) → (n : ℕ) × IsCut s rest n
cut_from s rest zero k size some none = (k, record { some = some; inside = omega arith; least = none; closed = inr (omega arith) })
cut_from s rest (suc fuel) k size some none = elim (either (closes s (take k rest))) [
  | inl here ↦ (k, record { some = some; inside = omega arith; least = none; closed = inl here })
  | inr later ↦ cut_from s rest fuel (k + 1) (omega arith) (omega arith) (none_next s rest k later none)
]

-- and an image is cut to its end
cuts_from : (s : Sizes) (image : List ℕ) (fuel start : ℕ) → start ≤ length image → length image ≤ start + fuel → (ends : List ℕ) × AreCuts s image start ends
cuts_from s image zero start inside all = ([], omega arith)
cuts_from s image (suc fuel) start inside all = elim (cases_lt start (length image)) [
  | inr whole ↦ ([], omega arith)
  | inl more ↦
      let left : length (drop start image) ≡ length image - start = length-drop start image in
      let first = cut_from s (drop start image) (length image - start - 1) 1 (omega (arith, left)) (omega arith) (λ j some below. absurd (omega arith)) in
      let some : 1 ≤ first.0 = first.1.some in
      let within : first.0 ≤ length (drop start image) = first.1.inside in
      let rest = cuts_from s image fuel (start + first.0) (omega (arith, left)) (omega arith) in
      ((start + first.0) ∷ rest.0, (first.0, first.1, refl, rest.1))
]

pub cuts_exist : (s : Sizes) (image : List ℕ) (start : ℕ) → start ≤ length image → (ends : List ℕ) × AreCuts s image start ends
cuts_exist s image start inside = cuts_from s image (length image) start inside (omega arith)
