-- Where the slice of an entry stands among pieces whose entries fall.
use Rattle.std.proofs.Common.{◌≡◌, ℕ, zero, suc, ◌-◌, ◌<◌, ◌≤◌, List, length, slice_index_or, All, inl, inr, sym, subst, arith}
use Rattle.std.proofs.lemmas.Bool.{cases_lt}
use Rattle.caibx_codec.specs.Listing.{Listing}
use Rattle.image_slices.specs.Ahead.{EntriesFall, HasSlice}
use Rattle.image_slices.specs.declared.ahead.Ahead.{Ahead}
use Rattle.image_slices.specs.declared.ahead.Piece.{Piece}

-- what is below an entry is below those before it
pub above_before : (ps : List Piece) (i j k : ℕ) (d : Piece) → EntriesFall ps → j ≤ k → k < length ps → i < (slice_index_or ps k d).entry → i < (slice_index_or ps j d).entry
above_before ps i j k d falls le inside above = elim (cases_lt j k) [
  | inl less ↦ omega (arith, falls j k d less inside, above)
  | inr past ↦ let same : j ≡ k = omega (arith, le, past) in subst (λ (n : ℕ). i < (slice_index_or ps n d).entry) (sym same) above
]

-- and what is below the last one is below all
pub above_last : (ps : List Piece) (i : ℕ) (p : Piece) → EntriesFall ps → ((d : Piece) → p ≡ slice_index_or ps (length ps - 1) d) → i < p.entry → All (λ q. i < q.entry) ps
above_last ps i p falls last above k d inside =
    above_before ps i k (length ps - 1) d falls (omega (arith, inside)) (omega (arith, inside)) (subst (λ (q : Piece). i < q.entry) (last d) above)

-- what is above the first one is above all
pub below_first : (ps : List Piece) (i : ℕ) (p : Piece) → EntriesFall ps → ((d : Piece) → p ≡ slice_index_or ps 0 d) → p.entry < i → All (λ q. q.entry < i) ps
below_first ps i p falls first below zero d inside = subst (λ (q : Piece). q.entry < i) (first d) below
below_first ps i p falls first below (suc k) d inside =
    let at : (slice_index_or ps 0 d).entry < i = subst (λ (q : Piece). q.entry < i) (first d) below in
    omega (arith, falls 0 (suc k) d (omega arith) inside, at)

-- if all entries are above entry i, its slice doesn't stand there
pub absent_above : (l : Listing) (a : Ahead) (i n : ℕ) → ((k : ℕ) (d : Piece) → k < n → i < (slice_index_or a.pieces.items k d).entry) → length a.pieces.items ≤ n → (b : List ℕ) (d : Piece) → HasSlice l a i b → ⊥
absent_above l a i n above all b d has = absurd (omega (arith, above has.place d (omega (arith, has.inside, all)), has.entry d))
