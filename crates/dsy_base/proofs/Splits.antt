-- Cutting bytes into parts, one cut after the other.
use Rattle.std.proofs.Common.{◌≡◌, ℕ, ◌+◌, ◌<◌, ◌≤◌, List, [], ◌∷◌, ◌++◌, length, map, drop, slice_index_or, Option, refl, sym, ap, subst, ◌∙◌, arith}
use Rattle.std.proofs.lemmas.List.{at_drop_more}
use Rattle.dsy_base.specs.Splits.{IsCuts, extent_at, extents}

drop_step : (xs : List ℕ) (i : ℕ) → i < length xs → drop i xs ≡ slice_index_or xs i 0 ∷ drop (i + 1) xs
drop_step xs i lt = at_drop_more (λ ys. ys) xs i 0 lt

-- the cuts past the next one
pub cuts_step : (cuts : List ℕ) (i from n : ℕ) → i < length cuts → IsCuts from (drop i cuts) n
    → (from < slice_index_or cuts i 0) × IsCuts (slice_index_or cuts i 0) (drop (i + 1) cuts) n
cuts_step cuts i from n lt h = subst (λ cs. IsCuts from cs n) (drop_step cuts i lt) h

-- no cut is past the size
pub cuts_below : (from : ℕ) (cs : List ℕ) (n : ℕ) → IsCuts from cs n → from ≤ n
cuts_below from [] n h = omega (arith, h)
cuts_below from (c ∷ cs) n h = omega (arith, h.0, cuts_below c cs n h.1)

push_step : {X Y : Type 0} (f : X → Y) (xs : List X) (x : X) (ys : List Y) → map f (xs ++ x ∷ []) ++ ys ≡ map f xs ++ f x ∷ ys
push_step f [] x ys = refl
push_step f (z ∷ xs) x ys = ap (λ ws. f z ∷ ws) (push_step f xs x ys)

-- one more part
pub extents_step : {X : Type 0} (f : X → Option (List ℕ) × ℕ) (t : Option (List ℕ)) (cuts : List ℕ) (i from : ℕ) (xs new : List X) (p : X)
    (all : List (Option (List ℕ) × ℕ)) → i < length cuts → new ≡ xs ++ p ∷ [] → f p ≡ extent_at t from (slice_index_or cuts i 0)
    → map f xs ++ extents t from (drop i cuts) ≡ all
    → map f new ++ extents t (slice_index_or cuts i 0) (drop (i + 1) cuts) ≡ all
extents_step f t cuts i from xs new p all lt is made h =
    let rest = extents t (slice_index_or cuts i 0) (drop (i + 1) cuts) in
    ap (λ ps. map f ps ++ rest) is ∙ (push_step f xs p rest ∙ (ap (λ e. map f xs ++ e ∷ rest) made
    ∙ (sym (ap (λ cs. map f xs ++ extents t from cs) (drop_step cuts i lt)) ∙ h)))
