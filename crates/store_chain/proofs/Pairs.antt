-- Lists in which one element is told from those before it and those after it, and pairs of a store before and after.
use Rattle.std.proofs.Common.{◌≡◌, ℕ, zero, suc, List, [], ◌∷◌, map, slice_index, refl}
use Rattle.std.specs.List.{All, AllZip, zip}
use Rattle.std.proofs.lemmas.List.Elements.{All-nil, All-cons, All-head, All-tail, All-weaker}
use Rattle.dsy_base.specs.Counts.{Rose}
use Rattle.store_chain.specs.Lists.{FirstAt}
use Rattle.store_chain.specs.Refusals.{Failed}

-- what holds before, at and after it holds of all
pub all_of_first : {X : Type 0} (B A C Q : X → Type 0) → ((x : X) → B x → Q x) → ((x : X) → A x → Q x) → ((x : X) → C x → Q x)
    → (n : ℕ) (xs : List X) → FirstAt B A C n xs → All Q xs
all_of_first B A C Q b a c n [] h = absurd h
all_of_first B A C Q b a c zero (x ∷ xs) h = All-cons Q x xs (a x h.0) (All-weaker C Q c xs h.1)
all_of_first B A C Q b a c (suc n) (x ∷ xs) h = All-cons Q x xs (b x h.0) (all_of_first B A C Q b a c n xs h.1)

-- a store beside itself
pub zip_same : {S : Type 0} (xs : List S) → All (λ (p : S × S). p.1 ≡ p.0) (zip xs xs)
zip_same {S} [] = All-nil (λ (p : S × S). p.1 ≡ p.0)
zip_same {S} (x ∷ xs) = All-cons (λ (p : S × S). p.1 ≡ p.0) (x, x) (zip xs xs) refl (zip_same xs)

pub all_zip_same : {S : Type 0} (R : S → S → Type 0) → ((x : S) → R x x) → (xs : List S) → AllZip R xs xs
all_zip_same R same [] = tt
all_zip_same R same (x ∷ xs) = (same x, all_zip_same R same xs)

-- what holds of the stores after a call holds of them in their pairs
pub all_second : {S : Type 0} (P : S → Type 0) (Q : S × S → Type 0) → ((p : S × S) → P p.1 → Q p) → (xs ys : List S) → All P ys → All Q (zip xs ys)
all_second P Q f [] ys h = All-nil Q
all_second P Q f (x ∷ xs) [] h = All-nil Q
all_second P Q f (x ∷ xs) (y ∷ ys) h = All-cons Q (x, y) (zip xs ys) (f (x, y) (All-head P y ys h)) (all_second P Q f xs ys (All-tail P y ys h))

-- the store of the number failed
pub rose_at : {S : Type 0} (faults : S → ℕ) (B C : S × S → Type 0) (n : ℕ) (old new : List S) → FirstAt B (Failed faults) C n (zip old new)
    → Rose (slice_index (map faults old) n) (slice_index (map faults new) n)
rose_at faults B C n [] new h = absurd h
rose_at faults B C n (x ∷ xs) [] h = absurd h
rose_at faults B C zero (x ∷ xs) (y ∷ ys) h = h.0
rose_at faults B C (suc n) (x ∷ xs) (y ∷ ys) h = rose_at faults B C n xs ys h.1

-- equal lists that aren't empty
pub cons_head : {X : Type 0} (a b : X) (xs ys : List X) → a ∷ xs ≡ b ∷ ys → a ≡ b
cons_head a b xs ys e = cc

pub cons_tail : {X : Type 0} (a b : X) (xs ys : List X) → a ∷ xs ≡ b ∷ ys → xs ≡ ys
cons_tail a b xs ys e = cc

pub cons_nil : {X : Type 0} (a : X) (xs : List X) → a ∷ xs ≡ [] → ⊥
cons_nil a xs e = cc
