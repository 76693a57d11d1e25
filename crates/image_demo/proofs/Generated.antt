-- The bytes that the generator makes, one by one.
use Rattle.std.proofs.Common.{◌≡◌, ℕ, zero, suc, ◌+◌, ◌-◌, ◌/◌, ◌<◌, ◌≤◌, ◌^◌, List, [], ◌∷◌, ◌++◌, length, refl, sym, ap, ◌∙◌, arith, append-nil}
use Rattle.std.proofs.lemmas.List.{append_assoc}
use Rattle.image_demo.specs.Images.{bytes_after, next_state}

after_one : (x n : ℕ) → 0 < n → bytes_after x n ≡ next_state x / 2 ^ 56 ∷ bytes_after (next_state x) (n - 1)
unfolding bytes_after
after_one x zero h = absurd (omega (arith, h))
after_one x (suc n) h =
    let same : n ≡ suc n - 1 = omega arith in
    ap (λ k. next_state x / 2 ^ 56 ∷ bytes_after (next_state x) k) same

after_none : (x n : ℕ) → n ≡ 0 → bytes_after x n ≡ []
unfolding bytes_after
after_none x zero h = refl
after_none x (suc n) h = absurd (omega (arith, h))

-- one byte more
pub one_more : (x z y size i : ℕ) (xs ys all : List ℕ) → i < size → xs ++ bytes_after x (size - i) ≡ all → ys ≡ xs ++ y ∷ [] → y ≡ z / 2 ^ 56 → z ≡ next_state x → ys ++ bytes_after z (size - (i + 1)) ≡ all
one_more x z y size i xs ys all inside before pushed top next =
    let less : size - (i + 1) ≡ size - i - 1 = omega arith in
    ap (λ l. l ++ bytes_after z (size - (i + 1))) pushed
    ∙ append_assoc xs (y ∷ []) (bytes_after z (size - (i + 1)))
    ∙ (λ k. xs ++ (top ∙ ap (λ s. s / 2 ^ 56) next) k ∷ bytes_after (next k) (less k))
    ∙ ap (λ l. xs ++ l) (sym (after_one x (size - i) (omega (arith, inside))))
    ∙ before

-- no byte is left
pub all_made : (x size i : ℕ) (xs all : List ℕ) → size ≤ i → xs ++ bytes_after x (size - i) ≡ all → xs ≡ all
all_made x size i xs all past before = sym (append-nil xs) ∙ ap (λ l. xs ++ l) (sym (after_none x (size - i) (omega (arith, past)))) ∙ before

-- there are this many
pub length-bytes_after : (x n : ℕ) → length (bytes_after x n) ≡ n
unfolding bytes_after
length-bytes_after x zero = refl
length-bytes_after x (suc n) = ap suc (length-bytes_after (next_state x) n)
