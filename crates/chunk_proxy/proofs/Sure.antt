-- What is known where all tell what they hold, and none fails.
use Rattle.std.proofs.Common.{◌≡◌, ℕ, zero, suc, ◌≤◌, List, [], ◌∷◌, length, map, slice_index, Bool, true, false, not, ◌&&◌, ◌||◌, nat_le, Option, Some, None, IsSome, IsTrue, refl, ap, inl, inr, arith}
use Rattle.chunk_proxy.proofs.Held.{at_most}
use Rattle.chunk_proxy.specs.States.{told_of}
use Rattle.dsy_base.specs.Counts.{Rose}
use Rattle.dsy_base.specs.Maps.{Map}
use Rattle.store_chain.specs.Faults.{EachQuiet}

pub no_rise : (a b : ℕ) → a ≡ 0 → b ≡ 0 → Rose a b → ⊥
no_rise a b p q (inl up) = absurd (omega (arith, p, q, up))
no_rise a b p q (inr top) = absurd (omega (arith, q, top))

told_one : (o : Option (Map (List ℕ))) (l : List (Option (Map (List ℕ)))) → IsSome o → l ≡ map Some (told_of l) → o ∷ l ≡ map Some (told_of (o ∷ l))
told_one None l some e = absurd (cc)
told_one (Some m) l some e = ap (λ r. Some m ∷ r) e

few_one : (o : Option (Map (List ℕ))) (l : List (Option (Map (List ℕ)))) → length (told_of l) ≤ length l → length (told_of (o ∷ l)) ≤ length (o ∷ l)
few_one None l h = omega (arith, h)
few_one (Some m) l h = omega (arith, h)

pub few : (l : List (Option (Map (List ℕ)))) → length (told_of l) ≤ length l
few [] = omega arith
few (o ∷ l) = few_one o l (few l)

pub alone : (lacks : Bool) (n : ℕ) → (not lacks || nat_le n 1) ≡ true → IsTrue lacks → n ≤ 1
alone true n e h = at_most n 1 e
alone false n e h = absurd (cc)

pub record Parts (a b c d : Bool) : Type 0 where
  pub first : a ≡ true
  pub second : b ≡ true
  pub third : c ≡ true
  pub fourth : d ≡ true

pub parts : (a b c d : Bool) → (a && (b && (c && d))) ≡ true → Parts a b c d
parts true true true true e = record { first = refl; second = refl; third = refl; fourth = refl }
parts true true true false e = absurd (cc)
parts true true false d e = absurd (cc)
parts true false c d e = absurd (cc)
parts false b c d e = absurd (cc)

module _ {S : Type 0} where
  pub told_each : (holds : S → Option (Map (List ℕ))) → ((s : S) → IsSome (holds s)) → (xs : List S) → map holds xs ≡ map Some (told_of (map holds xs))
  told_each holds each [] = refl
  told_each holds each (x ∷ xs) = told_one (holds x) (map holds xs) (each x) (told_each holds each xs)

  none_at : (faults : S → ℕ) → ((s : S) → faults s ≡ 0) → (xs : List S) (k : ℕ) → slice_index (map faults xs) k ≡ 0
  none_at faults each [] k = refl
  none_at faults each (x ∷ xs) zero = each x
  none_at faults each (x ∷ xs) (suc k) = none_at faults each xs k

  pub all_quiet : (faults : S → ℕ) → ((s : S) → faults s ≡ 0) → (xs ys : List S) → EachQuiet (map faults xs) (map faults ys)
  all_quiet faults each xs ys k =
      let a : slice_index (map faults xs) k ≡ 0 = none_at faults each xs k in
      let b : slice_index (map faults ys) k ≡ 0 = none_at faults each ys k in
      record { same = omega (arith, a, b); below = omega (arith, b) }
