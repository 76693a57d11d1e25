-- Folders that were lent as stores and given back: their names stay known, and what they counted is added to their numbers.
use Rattle.std.proofs.Common.{◌≡◌, ℕ, zero, suc, ◌≤◌, List, [], ◌∷◌, ◌++◌, get_or, length, map, All, IsSome, refl, sym, ap, subst, ◌∙◌, arith, inl, inr, slice_index}
use Rattle.std.proofs.lemmas.Bool.{cases_lt}
use Rattle.std.proofs.lemmas.List.{get_or-map, length-map}
use Rattle.std.specs.Map.{count_at}
use Rattle.command_steps.proofs.Used.{all_more}
use Rattle.command_steps.specs.Seeds.{name_at}
use Rattle.dsy_base.specs.Counts.{AllQuiet, Quiet, Rose, raised}
use Rattle.dsy_base.specs.Maps.{Map}
use Rattle.store_chain.specs.Faults.{EachQuiet}

-- each place is one of the names, which are known
pub known_places : {L : Type 0} (place : L → List ℕ) (counts : Map ℕ) (xs : List L) (names : List (List ℕ)) → map place xs ≡ names → All (λ q. IsSome (counts q)) names → All (λ s. IsSome (counts (place s))) xs
known_places place counts xs names same known = λ k d lt.
    let all : All (λ q. IsSome (counts q)) (map place xs) = subst (λ (l : List (List ℕ)). All (λ q. IsSome (counts q)) l) (sym same) known in
    let n : length (map place xs) ≡ length xs = length-map xs place in
    subst (λ (q : List ℕ). IsSome (counts q)) (get_or-map place xs k d [] lt) (all k [] (omega (arith, lt, n)))

-- ---- what was counted

-- a count to which n was added, at the least, and which is quiet
pub quiet_count : (old mid new n : ℕ) → old ≤ mid → raised mid n ≤ new → Quiet old new → Quiet 0 n
quiet_count old mid new n le added q = record { same = omega (arith, le, added, q.same, q.below); below = omega (arith, le, added, q.same, q.below) }

pub rose_count : (old mid new n : ℕ) → old ≤ mid → raised mid n ≤ new → Rose 0 n → Rose old new
rose_count old mid new n le added (inl more) = elim (cases_lt old new) [
  | inl below ↦ inl below
  | inr at_least ↦ inr (omega (arith, le, added, more, at_least))
]
rose_count old mid new n le added (inr full) = inr (omega (arith, le, added, full))

-- each was given back under its name, the last one first
pub added_last : {L : Type 0} (place : L → List ℕ) (counted : L → ℕ) (old mid new : Map ℕ) (all rest : List L) (x : L) → all ≡ rest ++ x ∷ [] → ((q : List ℕ) → count_at old q ≤ count_at mid q) → ((q : List ℕ) → count_at mid q ≤ count_at new q)
    → raised (count_at old (place x)) (counted x) ≤ count_at mid (place x) → All (λ s. raised (count_at mid (place s)) (counted s) ≤ count_at new (place s)) rest → All (λ s. raised (count_at old (place s)) (counted s) ≤ count_at new (place s)) all
added_last place counted old mid new all rest x is before after one others =
    all_more (λ s. raised (count_at old (place s)) (counted s) ≤ count_at new (place s)) rest all x is (λ k d lt. omega (arith, before (place (get_or rest k d)), others k d lt)) (omega (arith, one, after (place x)))

zero_at : (names : List (List ℕ)) (k : ℕ) → slice_index (map (λ q. 0) names) k ≡ 0
zero_at [] k = refl
zero_at (q ∷ names) zero = refl
zero_at (q ∷ names) (suc k) = zero_at names k

module _ {L : Type 0} (counted : L → ℕ) (place : L → List ℕ) (old mid new : Map ℕ) (le : (q : List ℕ) → count_at old q ≤ count_at mid q) where
  abbrev Added : L → Type 0
  Added s = raised (count_at mid (place s)) (counted s) ≤ count_at new (place s)

  quiet_at : AllQuiet old new → (after : List L) → All Added after → (k : ℕ) → Quiet 0 (slice_index (map counted after) k)
  quiet_at quiet [] added k = record { same = omega arith; below = omega arith }
  quiet_at quiet (s ∷ after) added zero =
      quiet_count (count_at old (place s)) (count_at mid (place s)) (count_at new (place s)) (counted s) (le (place s)) (added 0 s (omega arith)) (quiet (place s))
  quiet_at quiet (s ∷ after) added (suc k) = quiet_at quiet after (λ j d lt. added (suc j) d (omega (arith, lt))) k

  pub each_quiet : (before after : List L) (names : List (List ℕ)) → map counted before ≡ map (λ q. 0) names → All Added after → AllQuiet old new → EachQuiet (map counted before) (map counted after)
  each_quiet before after names fresh added quiet = λ k.
      subst (λ (n : ℕ). Quiet n (slice_index (map counted after) k)) (sym (ap (λ (l : List ℕ). slice_index l k) fresh ∙ zero_at names k)) (quiet_at quiet after added k)

  rose_at : (after : List L) → All Added after → (k : ℕ) → Rose 0 (slice_index (map counted after) k) → Rose (count_at old (name_at (map place after) k)) (count_at new (name_at (map place after) k))
  rose_at [] added k (inl more) = absurd (omega (arith, more))
  rose_at [] added k (inr full) = absurd (omega (arith, full))
  rose_at (s ∷ after) added zero rose =
      rose_count (count_at old (place s)) (count_at mid (place s)) (count_at new (place s)) (counted s) (le (place s)) (added 0 s (omega arith)) rose
  rose_at (s ∷ after) added (suc k) rose = rose_at after (λ j d lt. added (suc j) d (omega (arith, lt))) k rose

  pub store_rose : (before after : List L) (names : List (List ℕ)) → map counted before ≡ map (λ q. 0) names → map place after ≡ names → All Added after → (k : ℕ)
      → Rose (slice_index (map counted before) k) (slice_index (map counted after) k) → Rose (count_at old (name_at names k)) (count_at new (name_at names k))
  store_rose before after names fresh same added k rose =
      let zero_before = ap (λ (l : List ℕ). slice_index l k) fresh ∙ zero_at names k in
      let rise : Rose 0 (slice_index (map counted after) k) = subst (λ (n : ℕ). Rose n (slice_index (map counted after) k)) zero_before rose in
      subst (λ (l : List (List ℕ)). Rose (count_at old (name_at l k)) (count_at new (name_at l k))) same (rose_at after added k rise)
