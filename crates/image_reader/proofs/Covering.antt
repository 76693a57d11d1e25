-- The wants of the entries that a range covers, entry by entry.
use Rattle.std.proofs.Common.{◌≡◌, ℕ, zero, suc, ◌+◌, ◌-◌, ◌<◌, ◌≤◌, ◌++◌, Bool, true, false, cond, List, [], ◌∷◌, map, max, min, refl, sym, ap, subst, ◌∙◌, arith, inl, inr}
use Rattle.std.proofs.lemmas.Bool.{cases_lt, lt-ltb, le-ltb}
use Rattle.std.proofs.lemmas.List.{map-append, append-nil}
use Rattle.std.proofs.lemmas.List.Elements.{filter-append}
use Rattle.std.specs.List.{filter, range_with_len}
use Rattle.caibx_codec.specs.Listing.{Listing, Rules, count_of, start_of, end_of, image_length}
use Rattle.image_reader.specs.Covered.{IsCovered, covers_entry, want_of, wants_of, wants_to}

pub range_more : (a k : ℕ) → range_with_len a (suc k) ≡ range_with_len a k ++ (a + k) ∷ []
range_more a zero = let same : a ≡ a + 0 = omega arith in λ i. same i ∷ []
range_more a (suc k) =
    let same : a + 1 + k ≡ a + suc k = omega arith in
    (λ i. a ∷ range_more (a + 1) k i) ∙ ap (λ m. a ∷ (range_with_len (a + 1) k ++ m ∷ [])) same

module _ (l : Listing) (at n : ℕ) where
  pick_one : (k m : ℕ) → m ≡ k → (b : Bool) → covers_entry l at n k ≡ b → map (want_of l) (filter (covers_entry l at n) (m ∷ [])) ≡ cond b (want_of l k ∷ []) []
  pick_one k m is b h =
      let P : ℕ → Type 0 = λ j. map (want_of l) (filter (covers_entry l at n) (j ∷ [])) ≡ cond b (want_of l k ∷ []) [] in
      subst P (sym is) (here b h)
    where
      here : (b : Bool) → covers_entry l at n k ≡ b → map (want_of l) (filter (covers_entry l at n) (k ∷ [])) ≡ cond b (want_of l k ∷ []) []
      here b h = ap (λ c. map (want_of l) (cond c (k ∷ []) [])) h ∙ elim b as (λ c. map (want_of l) (cond c (k ∷ []) []) ≡ cond c (want_of l k ∷ []) []) [ true ↦ refl | false ↦ refl ]

  pub next_is : (k : ℕ) (b : Bool) → covers_entry l at n k ≡ b → wants_to l at n (k + 1) ≡ wants_to l at n k ++ cond b (want_of l k ∷ []) []
  next_is k b h =
      let all = λ (r : List ℕ). map (want_of l) (filter (covers_entry l at n) r) in
      let one : k + 1 ≡ suc k = omega arith in
      ap (λ m. wants_to l at n m) one
      ∙ (ap all (range_more 0 k)
      ∙ (ap (map (want_of l)) (filter-append (covers_entry l at n) (range_with_len 0 k) ((0 + k) ∷ []))
      ∙ (map-append (want_of l) (filter (covers_entry l at n) (range_with_len 0 k)) (filter (covers_entry l at n) ((0 + k) ∷ []))
      ∙ ap (λ ws. wants_to l at n k ++ ws) (pick_one k (0 + k) (omega arith) b h))))

  -- one entry more, which is covered; or which isn't
  pub wants_taken : (k : ℕ) → IsCovered l at n k → wants_to l at n (k + 1) ≡ wants_to l at n k ++ want_of l k ∷ []
  wants_taken k c = next_is k true (lt-ltb (max at (start_of l k)) (min (at + n) (end_of l k)) c.covers)

  abbrev pub IsPassed : ℕ → Type 0
  IsPassed k = min (at + n) (end_of l k) ≤ max at (start_of l k)

  wants_passed : (k : ℕ) → IsPassed k → wants_to l at n (k + 1) ≡ wants_to l at n k
  wants_passed k c = next_is k false (le-ltb (max at (start_of l k)) (min (at + n) (end_of l k)) c) ∙ append-nil (wants_to l at n k)

  -- some entries more that aren't covered
  pub all_passed : (a m b : ℕ) → a + m ≡ b → ((j : ℕ) → a ≤ j → j < b → IsPassed j) → wants_to l at n b ≡ wants_to l at n a
  all_passed a zero b is none = let same : b ≡ a = omega arith in ap (wants_to l at n) same
  all_passed a (suc m) b is none =
      let last : b ≡ (a + m) + 1 = omega arith in
      ap (wants_to l at n) last ∙ (wants_passed (a + m) (none (a + m) (omega arith) (omega arith)) ∙ all_passed a m (a + m) refl (λ j ge lt. none j ge (omega arith)))

  -- how far a range was read: `done` bytes, up to entry i
  pub record IsAt (i done : ℕ) : Type 0 where
    pub fits : done ≤ n
    pub listed : i ≤ count_of l
    pub starts : done < n → start_of l i ≤ at + done
    pub ends : done < n → i < count_of l → at + done < end_of l i
    pub over : done ≡ n → 0 < n → at + n ≤ start_of l i

  module _ (rules : Rules l) (inside : at + n ≤ image_length l) where
    -- before any entry
    none_before : (i : ℕ) → ((j : ℕ) → j < i → end_of l j ≤ at) → start_of l i ≤ at
    none_before zero before = omega arith
    none_before (suc i) before =
        let next = rules.next i in
        let one : i + 1 ≡ suc i = omega arith in
        let P : ℕ → Type 0 = λ k. start_of l k ≡ end_of l i in
        let is : start_of l (suc i) ≡ end_of l i = subst P one next in
        omega (arith, is, before i (omega arith))

    pub at_first : (i : ℕ) → i ≤ count_of l → ((j : ℕ) → j < i → end_of l j ≤ at) → (i < count_of l → at < end_of l i) → IsAt i 0
    at_first i listed before past = record {
      fits = omega arith;
      listed = listed;
      starts = λ more. (let first = none_before i before in omega arith);
      ends = λ more lt. (let end = past lt in omega arith);
      over = λ same some. absurd (omega arith);
    }

    pub none_yet : (i : ℕ) → ((j : ℕ) → j < i → end_of l j ≤ at) → wants_to l at n i ≡ []
    none_yet i before = all_passed 0 i i (omega arith) (λ j ge lt. (let end = before j lt in omega arith))

    -- the entry at which reading stands is covered
    pub here : (i done : ℕ) → IsAt i done → done < n → i < count_of l → IsCovered l at n i
    here i done stands more lt = record {
      listed = lt;
      covers = (let s = stands.starts more in let e = stands.ends more lt in let r = rules.rises i lt in omega arith);
    }

    -- and after it
    pub at_next : (i done m : ℕ) → IsAt i done → done < n → i < count_of l → m ≡ min (end_of l i - (at + done)) (n - done) → IsAt (i + 1) (done + m)
    at_next i done m stands more lt is =
        let s = stands.starts more in
        let e = stands.ends more lt in
        let next = rules.next i in
        record {
          fits = omega arith;
          listed = omega arith;
          starts = λ still. omega arith;
          ends = λ still other. (let r = rules.rises (i + 1) other in omega arith);
          over = λ same some. omega arith;
        }

    -- past the last entry nothing is left
    pub at_end : (i done : ℕ) → IsAt i done → count_of l ≤ i → done ≡ n
    at_end i done stands ge = elim (cases_lt done n) [
      | inl more ↦
          let last : i ≡ count_of l = (let listed = stands.listed in omega arith) in
          let P : ℕ → Type 0 = λ k. start_of l k ≤ at + done in
          let all : image_length l ≤ at + done = subst P last (stands.starts more) in
          absurd (omega arith)
      | inr over ↦ let fits = stands.fits in omega arith
    ]

    -- no entry after that one is covered
    later_start : (i j : ℕ) → i ≤ j → j < count_of l → start_of l i ≤ start_of l j
    later_start i j le lt = elim (cases_lt i j) [
      | inl less ↦ let end = rules.ordered i j less lt in let rise = rules.rises i (omega arith) in omega arith
      | inr same ↦ let one : i ≡ j = omega arith in let P : ℕ → Type 0 = λ k. start_of l i ≤ start_of l k in subst P one (omega arith)
    ]

    pub all_read : (i done : ℕ) → IsAt i done → done ≡ n → wants_of l at n ≡ wants_to l at n i
    all_read i done stands all =
        let listed = stands.listed in
        all_passed i (count_of l - i) (count_of l) (omega arith) (λ j ge lt. (elim (cases_lt 0 n) [
          | inl some ↦ let over = stands.over all some in let later = later_start i j ge lt in omega arith
          | inr none ↦ omega arith
        ]))

    -- so each covered entry is among those that were read
    pub only_read : (i done : ℕ) → IsAt i done → done ≡ n → (j : ℕ) → IsCovered l at n j → j < i
    only_read i done stands all j covered = elim (cases_lt j i) [
      | inl less ↦ less
      | inr ge ↦ elim (cases_lt 0 n) [
        | inl some ↦ let over = stands.over all some in let later = later_start i j ge covered.listed in let c = covered.covers in absurd (omega arith)
        | inr none ↦ let c = covered.covers in absurd (omega arith)
      ]
    ]

    pub none_covered : (i : ℕ) → ((j : ℕ) → j < i → end_of l j ≤ at) → (j : ℕ) → j < i → IsCovered l at n j → ⊥
    none_covered i before j lt covered = let end = before j lt in let c = covered.covers in omega arith
