-- The different chunks of an index: those of first entries are as many as its wants, and a sum over wants is one over
-- first entries.
use Rattle.std.proofs.Common.{◌≡◌, ◌⊎◌, ℕ, zero, suc, ◌+◌, ◌<◌, ◌≤◌, ◌&&◌, ◌==◌, not, ◌∷◌, Bool, true, false, length, slice_index, Decides, refl, sym, ap, subst, ◌∙◌, inl, inr, arith, if◌then◌else◌}
use Rattle.std.proofs.lemmas.Bool.{cases_lt}
use Rattle.std.proofs.lemmas.Bool.Decides.{Decides-eqb}
use Rattle.std.proofs.lemmas.Slice.Eq.{bytes_eq-Decides}
use Rattle.std.specs.Bool.{one_answer}
use Rattle.std.specs.List.{filter, list_any, range_with_len}
use Rattle.chunk_sources.specs.Economy.{sum_below}
use Rattle.caibx_codec.specs.Listing.{Listing, count_of, id_of, size_of}
use Rattle.image_demo.specs.Figures.{alike_in, firsts, firsts_below, is_alike, is_first}
use Rattle.extract_plan.specs.Deal.{AreWants, Deal, of_want}

both : (a b : Bool) (P Q : Type 0) → Decides a P → Decides b Q → Decides (a && b) (P × Q)
both true true P Q d e = (λ t. (d.0 refl, e.0 refl), λ h. refl)
both true false P Q d e = (λ t. absurd (cc), λ h. e.1 h.1)
both false b P Q d e = (λ t. absurd (cc), λ h. d.1 h.0)

pub alike_decides : (l : Listing) (i : ℕ) (m : Listing) (j : ℕ) → Decides (is_alike l i m j) ((id_of m j ≡ id_of l i) × (size_of m j ≡ size_of l i))
alike_decides l i m j = both _ _ _ _ (bytes_eq-Decides (id_of m j) (id_of l i)) (Decides-eqb (size_of m j) (size_of l i))

apart : {X : Type 0} → false ≡ true → X
apart e = absurd (cc)

-- what passes in a range
pub any_in_range : (f : ℕ → Bool) (a n : ℕ) → list_any f (range_with_len a n) ≡ true → (j : ℕ) × (a ≤ j) × (j < a + n) × (f j ≡ true)
any_in_range f a zero h = apart h
any_in_range f a (suc n) h = go (f a) refl h (any_in_range f (a + 1) n) where
  go : (b : Bool) → f a ≡ b → list_any f (range_with_len a (suc n)) ≡ true
      → (list_any f (range_with_len (a + 1) n) ≡ true → (j : ℕ) × (a + 1 ≤ j) × (j < a + 1 + n) × (f j ≡ true)) → (j : ℕ) × (a ≤ j) × (j < a + suc n) × (f j ≡ true)
  go true is h rest = (a, omega arith, omega arith, is)
  go false is h rest = let r = rest (rw is at h) in (r.0, omega (arith, r.1), omega (arith, r.2), r.3)

-- one of a range is its first, or among the rest
first_or_rest : (P : ℕ → Type 0) (a n j : ℕ) → a ≤ j → j < a + suc n → P j → P a ⊎ ((a + 1 ≤ j) × (j < a + 1 + n))
first_or_rest P a n j from to h = elim (cases_lt a j) [
  | inl past ↦ inr (omega (arith, past), omega (arith, to))
  | inr not_past ↦ let e : j ≡ a = omega (arith, from, not_past) in inl (subst P e h)
]

pub any_of_range : (f : ℕ → Bool) (a n j : ℕ) → a ≤ j → j < a + n → f j ≡ true → list_any f (range_with_len a n) ≡ true
any_of_range f a zero j from to h = absurd (omega (arith, from, to))
any_of_range f a (suc n) j from to h = go (f a) refl (any_of_range f (a + 1) n j) where
  go : (b : Bool) → f a ≡ b → (a + 1 ≤ j → j < a + 1 + n → f j ≡ true → list_any f (range_with_len (a + 1) n) ≡ true) → list_any f (range_with_len a (suc n)) ≡ true
  go true is rest = rw is refl
  go false is rest = rw is (elim (first_or_rest (λ k. f k ≡ true) a n j from to h) [
    | inl here ↦ apart (sym is ∙ here)
    | inr later ↦ rest later.0 later.1 h
  ])

-- what passes both tests is found among what passes the first
pub any_filtered : (f g : ℕ → Bool) (a n j : ℕ) → a ≤ j → j < a + n → (f j ≡ true) × (g j ≡ true) → list_any g (filter f (range_with_len a n)) ≡ true
any_filtered f g a zero j from to h = absurd (omega (arith, from, to))
any_filtered f g a (suc n) j from to h = go (f a) (g a) refl refl (any_filtered f g (a + 1) n j) where
  go : (b c : Bool) → f a ≡ b → g a ≡ c → (a + 1 ≤ j → j < a + 1 + n → (f j ≡ true) × (g j ≡ true) → list_any g (filter f (range_with_len (a + 1) n)) ≡ true) → list_any g (filter f (range_with_len a (suc n))) ≡ true
  go true true is gs rest = rw is (rw gs refl)
  go true false is gs rest = rw is (rw gs (elim (first_or_rest (λ k. (f k ≡ true) × (g k ≡ true)) a n j from to h) [
    | inl here ↦ apart (sym gs ∙ here.1)
    | inr later ↦ rest later.0 later.1 h
  ]))
  go false c is gs rest = rw is (elim (first_or_rest (λ k. (f k ≡ true) × (g k ≡ true)) a n j from to h) [
    | inl here ↦ apart (sym is ∙ here.0)
    | inr later ↦ rest later.0 later.1 h
  ])

filter_same : (f g : ℕ → Bool) (a n : ℕ) → ((j : ℕ) → a ≤ j → j < a + n → f j ≡ g j) → filter f (range_with_len a n) ≡ filter g (range_with_len a n)
filter_same f g a zero h = refl
filter_same f g a (suc n) h =
    let rest = filter_same f g (a + 1) n (λ j from to. h j (omega (arith, from)) (omega (arith, to))) in
    λ i. if h a (omega arith) (omega arith) i then a ∷ rest i else rest i

module _ (l : Listing) (d : Deal) (wants : AreWants l d.wants d.want_of) where
  abbrev want : ℕ → ℕ
  want i = slice_index d.want_of i

  -- the entries of a want are those that are alike
  pub entries_alike : (i : ℕ) → i < count_of l → of_want d (want i) ≡ alike_in l i l
  entries_alike i below =
      let size : length d.want_of ≡ count_of l = wants.size in
      filter_same (λ j. want j == want i) (is_alike l i l) 0 (length d.want_of) (λ j from to.
      one_answer _ _ (Decides-eqb (want j) (want i)) (same j (omega (arith, to, size)))) ∙ ap (λ n. filter (is_alike l i l) (range_with_len 0 n)) size where
        same : (j : ℕ) → j < count_of l → Decides (is_alike l i l j) (want j ≡ want i)
        same j inside =
            let e = wants.alike j i inside below in
            let a = alike_decides l i l j in
            (λ t. e.1 (a.0 t), λ h. a.1 (e.0 h))

  -- how many wants the first k entries have
  abbrev seen : ℕ → ℕ
  seen k = firsts_below l (λ i. true) k

  record Covers (k n : ℕ) : Type 0 where
    pub below : (j : ℕ) → j < k → want j < n
    pub every : (w : ℕ) → w < n → (j : ℕ) × (j < k) × (want j ≡ w)

  fresh : (k n : ℕ) → k < count_of l → Covers k n → is_first l k ≡ true → want k ≡ n
  fresh k n inside c first = elim (cases_lt (want k) n) [
    | inl less ↦ let x = c.every (want k) less in absurd (clash (any_of_range (is_alike l k l) 0 k x.0 (omega arith) (omega (arith, x.1))
        ((alike_decides l k l x.0).1 ((wants.alike x.0 k (omega (arith, x.1, inside)) inside).0 x.2))))
    | inr more ↦ elim (cases_lt n (want k)) [
      | inl past ↦ let x = wants.ordered k n inside past in absurd (omega (arith, c.below x.0 x.1, x.2))
      | inr up_to ↦ omega (arith, more, up_to)
    ]
  ] where
    clash : list_any (is_alike l k l) (range_with_len 0 k) ≡ true → ⊥
    clash h = apart (sym (ap not h) ∙ first)

  known : (k n : ℕ) → k < count_of l → Covers k n → is_first l k ≡ false → want k < n
  known k n inside c old =
      let x = any_in_range (is_alike l k l) 0 k (flip (list_any (is_alike l k l) (range_with_len 0 k)) old) in
      let same = (wants.alike x.0 k (omega (arith, x.2, inside)) inside).1 ((alike_decides l k l x.0).0 x.3) in
      omega (arith, same, c.below x.0 (omega (arith, x.2))) where
        flip : (b : Bool) → not b ≡ false → b ≡ true
        flip true h = refl
        flip false h = absurd (cc)

  -- the next entry
  wider : (k n : ℕ) → Covers k n → want k ≡ n → Covers (suc k) (n + 1)
  wider k n c is = record { below = below; every = every } where
    below : (j : ℕ) → j < suc k → want j < n + 1
    below j to = elim (cases_lt j k) [
      | inl less ↦ omega (arith, c.below j less)
      | inr more ↦ let e : j ≡ k = omega (arith, more, to) in omega (arith, ap want e, is)
    ]

    every : (w : ℕ) → w < n + 1 → (j : ℕ) × (j < suc k) × (want j ≡ w)
    every w to = elim (cases_lt w n) [
      | inl less ↦ let x = c.every w less in (x.0, omega (arith, x.1), x.2)
      | inr more ↦ (k, omega arith, omega (arith, is, more, to))
    ]

  longer : (k n : ℕ) → Covers k n → want k < n → Covers (suc k) (n + 0)
  longer k n c less = record { below = below; every = every } where
    below : (j : ℕ) → j < suc k → want j < n + 0
    below j to = elim (cases_lt j k) [
      | inl before ↦ omega (arith, c.below j before)
      | inr more ↦ let e : j ≡ k = omega (arith, more, to) in omega (arith, ap want e, less)
    ]

    every : (w : ℕ) → w < n + 0 → (j : ℕ) × (j < suc k) × (want j ≡ w)
    every w to = let x = c.every w (omega (arith, to)) in (x.0, omega (arith, x.1), x.2)

  covers : (k : ℕ) → k ≤ count_of l → Covers k (seen k)
  covers zero h = record { below = λ j to. absurd (omega (arith, to)); every = λ w to. absurd (omega (arith, to)) }
  covers (suc k) h = go (is_first l k) refl (covers k (omega (arith, h))) where
    go : (b : Bool) → is_first l k ≡ b → Covers k (seen k) → Covers (suc k) (seen k + (if is_first l k && true then 1 else 0))
    go true is before = rw is (wider k (seen k) before (fresh k (seen k) (omega (arith, h)) before is))
    go false is before = rw is (longer k (seen k) before (known k (seen k) (omega (arith, h)) before is))

  -- there are as many first entries as wants
  pub wants_counted : d.wants ≡ firsts l (λ i. true)
  wants_counted = elim (cases_lt d.wants n) [
    | inl less ↦ let x = c.every d.wants less in absurd (omega (arith, wants.within x.0 x.1, x.2))
    | inr more ↦ elim (cases_lt n d.wants) [
      | inl less ↦ let x = wants.every n less in absurd (omega (arith, c.below x.0 x.1, x.2))
      | inr up_to ↦ omega (arith, more, up_to)
    ]
  ] where
    n : ℕ
    n = seen (count_of l)

    c : Covers (count_of l) n
    c = covers (count_of l) (omega arith)

  module _ (g : ℕ → ℕ) (passes : ℕ → Bool) (each : (i : ℕ) → i < count_of l → g (want i) ≡ (if passes i then 1 else 0)) where
    sums : (k : ℕ) → k ≤ count_of l → sum_below g (seen k) ≡ firsts_below l passes k
    sums zero h = refl
    sums (suc k) h = go (is_first l k) refl (sums k (omega (arith, h))) where
      go : (b : Bool) → is_first l k ≡ b → sum_below g (seen k) ≡ firsts_below l passes k → sum_below g (seen k + (if is_first l k && true then 1 else 0)) ≡ firsts_below l passes k + (if is_first l k && passes k then 1 else 0)
      go true is before =
          let at : want k ≡ seen k = fresh k (seen k) (omega (arith, h)) (covers k (omega (arith, h))) is in
          let one : g (seen k) ≡ (if passes k then 1 else 0) = ap g (sym at) ∙ each k (omega (arith, h)) in
          let next : seen k + 1 ≡ suc (seen k) = omega arith in
          rw is (ap (sum_below g) next ∙ (λ i. before i + one i))
      go false is before =
          let same : seen k + 0 ≡ seen k = omega arith in
          let rest : firsts_below l passes k ≡ firsts_below l passes k + 0 = omega arith in
          rw is (ap (sum_below g) same ∙ before ∙ rest)

    -- a sum over wants, of 1 where their chunk passes
    pub sum_counted : sum_below g d.wants ≡ firsts l passes
    sum_counted = ap (sum_below g) wants_counted ∙ sums (count_of l) (omega arith)
