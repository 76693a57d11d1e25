-- Which entries ranges cover that lie in one another, or in one entry.
use Rattle.std.proofs.Common.{◌≡◌, ℕ, ◌+◌, ◌-◌, ◌<◌, ◌≤◌, ◌++◌, List, [], ◌∷◌, max, min, ap, subst, ◌∙◌, arith, inl, inr}
use Rattle.std.proofs.lemmas.Bool.{cases_lt}
use Rattle.caibx_codec.specs.Listing.{Listing, Rules, count_of, start_of, end_of, image_length}
use Rattle.image_reader.proofs.Covering.{all_passed, none_yet, wants_taken}
use Rattle.image_reader.specs.Covered.{IsCovered, want_of, wants_to}
use Rattle.image_reader.specs.Images.{HasTwinsIn, IsRightInRange}

module _ (l : Listing) (at n from m : ℕ) (low : at ≤ from) (high : from + m ≤ at + n) where
  -- what a range inside covers, the whole one covers
  pub covered_wider : (i : ℕ) → IsCovered l from m i → IsCovered l at n i
  covered_wider i c = record { listed = c.listed; covers = (let h = c.covers in omega arith) }

  pub twins_wider : HasTwinsIn l from m → HasTwinsIn l at n
  twins_wider h = record { entry = h.entry; covered = covered_wider h.entry h.covered; one = h.one; other = h.other; differ = h.differ; first = h.first; second = h.second }

  pub right_narrower : (t : List ℕ) → IsRightInRange t l at n → IsRightInRange t l from m
  right_narrower t r = record { size = r.size; entries = λ i c. r.entries i (covered_wider i c) }

-- ---- a range in one entry

module _ (l : Listing) (rules : Rules l) (i from : ℕ) (listed : i < count_of l) (starts : start_of l i ≤ from) where
  before : (j : ℕ) → j < i → end_of l j ≤ from
  before j lt = let end = rules.ordered j i lt listed in omega arith

  module _ (m : ℕ) (ends : from + m ≤ end_of l i) where
    pub part_inside : from + m ≤ image_length l
    part_inside = let end = rules.inside i listed in omega arith

    -- it covers no other
    pub part_only : (j : ℕ) → IsCovered l from m j → j ≡ i
    part_only j c = elim (cases_lt j i) [
      | inl less ↦ let end = before j less in let h = c.covers in absurd (omega arith)
      | inr ge ↦ elim (cases_lt i j) [
        | inl more ↦ let start = rules.ordered i j more c.listed in let h = c.covers in absurd (omega arith)
        | inr same ↦ omega arith
      ]
    ]

    -- of the entries up to it no chunk is wanted
    pub none_wanted : (k : ℕ) → k ≤ i → wants_to l from m k ≡ []
    none_wanted k le = none_yet l from m rules part_inside k (λ j lt. before j (omega (arith, lt, le)))

    module _ (some : 0 < m) where
      pub part_covered : IsCovered l from m i
      part_covered = record { listed = listed; covers = (let rise = rules.rises i listed in omega arith) }

      -- of more entries its chunk alone
      pub part_wanted : (k : ℕ) → i < k → k ≤ count_of l → wants_to l from m k ≡ want_of l i ∷ []
      part_wanted k lt le =
          all_passed l from m (i + 1) (k - (i + 1)) k (omega arith) (λ j ge less. (let start = rules.ordered i j (omega arith) (omega arith) in omega arith))
          ∙ (wants_taken l from m i part_covered ∙ ap (λ ws. ws ++ want_of l i ∷ []) (none_wanted i (omega arith)))

-- ---- the bytes before an entry

-- they are of those before it
pub before_entry : (l : Listing) (rules : Rules l) (at k : ℕ) → k < count_of l → (j : ℕ) → IsCovered l at (start_of l k - at) j → j < k
before_entry l rules at k listed j c = elim (cases_lt j k) [
  | inl less ↦ less
  | inr ge ↦ elim (cases_lt k j) [
    | inl more ↦ let start = rules.ordered k j more c.listed in let rise = rules.rises k listed in let h = c.covers in absurd (omega arith)
    | inr same ↦
        let one : j ≡ k = omega arith in
        let P : ℕ → Type 0 = λ e. max at (start_of l e) < min (at + (start_of l k - at)) (end_of l e) in
        let h : max at (start_of l k) < min (at + (start_of l k - at)) (end_of l k) = subst P one c.covers in
        absurd (omega arith)
  ]
]
