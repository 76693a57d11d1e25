-- Which wants the second pass has tried. The fates are m, the loop stands before entry i, and P tells which entries are
-- lost.
use Rattle.std.proofs.Common.{◌≡◌, ◌⊎◌, ℕ, ◌+◌, ◌<◌, List, length, get_or, replicate, set, Bool, true, false, Option, Some, None, is_some, refl, sym, ap, ◌∙◌, subst, inl, inr, arith}
use Rattle.std.specs.Option.{MatchOption, option_or}
use Rattle.std.proofs.lemmas.Bool.{cases_eq, cases_lt, true≢false}
use Rattle.std.proofs.lemmas.Option.{MatchOption-at_some}
use Rattle.std.proofs.lemmas.List.{get_or-set_same, get_or-set_other, get_or-replicate, get_or_default, get_or_past, length-replicate, length-set}
use Rattle.assembler.proofs.Entries.{among, among_of}
use Rattle.assembler.proofs.Filled.{open_before, settled_on}
use Rattle.range_ledger.specs.Fills.{Grows}
use Rattle.assembler.specs.Losses.{IsFirstOpen}
use Rattle.assembler.specs.Passes.{want_at}
use Rattle.assembler.specs.declared.fault.Lost.{Lost}
use Rattle.caibx_codec.specs.Listing.{Listing}
use Rattle.chunk_sources.specs.Wants.{IsAmong}
use Rattle.extract_plan.specs.Deal.{Deal, of_want}
use Rattle.range_survey.specs.Fates.{settled}
use Rattle.range_survey.specs.declared.fate.Fate.{Fate}

abbrev pub is_tried : List Bool → ℕ → Bool
is_tried tried w = get_or tried w false

-- the entries below k are settled; all of want w are
abbrev pub SettledBelow : List Fate → ℕ → Type 0
SettledBelow m k = (j : ℕ) → j < k → settled m j ≡ true

abbrev pub SettledOf : Deal → List Fate → ℕ → Type 0
SettledOf d m w = (j : ℕ) → IsAmong (of_want d w) j → settled m j ≡ true

-- a lost entry before which all are settled
abbrev pub IsFirst : (Lost → Type 0) → List Fate → Lost → Type 0
IsFirst P m x = P x × SettledBelow m x.entry

-- a want that was tried is settled, or an entry of it is lost
abbrev pub Ended : Deal → (Lost → Type 0) → List Fate → Option Lost → ℕ → Type 0
Ended d P m first w = ((x : Lost) × (want_at d x.entry ≡ w) × P x × (is_some first ≡ true)) ⊎ SettledOf d m w

pub record Tries (d : Deal) (P : Lost → Type 0) (m : List Fate) (tried : List Bool) (last : Option Lost) (i : ℕ) : Type 0 where
  pub size : length tried ≡ d.wants
  pub first : MatchOption last (SettledBelow m i) (IsFirst P m)
  pub cover : (j : ℕ) → j < i → settled m j ≡ false → is_tried tried (want_at d j) ≡ true
  pub ended : (w : ℕ) → is_tried tried w ≡ true → Ended d P m last w

below_more : (m : List Fate) (i : ℕ) → settled m i ≡ true → SettledBelow m i → SettledBelow m (i + 1)
below_more m i is below = λ j less. elim (cases_lt j i) [
  | inl inside ↦ below j inside
  | inr at_least ↦ let same : i ≡ j = omega arith in subst (λ k. settled m k ≡ true) same is
]

below_on : (m0 m1 : List Fate) (i : ℕ) → Grows m0 m1 → SettledBelow m0 i → SettledBelow m1 i
below_on m0 m1 i grows below = λ j less. settled_on m0 m1 grows j (below j less)

module _ (d : Deal) (P Q : Lost → Type 0) (later : (x : Lost) → P x → Q x) (m0 m1 : List Fate) (grows : Grows m0 m1) where
  ended_on : (first : Option Lost) (w : ℕ) → Ended d P m0 first w → Ended d Q m1 first w
  ended_on first w (inl (x, of, lost, some)) = inl (x, of, later x lost, some)
  ended_on first w (inr all) = inr (λ j is. settled_on m0 m1 grows j (all j is))

-- what a read answers that has another default
pub tried_is : (tried : List Bool) (w : ℕ) (read b : Bool) → w < length tried → read ≡ get_or tried w read → read ≡ b → is_tried tried w ≡ b
tried_is tried w read b inside is same = get_or_default tried w false read inside ∙ sym is ∙ same

-- nothing was tried at first
pub untried : (n w : ℕ) → is_tried (replicate n false) w ≡ false
untried n w = elim (cases_lt w n) [
  | inl inside ↦ get_or-replicate n w false false inside
  | inr past ↦ get_or_past (replicate n false) w false (omega (arith, length-replicate n false))
]

pub tries_none : (d : Deal) (P : Lost → Type 0) (m : List Fate) (tried : List Bool) (n : ℕ) → tried ≡ replicate n false → n ≡ d.wants → Tries d P m tried None 0
tries_none d P m tried n are count = record {
  size = ap (λ xs. length xs) are ∙ length-replicate n false ∙ count;
  first = λ j less. absurd (omega arith);
  cover = λ j less isnt. absurd (omega arith);
  ended = λ w is. absurd (true≢false (sym is ∙ ap (λ xs. is_tried xs w) are ∙ untried n w));
}

-- an entry that is settled, or whose want was tried
module _ (d : Deal) (P : Lost → Type 0) (m : List Fate) (tried : List Bool) (i : ℕ) (inside : i < length d.want_of) where
  passed_first : (first : Option Lost) → (settled m i ≡ true) ⊎ (is_tried tried (want_at d i) ≡ true)
      → ((w : ℕ) → is_tried tried w ≡ true → Ended d P m first w) → MatchOption first (SettledBelow m i) (IsFirst P m) → MatchOption first (SettledBelow m (i + 1)) (IsFirst P m)
  passed_first (Some x) why ended first = first
  passed_first None (inl is) ended first = below_more m i is first
  passed_first None (inr is) ended first = elim (ended (want_at d i) is) [
    | inl lost ↦ absurd (true≢false (sym lost.3))
    | inr all ↦ below_more m i (all i (among d (want_at d i) i inside refl)) first
  ]

  pub tries_passed : (first : Option Lost) → (settled m i ≡ true) ⊎ (is_tried tried (want_at d i) ≡ true) → Tries d P m tried first i → Tries d P m tried first (i + 1)
  tries_passed first why tries = record {
    size = tries.size;
    first = passed_first first why tries.ended tries.first;
    cover = λ j less isnt. elim (cases_lt j i) [
      | inl below ↦ tries.cover j below isnt
      | inr at_least ↦
          let same : i ≡ j = omega arith in
          subst (λ k. is_tried tried (want_at d k) ≡ true) same (elim why [
            | inl is ↦ absurd (true≢false (sym is ∙ ap (settled m) same ∙ isnt))
            | inr is ↦ is
          ])
    ];
    ended = tries.ended;
  }

  -- the first open entry of a want not yet tried is the one at which the loop stands
  pub lost_here : (l : Listing) (first : Option Lost) (w : ℕ) (x : Lost) → want_at d i ≡ w → Tries d P m tried first i → settled m i ≡ false → is_tried tried w ≡ false
      → IsFirstOpen l m (of_want d w) x → x.entry ≡ i
  lost_here l first w x is_of tries isnt untried is = elim (cases_lt x.entry i) [
    | inl below ↦ absurd (true≢false (sym (tries.cover x.entry below is.is_open) ∙ ap (is_tried tried) (among_of d w x.entry is.among).1 ∙ untried))
    | inr at_least ↦ elim (cases_lt i x.entry) [
      | inl above ↦ absurd (true≢false (sym (is.first i above (among d w i inside is_of)) ∙ isnt))
      | inr no_more ↦ omega arith
    ]
  ]

-- one want more, which is w
module _ (d : Deal) (P Q : Lost → Type 0) (later : (x : Lost) → P x → Q x) (m0 m1 : List Fate) (grows : Grows m0 m1) (tried : List Bool) (i w : ℕ)
    (inside : i < length d.want_of) (below : w < d.wants) (is_of : want_at d i ≡ w) where
  abbrev more : List Bool
  more = set tried w true

  module _ (size : length tried ≡ d.wants) where
    tried_here : is_tried more w ≡ true
    tried_here = get_or-set_same tried w true false (omega (arith, below, size))

    tried_still : (v : ℕ) → is_tried tried v ≡ true → is_tried more v ≡ true
    tried_still v is = elim (cases_eq v w) [
      | inl same ↦ ap (is_tried more) same ∙ tried_here
      | inr apart ↦ get_or-set_other tried w v true false apart ∙ is
    ]

    cover_more : ((j : ℕ) → j < i → settled m0 j ≡ false → is_tried tried (want_at d j) ≡ true)
        → (j : ℕ) → j < i + 1 → settled m1 j ≡ false → is_tried more (want_at d j) ≡ true
    cover_more cover = λ j less isnt. elim (cases_lt j i) [
      | inl under ↦ tried_still (want_at d j) (cover j under (open_before m0 m1 grows j isnt))
      | inr at_least ↦
          let same : i ≡ j = omega arith in
          subst (λ k. is_tried more (want_at d k) ≡ true) same (ap (is_tried more) is_of ∙ tried_here)
    ]

    ended_more : (first last : Option Lost) → (is_some first ≡ true → is_some last ≡ true) → Ended d Q m1 last w
        → ((v : ℕ) → is_tried tried v ≡ true → Ended d P m0 first v) → (v : ℕ) → is_tried more v ≡ true → Ended d Q m1 last v
    ended_more first last some here ended = λ v is. elim (cases_eq v w) [
      | inl same ↦ subst (Ended d Q m1 last) (sym same) here
      | inr apart ↦ elim (ended v (sym (get_or-set_other tried w v true false apart) ∙ is)) [
        | inl lost ↦ inl (lost.0, lost.1, later lost.0 lost.2, some lost.3)
        | inr all ↦ inr (λ j among. settled_on m0 m1 grows j (all j among))
      ]
    ]

  first_settled : (first : Option Lost) → settled m1 i ≡ true → MatchOption first (SettledBelow m0 i) (IsFirst P m0) → MatchOption first (SettledBelow m1 (i + 1)) (IsFirst Q m1)
  first_settled None is was = below_more m1 i is (below_on m0 m1 i grows was)
  first_settled (Some x) is was = (later x was.0, below_on m0 m1 x.entry grows was.1)

  first_lost : (first : Option Lost) (x : Lost) → x.entry ≡ i → Q x → MatchOption first (SettledBelow m0 i) (IsFirst P m0)
      → MatchOption (option_or first (Some x)) (SettledBelow m1 (i + 1)) (IsFirst Q m1)
  first_lost None x at lost was = (lost, subst (SettledBelow m1) (sym at) (below_on m0 m1 i grows was))
  first_lost (Some y) x at lost was = (later y was.0, below_on m0 m1 y.entry grows was.1)

  some_or : (first : Option Lost) (x : Lost) → is_some (option_or first (Some x)) ≡ true
  some_or None x = refl
  some_or (Some y) x = refl

  -- its entries were settled
  pub tries_settled : (first : Option Lost) → SettledOf d m1 w → Tries d P m0 tried first i → Tries d Q m1 more first (i + 1)
  tries_settled first all tries = record {
    size = length-set tried w true ∙ tries.size;
    first = first_settled first (all i (among d w i inside is_of)) tries.first;
    cover = cover_more tries.size tries.cover;
    ended = ended_more tries.size first first (λ is. is) (inr all) tries.ended;
  }

  -- it is lost
  pub tries_lost : (first : Option Lost) (x : Lost) → x.entry ≡ i → Q x → Tries d P m0 tried first i → Tries d Q m1 more (option_or first (Some x)) (i + 1)
  tries_lost first x at lost tries = record {
    size = length-set tried w true ∙ tries.size;
    first = first_lost first x at lost tries.first;
    cover = cover_more tries.size tries.cover;
    ended = ended_more tries.size first (option_or first (Some x)) (λ is. some_or first x) (inl (x, ap (want_at d) at ∙ is_of, lost, some_or first x)) tries.ended;
  }

-- where all entries were passed, an entry that is open is lost
pub lost_of : (d : Deal) (P : Lost → Type 0) (m : List Fate) (tried : List Bool) (first : Option Lost) (i : ℕ) → Tries d P m tried first i
    → (j : ℕ) → j < i → j < length d.want_of → settled m j ≡ false → (x : Lost) × (want_at d x.entry ≡ want_at d j) × P x
lost_of d P m tried first i tries j below inside isnt = elim (tries.ended (want_at d j) (tries.cover j below isnt)) [
  | inl lost ↦ (lost.0, lost.1, lost.2)
  | inr all ↦ absurd (true≢false (sym (all j (among d (want_at d j) j inside refl)) ∙ isnt))
]

-- the first lost entry, of which later more is known
pub first_later : (d : Deal) (P Q : Lost → Type 0) → ((x : Lost) → P x → Q x) → (m0 m1 : List Fate) → Grows m0 m1 → (tried : List Bool) (first : Option Lost) (i : ℕ) (x : Lost)
    → first ≡ Some x → Tries d P m0 tried first i → IsFirst Q m1 x
first_later d P Q later m0 m1 grows tried first i x is tries =
    let was : IsFirst P m0 x = MatchOption-at_some (SettledBelow m0 i) (IsFirst P m0) x is tries.first in
    (later x was.0, below_on m0 m1 x.entry grows was.1)
