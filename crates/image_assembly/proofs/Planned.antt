-- The plan of an index as a function, which a pick at a call can name.
use Rattle.std.proofs.Common.{◌≡◌, ◌∙◌, ℕ, zero, suc, ◌<◌, ◌≤◌, ◌+◌, ◌-◌, ◌==◌, ◌&&◌, ◌||◌, List, [], ◌∷◌, ◌++◌, length, map, slice_index, Bool, true, false, not, if◌then◌else◌, Decides, refl, sym, ap, subst, inl, inr, arith}
use Rattle.std.proofs.lemmas.Bool.{cases_Bool, cases_eq, cases_lt, eq-eqb, eqb-true}
use Rattle.std.proofs.lemmas.List.{ext_get_or, get_or_append_left, get_or-append_right, length-append, length-map}
use Rattle.std.proofs.lemmas.List.FromFn.{get_or-map-range_with_len, length-range_with_len}
use Rattle.std.proofs.lemmas.Slice.Eq.{bytes_eq-Decides}
use Rattle.std.specs.List.{range_with_len}
use Rattle.std.specs.Str.{bytes_eq}
use Rattle.caibx_codec.specs.Listing.{Listing, count_of, id_of, size_of, start_of}
use Rattle.extract_plan.specs.Deal.{AreAlike, AreShardEnds, AreWants, Deal, IsPlan, shard_start, shards_of}

-- ---- tests of numbers

-- whether one of the numbers below n passes
abbrev some_below : (ℕ → Bool) → ℕ → Bool
some_below f zero = false
some_below f (suc n) = f n || some_below f n

-- the least number from a on that passes, of n; a + n where none does
abbrev least_from : (ℕ → Bool) → ℕ → ℕ → ℕ
least_from f a zero = a
least_from f a (suc n) = if f a then a else least_from f (a + 1) n

some_at : (f : ℕ → Bool) (n j : ℕ) → j < n → f j ≡ true → some_below f n ≡ true
some_at f zero j less is = absurd (omega (arith, less))
some_at f (suc n) j less is = elim (cases_lt j n) [
  | inl before ↦ later (f n) (some_below f n) (some_at f n j before is)
  | inr more ↦ let e : j ≡ n = omega (arith, less, more) in here (f n) (some_below f n) (subst (λ (k : ℕ). f k ≡ true) e is)
] where
  later : (a b : Bool) → b ≡ true → (a || b) ≡ true
  later true b is = refl
  later false b is = is

  here : (a b : Bool) → a ≡ true → (a || b) ≡ true
  here true b is = refl
  here false b is = absurd (cc)

none_below : (f : ℕ → Bool) (n : ℕ) → ((j : ℕ) → j < n → f j ≡ false) → some_below f n ≡ false
none_below f zero none = refl
none_below f (suc n) none = neither (f n) (some_below f n) (none n (omega arith)) (none_below f n (λ j less. none j (omega (arith, less)))) where
  neither : (a b : Bool) → a ≡ false → b ≡ false → (a || b) ≡ false
  neither true b is rest = absurd (cc)
  neither false b is rest = rest

least_is : (f : ℕ → Bool) (a n m : ℕ) → a ≤ m → m ≤ a + n → f m ≡ true → ((j : ℕ) → a ≤ j → j < m → f j ≡ false) → least_from f a n ≡ m
least_is f a zero m from to is none = omega (arith, from, to)
least_is f a (suc n) m from to is none = elim (cases_lt a m) [
  | inl less ↦ skipped (f a) (none a (omega arith) less) (least_is f (a + 1) n m (omega (arith, less)) (omega (arith, to)) is (λ j past below. none j (omega (arith, past)) below))
  | inr more ↦ let e : m ≡ a = omega (arith, from, more) in found (f a) (subst (λ (k : ℕ). f k ≡ true) e is) (sym e)
] where
  skipped : (b : Bool) → b ≡ false → least_from f (a + 1) n ≡ m → (if b then a else least_from f (a + 1) n) ≡ m
  skipped true isnt rest = absurd (cc)
  skipped false isnt rest = rest

  found : (b : Bool) → b ≡ true → a ≡ m → (if b then a else least_from f (a + 1) n) ≡ m
  found true is same = same
  found false is same = absurd (cc)

-- ---- the plan

-- whether entries j and k have one id and one size
abbrev are_alike : Listing → ℕ → ℕ → Bool
are_alike l j k = bytes_eq (id_of l j) (id_of l k) && (size_of l j == size_of l k)

-- whether one of the first k entries, whose wants have the numbers ws, is of want w and isn't alike to entry k
abbrev clashes : Listing → List ℕ → ℕ → ℕ → Bool
clashes l ws k w = some_below (λ j. (slice_index ws j == w) && not (are_alike l j k)) k

-- the numbers of the wants of the first k entries: each is the least one that clashes with none before
abbrev numbers : Listing → ℕ → List ℕ
numbers l zero = []
numbers l (suc k) = numbers l k ++ least_from (λ w. not (clashes l (numbers l k) k w)) 0 k ∷ []

-- how many wants n entries have by these numbers: the least number that none of them has
abbrev count_wants : List ℕ → ℕ → ℕ
count_wants ws n = least_from (λ w. not (some_below (λ i. slice_index ws i == w) n)) 0 n

-- where the shards end of this index, if there are this many
abbrev shard_ends : Listing → ℕ → List ℕ
shard_ends l shards = map (λ k. start_of l (shard_start (count_of l) shards (k + 1))) (range_with_len 0 shards)

-- the plan of this index for this many workers
unfoldable pub plan_of : Listing → ℕ → Deal
plan_of l workers = record {
  workers = workers;
  wants = count_wants (numbers l (count_of l)) (count_of l);
  want_of = numbers l (count_of l);
  cuts = shard_ends l (shards_of workers (count_of l));
}

-- ---- it is the plan

both : (a b : Bool) (P Q : Type 0) → Decides a P → Decides b Q → Decides (a && b) (P × Q)
both true true P Q d e = (λ t. (d.0 refl, e.0 refl), λ h. refl)
both true false P Q d e = (λ t. absurd (cc), λ h. e.1 h.1)
both false b P Q d e = (λ t. absurd (cc), λ h. d.1 h.0)

alike_decides : (l : Listing) (j k : ℕ) → Decides (are_alike l j k) (AreAlike l j k)
alike_decides l j k = both _ _ _ _ (bytes_eq-Decides (id_of l j) (id_of l k)) (λ t. eqb-true (size_of l j) (size_of l k) t, λ h. eq-eqb (size_of l j) (size_of l k) h)

not_eqb : (a b : ℕ) → (a ≡ b → ⊥) → (a == b) ≡ false
not_eqb a b differ = elim (cases_Bool (a == b)) [
  | inl is ↦ absurd (differ (eqb-true a b is))
  | inr isnt ↦ isnt
]

module _ (l : Listing) (n : ℕ) (ws : List ℕ) (wants : AreWants l n ws) where
  abbrev want : ℕ → ℕ
  want i = slice_index ws i

  -- an entry has no greater want than its own number
  low_below : (k i : ℕ) → i < k → i < count_of l → want i ≤ i
  low_below zero i less inside = absurd (omega (arith, less))
  low_below (suc k) i less inside = elim (cases_lt 0 (want i)) [
    | inl some ↦
        let at = wants.ordered i (want i - 1) inside (omega (arith, some)) in
        let low = low_below k at.0 (omega (arith, at.1, less)) (omega (arith, at.1, inside)) in
        omega (arith, some, low, at.1, at.2)
    | inr none ↦ omega (arith, none)
  ]

  low : (i : ℕ) → i < count_of l → want i ≤ i
  low i inside = low_below (suc i) i (omega arith) inside

  -- the numbers of the first k entries are those of their wants
  record AreSoFar (k : ℕ) (ys : List ℕ) : Type 0 where
    pub size : length ys ≡ k
    pub each : (j : ℕ) → j < k → slice_index ys j ≡ want j

  module _ (k : ℕ) (inside : k < count_of l) (ys : List ℕ) (so : AreSoFar k ys) where
    own : clashes l ys k (want k) ≡ false
    own = none_below (λ j. (slice_index ys j == want k) && not (are_alike l j k)) k (λ j less.
        elim (cases_eq (want j) (want k)) [
          | inl same ↦ no_clash (slice_index ys j == want k) (are_alike l j k) ((alike_decides l j k).1 ((wants.alike j k (omega (arith, less, inside)) inside).0 same))
          | inr differ ↦ other (slice_index ys j == want k) (not (are_alike l j k)) (not_eqb (slice_index ys j) (want k) (λ e. differ (sym (so.each j less) ∙ e)))
        ]) where
          no_clash : (a b : Bool) → b ≡ true → (a && not b) ≡ false
          no_clash true true is = refl
          no_clash true false is = absurd (cc)
          no_clash false b is = refl

          other : (a b : Bool) → a ≡ false → (a && b) ≡ false
          other true b is = absurd (cc)
          other false b is = refl

    lesser : (w : ℕ) → w < want k → clashes l ys k w ≡ true
    lesser w less =
        let at = wants.ordered k w inside less in
        some_at (λ j. (slice_index ys j == w) && not (are_alike l j k)) k at.0 at.1
        (clash (slice_index ys at.0 == w) (are_alike l at.0 k) (eq-eqb (slice_index ys at.0) w (so.each at.0 at.1 ∙ at.2)) (λ is.
        let same = (wants.alike at.0 k (omega (arith, at.1, inside)) inside).1 ((alike_decides l at.0 k).0 is) in
        omega (arith, less, same, at.2))) where
          clash : (a b : Bool) → a ≡ true → (b ≡ true → ⊥) → (a && not b) ≡ true
          clash true true is isnt = absurd (isnt refl)
          clash true false is isnt = refl
          clash false b is isnt = absurd (cc)

    next_is : least_from (λ w. not (clashes l ys k w)) 0 k ≡ want k
    next_is = least_is (λ w. not (clashes l ys k w)) 0 k (want k) (omega arith) (omega (arith, low k inside)) (ap not own) (λ w from less. ap not (lesser w less))

  one_more : (k z : ℕ) (ys : List ℕ) → AreSoFar k ys → z ≡ want k → AreSoFar (suc k) (ys ++ z ∷ [])
  one_more k z ys so is = record { size = omega (arith, length-append ys (z ∷ []), so.size); each = each } where
    each : (j : ℕ) → j < suc k → slice_index (ys ++ z ∷ []) j ≡ want j
    each j less = elim (cases_lt j k) [
      | inl before ↦ get_or_append_left ys (z ∷ []) 0 j (omega (arith, before, so.size)) ∙ so.each j before
      | inr more ↦
          let e : k ≡ j = omega (arith, less, more) in
          let none : j - k ≡ 0 = omega (arith, less, more) in
          get_or-append_right ys (z ∷ []) k j 0 so.size (omega (arith, more)) ∙ ap (λ (i : ℕ). slice_index (z ∷ []) i) none ∙ is ∙ ap want e
    ]

  so_far : (k : ℕ) → k ≤ count_of l → AreSoFar k (numbers l k)
  so_far zero to = record { size = refl; each = λ j less. absurd (omega (arith, less)) }
  so_far (suc k) to =
      let before = so_far k (omega (arith, to)) in
      one_more k (least_from (λ w. not (clashes l (numbers l k) k w)) 0 k) (numbers l k) before (next_is k (omega (arith, to)) (numbers l k) before)

  wants_are : ws ≡ numbers l (count_of l)
  wants_are =
      let so = so_far (count_of l) (omega arith) in
      ext_get_or 0 ws (numbers l (count_of l)) (wants.size ∙ sym so.size) (λ i less. sym (so.each i (subst (λ (c : ℕ). i < c) wants.size less)))

  count_is : n ≡ count_wants ws (count_of l)
  count_is = sym (least_is (λ w. not (some_below (λ i. want i == w) (count_of l))) 0 (count_of l) n (omega arith) few (ap not unused) (λ w from less. ap not (used w less))) where
    few : n ≤ 0 + count_of l
    few = elim (cases_lt 0 n) [
      | inl some ↦ let at = wants.every (n - 1) (omega (arith, some)) in omega (arith, some, at.1, at.2, low at.0 at.1)
      | inr none ↦ omega (arith, none)
    ]

    unused : some_below (λ i. want i == n) (count_of l) ≡ false
    unused = none_below (λ i. want i == n) (count_of l) (λ i inside. not_eqb (want i) n (λ e. omega (arith, e, wants.within i inside)))

    used : (w : ℕ) → w < n → some_below (λ i. want i == w) (count_of l) ≡ true
    used w less = let at = wants.every w less in some_at (λ i. want i == w) (count_of l) at.0 at.1 (eq-eqb (want at.0) w at.2)

-- where an index has a plan for some number of workers, this is its plan for any
pub is_plan : (l : Listing) (n m : ℕ) (d : Deal) → IsPlan l n d → IsPlan l m (plan_of l m)
unfolding plan_of
is_plan l n m d p =
    let c = count_of l in
    let same = wants_are l d.wants d.want_of p.wants in
    let count : d.wants ≡ count_wants (numbers l c) c = count_is l d.wants d.want_of p.wants ∙ ap (λ (ys : List ℕ). count_wants ys c) same in
    let wants : AreWants l (count_wants (numbers l c) c) (numbers l c) = subst (λ (k : ℕ). AreWants l k (numbers l c)) count (subst (λ (ys : List ℕ). AreWants l d.wants ys) same p.wants) in
    let long : length (numbers l c) ≡ c = wants.size in
    let shards = shards_of m c in
    let end : ℕ → ℕ = λ k. start_of l (shard_start c shards (k + 1)) in
    record {
      workers = refl;
      wants = wants;
      cuts = subst (λ (k : ℕ). AreShardEnds l (shards_of m k) (shard_ends l shards)) (sym long) (record {
        size = length-map (range_with_len 0 shards) end ∙ length-range_with_len 0 shards;
        ends = λ k inside. get_or-map-range_with_len end 0 shards k k 0 inside (omega arith);
      });
    }
