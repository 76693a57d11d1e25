-- The shards of a run, one after the other: what holds for all of them together.
use Rattle.std.proofs.Common.{◌≡◌, ℕ, zero, suc, ◌+◌, ◌-◌, ◌*◌, ◌/◌, ◌<◌, ◌≤◌, List, [], ◌∷◌, ◌++◌, length, map, take, drop, set, get_or, slice_range, unwrap_or, Option, Some, None, IfSome, Bool, true, false, is_some, refl, sym, ap, subst, ◌∙◌, inl, inr, arith, length-append}
use Rattle.std.proofs.Common.{mul-div_cancel, mul-zero, mul_comm, zero-mul}
use native.Mathlib.Nat.{zero-div}
use Rattle.std.proofs.lemmas.Bool.{cases_eq, cases_lt}
use Rattle.std.proofs.lemmas.List.{get_or_default, take_all}
use Rattle.std.specs.List.{flat_map, sum, sum_by}
use Rattle.std.proofs.lemmas.List.Sums.{sum-map, sum_by-cons}
use Rattle.dsy_base.specs.Splits.{joined}
use Rattle.caibx_codec.specs.Listing.{count_of, end_of, image_length, size_of, slice_of, start_of}
use Rattle.dsy_base.specs.Bytes.{Held, held_written, written}
use Rattle.range_ledger.proofs.Laid.{first_below, last_above, sized}
use Rattle.range_ledger.proofs.Laid.{inside as inside_it}
use Rattle.owned_shards.proofs.Pieces.{around, around_set, flat_map-map, get_within, set_within, slice_within, written_within}
use Rattle.range_ledger.specs.Extents.{IsValidExtent, begin_in, end_in, length_in}
use Rattle.range_ledger.specs.Runs.{Has, IsDealtShard, Run, Seen, extent_of, first_in, slice_at}
use Rattle.owned_shards.specs.Wholes.{AreShards, IsTold, ShardsWith, joined_bytes, fates_of, joined_faults}
use Rattle.range_survey.specs.Fates.{fate_at}
use Rattle.range_survey.specs.declared.fate.Fate.{Fate}
use Rattle.range_survey.specs.declared.fate.Fate.TheVariants as fate

-- ---- shards by their number

module _ (r : Run) (P : Seen → Type 0) where
  pub with_at : (k : ℕ) (ss : List Seen) (i : ℕ) (d : Seen) → ShardsWith P r k ss → i < length ss
      → ((get_or ss i d).number ≡ k + i) × P (get_or ss i d)
  with_at k [] i d is lt = absurd (omega (arith, lt))
  with_at k (s ∷ ss) zero d is lt = (omega (arith, is.0), is.1.0)
  with_at k (s ∷ ss) (suc i) d is lt =
      let rest = with_at (k + 1) ss i d is.1.1 (omega (arith, lt)) in
      (omega (arith, rest.0), rest.1)

  pub with_set : (k : ℕ) (ss : List Seen) (i : ℕ) (y : Seen) → ShardsWith P r k ss → y.number ≡ k + i → P y → ShardsWith P r k (set ss i y)
  with_set k [] i y is number p = is
  with_set k (s ∷ ss) zero y is number p = (omega (arith, number), (p, is.1.1))
  with_set k (s ∷ ss) (suc i) y is number p = (is.0, (is.1.0, with_set (k + 1) ss i y is.1.1 (omega (arith, number)) p))

  pub with_length : (k : ℕ) (ss : List Seen) → ShardsWith P r k ss → k + length ss ≡ r.shards
  with_length k [] is = omega (arith, is)
  with_length k (s ∷ ss) is = omega (arith, with_length (k + 1) ss is.1.1)

pub with_map : (r : Run) (P Q : Seen → Type 0) → ((s : Seen) → P s → Q s) → (k : ℕ) (ss : List Seen) → ShardsWith P r k ss → ShardsWith Q r k ss
with_map r P Q f k [] is = is
with_map r P Q f k (s ∷ ss) is = (is.0, (f s is.1.0, with_map r P Q f (k + 1) ss is.1.1))

-- ---- where the entries of a shard stand among all

pub first_of_all : (r : Run) → first_in r 0 ≡ 0
first_of_all r = ap (λ m. m / r.shards) (zero-mul (count_of r.listing)) ∙ zero-div r.shards

pub past_all : (r : Run) → (0 < count_of r.listing → 0 < r.shards) → first_in r r.shards ≡ count_of r.listing
past_all r some = elim (cases_lt 0 (count_of r.listing)) [
  | inl any ↦ ap (λ m. m / r.shards) (mul_comm r.shards (count_of r.listing)) ∙ mul-div_cancel (count_of r.listing) (some any)
  | inr none ↦ let zero_all : count_of r.listing ≡ 0 = omega (arith, none) in
      subst (λ n. r.shards * n / r.shards ≡ n) (sym zero_all) (ap (λ m. m / r.shards) (mul-zero r.shards) ∙ zero-div r.shards)
]

-- the extent begins no later than it ends
pub extent_rises : (r : Run) (k : ℕ) → IsValidExtent (extent_of r k) → start_of r.listing (first_in r k) ≤ start_of r.listing (first_in r (k + 1))
extent_rises r k valid = elim (cases_eq (first_in r k) (first_in r (k + 1))) [
  | inl same ↦ omega (arith, ap (start_of r.listing) same)
  | inr differ ↦
      let lt : first_in r k < first_in r (k + 1) = omega (arith, differ, valid.some) in
      omega (arith, valid.valid.rises (first_in r k) (omega (arith, lt, valid.within)), last_above (extent_of r k) valid (first_in r k) lt)
]

-- how many fates stand before those of the i-th shard
pub fates_before : (r : Run) (k : ℕ) (ss : List Seen) (i : ℕ) → ShardsWith (IsDealtShard r) r k ss → i ≤ length ss
    → first_in r k + length (fates_of (take i ss)) ≡ first_in r (k + i)
fates_before r k ss zero is le = let same : k + 0 ≡ k = omega arith in omega (arith, ap (first_in r) same)
fates_before r k [] (suc i) is le = absurd (omega (arith, le))
fates_before r k (s ∷ ss) (suc i) is le =
    let rest = fates_before r (k + 1) ss i is.1.1 (omega (arith, le)) in
    let here : first_in r k + length s.fates ≡ first_in r (k + 1) = subst (λ n. first_in r n + length s.fates ≡ first_in r (n + 1)) is.0 is.1.0.count in
    let same : (k + 1) + i ≡ k + suc i = omega arith in
    omega (arith, rest, here, ap (first_in r) same, length-append s.fates (fates_of (take i ss)))

-- the bytes that a shard tells, where it does
abbrev pub told : Seen → List ℕ
told s = unwrap_or s.held.bytes []

told_size : (o : Option (List ℕ)) (n : ℕ) → is_some o ≡ true → IfSome o (λ t. length t ≡ n) → length (unwrap_or o []) ≡ n
told_size None n is long = absurd (omega (arith, ap (λ (b : Bool). if_one b) is)) where
  if_one : Bool → ℕ
  if_one true = 1
  if_one false = 0
told_size (Some t) n is long = long

pub told_is : (o : Option (List ℕ)) → is_some o ≡ true → o ≡ Some (unwrap_or o [])
told_is None is = absurd (omega (arith, ap (λ (b : Bool). if_one b) is)) where
  if_one : Bool → ℕ
  if_one true = 1
  if_one false = 0
told_is (Some t) is = refl

-- how many bytes stand before those of the i-th shard
pub bytes_before : (r : Run) → r.tells ≡ true → (k : ℕ) (ss : List Seen) (i : ℕ) → ShardsWith (IsTold r) r k ss → i ≤ length ss
    → start_of r.listing (first_in r k) + length (joined_bytes (take i ss)) ≡ start_of r.listing (first_in r (k + i))
bytes_before r tells k ss zero is le = let same : k + 0 ≡ k = omega arith in omega (arith, ap (λ n. start_of r.listing (first_in r n)) same)
bytes_before r tells k [] (suc i) is le = absurd (omega (arith, le))
bytes_before r tells k (s ∷ ss) (suc i) is le =
    let rest = bytes_before r tells (k + 1) ss i is.1.1 (omega (arith, le)) in
    let good = is.1.0 in
    let long : length (told s) ≡ length_in (extent_of r k) =
    told_size s.held.bytes s.held.size (good.tells ∙ tells) good.sized ∙ (good.kept.dealt.size ∙ ap (λ n. length_in (extent_of r n)) is.0) in
    let rises = extent_rises r k (subst (λ n. IsValidExtent (extent_of r n)) is.0 good.kept.dealt.valid) in
    let same : (k + 1) + i ≡ k + suc i = omega arith in
    omega (arith, rest, long, rises, ap (λ n. start_of r.listing (first_in r n)) same, length-append (told s) (joined_bytes (take i ss)))

-- ---- an entry of the i-th shard, among all

module _ (r : Run) (ss : List Seen) (are : AreShards r 0 ss) (i : ℕ) (lt : i < length ss) (s : Seen) (here : s ≡ get_or ss i s) where
  pub number_at : s.number ≡ i
  number_at = let is = with_at r (IsTold r) 0 ss i s are lt in subst (λ v. v.number ≡ i) (sym here) (omega (arith, is.0))

  pub told_at : IsTold r s
  told_at = subst (IsTold r) (sym here) (with_at r (IsTold r) 0 ss i s are lt).1

  around_it : {A : Type 0} (f : Seen → List A) → flat_map f ss ≡ flat_map f (take i ss) ++ (f s ++ flat_map f (drop (i + 1) ss))
  around_it f = around f ss i lt s ∙ ap (λ v. flat_map f (take i ss) ++ (f v ++ flat_map f (drop (i + 1) ss))) (sym here)

  pub has_it : (e : ℕ) → first_in r i ≤ e → e < first_in r (i + 1) → Has r s e
  has_it e from to = record {
    from = omega (arith, from, ap (first_in r) number_at);
    to = omega (arith, to, ap (λ n. first_in r (n + 1)) number_at);
  }

module _ (r : Run) (ss : List Seen) (are : AreShards r 0 ss) (i : ℕ) (lt : i < length ss) (s : Seen) (here : s ≡ get_or ss i s) (e : ℕ) (has : Has r s e) where
  around_this : {A : Type 0} (f : Seen → List A) → flat_map f ss ≡ flat_map f (take i ss) ++ (f s ++ flat_map f (drop (i + 1) ss))
  around_this f = around_it r ss are i lt s here f

  at : (s.number ≡ i) × IsTold r s
  at = (number_at r ss are i lt s here, told_at r ss are i lt s here)

  dealt : IsDealtShard r s
  dealt = at.1.kept.dealt

  abbrev pub front : List Fate
  front = fates_of (take i ss)

  abbrev pub behind : List Fate
  behind = fates_of (drop (i + 1) ss)

  before : length front ≡ first_in r s.number
  before =
      let all = fates_before r 0 ss i (with_map r (IsTold r) (IsDealtShard r) (λ s is. is.kept.dealt) 0 ss are) (omega (arith, lt)) in
      let same : 0 + i ≡ i = omega arith in
      let whole : first_in r (0 + i) ≡ first_in r s.number = ap (first_in r) (same ∙ sym at.0) in
      omega (arith, all, first_of_all r, whole)

  inside : e - first_in r s.number < length s.fates
  inside = omega (arith, has.from, has.to, dealt.count)

  place : e ≡ length front + (e - first_in r s.number)
  place = omega (arith, before, has.from)

  pub fate_in : fate_at (fates_of ss) e ≡ fate_at s.fates (e - first_in r s.number)
  fate_in = ap (λ m. fate_at m e) (around_this (λ (s : Seen). s.fates))
      ∙ (ap (λ n. fate_at (front ++ (s.fates ++ behind)) n) place ∙ get_within front s.fates behind (e - first_in r s.number) fate.Open inside)

  pub fates_set : (new : Seen) (f : Fate) → new.fates ≡ set s.fates (e - first_in r s.number) f → fates_of (set ss i new) ≡ set (fates_of ss) e f
  fates_set new f is = around_set (λ (s : Seen). s.fates) ss i lt new
      ∙ (ap (λ m. front ++ (m ++ behind)) is
      ∙ (sym (set_within front s.fates behind (e - first_in r s.number) f inside)
      ∙ (ap (λ n. set (front ++ (s.fates ++ behind)) n f) (sym place) ∙ ap (λ m. set m e f) (sym (around_this (λ (s : Seen). s.fates))))))

  pub fates_kept : (new : Seen) → new.fates ≡ s.fates → fates_of (set ss i new) ≡ fates_of ss
  fates_kept new is = around_set (λ (s : Seen). s.fates) ss i lt new
      ∙ (ap (λ m. front ++ (m ++ behind)) is ∙ sym (around_this (λ (s : Seen). s.fates)))

  pub bytes_kept : (new : Seen) → new.held ≡ s.held → joined_bytes (set ss i new) ≡ joined_bytes ss
  bytes_kept new is = around_set told ss i lt new
      ∙ (ap (λ (h : Held). joined_bytes (take i ss) ++ (unwrap_or h.bytes [] ++ joined_bytes (drop (i + 1) ss))) is ∙ sym (around_this told))

  module _ (tells : r.tells ≡ true) where
    before_it : length (joined_bytes (take i ss)) ≡ start_of r.listing (first_in r s.number)
    before_it =
        let all = bytes_before r tells 0 ss i are (omega (arith, lt)) in
        let none : start_of r.listing (first_in r 0) ≡ 0 = ap (start_of r.listing) (first_of_all r) in
        let same : 0 + i ≡ i = omega arith in
        let whole : start_of r.listing (first_in r (0 + i)) ≡ start_of r.listing (first_in r s.number) = ap (λ n. start_of r.listing (first_in r n)) (same ∙ sym at.0) in
        omega (arith, all, none, whole)

    long : length (told s) ≡ length_in (extent_of r s.number)
    long = told_size s.held.bytes s.held.size (at.1.tells ∙ tells) at.1.sized ∙ dealt.size

    fits : begin_in (extent_of r s.number) e + size_of r.listing e ≤ length (told s)
    fits = omega (arith, inside_it (extent_of r s.number) dealt.valid e has, long)

    starts : start_of r.listing e ≡ length (joined_bytes (take i ss)) + begin_in (extent_of r s.number) e
    starts = omega (arith, before_it, first_below (extent_of r s.number) dealt.valid e has.from has.to)

    ends : end_of r.listing e ≡ length (joined_bytes (take i ss)) + end_in (extent_of r s.number) e
    ends = omega (arith, starts, sized (extent_of r s.number) dealt.valid e has, dealt.valid.valid.rises e (omega (arith, has.to, dealt.valid.within)))

    pub slice_in_whole : slice_of r.listing (joined_bytes ss) e ≡ slice_at r s (told s) e
    slice_in_whole =
        ap (λ t. slice_range t (start_of r.listing e) (end_of r.listing e)) (around_this told)
        ∙ (ap (λ a. slice_range (joined_bytes (take i ss) ++ (told s ++ joined_bytes (drop (i + 1) ss))) a (end_of r.listing e)) starts
        ∙ (ap (λ z. slice_range (joined_bytes (take i ss) ++ (told s ++ joined_bytes (drop (i + 1) ss))) (length (joined_bytes (take i ss)) + begin_in (extent_of r s.number) e) z) ends
        ∙ slice_within (joined_bytes (take i ss)) (told s) (joined_bytes (drop (i + 1) ss)) (begin_in (extent_of r s.number) e) (end_in (extent_of r s.number) e)
        (omega (arith, sized (extent_of r s.number) dealt.valid e has)) (omega (arith, fits, sized (extent_of r s.number) dealt.valid e has))))

    pub bytes_written : (new : Seen) (y : List ℕ) → length y ≡ size_of r.listing e → new.held ≡ held_written s.held (begin_in (extent_of r s.number) e) y
        → joined_bytes (set ss i new) ≡ written (joined_bytes ss) (start_of r.listing e) y
    bytes_written new y size is =
        let here : told new ≡ written (told s) (begin_in (extent_of r s.number) e) y =
        ap (λ (h : Held). unwrap_or h.bytes []) is ∙ over s.held.bytes (at.1.tells ∙ tells) in
        around_set told ss i lt new
        ∙ (ap (λ t. joined_bytes (take i ss) ++ (t ++ joined_bytes (drop (i + 1) ss))) here
        ∙ (sym (written_within (joined_bytes (take i ss)) (told s) (joined_bytes (drop (i + 1) ss)) y (begin_in (extent_of r s.number) e) (omega (arith, fits, size)))
        ∙ (ap (λ a. written (joined_bytes (take i ss) ++ (told s ++ joined_bytes (drop (i + 1) ss))) a y) (sym starts)
        ∙ ap (λ t. written t (start_of r.listing e) y) (sym (around_this told))))) where
          over : (o : Option (List ℕ)) → is_some o ≡ true
              → unwrap_or (held_written (record { bytes = o; size = s.held.size; name = s.held.name }) (begin_in (extent_of r s.number) e) y).bytes [] ≡ written (unwrap_or o []) (begin_in (extent_of r s.number) e) y
          over None is = absurd (omega (arith, ap (λ (b : Bool). if_one b) is)) where
            if_one : Bool → ℕ
            if_one true = 1
            if_one false = 0
          over (Some t) is = refl

-- ---- all of them

pub all_fates : (r : Run) (ss : List Seen) → AreShards r 0 ss → (0 < count_of r.listing → 0 < r.shards) → length (fates_of ss) ≡ count_of r.listing
all_fates r ss are some =
    let before = fates_before r 0 ss (length ss) (with_map r (IsTold r) (IsDealtShard r) (λ s is. is.kept.dealt) 0 ss are) (omega arith) in
    let whole : take (length ss) ss ≡ ss = take_all (length ss) ss (omega arith) in
    let last : first_in r (0 + length ss) ≡ count_of r.listing = ap (first_in r) (with_length r (IsTold r) 0 ss are) ∙ past_all r some in
    omega (arith, before, first_of_all r, last, ap (λ xs. length (fates_of xs)) whole)

pub all_bytes : (r : Run) (ss : List Seen) → AreShards r 0 ss → (0 < count_of r.listing → 0 < r.shards) → r.tells ≡ true → length (joined_bytes ss) ≡ image_length r.listing
all_bytes r ss are some tells =
    let before = bytes_before r tells 0 ss (length ss) are (omega arith) in
    let whole : take (length ss) ss ≡ ss = take_all (length ss) ss (omega arith) in
    let last : start_of r.listing (first_in r (0 + length ss)) ≡ image_length r.listing =
    ap (start_of r.listing) (ap (first_in r) (with_length r (IsTold r) 0 ss are) ∙ past_all r some) in
    let none : start_of r.listing (first_in r 0) ≡ 0 = ap (start_of r.listing) (first_of_all r) in
    omega (arith, before, none, last, ap (λ xs. length (joined_bytes xs)) whole)

-- the shard that has an entry
pub record ShardOf (r : Run) (ss : List Seen) (e : ℕ) : Type 0 where
  pub i : ℕ
  pub lt : i < length ss
  pub s : Seen
  pub here : s ≡ get_or ss i s
  pub from : first_in r i ≤ e
  pub to : e < first_in r (i + 1)

pub shard_with : (r : Run) (ss : List Seen) → AreShards r 0 ss → (0 < count_of r.listing → 0 < r.shards) → (e : ℕ) → e < count_of r.listing → ShardOf r ss e
shard_with r ss are some e lt = find (length ss) (omega arith) (omega (arith, lt, ap (first_in r) (with_length r (IsTold r) 0 ss are) ∙ past_all r some, ap (first_in r) same)) where
  same : 0 + length ss ≡ length ss
  same = omega arith

  nothing : Seen
  nothing = record { number = 0; fates = []; faults = 0; held = record { bytes = None; size = 0; name = [] } }

  find : (n : ℕ) → n ≤ length ss → e < first_in r n → ShardOf r ss e
  find zero le below = absurd (omega (arith, below, first_of_all r))
  find (suc n) le below = elim (cases_lt e (first_in r n)) [
    | inl lower ↦ find n (omega (arith, le)) lower
    | inr least ↦ record {
      i = n;
      lt = omega (arith, le);
      s = get_or ss n nothing;
      here = get_or_default ss n nothing (get_or ss n nothing) (omega (arith, le));
      from = least;
      to = let next : suc n ≡ n + 1 = omega arith in omega (arith, below, ap (first_in r) next);
    }
  ]

-- ---- the parts of all of them

pub sum_by-map : {X Y : Type 0} (f : Y → ℕ) (h : X → Y) (xs : List X) → sum_by f (map h xs) ≡ sum_by (λ x. f (h x)) xs
sum_by-map f h [] = refl
sum_by-map f h (x ∷ xs) = sum_by-cons f (h x) (map h xs) ∙ (ap (λ n. f (h x) + n) (sum_by-map f h xs) ∙ sym (sum_by-cons (λ x. f (h x)) x xs))

sizes_from : (r : Run) (k : ℕ) (ss : List Seen) → AreShards r k ss
    → start_of r.listing (first_in r k) + sum_by (λ (s : Seen). s.held.size) ss ≡ start_of r.listing (first_in r (k + length ss))
sizes_from r k [] is = let same : k + 0 ≡ k = omega arith in omega (arith, ap (λ n. start_of r.listing (first_in r n)) same)
sizes_from r k (s ∷ ss) is =
    let rest = sizes_from r (k + 1) ss is.1.1 in
    let dealt = is.1.0.kept.dealt in
    let long : s.held.size ≡ length_in (extent_of r k) = dealt.size ∙ ap (λ n. length_in (extent_of r n)) is.0 in
    let rises = extent_rises r k (subst (λ n. IsValidExtent (extent_of r n)) is.0 dealt.valid) in
    let same : (k + 1) + length ss ≡ k + suc (length ss) = omega arith in
    omega (arith, rest, long, rises, ap (λ n. start_of r.listing (first_in r n)) same, sum_by-cons (λ (s : Seen). s.held.size) s ss)

pub all_sizes : (r : Run) (ss : List Seen) → AreShards r 0 ss → (0 < count_of r.listing → 0 < r.shards) → sum_by (λ (s : Seen). s.held.size) ss ≡ image_length r.listing
all_sizes r ss are some =
    let none : start_of r.listing (first_in r 0) ≡ 0 = ap (start_of r.listing) (first_of_all r) in
    let last : start_of r.listing (first_in r (0 + length ss)) ≡ image_length r.listing =
    ap (start_of r.listing) (ap (first_in r) (with_length r (IsTold r) 0 ss are) ∙ past_all r some) in
    omega (arith, sizes_from r 0 ss are, none, last)

-- what parts hold that hold what the shards do
module _ {P : Type 0} (held : P → Held) (faults : P → ℕ) (parts : List P) (ss : List Seen) (same : map held parts ≡ map (λ (s : Seen). s.held) ss)
    (same_faults : map faults parts ≡ map (λ (s : Seen). s.faults) ss) where
  pub parts_size : sum_by (λ p. (held p).size) parts ≡ sum_by (λ (s : Seen). s.held.size) ss
  parts_size = sym (sum_by-map (λ (h : Held). h.size) held parts) ∙ (ap (sum_by (λ (h : Held). h.size)) same ∙ sum_by-map (λ (h : Held). h.size) (λ (s : Seen). s.held) ss)

  pub parts_bytes : joined held parts ≡ joined_bytes ss
  parts_bytes = sym (flat_map-map (λ (h : Held). unwrap_or h.bytes []) held parts)
      ∙ (ap (flat_map (λ (h : Held). unwrap_or h.bytes [])) same ∙ flat_map-map (λ (h : Held). unwrap_or h.bytes []) (λ (s : Seen). s.held) ss)

  pub parts_faults : sum_by faults parts ≡ joined_faults ss
  parts_faults = sym (sum-map faults parts) ∙ (ap sum same_faults ∙ sum-map (λ (s : Seen). s.faults) ss)
