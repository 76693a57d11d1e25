-- Sorted entries in the order of their keys.
use Rattle.std.proofs.Common.{◌≡◌, ◌≢◌, ℕ, ◌+◌, ◌-◌, ◌<◌, ◌≤◌, ◌==◌, ◌&&◌, List, [], true, false, Some, None, length, get_or, refl, ap, sym, ◌∙◌, arith, ⊎_elim}
use Rattle.std.specs.Cmp.{IsTotalOrder, tied_then, unsigned_tied}
use Rattle.std.specs.Cmp.Lexicographic.{slice_cmp}
use Rattle.std.specs.List.Sorted.{IsNonDecreasingBy, IsPartitionedBy, IsSorted, IsSortedBy}
use Rattle.std.specs.Option.{option_map}
use Rattle.std.specs.Ordering.{is_eq, is_lt, nat_cmp, ordering_index, ordering_reverse, ordering_then}
use Rattle.std.specs.declared.cmp.Ordering.{Ordering}
use Rattle.std.specs.declared.cmp.Ordering.TheVariants.{Less, Equal, Greater}
use Rattle.std.proofs.lemmas.Bool.{cases_lt}
use Rattle.std.proofs.lemmas.Cmp.{is_eq_index, nat_cmp_total, nat_list_cmp_total, on_total, then_total, tied_itself}
use Rattle.std.proofs.lemmas.List.{get_or_default}
use Rattle.std.proofs.lemmas.List.Sorted.{searchable_from_sorted}
use Rattle.std.proofs.lemmas.Map.Text.{is_eq-slice_cmp}
use Rattle.extract_plan.specs.Keys.{keyed_cmp, number_of, has_key, key_cmp}
use Rattle.extract_plan.specs.declared.keyed.ChunkKey.{ChunkKey}
use Rattle.extract_plan.specs.declared.keyed.Keyed.{Keyed}
use Rattle.extract_plan.proofs.Searched.{find_at, find_none}

-- what a place past the end of a list reads as
abbrev pub nothing : Keyed
nothing = record { key = record { id = record { 0 = [] }; size = 0 }; number = 0 }

key_total : IsTotalOrder key_cmp
key_total = then_total (on_total (λ (k : ChunkKey). k.id.0) nat_list_cmp_total) (on_total (λ (k : ChunkKey). k.size) nat_cmp_total)

pub keyed_total : IsTotalOrder keyed_cmp
keyed_total = then_total (on_total (λ (x : Keyed). x.key) key_total) (on_total (λ (x : Keyed). x.number) nat_cmp_total)

not_below : (a b : Ordering) → is_lt (ordering_then a b) ≡ false → is_lt a ≡ false
not_below Less b e = e
not_below Equal b e = refl
not_below Greater b e = refl

keys_rise : (xs : List Keyed) → IsSorted keyed_cmp xs → IsSortedBy (λ x y. is_lt (key_cmp x.key y.key)) xs
keys_rise xs rise k d low high = not_below _ _ (rise k d low high)

-- where the key of x stands to the key y: 0 before it, 1 at it, 2 past it
abbrev pub rank : ChunkKey → Keyed → ℕ
rank y x = ordering_index (key_cmp x.key y)

pub ranks_rise : (xs : List Keyed) (y : ChunkKey) → IsSorted keyed_cmp xs → IsNonDecreasingBy (rank y) xs
ranks_rise xs y rise = searchable_from_sorted key_total (λ (x : Keyed). x.key) xs y (keys_rise xs rise)

pub equal_by_rank : (o : Ordering) → ordering_index o ≡ 1 → o ≡ Equal
equal_by_rank Less e = absurd (omega arith)
equal_by_rank Equal e = refl
equal_by_rank Greater e = absurd (omega arith)

before_by_rank : (o : Ordering) → ordering_index o ≡ 0 → is_lt o ≡ true
before_by_rank Less e = refl
before_by_rank Equal e = absurd (omega arith)
before_by_rank Greater e = absurd (omega arith)

pub rank_before : (o : Ordering) → is_lt o ≡ true → ordering_index o ≡ 0
rank_before Less e = refl
rank_before Equal e = absurd (cc)
rank_before Greater e = absurd (cc)

pub rank_not_before : (o : Ordering) → is_lt o ≡ false → 1 ≤ ordering_index o
rank_not_before Less e = absurd (cc)
rank_not_before Equal e = omega arith
rank_not_before Greater e = omega arith

pub keys_parted : (xs : List Keyed) (y : ChunkKey) → IsSorted keyed_cmp xs → IsPartitionedBy (λ x. is_lt (key_cmp x.key y)) xs
keys_parted xs y rise i j d le inside is =
    let up : rank y (get_or xs i d) ≤ rank y (get_or xs j d) = ranks_rise xs y rise i j d le inside in
    before_by_rank _ (omega (arith, rank_before _ is))

-- the key is the same where the rank is 1
pub key_is : (y : ChunkKey) (x : Keyed) → has_key y.id.0 y.size x ≡ (rank y x == 1)
key_is y x =
    ap (λ b. b && (x.key.size == y.size)) (sym (is_eq-slice_cmp x.key.id.0 y.id.0))
    ∙ ap (λ b. is_eq (slice_cmp nat_cmp x.key.id.0 y.id.0) && b) (sym (unsigned_tied x.key.size y.size))
    ∙ tied_then (slice_cmp nat_cmp x.key.id.0 y.id.0) (nat_cmp x.key.size y.size)
    ∙ is_eq_index (key_cmp x.key y)

not_one : (n : ℕ) → n ≢ 1 → (n == 1) ≡ false
not_one n ne = grind arith

is_one : (n : ℕ) → (n == 1) ≡ true → n ≡ 1
is_one n e = grind arith

pub key_other : (y : ChunkKey) (x : Keyed) → rank y x ≢ 1 → has_key y.id.0 y.size x ≡ false
key_other y x ne = key_is y x ∙ not_one _ ne

pub rank_of_key : (y : ChunkKey) (x : Keyed) → has_key y.id.0 y.size x ≡ true → rank y x ≡ 1
rank_of_key y x e = is_one _ (sym (key_is y x) ∙ e)

pub rank_itself : (x : Keyed) → rank x.key x ≡ 1
rank_itself x = ap ordering_index (tied_itself key_total x.key)

pub key_itself : (x : Keyed) → has_key x.key.id.0 x.key.size x ≡ true
key_itself x = key_is x.key x ∙ ap (λ n. n == 1) (rank_itself x)

module _ (xs : List Keyed) (y : ChunkKey) (rise : IsSorted keyed_cmp xs) where
  -- the first place whose key isn't before y has y
  pub found_here : (k : ℕ) (d : Keyed) → k < length xs → ((j : ℕ) → j < k → rank y (get_or xs j d) ≢ 1) →
      has_key y.id.0 y.size (get_or xs k d) ≡ true → number_of xs y.id.0 y.size ≡ Some ((get_or xs k d).number)
  found_here k d inside before here =
      ap (option_map (λ (x : Keyed). x.number)) (find_at (has_key y.id.0 y.size) xs k d inside here (λ j a. key_other y (get_or xs j d) (before j a)))

  -- it has another key, or there is none
  pub found_nowhere : (k : ℕ) (d : Keyed) → ((j : ℕ) → j < k → rank y (get_or xs j d) ≡ 0) →
      (k < length xs → (1 ≤ rank y (get_or xs k d)) × (has_key y.id.0 y.size (get_or xs k d) ≡ false)) → number_of xs y.id.0 y.size ≡ None
  found_nowhere k d before here =
      ap (option_map (λ (x : Keyed). x.number)) (find_none (has_key y.id.0 y.size) xs d (λ j a. ⊎_elim
      (λ (low : j < k). key_other y (get_or xs j d) (λ (one : rank y (get_or xs j d) ≡ 1). omega (arith, before j low)))
      (λ (high : k ≤ j).
      let inside : k < length xs = omega arith in
      let up : rank y (get_or xs k d) ≤ rank y (get_or xs j d) = ranks_rise xs y rise k j d high a in
      key_other y (get_or xs j d) (λ (one : rank y (get_or xs j d) ≡ 1).
      let at_k : rank y (get_or xs k d) ≡ 1 = omega (arith, (here inside).0) in
      let yes_k : has_key y.id.0 y.size (get_or xs k d) ≡ true = key_is y (get_or xs k d) ∙ ap (λ n. n == 1) at_k in
      let no_k = (here inside).1 in
      absurd (cc)))
      (cases_lt j k)))

rank_back : (x y : Keyed) → rank y.key x ≡ 1 → rank x.key y ≡ 1
rank_back x y one =
    let tie : key_cmp x.key y.key ≡ Equal = equal_by_rank _ one in
    ap ordering_index (key_total.antisymm y.key x.key ∙ ap ordering_reverse tie)

-- a place whose key is another than that before it has the first entry with its key
pub run_begins : (xs : List Keyed) (k : ℕ) (d : Keyed) → IsSorted keyed_cmp xs → k < length xs →
    (0 < k → has_key (get_or xs (k - 1) d).key.id.0 (get_or xs (k - 1) d).key.size (get_or xs k d) ≡ false) →
    number_of xs (get_or xs k d).key.id.0 (get_or xs k d).key.size ≡ Some ((get_or xs k d).number)
run_begins xs k d rise inside other =
    let y = (get_or xs k d).key in
    found_here xs y rise k d inside
    (λ j a.
    let some : 0 < k = omega arith in
    let low : j ≤ k - 1 = omega arith in
    let last : k - 1 ≤ k = omega arith in
    let one : rank y (get_or xs j d) ≤ rank y (get_or xs (k - 1) d) = ranks_rise xs y rise j (k - 1) d low (omega arith) in
    let two : rank y (get_or xs (k - 1) d) ≤ rank y (get_or xs k d) = ranks_rise xs y rise (k - 1) k d last inside in
    let at_k : rank y (get_or xs k d) ≡ 1 = rank_itself (get_or xs k d) in
    λ (is : rank y (get_or xs j d) ≡ 1).
    let tie : rank y (get_or xs (k - 1) d) ≡ 1 = omega arith in
    let z = (get_or xs (k - 1) d).key in
    let same : has_key z.id.0 z.size (get_or xs k d) ≡ true = key_is z (get_or xs k d) ∙ ap (λ n. n == 1) (rank_back (get_or xs (k - 1) d) (get_or xs k d) tie) in
    let apart : has_key z.id.0 z.size (get_or xs k d) ≡ false = other some in
    absurd (cc))
    (key_itself (get_or xs k d))

-- all places up to one whose key is before y are before it
pub below_more : (xs : List Keyed) (y : ChunkKey) (m : ℕ) (e : Keyed) → IsSorted keyed_cmp xs → m < length xs → is_lt (key_cmp (get_or xs m e).key y) ≡ true →
    (j : ℕ) (d : Keyed) → j < m + 1 → is_lt (key_cmp (get_or xs j d).key y) ≡ true
below_more xs y m e rise inside is j d a =
    keys_parted xs y rise j m d (omega arith) inside
    (ap (λ (x : Keyed). is_lt (key_cmp x.key y)) (get_or_default xs m d e inside) ∙ is)
