-- The first entry alike to each, by the sorted entries.
use Rattle.std.proofs.Common.{◌≡◌, ◌≢◌, ℕ, ◌+◌, ◌<◌, ◌≤◌, ◌==◌, ◌&&◌, List, Bool, true, false, Option, Some, None, length, get_or, slice_index, slice_set, refl, ap, sym, ◌∙◌, subst, arith, ⊎_elim}
use Rattle.std.specs.Cmp.{nat_cmp_is}
use Rattle.std.specs.List.{find}
use Rattle.std.specs.List.Sorted.{IsSorted}
use Rattle.std.specs.Option.{option_map}
use Rattle.std.specs.Ordering.{is_lt, nat_cmp, ordering_then}
use Rattle.std.specs.Str.{bytes_eq}
use Rattle.std.specs.declared.cmp.Ordering.TheVariants.{Less, Equal}
use Rattle.std.proofs.lemmas.Bool.{cases_eq, cases_lt}
use Rattle.std.proofs.lemmas.Grind.{common_steps}
use Rattle.std.proofs.lemmas.List.{get_or_default}
use Rattle.std.proofs.lemmas.List.MinMax.{ranks_by}
use Rattle.std.proofs.lemmas.List.Sorted.{sorted_far}
use Rattle.std.proofs.lemmas.Slice.Eq.{bytes_eq-Decides}
use Rattle.caibx_codec.specs.Listing.{Listing, count_of, id_of, size_of}
use Rattle.extract_plan.specs.Keys.{AreKeyed, AreFirsts, IsKeyed, keyed_cmp, number_of, has_key, key_cmp, number_with}
use Rattle.extract_plan.specs.declared.keyed.Keyed.{Keyed}
use Rattle.extract_plan.proofs.KeyOrder.{equal_by_rank, keyed_total, key_itself, rank, rank_of_key}
use Rattle.extract_plan.proofs.Searched.{find_some, found_at, some_is}

left_holds : (a b : Bool) → (a && b) ≡ true → a ≡ true
left_holds true b e = refl
left_holds false b e = e

right_holds : (a b : Bool) → (a && b) ≡ true → b ≡ true
right_holds true b e = e
right_holds false b e = absurd (cc)

same_number : (s n : ℕ) → (s == n) ≡ true → s ≡ n
same_number s n e = grind arith

pub key_parts : (id : List ℕ) (size : ℕ) (x : Keyed) → has_key id size x ≡ true → (x.key.id.0 ≡ id) × (x.key.size ≡ size)
key_parts id size x e = (
  (bytes_eq-Decides x.key.id.0 id).0 (left_holds _ _ e),
  same_number x.key.size size (right_holds (bytes_eq x.key.id.0 id) _ e),
)

pub key_has : (id : List ℕ) (size : ℕ) (x : Keyed) → x.key.id.0 ≡ id → x.key.size ≡ size → has_key id size x ≡ true
key_has id size x named sized =
    ap (λ (q : List ℕ). has_key q size x) (sym named) ∙ ap (λ (n : ℕ). has_key x.key.id.0 n x) (sym sized) ∙ key_itself x

no_less : (m n : ℕ) → is_lt (nat_cmp m n) ≡ false → n ≤ m
no_less m n e = ⊎_elim
    (λ (low : m < n). let is : true ≡ is_lt (nat_cmp m n) = ap is_lt (nat_cmp_is m n Less low) in absurd (cc))
    (λ (high : n ≤ m). high)
    (cases_lt m n)

-- of two entries with one key the earlier has the lower number
tied : (x y : Keyed) → rank y.key x ≡ 1 → is_lt (keyed_cmp x y) ≡ false → y.number ≤ x.number
tied x y one e =
    let tie : key_cmp x.key y.key ≡ Equal = equal_by_rank _ one in
    no_less x.number y.number (ap (λ o. is_lt (ordering_then o (nat_cmp x.number y.number))) (sym tie) ∙ e)

-- what was mapped
mapped : (f : Keyed → ℕ) (o : Option Keyed) (e : ℕ) → option_map f o ≡ Some e → (x : Keyed) × (o ≡ Some x) × (f x ≡ e)
mapped f None e is = absurd (cc)
mapped f (Some x) e is = let same : f x ≡ e = cc in (x, refl, same)

-- the first with a key is the lowest
pub first_least : (xs : List Keyed) (id : List ℕ) (size e m : ℕ) (d : Keyed) → IsSorted keyed_cmp xs → number_of xs id size ≡ Some e →
    m < length xs → has_key id size (get_or xs m d) ≡ true → e ≤ (get_or xs m d).number
first_least xs id size e m d rise first inside here =
    let (x, found, is) = mapped (λ (x : Keyed). x.number) (find (has_key id size) xs) e first in
    let (k, at) = found_at (has_key id size) xs x d found in
    let y = get_or xs m d in
    let at_k = at.here in
    ⊎_elim
    (λ (low : m < k). let gone = at.none_before m low in absurd (cc))
    (λ (high : k ≤ m).
    let far : is_lt (keyed_cmp y (get_or xs k d)) ≡ false = sorted_far (λ a b. is_lt (keyed_cmp a b)) (ranks_by keyed_total (λ (a : Keyed). a)) xs rise k m d high inside in
    let apart : is_lt (keyed_cmp y x) ≡ false = subst (λ (z : Keyed). is_lt (keyed_cmp y z) ≡ false) at_k far in
    let parts_x = key_parts id size x at.passes in
    let parts_y = key_parts id size y here in
    let one : rank x.key y ≡ 1 = rank_of_key x.key y (key_has x.key.id.0 x.key.size y (parts_y.0 ∙ sym parts_x.0) (parts_y.1 ∙ sym parts_x.1)) in
    let low : x.number ≤ y.number = tied y x one apart in
    omega arith)
    (cases_lt m k)

-- the number is what f gives an entry that is listed with this id and size
pub record IsNumbered (l : Listing) (f : ℕ → ℕ) (id : List ℕ) (size n : ℕ) : Type 0 where
  pub entry : ℕ
  pub listed : entry < count_of l
  pub id_is : id_of l entry ≡ id
  pub size_is : size_of l entry ≡ size
  pub number : f entry ≡ n

-- entry i is at this place
record Stands (l : Listing) (f : ℕ → ℕ) (xs : List Keyed) (i : ℕ) : Type 0 where
  place : ℕ
  keyed : Keyed
  inside : place < length xs
  here : get_or xs place keyed ≡ keyed
  is : IsKeyed l f i keyed

module _ (l : Listing) (f : ℕ → ℕ) (xs : List Keyed) (are : AreKeyed l f xs) where
  pub numbered : (id : List ℕ) (size n : ℕ) → number_of xs id size ≡ Some n → IsNumbered l f id size n
  numbered id size n first =
      let (x, found, is) = mapped (λ (x : Keyed). x.number) (find (has_key id size) xs) n first in
      let (k, at) = found_at (has_key id size) xs x x found in
      let (i, entry) = are.each k x at.inside in
      let same : get_or xs k x ≡ x = at.here in
      let parts = key_parts id size x at.passes in
      record {
        entry = i;
        listed = entry.listed;
        id_is = sym entry.id_is ∙ ap (λ (y : Keyed). y.key.id.0) same ∙ parts.0;
        size_is = sym entry.size_is ∙ ap (λ (y : Keyed). y.key.size) same ∙ parts.1;
        number = sym entry.number ∙ ap (λ (y : Keyed). y.number) same ∙ is;
      }

  stands : (i : ℕ) → i < count_of l → Stands l f xs i
  stands i listed =
      let (x, (k, inside, here), is) = are.every i listed in
      record { place = k; keyed = x; inside = inside; here = here; is = is }

  has_listed : (i : ℕ) (s : Stands l f xs i) → has_key (id_of l i) (size_of l i) (get_or xs s.place s.keyed) ≡ true
  has_listed i s = ap (has_key (id_of l i) (size_of l i)) s.here ∙ key_has (id_of l i) (size_of l i) s.keyed s.is.id_is s.is.size_is

  -- each entry's id and size have a number
  pub entry_known : (i : ℕ) → i < count_of l → (n : ℕ) × (number_of xs (id_of l i) (size_of l i) ≡ Some n)
  entry_known i listed =
      let s = stands i listed in
      let (x, found) = find_some (has_key (id_of l i) (size_of l i)) xs s.place s.keyed s.inside (has_listed i s) in
      (x.number, ap (option_map (λ (x : Keyed). x.number)) found)

set_here : (xs : List ℕ) (n v : ℕ) → n < length xs → slice_index (slice_set xs n v) n ≡ v
set_here xs n v h = grind (arith, common_steps)

set_past : (xs : List ℕ) (n m v : ℕ) → m ≢ n → slice_index (slice_set xs n v) m ≡ slice_index xs m
set_past xs n m v h = grind (arith, common_steps)

module _ (l : Listing) (xs : List Keyed) (are : AreKeyed l (λ i. i) xs) where
  pub number_below : (k : ℕ) (d : Keyed) → k < length xs → (get_or xs k d).number < count_of l
  number_below k d inside = let (i, is) = are.each k d inside in omega (arith, is.number, is.listed)

  same_number_with : (j k : ℕ) (d e : Keyed) → j < length xs → k < length xs → (get_or xs j d).number ≡ (get_or xs k e).number →
      number_with xs (get_or xs j d) ≡ number_with xs (get_or xs k e)
  same_number_with j k d e a b same =
      let (i, x) = are.each j d a in
      let (h, y) = are.each k e b in
      let here : i ≡ h = sym x.number ∙ same ∙ y.number in
      ap (λ q. number_of xs q (get_or xs j d).key.size) (x.id_is ∙ ap (id_of l) here ∙ sym y.id_is)
      ∙ ap (number_of xs (get_or xs k e).key.id.0) (x.size_is ∙ ap (size_of l) here ∙ sym y.size_is)

  -- the entry at place k is marked too
  pub marked_more : (firsts : List ℕ) (k first : ℕ) (e : Keyed) → k < length xs → length firsts ≡ count_of l →
      ((j : ℕ) (d : Keyed) → j < k → number_with xs (get_or xs j d) ≡ Some (slice_index firsts (get_or xs j d).number)) →
      number_with xs (get_or xs k e) ≡ Some first → (j : ℕ) (d : Keyed) → j < k + 1 →
      number_with xs (get_or xs j d) ≡ Some (slice_index (slice_set firsts (get_or xs k e).number first) (get_or xs j d).number)
  marked_more firsts k first e inside size before here j d a =
      let n = (get_or xs k e).number in
      let m = (get_or xs j d).number in
      let room : n < length firsts = omega (arith, number_below k e inside) in
      ⊎_elim
      (λ (same : m ≡ n).
      same_number_with j k d e (omega arith) inside same ∙ here
      ∙ ap (λ v. Some v) (sym (set_here firsts n first room)) ∙ ap (λ i. Some (slice_index (slice_set firsts n first) i)) (sym same))
      (λ (other : m ≢ n). ⊎_elim
      (λ (last : j ≡ k). absurd (other (ap (λ (x : Keyed). x.number) (ap (λ i. get_or xs i d) last ∙ get_or_default xs k d e inside))))
      (λ (ne : j ≢ k). before j d (omega arith) ∙ ap (λ v. Some v) (sym (set_past firsts n m first other)))
      (cases_eq j k))
      (cases_eq m n)

module _ (l : Listing) (xs : List Keyed) (are : AreKeyed l (λ i. i) xs) (firsts : List ℕ)
    (marked : (k : ℕ) (d : Keyed) → k < length xs → number_with xs (get_or xs k d) ≡ Some (slice_index firsts (get_or xs k d).number)) where
  first_is : (i : ℕ) → i < count_of l → number_of xs (id_of l i) (size_of l i) ≡ Some (slice_index firsts i)
  first_is i listed =
      let s = stands l (λ i. i) xs are i listed in
      let is = subst (λ (x : Keyed). number_with xs x ≡ Some (slice_index firsts x.number)) s.here (marked s.place s.keyed s.inside) in
      ap (λ q. number_of xs q (size_of l i)) (sym s.is.id_is) ∙ ap (number_of xs s.keyed.key.id.0) (sym s.is.size_is) ∙ is
      ∙ ap (λ n. Some (slice_index firsts n)) s.is.number

  pub firsts_are : length firsts ≡ count_of l → AreFirsts l firsts
  firsts_are size = record {
    size = size;
    low = λ i listed.
        let s = stands l (λ i. i) xs are i listed in
        let least = first_least xs (id_of l i) (size_of l i) (slice_index firsts i) s.place s.keyed are.rise (first_is i listed) s.inside
        (has_listed l (λ i. i) xs are i s) in
        let here : (get_or xs s.place s.keyed).number ≡ s.keyed.number = ap (λ (x : Keyed). x.number) s.here in
        let number : s.keyed.number ≡ i = s.is.number in
        omega arith;
    alike = λ i listed.
        let e = numbered l (λ i. i) xs are _ _ _ (first_is i listed) in
        (ap (id_of l) (sym e.number) ∙ e.id_is, ap (size_of l) (sym e.number) ∙ e.size_is);
    same = λ i j a b alike.
        let one : number_of xs (id_of l i) (size_of l i) ≡ number_of xs (id_of l j) (size_of l j) =
        ap (λ q. number_of xs q (size_of l i)) alike.0 ∙ ap (number_of xs (id_of l j)) alike.1 in
        some_is _ _ (sym (first_is i a) ∙ one ∙ first_is j b);
  }
