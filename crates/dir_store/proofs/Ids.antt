-- Which names are the paths of ids.
use Rattle.std.proofs.Common.{◌≡◌, ℕ, ◌<◌, ◌≤◌, ◌==◌, List, [], ◌∷◌, length, drop, get_or, Bool, true, false, ◌&&◌, ◌||◌, Option, Some, None, if◌then◌else◌, unwrap_or, Result, Ok, Err, refl, sym, ap, subst, ◌∙◌, arith, eq-eqb, eqb-true}
use Rattle.std.proofs.lemmas.Bool.{false_from_ne_true}
use Rattle.std.proofs.lemmas.Slice.Eq.{bytes_eq-Decides}
use Rattle.std.proofs.lemmas.Str.{IsCharBoundary-after_ascii}
use Rattle.std.specs.Cmp.{both_ways}
use Rattle.std.specs.Cmp.Lexicographic.{slice_cmp}
use Rattle.std.specs.List.{AllByRecursion, filter_map, cons_option}
use Rattle.std.specs.List.Sorted.{IsStrictlySortedBy}
use Rattle.std.specs.Ordering.{nat_cmp}
use Rattle.std.specs.Set.{is_member}
use Rattle.std.specs.Str.{IsCharBoundary, IsUtf8, bytes_eq}
use Rattle.std.specs.declared.cmp.Ordering.{Ordering}
use Rattle.std.specs.declared.cmp.Ordering.TheVariants.{Less}
use Rattle.chunk_store.specs.Digests.{IsId}
use Rattle.chunk_store.specs.Paths.{path_of}
use Rattle.hex.specs.Hex.{decode_of, encode_lower, encode_with}
use Rattle.hex.specs.declared.error.FromHexError.{FromHexError}
use Rattle.hex.proofs.HexLemmas.{decode_of-ok, decode_of-encode_lower}
use Rattle.dir_store.proofs.Order.{path_cmp}
use Rattle.dir_store.specs.Names.{id_with_path, id_at_path}

-- behind the `/` of a path stand the digits of the id
drop_path : (id : List ℕ) → 2 ≤ length id → drop 5 (path_of id) ≡ encode_lower id
unfolding path_of encode_with
drop_path [] h = absurd (omega (arith, h))
drop_path (a ∷ []) h = absurd (omega (arith, h))
drop_path (a ∷ b ∷ rest) h = refl

pub digits_behind : (q id : List ℕ) → IsId id → path_of id ≡ q → drop 5 q ≡ encode_lower id
digits_behind q id is path = ap (drop 5) (sym path) ∙ drop_path id (omega (arith, is.size))

-- the `/` of a path stands at 4
slash_at : (id : List ℕ) → 2 ≤ length id → get_or (path_of id) 4 0 ≡ 47
unfolding path_of encode_with
slash_at [] h = absurd (omega (arith, h))
slash_at (a ∷ []) h = absurd (omega (arith, h))
slash_at (a ∷ b ∷ rest) h = refl

long_path : (id : List ℕ) → 2 ≤ length id → 4 < length (path_of id)
unfolding path_of encode_with
long_path [] h = absurd (omega (arith, h))
long_path (a ∷ []) h = absurd (omega (arith, h))
long_path (a ∷ b ∷ rest) h = omega arith

-- a path may be cut behind its `/`
pub whole_behind : (q id : List ℕ) → IsId id → path_of id ≡ q → IsUtf8 q → IsCharBoundary q 5
whole_behind q id is path text =
    let two : 2 ≤ length id = omega (arith, is.size) in
    let long : 4 < length q = subst (λ (p : List ℕ). 4 < length p) path (long_path id two) in
    let slash : get_or q 4 0 ≡ 47 = subst (λ (p : List ℕ). get_or p 4 0 ≡ 47) path (slash_at id two) in
    IsCharBoundary-after_ascii q 4 text long (omega arith)

-- ---- from the name to the id

passed : (b : Bool) (x id : List ℕ) → (if b then Some x else None) ≡ Some id → (b ≡ true) × (x ≡ id)
passed true x id h = (refl, ap (λ o. unwrap_or o x) h)
passed false x id h = absurd (cc)

both_true : (a b : Bool) → (a && b) ≡ true → (a ≡ true) × (b ≡ true)
both_true true b h = (refl, h)
both_true false b h = absurd (cc)

from_read : (q id : List ℕ) (r : Result (List ℕ) FromHexError) → r ≡ decode_of (drop 5 q) → id_with_path q r ≡ Some id → IsId id × (path_of id ≡ q)
from_read q id (Err e) is h = absurd (cc)
from_read q id (Ok x) is h =
    let p = passed (length x == 32 && bytes_eq (path_of x) q) x id h in
    let t = both_true (length x == 32) (bytes_eq (path_of x) q) p.0 in
    let size : length x ≡ 32 = eqb-true (length x) 32 t.0 in
    let path : path_of x ≡ q = (bytes_eq-Decides (path_of x) q).0 t.1 in
    let read = decode_of-ok (drop 5 q) x (sym is) in
    (subst IsId p.1 (record { bytes = read.3; size = size }), ap path_of (sym p.1) ∙ path)

pub id_is : (q id : List ℕ) → id_at_path q ≡ Some id → IsId id × (path_of id ≡ q)
id_is q id h = from_read q id (decode_of (drop 5 q)) refl h

-- ---- from the id to the name

pub is_id : (q id : List ℕ) → IsId id → path_of id ≡ q → id_at_path q ≡ Some id
is_id q id is path =
    let read : decode_of (drop 5 q) ≡ Ok id = ap (λ t. decode_of t) (digits_behind q id is path) ∙ decode_of-encode_lower id is.bytes in
    let size : (length id == 32) ≡ true = eq-eqb (length id) 32 is.size in
    let same : bytes_eq (path_of id) q ≡ true = (bytes_eq-Decides (path_of id) q).1 path in
    ap (id_with_path q) read ∙ rw (size, same) refl

none_of : (o : Option (List ℕ)) → ((id : List ℕ) → o ≡ Some id → ⊥) → o ≡ None
none_of None h = refl
none_of (Some x) h = absurd (h x refl)

pub no_id : (q : List ℕ) → ((id : List ℕ) → IsId id → path_of id ≡ q → ⊥) → id_at_path q ≡ None
no_id q h = none_of (id_at_path q) (λ id e. let p = id_is q id e in h id p.0 p.1)

-- ---- the ids of many names

module _ (q : List ℕ) (is : IsId q) where
  member_on : (n : List ℕ) (ns : List (List ℕ)) (o : Option (List ℕ)) → id_at_path n ≡ o → is_member bytes_eq (filter_map id_at_path ns) q ≡ is_member bytes_eq ns (path_of q)
      → is_member bytes_eq (cons_option o (filter_map id_at_path ns)) q ≡ (bytes_eq (path_of q) n || is_member bytes_eq ns (path_of q))
  member_on n ns None e rest =
      let apart : bytes_eq (path_of q) n ≡ false = false_from_ne_true (bytes_eq (path_of q) n) (λ h. let there : None ≡ Some q = sym e ∙ is_id n q is ((bytes_eq-Decides (path_of q) n).0 h) in absurd (cc)) in
      rest ∙ rw apart refl
  member_on n ns (Some x) e rest =
      let x_is = id_is n x e in
      let same : bytes_eq q x ≡ bytes_eq (path_of q) n =
      both_ways (bytes_eq q x) (bytes_eq (path_of q) n)
      (λ h. (bytes_eq-Decides (path_of q) n).1 (ap path_of ((bytes_eq-Decides q x).0 h) ∙ x_is.1))
      (λ h. (bytes_eq-Decides q x).1 (ap (λ o. unwrap_or o q) (sym (is_id n q is ((bytes_eq-Decides (path_of q) n).0 h)) ∙ e))) in
      (λ i. same i || rest i)

  pub is_member-ids : (ns : List (List ℕ)) → is_member bytes_eq (filter_map id_at_path ns) q ≡ is_member bytes_eq ns (path_of q)
  is_member-ids [] = refl
  is_member-ids (n ∷ ns) = member_on n ns (id_at_path n) refl (is_member-ids ns)

-- ---- their order

abbrev cmp : List ℕ → List ℕ → Ordering
cmp xs ys = slice_cmp nat_cmp xs ys

pair_cmp : (m n x y : List ℕ) → id_at_path m ≡ Some x → id_at_path n ≡ Some y → cmp m n ≡ Less → cmp x y ≡ Less
pair_cmp m n x y mx ny less =
    let a = id_is m x mx in
    let b = id_is n y ny in
    sym (path_cmp x y a.0 b.0) ∙ (λ i. cmp (a.1 i) (b.1 i)) ∙ less

module _ (m x : List ℕ) (is : id_at_path m ≡ Some x) where
  below_on : (n : List ℕ) (ns : List (List ℕ)) (o : Option (List ℕ)) → id_at_path n ≡ o → cmp m n ≡ Less → AllByRecursion (λ y. cmp x y ≡ Less) (filter_map id_at_path ns)
      → AllByRecursion (λ y. cmp x y ≡ Less) (cons_option o (filter_map id_at_path ns))
  below_on n ns None e less rest = rest
  below_on n ns (Some y) e less rest = (pair_cmp m n x y is e less, rest)

  below_ids : (ns : List (List ℕ)) → AllByRecursion (λ n. cmp m n ≡ Less) ns → AllByRecursion (λ y. cmp x y ≡ Less) (filter_map id_at_path ns)
  below_ids [] h = tt
  below_ids (n ∷ ns) h = below_on n ns (id_at_path n) refl h.0 (below_ids ns h.1)

sorted_on : (n : List ℕ) (ns : List (List ℕ)) (o : Option (List ℕ)) → id_at_path n ≡ o → AllByRecursion (λ y. cmp n y ≡ Less) ns → IsStrictlySortedBy (slice_cmp nat_cmp) (filter_map id_at_path ns)
    → IsStrictlySortedBy (slice_cmp nat_cmp) (cons_option o (filter_map id_at_path ns))
unfolding IsStrictlySortedBy
sorted_on n ns None e below rest = rest
sorted_on n ns (Some x) e below rest = (below_ids n x e ns below, rest)

pub IsStrictlySortedBy-ids : (ns : List (List ℕ)) → IsStrictlySortedBy (slice_cmp nat_cmp) ns → IsStrictlySortedBy (slice_cmp nat_cmp) (filter_map id_at_path ns)
unfolding IsStrictlySortedBy
IsStrictlySortedBy-ids [] h = tt
IsStrictlySortedBy-ids (n ∷ ns) h = sorted_on n ns (id_at_path n) refl h.0 (IsStrictlySortedBy-ids ns h.1)
