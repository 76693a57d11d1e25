-- The map that a tree of files holds.
use Rattle.std.proofs.Common.{◌≡◌, ℕ, List, [], ◌∷◌, map, String, Vec, string_bytes, is_some, refl, sym, ap, MatchOption, IsSomeAnd, vec_len, ◌∙◌, Option, Some, None, ◌||◌, ◌&&◌, true}
use Rattle.std.proofs.lemmas.Map.Entries.{lookup_clone}
use Rattle.std.specs.BTreeMap.{BTreeMap, IsClone, IsOrdered, keys, is_at, get_by_text}
use Rattle.std.specs.Cmp.Lexicographic.{slice_cmp, nat_list_eq_equiv}
use Rattle.std.proofs.Math.Bool.{and_comm}
use Rattle.std.proofs.lemmas.List.Kept.{IsStrictlySortedBy-filter}
use Rattle.std.proofs.lemmas.Map.Made.{is_member-filter}
use Rattle.std.proofs.lemmas.Slice.Eq.{bytes_eq-Decides}
use Rattle.std.specs.List.{filter, list_any, AllByRecursion, AllZip, each_same}
use Rattle.std.specs.List.Sorted.{IsStrictlySortedBy}
use Rattle.std.specs.Option.{option_map}
use Rattle.std.specs.Ordering.{nat_cmp, is_eq}
use Rattle.std.specs.declared.cmp.Ordering.TheVariants.{Less}
use Rattle.std.specs.Set.{is_member}
use Rattle.std.specs.Str.{bytes_eq}
use Rattle.std.specs.String.{string_cmp}
use Rattle.std.proofs.lemmas.Map.Made.{is_some-lookup}
use Rattle.std.proofs.lemmas.Map.Text.{is_eq-slice_cmp}
use Rattle.dsy_base.specs.Maps.{IsNamesOf, is_listed}
use Rattle.dsy_forms.specs.Trees.{map_of}

is_some-option_map : {A B : Type 0} (f : A → B) (o : Option A) → is_some (option_map f o) ≡ is_some o
is_some-option_map f None = refl
is_some-option_map f (Some x) = refl

-- a text is among keys exactly if its bytes are among theirs
list_any-keys : {Y : Type 0} (q : List ℕ) (ks : List (String Y)) → list_any (is_at (λ k. slice_cmp nat_cmp q (string_bytes k))) ks ≡ is_member bytes_eq (map string_bytes ks) q
list_any-keys q [] = refl
list_any-keys q (k ∷ ks) = λ i. is_eq-slice_cmp q (string_bytes k) i || list_any-keys q ks i

below-keys : {Y : Type 0} (k : String Y) (ks : List (String Y)) → AllByRecursion (λ j. string_cmp k j ≡ Less) ks → AllByRecursion (λ b. slice_cmp nat_cmp (string_bytes k) b ≡ Less) (map string_bytes ks)
below-keys k [] h = tt
below-keys k (j ∷ ks) h = (h.0, below-keys k ks h.1)

sorted-keys : {Y : Type 0} (ks : List (String Y)) → IsStrictlySortedBy string_cmp ks → IsStrictlySortedBy (slice_cmp nat_cmp) (map string_bytes ks)
unfolding IsStrictlySortedBy
sorted-keys [] h = tt
sorted-keys (k ∷ ks) h = (below-keys k ks h.0, sorted-keys ks h.1)

-- equal bytes have as many `/`
same_listed : (q x : List ℕ) → bytes_eq q x ≡ true → is_listed q ≡ is_listed x
same_listed q x e = ap is_listed ((bytes_eq-Decides q x).0 e)

-- the keys with at most one `/` are the names of the map
pub names_of_map : {Y Z : Type 0} (files : BTreeMap (String Y) (Vec ℕ Z)) → IsOrdered string_cmp files → IsNamesOf (map_of files) (filter is_listed (map string_bytes (keys files)))
names_of_map files ordered = record {
  sorted = IsStrictlySortedBy-filter (slice_cmp nat_cmp) is_listed (map string_bytes (keys files)) (sorted-keys (keys files) ordered);
  all = λ q. is_member-filter nat_list_eq_equiv is_listed q (same_listed q) (map string_bytes (keys files)) ∙ and_comm (is_member bytes_eq (map string_bytes (keys files)) q) (is_listed q) ∙ ap (λ b. is_listed q && b) (sym (is_some-option_map (λ v. v.items) (get_by_text files q) ∙ is_some-lookup _ files.entries ∙ list_any-keys q (keys files)));
}

same_bytes : {Z : Type 0} (o p : Option (Vec ℕ Z)) → MatchOption o (p ≡ None) (λ v. IsSomeAnd p (λ w. AllZip (λ x y. y ≡ x) v.items w.items × (vec_len w ≡ vec_len v))) → option_map (λ v. v.items) p ≡ option_map (λ v. v.items) o
same_bytes None p h = ap (option_map (λ v. v.items)) h
same_bytes (Some v) None h = absurd h
same_bytes (Some v) (Some w) h = ap Some (each_same v.items w.items h.0)

-- a copy of a tree of files holds the same map
pub map_of_clone : {Y Z : Type 0} (m n : BTreeMap (String Y) (Vec ℕ Z)) → IsClone (λ s t. string_bytes t ≡ string_bytes s) (λ v w. AllZip (λ x y. y ≡ x) v.items w.items × (vec_len w ≡ vec_len v)) m n → map_of n ≡ map_of m
map_of_clone m n h = λ i q. same_bytes (get_by_text m q) (get_by_text n q) (lookup_clone _ _ _ (λ x y e. ap (λ b. is_eq (slice_cmp nat_cmp q b)) e) m.entries n.entries h) i
