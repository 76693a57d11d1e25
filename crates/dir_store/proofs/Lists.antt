-- What the lists of names and ids have.
use Rattle.std.proofs.Common.{◌≡◌, ℕ, List, map, Bool, ◌&&◌, Option, Some, None, IfSome, IsTrue, is_some, sym, ap, subst, ◌∙◌}
use Rattle.std.proofs.Math.Bool.{and_comm}
use Rattle.std.proofs.lemmas.List.Kept.{IsStrictlySortedBy-filter}
use Rattle.std.proofs.lemmas.Map.Made.{is_member-filter}
use Rattle.std.proofs.lemmas.Slice.Eq.{bytes_eq-Decides}
use Rattle.std.specs.Cmp.Lexicographic.{slice_cmp, nat_list_eq_equiv}
use Rattle.std.specs.List.{filter, filter_map}
use Rattle.std.specs.List.Sorted.{IsStrictlySortedBy}
use Rattle.std.specs.Ordering.{nat_cmp}
use Rattle.std.specs.Set.{is_member}
use Rattle.std.specs.Str.{bytes_eq}
use Rattle.chunk_store.specs.Folders.{chunks}
use Rattle.chunk_store.specs.Digests.{IsId}
use Rattle.chunk_store.specs.Paths.{path_of}
use Rattle.chunk_store.specs.declared.id.ChunkId.{ChunkId}
use Rattle.dsy_base.specs.Maps.{Map, IsNamesOf, is_listed}
use Rattle.dir_store.proofs.Ids.{is_member-ids, IsStrictlySortedBy-ids}
use Rattle.dir_store.specs.Lists.{IsIdsOf, IsNamesWhere}
use Rattle.dir_store.specs.Names.{id_at_path}

-- ---- names

names_where : (p : List ℕ → Bool) (m : Map (List ℕ)) (ns : List (List ℕ)) → IsNamesOf m ns → IsNamesWhere p m (filter p ns)
names_where p m ns names = record {
  sorted = IsStrictlySortedBy-filter (slice_cmp nat_cmp) p ns names.sorted;
  all = λ q. is_member-filter nat_list_eq_equiv p q (λ x same. ap p ((bytes_eq-Decides q x).0 same)) ns ∙ and_comm (is_member bytes_eq ns q) (p q) ∙ ap (λ b. p q && b) (names.all q);
}

pub kept_where : (p : List ℕ → Bool) (o : Option (Map (List ℕ))) (ns ks : List (List ℕ)) → IfSome o (λ m. IsNamesOf m ns) → ks ≡ filter p ns → IfSome o (λ m. IsNamesWhere p m ks)
kept_where p None ns ks names kept = tt
kept_where p (Some m) ns ks names kept = subst (λ (xs : List (List ℕ)). IsNamesWhere p m xs) (sym kept) (names_where p m ns names)

-- ---- ids

module _ (listed : (id : List ℕ) → IsTrue (is_listed (path_of id))) where
  held : (m : Map (List ℕ)) (ns : List (List ℕ)) → IsNamesOf m ns → (q : List ℕ) → IsId q → is_member bytes_eq (filter_map id_at_path ns) q ≡ is_some (chunks m q)
  held m ns names q is = is_member-ids q is ns ∙ names.all (path_of q) ∙ ap (λ b. b && is_some (chunks m q)) (listed q)

  pub ids_of : (o : Option (Map (List ℕ))) (ns : List (List ℕ)) (ids : List ChunkId) → IfSome o (λ m. IsNamesOf m ns) → map (λ id. id.0) ids ≡ filter_map id_at_path ns → IfSome o (λ m. IsIdsOf m ids)
  ids_of None ns ids names is = tt
  ids_of (Some m) ns ids names is = record {
    sorted = subst (λ (xs : List (List ℕ)). IsStrictlySortedBy (slice_cmp nat_cmp) xs) (sym is) (IsStrictlySortedBy-ids ns names.sorted);
    all = λ q id. ap (λ xs. is_member bytes_eq xs q) is ∙ held m ns names q id;
  }
