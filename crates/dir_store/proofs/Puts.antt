-- What is held under the ids once a file was put or removed.
use Rattle.std.proofs.Common.{◌≡◌, ◌≢◌, ℕ, List, Bool, true, false, Option, Some, None, cond, refl, sym, ap, subst, ◌∙◌, Result, Ok, Err, OnOk, OnErr, IsTrue}
use Rattle.std.proofs.lemmas.Slice.Eq.{bytes_eq-Decides}
use Rattle.std.specs.Cmp.{both_ways}
use Rattle.std.specs.Option.{option_map}
use Rattle.std.specs.Str.{bytes_eq}
use Rattle.chunk_store.specs.Folders.{chunks, KeepsOthers}
use Rattle.chunk_store.specs.Digests.{IsId}
use Rattle.chunk_store.specs.Paths.{path_of}
use Rattle.chunk_store.specs.Said.{KeepsOf, said_by}
use Rattle.chunk_store.proofs.Said.{keeps_itself}
use Rattle.dsy_base.proofs.Counts.{at_other}
use Rattle.dsy_base.specs.Folders.{temporary_of, put_in}
use Rattle.dsy_base.specs.Maps.{Map, at_name}
use Rattle.dsy_base.specs.declared.fault.IoFault.{IoFault}
use Rattle.dir_store.specs.Names.{is_temporary}
use Rattle.dir_store.specs.Puts.{PutsAtPath, LeavesTemporary, Removes}

pub chunks_left : ((q x : List ℕ) → temporary_of q ≢ path_of x) → (id : List ℕ) (m : Map (List ℕ)) (x : Option (List ℕ)) → chunks (at_name m (temporary_of (path_of id)) x) ≡ chunks m
chunks_left none id m x = λ i q. (at_other m (temporary_of (path_of id)) x (path_of q) (λ h. none (path_of id) q (sym h))) i

module _ (id : List ℕ) (is : IsId id) (one : (a b : List ℕ) → IsId b → path_of a ≡ path_of b → a ≡ b) where
  same_test : (q : List ℕ) → bytes_eq (path_of id) (path_of q) ≡ bytes_eq id q
  same_test q = both_ways (bytes_eq (path_of id) (path_of q)) (bytes_eq id q)
      (λ h. (bytes_eq-Decides id q).1 (sym (one q id is (sym ((bytes_eq-Decides (path_of id) (path_of q)).0 h)))))
      (λ h. (bytes_eq-Decides (path_of id) (path_of q)).1 (ap path_of ((bytes_eq-Decides id q).0 h)))

  chunks_gone : (m : Map (List ℕ)) → chunks (at_name m (path_of id) None) ≡ at_name (chunks m) id None
  chunks_gone m = λ i q. ap (λ t. cond t None (m (path_of q))) (same_test q) i

  holds_gone : (old new : Option (Map (List ℕ))) → Removes (path_of id) old new → option_map chunks new ≡ option_map (λ m. at_name m id None) (option_map chunks old)
  holds_gone old new gone = ap (option_map chunks) gone ∙ go old where
    go : (o : Option (Map (List ℕ))) → option_map chunks (option_map (λ m. at_name m (path_of id) None) o) ≡ option_map (λ m. at_name m id None) (option_map chunks o)
    go None = refl
    go (Some m) = ap Some (chunks_gone m)

  pub remove_holds : (old new : Option (Map (List ℕ))) (r : Result Bool IoFault) → OnOk r (Removes (path_of id) old new) → OnOk r (option_map chunks new ≡ option_map (λ m. at_name m id None) (option_map chunks old))
  remove_holds old new (Ok b) gone = holds_gone old new gone
  remove_holds old new (Err e) gone = tt

  module _ (none : (q x : List ℕ) → temporary_of q ≢ path_of x) where
    pub chunks_put : (m : Map (List ℕ)) (b : List ℕ) → chunks (put_in m (path_of id) b) ≡ at_name (chunks m) id (Some b)
    chunks_put m b = λ i q. (here q) i where
      here : (q : List ℕ) → put_in m (path_of id) b (path_of q) ≡ at_name (chunks m) id (Some b) q
      here q =
          ap (λ (r : Option (List ℕ)). cond (bytes_eq (path_of id) (path_of q)) (Some b) r) (at_other m (temporary_of (path_of id)) None (path_of q) (λ h. none (path_of id) q (sym h)))
          ∙ ap (λ t. cond t (Some b) (m (path_of q))) (same_test q)

    holds_put : (b : List ℕ) (old new : Option (Map (List ℕ))) → PutsAtPath id b old new → option_map chunks new ≡ option_map (λ m. at_name m id (Some b)) (option_map chunks old)
    holds_put b old new put = ap (option_map chunks) put ∙ go old where
      go : (o : Option (Map (List ℕ))) → option_map chunks (option_map (λ m. put_in m (path_of id) b) o) ≡ option_map (λ m. at_name m id (Some b)) (option_map chunks o)
      go None = refl
      go (Some m) = ap Some (chunks_put m b)

    holds_left : (old new : Option (Map (List ℕ))) → LeavesTemporary id old new → option_map chunks new ≡ option_map chunks old
    holds_left old new left = ap (option_map chunks) left.1 ∙ go old where
      go : (o : Option (Map (List ℕ))) → option_map chunks (option_map (λ m. at_name m (temporary_of (path_of id)) left.0) o) ≡ option_map chunks o
      go None = refl
      go (Some m) = ap Some (chunks_left none id m left.0)

    pub put_holds : (b : List ℕ) (old new : Option (Map (List ℕ))) (r : Result Unit IoFault) → OnOk r (PutsAtPath id b old new) → OnOk r (option_map chunks new ≡ option_map (λ m. at_name m id (Some b)) (option_map chunks old))
    put_holds b old new (Ok r) put = holds_put b old new put
    put_holds b old new (Err e) put = tt

    pub put_leaves : (old new : Option (Map (List ℕ))) (r : Result Unit IoFault) → OnErr r (LeavesTemporary id old new) → OnErr r (option_map chunks new ≡ option_map chunks old)
    put_leaves old new (Ok r) left = tt
    put_leaves old new (Err e) left = holds_left old new left

    others_put : (b : List ℕ) (old : Option (Map (List ℕ))) → KeepsOthers id old (option_map (λ m. put_in m (path_of id) b) old)
    others_put b None = record { told = refl; files = tt }
    others_put b (Some m) = record {
      told = refl;
      files = λ q path temporary.
          at_other (at_name m (temporary_of (path_of id)) None) (path_of id) (Some b) q path
          ∙ at_other m (temporary_of (path_of id)) None q temporary;
    }

    others_left : (x : Option (List ℕ)) (old : Option (Map (List ℕ))) → KeepsOthers id old (option_map (λ m. at_name m (temporary_of (path_of id)) x) old)
    others_left x None = record { told = refl; files = tt }
    others_left x (Some m) = record { told = refl; files = λ q path temporary. at_other m (temporary_of (path_of id)) x q temporary }

    pub put_others : (b : List ℕ) (old new : Option (Map (List ℕ))) (r : Result Unit IoFault) → OnOk r (PutsAtPath id b old new) → OnErr r (LeavesTemporary id old new) → KeepsOthers id old new
    put_others b old new (Ok r) put left = subst (KeepsOthers id old) (sym put) (others_put b old)
    put_others b old new (Err e) put left = subst (KeepsOthers id old) (sym left.1) (others_left left.0 old)

    said_put : (b q : List ℕ) → q ≢ id → (old : Option (Map (List ℕ))) → KeepsOf (said_by old) (said_by (option_map (λ m. at_name m id (Some b)) old)) q
    said_put b q differ None = keeps_itself (said_by None) q
    said_put b q differ (Some m) =
        let other = at_other m id (Some b) q differ in
        record { denied = λ h. other ∙ h; shown = λ x h. other ∙ h; longer = λ n h. (h.0, other ∙ h.1, h.2); taken = λ x h. other ∙ h; shown_by = λ k x h. (h.0, other ∙ h.1); longer_by = λ k n h. (h.0, (h.1.0, other ∙ h.1.1, h.1.2)) }

    pub put_said : (b : List ℕ) (old new : Option (Map (List ℕ))) (r : Result Unit IoFault) → OnOk r (PutsAtPath id b old new) → OnErr r (LeavesTemporary id old new) → (q : List ℕ) → q ≢ id
        → KeepsOf (said_by (option_map chunks old)) (said_by (option_map chunks new)) q
    put_said b old new (Ok r) put left q differ = subst (λ (h : Option (Map (List ℕ))). KeepsOf (said_by (option_map chunks old)) (said_by h) q) (sym (holds_put b old new put)) (said_put b q differ (option_map chunks old))
    put_said b old new (Err e) put left q differ = subst (λ (h : Option (Map (List ℕ))). KeepsOf (said_by (option_map chunks old)) (said_by h) q) (sym (holds_left old new left)) (keeps_itself (said_by (option_map chunks old)) q)

-- ---- a file that is removed and was no chunk's

module _ (name : List ℕ) (named : IsTrue (is_temporary name)) (only : (id : List ℕ) → is_temporary (path_of id) ≡ false) where
  no_path : (id : List ℕ) → name ≢ path_of id
  no_path id same = let both : false ≡ true = sym (only id) ∙ (ap is_temporary (sym same) ∙ named) in cc

  same_chunks : (o : Option (Map (List ℕ))) → option_map chunks (option_map (λ m. at_name m name None) o) ≡ option_map chunks o
  same_chunks None = refl
  same_chunks (Some m) = ap Some (λ i q. (at_other m name None (path_of q) (λ h. no_path q (sym h))) i)

  pub temporary_holds : (old new : Option (Map (List ℕ))) (r : Result Bool IoFault) → OnOk r (Removes name old new) → OnErr r (new ≡ old) → option_map chunks new ≡ option_map chunks old
  temporary_holds old new (Ok b) gone kept = ap (option_map chunks) gone ∙ same_chunks old
  temporary_holds old new (Err e) gone kept = ap (option_map chunks) kept
