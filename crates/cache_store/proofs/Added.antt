-- How a shelf changes when one chunk is added.
use Rattle.std.proofs.Common.{◌≡◌, ◌≢◌, ◌⊎◌, ◌↔◌, ℕ, ◌≤◌, List, Bool, true, false, not, ◌&&◌, is_none, Option, Some, None, IsTrue, is_some, Result, Ok, Err, OnOk, OnErr, cond, refl, sym, subst, ap, ◌∙◌, inl, inr}
use Rattle.std.proofs.lemmas.Slice.Eq.{bytes_eq-Decides}
use Rattle.std.specs.Option.{option_map}
use Rattle.std.specs.Str.{bytes_eq}
use Rattle.cache_store.proofs.Stocked.{Told, Holds, Strangers}
use Rattle.cache_store.specs.Shelves.{Shelf, Stocks}
use Rattle.cache_store.specs.Through.{AddedBeside, kept_by}
use Rattle.cache_store.specs.declared.cached.Kept.{Kept}
use Rattle.cache_store.specs.declared.cached.Kept.TheVariants as kept
use Rattle.chunk_store.specs.Folders.{chunks}
use Rattle.chunk_store.specs.Digests.{IsId}
use Rattle.chunk_store.specs.Paths.{path_of}
use Rattle.dir_store.specs.Names.{id_at_path, is_stranger, is_temporary}
use Rattle.dir_store.specs.Puts.{LeavesTemporary, PutsAtPath}
use Rattle.dsy_base.proofs.Counts.{at_other}
use Rattle.dsy_base.specs.Counts.{Rose}
use Rattle.dsy_base.specs.Folders.{put_in, temporary_of}
use Rattle.dsy_base.specs.Maps.{Map, at_name}
use Rattle.dsy_base.specs.declared.fault.IoFault.{IoFault}
use Rattle.dsy_base.specs.declared.fault.IoFault.TheVariants as io

false_true : false ≡ true → ⊥
false_true e = cc

none_some : {X : Type 0} (x : X) → None ≡ Some x → ⊥
none_some x e = cc

not_first : (a c : Bool) → (not a && c) ≡ true → a ≡ true → ⊥
not_first true c s t = false_true s
not_first false c s t = false_true t

not_second : {X : Type 0} (a : Bool) (o : Option X) (x : X) → (not a && is_none o) ≡ true → o ≡ Some x → ⊥
not_second true o x s e = false_true s
not_second false None x s e = none_some x e
not_second false (Some y) x s e = false_true s

still_told : (f : Map (List ℕ) → Map (List ℕ)) (o : Option (Map (List ℕ))) → is_some (option_map f o) ≡ is_some o
still_told f None = refl
still_told f (Some m) = refl

module _ (id b : List ℕ) (is : IsId id)
    (holds : (m : Map (List ℕ)) → chunks (put_in m (path_of id) b) ≡ at_name (chunks m) id (Some b))
    (left : (x : Option (List ℕ)) (m : Map (List ℕ)) → chunks (at_name m (temporary_of (path_of id)) x) ≡ chunks m)
    (named : (q : List ℕ) → IsTrue (is_temporary (temporary_of q)))
    (exactly : (q i : List ℕ) → (id_at_path q ≡ Some i) ↔ (IsId i × (path_of i ≡ q))) where
  no_temporary : (q : List ℕ) → IsTrue (is_stranger q) → q ≢ temporary_of (path_of id)
  no_temporary q s same = not_first (is_temporary q) (is_none (id_at_path q)) s (ap is_temporary same ∙ named (path_of id))

  no_path : (q : List ℕ) → IsTrue (is_stranger q) → q ≢ path_of id
  no_path q s same = not_second (is_temporary q) (id_at_path q) id s ((exactly q id).1 (is, sym same))

  abbrev Adds : List ℕ → List ℕ → Type 0
  Adds q x = (q ≡ id) × (x ≡ b)

  put_one : (m : Map (List ℕ)) (q : List ℕ) (t : Bool) → bytes_eq id q ≡ t
      → (at_name (chunks m) id (Some b) q ≡ chunks m q) ⊎ ((x : List ℕ) × (at_name (chunks m) id (Some b) q ≡ Some x) × Adds q x)
  put_one m q true e = inr (b, ap (λ t. cond t (Some b) (chunks m q)) e, (sym ((bytes_eq-Decides id q).0 e), refl))
  put_one m q false e = inl (ap (λ t. cond t (Some b) (chunks m q)) e)

  put_chunks : (m : Map (List ℕ)) → Holds Adds m (put_in m (path_of id) b)
  put_chunks m q =
      let P : Map (List ℕ) → Type 0 = λ n. (n q ≡ chunks m q) ⊎ ((x : List ℕ) × (n q ≡ Some x) × Adds q x) in
      subst P (sym (holds m)) (put_one m q (bytes_eq id q) refl)

  left_chunks : (x : Option (List ℕ)) (m : Map (List ℕ)) → Holds Adds m (at_name m (temporary_of (path_of id)) x)
  left_chunks x m q = inl (ap (λ (n : Map (List ℕ)). n q) (left x m))

  put_strangers : (m : Map (List ℕ)) → Strangers m (put_in m (path_of id) b)
  put_strangers m q s =
      at_other (at_name m (temporary_of (path_of id)) None) (path_of id) (Some b) q (no_path q s)
      ∙ at_other m (temporary_of (path_of id)) None q (no_temporary q s)

  left_strangers : (x : Option (List ℕ)) (m : Map (List ℕ)) → Strangers m (at_name m (temporary_of (path_of id)) x)
  left_strangers x m q s = at_other m (temporary_of (path_of id)) x q (no_temporary q s)

  told_by : (P : Map (List ℕ) → Map (List ℕ) → Type 0) (f : Map (List ℕ) → Map (List ℕ)) → ((m : Map (List ℕ)) → P m (f m)) → (o : Option (Map (List ℕ))) → Told P o (option_map f o)
  told_by P f h None = tt
  told_by P f h (Some m) = h m

  module _ (old new : Shelf) (place : new.place ≡ old.place) (kind : new.kind ≡ old.kind) (never_falls : old.faults ≤ new.faults) (alone : new.others ≡ old.others) where
    by : (f : Map (List ℕ) → Map (List ℕ)) → ((m : Map (List ℕ)) → Holds Adds m (f m)) → ((m : Map (List ℕ)) → Strangers m (f m))
        → new.files ≡ option_map f old.files → Stocks Adds old new
    by f each others e = record {
      told = ap is_some e ∙ still_told f old.files;
      chunks = subst (λ o. Told (Holds Adds) old.files o) (sym e) (told_by (Holds Adds) f each old.files);
      strangers = subst (λ o. Told Strangers old.files o) (sym e) (told_by Strangers f others old.files);
      place = place;
      kind = kind;
      never_falls = never_falls;
      others = alone;
    }

    pub added_stocks : (k : Kept) → AddedBeside None id b k old new → Stocks (λ q x. (q ≡ id) × (x ≡ b)) old new
    added_stocks kept.Yes put = by (λ m. put_in m (path_of id) b) put_chunks put_strangers put
    added_stocks kept.Failed added = by (λ m. at_name m (temporary_of (path_of id)) added.0.0) (left_chunks added.0.0) (left_strangers added.0.0) added.0.1
    added_stocks kept.Memory left = by (λ m. at_name m (temporary_of (path_of id)) left.0) (left_chunks left.0) (left_strangers left.0) left.1

-- what an addition to a shelf of one's own tells by its answer
pub added_answer : (id b : List ℕ) (old new : Shelf) (r : Result Unit IoFault) → OnOk r (PutsAtPath id b old.files new.files) → OnErr r (LeavesTemporary id old.files new.files)
    → (r ≡ Err io.Failed → Rose old.faults new.faults) → AddedBeside None id b (kept_by r) old new
added_answer id b old new (Ok u) ok err cause = ok
added_answer id b old new (Err io.Failed) ok err cause = (err, cause refl)
added_answer id b old new (Err io.Memory) ok err cause = err
