-- Chunks by their ids, after one is set.
use Rattle.std.proofs.Common.{◌≡◌, ℕ, List, Some, Bool, true, false, Vec, refl, ap, sym, ◌∙◌}
use Rattle.std.proofs.lemmas.Cmp.{eq_by_cmp_equiv}
use Rattle.std.proofs.lemmas.Map.Text.{is_eq-slice_cmp}
use Rattle.std.proofs.lemmas.Slice.Eq.{bytes_eq-Decides}
use Rattle.std.specs.BTreeMap.{BTreeMap, UpdatesBy, is_at}
use Rattle.std.specs.Cmp.Lexicographic.{slice_cmp, nat_list_cmp_total, nat_list_eq_equiv}
use Rattle.std.specs.Map.{lookup, KeepsOthers}
use Rattle.std.specs.Option.{option_map}
use Rattle.std.specs.Ordering.{nat_cmp, is_eq, eq_by_cmp}
use Rattle.std.specs.Str.{bytes_eq}
use Rattle.chunk_store.specs.MemStores.{bytes_by_id}
use Rattle.chunk_store.specs.declared.id.ChunkId.{ChunkId}
use Rattle.dsy_base.specs.Maps.{at_name}
use mathlib.Core.Bool.{cond}

by_test : {W : Type 0} (b : Bool) (x y z : W) → (b ≡ true → x ≡ y) → (b ≡ false → x ≡ z) → x ≡ cond b y z
by_test true x y z f g = f refl
by_test false x y z f g = g refl

-- a key that is equal to one id isn't equal to another
apart : (id q k : List ℕ) → bytes_eq id q ≡ false → is_eq (slice_cmp nat_cmp id k) ≡ true → is_eq (slice_cmp nat_cmp q k) ≡ false
apart id q k n y =
    is_eq-slice_cmp q k ∙ nat_list_eq_equiv.symm q k ∙ sym (nat_list_eq_equiv.congr id k q (sym (is_eq-slice_cmp id k) ∙ y)) ∙ n

-- under another id the same is found
kept : {X : Type 0} (id q : List ℕ) (old new : List (ChunkId × X)) → bytes_eq id q ≡ false → KeepsOthers (eq_by_cmp (λ x y. slice_cmp nat_cmp x.0 y.0)) (is_at (λ k. slice_cmp nat_cmp id k.0)) old new
    → lookup (is_at (λ k. slice_cmp nat_cmp q k.0)) new ≡ lookup (is_at (λ k. slice_cmp nat_cmp q k.0)) old
unfolding KeepsOthers
kept id q old new n h = h _ (λ x y. (eq_by_cmp_equiv nat_list_cmp_total).congr q x.0 y.0) (λ k. apart id q k.0 n)

pub bytes_after : {Z : Type 0} (id : ChunkId) (old new : BTreeMap ChunkId (Vec ℕ Z)) (v : Vec ℕ Z) → UpdatesBy (λ x y. slice_cmp nat_cmp x.0 y.0) (λ k. slice_cmp nat_cmp id.0 k.0) old new (Some v)
    → (q : List ℕ) → bytes_by_id new q ≡ at_name (bytes_by_id old) id.0 (Some v.items) q
bytes_after id old new v h q =
    by_test (bytes_eq id.0 q) _ _ _
    (λ y. ap (λ l. bytes_by_id new l) (sym ((bytes_eq-Decides id.0 q).0 y)) ∙ ap (option_map (λ x. x.items)) h.1)
    (λ n. ap (option_map (λ x. x.items)) (kept id.0 q old.entries new.entries n h.3))
