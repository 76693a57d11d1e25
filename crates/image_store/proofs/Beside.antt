-- The first of several views of one image, and the others.
use Rattle.std.proofs.Common.{◌≡◌, ℕ, zero, suc, ◌<◌, ◌≤◌, List, [], ◌∷◌, length, map, slice_index, slice_index_or, All, Option, Result, OnOk, refl, sym, ap, ◌∙◌, subst, arith}
use Rattle.std.specs.BTreeSet.{BTreeSet}
use Rattle.std.specs.List.{insert, remove}
use Rattle.buzhash_cut.specs.Image.{AreOfOneImage}
use Rattle.chunk_store.specs.declared.store.Store.{Ghosts as StoreWords}
use Rattle.dsy_base.specs.Bytes.{Held}
use Rattle.dsy_base.specs.Counts.{CountsFaults}
use Rattle.dsy_base.specs.declared.view.View.{Ghosts as ViewWords}
use Rattle.caibx_codec.specs.Listing.{Listing, count_of}
use Rattle.image_store.proofs.Putting.{on_ok}
use Rattle.image_store.proofs.Views.{all_of_first}
use Rattle.image_store.specs.Putting.{PuttingEnds, HasPut}
use Rattle.image_store.specs.Storing.{GoesOn, HasStored, IsStoredBy, IsStoring}
use Rattle.image_store.specs.declared.put_chunks.MakeFault.{MakeFault}
use Rattle.image_store.specs.declared.put_chunks.MakeFault.TheVariants as faults
use Rattle.image_store.specs.declared.storing.Storing.{Storing}
use Rattle.image_slices.specs.Consumers.{IsAlike, NoFaultCountFalls}

-- the first view was taken out, and another put in its place
pub first_out : {V : Type 0} (vs rest : List V) (v : V) → 0 < length vs → v ≡ slice_index_or vs 0 v → rest ≡ remove vs 0 → vs ≡ v ∷ rest
first_out [] rest v some at left = absurd (omega arith)
first_out {V} (x ∷ xs) rest v some at left = ap (λ (y : V). y ∷ xs) (sym at) ∙ ap (λ (ys : List V). v ∷ ys) (sym left)

-- the others hold what the first one does
pub others_alike : {V : Type 0} (H : V → Held) (vs rest : List V) (v : V) → vs ≡ v ∷ rest → AreOfOneImage (map H vs) → All (IsAlike (H v)) (map H rest)
others_alike {V} H vs rest v is alike =
    let all : AreOfOneImage (H v ∷ map H rest) = subst (λ (xs : List V). AreOfOneImage (map H xs)) is alike in
    λ k d lt. all 0 (H v) (omega arith) (suc k) d (omega (arith, lt))

pub stored_first : {V S : Type 0} (view : ViewWords V) (store : StoreWords S) (l : Listing) (first : S) (old new : V) (now : S) (seen : BTreeSet (List ℕ)) (r : Result Unit MakeFault)
    → PuttingEnds view store l first old new now r → OnOk r (HasPut store l (view.held old).bytes (count_of l) first now seen) → HasStored store l (view.held old).bytes first now r
stored_first view store l first old new now seen r ends put = record {
  holds = on_ok r _ _ _ (λ p q. p.holds) put put;
  says = on_ok r _ _ _ (λ p q. p.says) put put;
  touched = ends.touched;
  err = ends.err;
  faults = ends.store_faults;
}

module _ {V S : Type 0} (view : ViewWords V) (store : StoreWords S) (l : Listing) (first now : S) (r : Result Unit MakeFault) where
  -- the first view and the others, and the same afterwards
  pub by_first : (vs ws rest news : List V) (old new : V) → vs ≡ old ∷ rest → ws ≡ new ∷ news → AreOfOneImage (map view.held vs)
      → HasStored store l (view.held old).bytes first now r → view.held new ≡ view.held old → map view.held news ≡ map view.held rest
      → CountsFaults faults.ImageFault faults.Memory (view.faults old) (view.faults new) r → NoFaultCountFalls (map view.faults rest) (map view.faults news)
      → IsStoredBy view store l vs ws first now r
  by_first vs ws rest news old new was is alike stored kept kept_all counts falls =
      subst (λ (xs : List V). IsStoredBy view store l xs ws first now r) (sym was) (subst (λ (ys : List V). IsStoredBy view store l (old ∷ rest) ys first now r) (sym is) (record {
        stored = all_of_first view.held (old ∷ rest) old (omega arith) refl (subst (λ (xs : List V). AreOfOneImage (map view.held xs)) was alike) (λ told. HasStored store l told first now r) stored;
        once = ((view.held old).bytes, stored);
        kept = cc;
        image_faults = record { never_falls = up; first = counts };
      })) where
        up : (i : ℕ) → slice_index (map view.faults (old ∷ rest)) i ≤ slice_index (map view.faults (new ∷ news)) i
        up zero = counts.never_falls
        up (suc i) = falls.never_falls i

pub stored_on : {V S : Type 0} (view : ViewWords V) (store : StoreWords S) (l : Listing) (a b : Storing V S) (r : Result Unit MakeFault) (first : S) → GoesOn view store l a b r → OnOk r (count_of l ≤ b.progress.at)
    → b.progress.first.value ≡ first → HasStored store l (view.held a.image).bytes first b.store r
stored_on {V} {S} view store l a b r first on all is = subst (λ (f : S). HasStored store l (view.held a.image).bytes f b.store r) is
    (stored_first view store l b.progress.first.value a.image b.image b.store b.progress.seen r on.ends (on_ok r (IsStoring view store l b) (count_of l ≤ b.progress.at) _ (λ s past.
    let at : b.progress.at ≡ count_of l = omega (arith, past, s.at) in
    subst (λ (h : Held). HasPut store l h.bytes (count_of l) b.progress.first.value b.store b.progress.seen) on.ends.kept
    (subst (λ (k : ℕ). HasPut store l (view.held b.image).bytes k b.progress.first.value b.store b.progress.seen) at s.put)) on.next all))
