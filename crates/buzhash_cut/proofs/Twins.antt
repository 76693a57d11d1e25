-- Bytes that are right by one index are equal, or show two unequal pieces that have one digest.
use Rattle.std.proofs.Common.{◌≡◌, ◌≢◌, ℕ, zero, suc, ◌+◌, ◌-◌, ◌<◌, ◌≤◌, ◌⊎◌, List, ◌++◌, take, slice_range, Bool, true, false, refl, sym, ap, subst, ◌∙◌, arith, inl, inr}
use Rattle.std.proofs.Math.Seq.{take-add}
use Rattle.std.proofs.lemmas.List.{take_all}
use Rattle.std.proofs.lemmas.Slice.Eq.{bytes_eq-Decides}
use Rattle.std.proofs.lemmas.Bool.{false≢true}
use Rattle.std.specs.Str.{bytes_eq}
use Rattle.buzhash_cut.proofs.Chunks.{index_named, image_right, start_of-suc}
use Rattle.buzhash_cut.specs.Image.{IsIndexOfImage}
use Rattle.caibx_codec.specs.Right.{IsRight}
use Rattle.buzhash_cut.specs.Right.{HasTwins}
use Rattle.chunk_ends.specs.Sizes.{Sizes}
use Rattle.chunk_store.specs.declared.id.DigestKind.{DigestKind}
use Rattle.caibx_codec.specs.Listing.{Listing, count_of, start_of, end_of, slice_of, image_length}

same_or_apart : (a b : List ℕ) (t : Bool) → bytes_eq a b ≡ t → (a ≡ b) ⊎ (a ≢ b)
same_or_apart a b true h = inl ((bytes_eq-Decides a b).0 h)
same_or_apart a b false h = inr (λ e. false≢true (sym h ∙ (bytes_eq-Decides a b).1 e))

-- the beginning up to the end of a chunk
take_end : (t : List ℕ) (start end : ℕ) → start ≤ end → take end t ≡ take start t ++ slice_range t start end
take_end t start end le =
    let is : start + (end - start) ≡ end = omega arith in
    ap (λ n. take n t) (sym is) ∙ take-add start (end - start) t

module _ (l : Listing) (a b : List ℕ) (rises : (i : ℕ) → i < count_of l → start_of l i ≤ end_of l i) (right : IsRight a l) (other : IsRight b l) where
  -- the first i chunks are equal, or there are twins
  same_below : (i : ℕ) → i ≤ count_of l → (take (start_of l i) a ≡ take (start_of l i) b) ⊎ HasTwins a b l
  same_below zero le = inl refl
  same_below (suc i) le = elim (same_below i (omega arith)) [
    | inr twins ↦ inr twins
    | inl same ↦ elim (same_or_apart (slice_of l a i) (slice_of l b i) (bytes_eq (slice_of l a i) (slice_of l b i)) refl) [
      | inl equal ↦
          let up = rises i (omega arith) in
          let both : take (end_of l i) a ≡ take (end_of l i) b = take_end a (start_of l i) (end_of l i) up ∙ (ap (λ x. x ++ slice_of l a i) same ∙ (ap (λ x. take (start_of l i) b ++ x) equal ∙ sym (take_end b (start_of l i) (end_of l i) up))) in
          inl (subst (λ n. take n a ≡ take n b) (sym (start_of-suc l i)) both)
      | inr apart ↦ inr (record { entry = i; listed = omega arith; differ = apart; named = right.entries i (omega arith) ∙ sym (other.entries i (omega arith)) })
    ]
  ]

  pub same_or_twins : (a ≡ b) ⊎ HasTwins a b l
  same_or_twins = elim (same_below (count_of l) (omega arith)) [
    | inr twins ↦ inr twins
    | inl same ↦ inl (sym (take_all (image_length l) a (omega (arith, right.size))) ∙ (same ∙ take_all (image_length l) b (omega (arith, other.size))))
  ]

-- the law of cutting
pub image_or_twins : (kind : DigestKind) (s : Sizes) (image t : List ℕ) (l : Listing) → IsIndexOfImage kind s image l → IsRight t l → (t ≡ image) ⊎ HasTwins t image l
image_or_twins kind s image t l is right = same_or_twins l t image (index_named kind s image l is).rises right (image_right kind s image l is)
