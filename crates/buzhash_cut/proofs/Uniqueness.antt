-- An image is cut in one way.
use Rattle.std.proofs.Common.{◌≡◌, ℕ, ◌<◌, List, [], ◌∷◌, length, drop, true, false, refl, sym, ap, subst, ◌∙◌, arith, inl, inr}
use Rattle.std.proofs.lemmas.Bool.{cases_lt}
use Rattle.std.proofs.lemmas.List.{length-drop}
use Rattle.buzhash_cut.proofs.Cutting.{length-named_from}
use Rattle.chunk_ends.specs.Cuts.{IsCut, AreCuts}
use Rattle.buzhash_cut.specs.Image.{HasTooManyCuts, IsIndexOfImage, listing_of}
use Rattle.chunk_ends.specs.Sizes.{Sizes}
use Rattle.caibx_codec.specs.Listing.{Listing, count_of}
use Rattle.chunk_store.specs.declared.id.DigestKind.{DigestKind}

-- no cut comes after another
not_before : (s : Sizes) (rest : List ℕ) (n m : ℕ) → IsCut s rest n → IsCut s rest m → n < m → ⊥
not_before s rest n m a b below = elim a.closed [
  | inl closed ↦
      let open_still = b.least n a.some below in
      let both : true ≡ false = sym closed ∙ open_still in
      cc
  | inr all ↦ absurd (omega (arith, b.inside, all))
]

cut_one : (s : Sizes) (rest : List ℕ) (n m : ℕ) → IsCut s rest n → IsCut s rest m → n ≡ m
cut_one s rest n m a b = elim (cases_lt n m) [
  | inl below ↦ absurd (not_before s rest n m a b below)
  | inr at_least ↦ elim (cases_lt m n) [
    | inl above ↦ absurd (not_before s rest m n b a above)
    | inr at_most ↦ omega arith
  ]
]

-- where nothing is left nothing is cut
no_more : (s : Sizes) (image : List ℕ) (start n : ℕ) → start ≡ length image → IsCut s (drop start image) n → ⊥
no_more s image start n end cut = absurd (omega (arith, cut.some, cut.inside, length-drop start image, end))

pub cuts_one : (s : Sizes) (image : List ℕ) (start : ℕ) (es bs : List ℕ) → AreCuts s image start es → AreCuts s image start bs → es ≡ bs
cuts_one s image start [] [] h k = refl
cuts_one s image start [] (b ∷ bs) h k = absurd (no_more s image start k.0 h k.1)
cuts_one s image start (a ∷ es) [] h k = absurd (no_more s image start h.0 k h.1)
cuts_one s image start (a ∷ es) (b ∷ bs) h k =
    let one : h.0 ≡ k.0 = cut_one s (drop start image) h.0 k.0 h.1 k.1 in
    let first : a ≡ b = omega (arith, one, h.2, k.2) in
    let rest : es ≡ bs = cuts_one s image a es bs h.3 (subst (λ e. AreCuts s image e bs) (sym first) k.3) in
    cc

pub index_one : (kind : DigestKind) (s : Sizes) (image : List ℕ) (l m : Listing) → IsIndexOfImage kind s image l → IsIndexOfImage kind s image m → l ≡ m
index_one kind s image l m a b = a.lists ∙ (ap (listing_of kind s image) (cuts_one s image 0 a.ends b.ends a.cuts b.cuts) ∙ sym b.lists)

-- so an image with too many cuts has no index that may be written
pub index_many : (kind : DigestKind) (s : Sizes) (image : List ℕ) (l : Listing) → HasTooManyCuts s image → IsIndexOfImage kind s image l → 4194304 < count_of l
index_many kind s image l many is =
    let same : length many.ends ≡ length is.ends = ap length (cuts_one s image 0 many.ends is.ends many.cuts is.cuts) in
    let count : count_of l ≡ length is.ends = ap count_of is.lists ∙ length-named_from kind image 0 is.ends in
    omega (arith, many.many)
