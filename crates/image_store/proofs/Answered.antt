-- What storing an image answers, from what cutting it and seeing to its chunks have answered.
use Rattle.std.proofs.Common.{◌≡◌, ◌≢◌, ◌≤◌, ℕ, List, Option, Some, None, IfSome, Result, Ok, Err, IfErr, refl, sym, ap, subst, ◌∙◌, inr}
use Rattle.buzhash_cut.specs.Image.{HasTooManyCuts, IsIndexOfImage}
use Rattle.buzhash_cut.specs.Sizes.{Sizes}
use Rattle.caibx_codec.specs.Listing.{Listing, count_of}
use Rattle.caibx_codec.specs.Right.{IsRight}
use Rattle.caibx_codec.specs.Spelling.{IsIndexFile, file_of}
use Rattle.chunk_store.specs.Causes.{CountsCause}
use Rattle.chunk_store.specs.declared.id.DigestKind.{DigestKind}
use Rattle.dsy_base.specs.Maps.{Map}
use Rattle.image_store.specs.PutChunks.{HoldsAll, Stands, PutsEnd}
use Rattle.image_store.specs.StoreImage.{Indexes, IsOfCutting, IsOfImage, IsOfStoring, IsStoredAs, EndsEarly}
use Rattle.image_store.specs.declared.put_chunks.MakeFault.{MakeFault}
use Rattle.image_store.specs.declared.put_chunks.MakeFault.TheVariants as faults

module _ (kind : DigestKind) (s : Sizes) (l : Listing) where
  early : (t : List ℕ) (a b : Map (List ℕ)) (fault : MakeFault) → IsIndexOfImage kind s t l → IsRight t l → PutsEnd l (Some t) fault → Stands l t (count_of l) a b → EndsEarly kind s t a b fault
  early t a b faults.ImageFault index right end stands = inr (l, index, stands)
  early t a b faults.StoreFault index right end stands = inr (l, index, stands)
  early t a b faults.Memory index right end stands = inr (l, index, stands)
  early t a b faults.TooManyItems index right end stands = absurd end
  early t a b (faults.Changed k was got) index right end stands = end.0 (end.2 ∙ sym (right.entries k end.1) ∙ sym end.3)

  pub stored_early : (told : Option (List ℕ)) (first now : Option (Map (List ℕ))) (fault : MakeFault) → ((t : List ℕ) → IsIndexOfImage kind s t l → IsRight t l)
      → IfSome told (λ t. Indexes kind s t (Ok l)) → PutsEnd l told fault → IfSome told (λ t. IfSome first (λ a. IfSome now (λ b. Stands l t (count_of l) a b)))
      → IfSome told (λ t. IfSome first (λ a. IfSome now (λ b. EndsEarly kind s t a b fault)))
  stored_early None first now fault law index end stands = tt
  stored_early (Some t) None now fault law index end stands = tt
  stored_early (Some t) (Some a) None fault law index end stands = tt
  stored_early (Some t) (Some a) (Some b) fault law index end stands = early t a b fault index (law t index) end stands

  pub stored_whole : (told : Option (List ℕ)) (first now : Option (Map (List ℕ))) (bytes : List ℕ)
      → IfSome told (λ t. Indexes kind s t (Ok l)) → IfSome now (λ m. HoldsAll l (count_of l) m) → IfSome told (λ t. IfSome first (λ a. IfSome now (λ b. Stands l t (count_of l) a b))) → bytes ≡ file_of l → IsIndexFile bytes l
      → IfSome told (λ t. IfSome first (λ a. IfSome now (λ b. IsStoredAs kind s t a b bytes)))
  stored_whole None first now bytes index holds stands is file = tt
  stored_whole (Some t) None now bytes index holds stands is file = tt
  stored_whole (Some t) (Some a) None bytes index holds stands is file = tt
  stored_whole (Some t) (Some a) (Some b) bytes index holds stands is file = (l, index, holds, stands, is, file)

-- a fault of storing is none of cutting, and what is named as changed has another name
pub few_end : (l : Listing) (told : Option (List ℕ)) (fault : MakeFault) → PutsEnd l told fault → fault ≢ faults.TooManyItems
few_end l told fault end = λ e. subst (PutsEnd l told) e end

pub storing_end : (l : Listing) (told : Option (List ℕ)) (fault : MakeFault) → PutsEnd l told fault → IsOfStoring fault
storing_end l told faults.TooManyItems end = tt
storing_end l told faults.ImageFault end = tt
storing_end l told faults.StoreFault end = tt
storing_end l told faults.Memory end = tt
storing_end l told (faults.Changed k was got) end = end.0

-- a fault of seeing to the chunks is one of their image
pub image_end : (kind : DigestKind) (s : Sizes) (l : Listing) (told : Option (List ℕ)) (fault : MakeFault) → ((t : List ℕ) → IsIndexOfImage kind s t l → IsRight t l) → IfSome told (λ t. IsIndexOfImage kind s t l) → PutsEnd l told fault → IsOfImage s told fault
image_end kind s l told faults.TooManyItems law index end = absurd end
image_end kind s l told faults.ImageFault law index end = tt
image_end kind s l told faults.StoreFault law index end = tt
image_end kind s l told faults.Memory law index end = tt
image_end kind s l None (faults.Changed k was got) law index end = (refl, end.0)
image_end kind s l (Some t) (faults.Changed k was got) law index end = absurd (end.0 (end.2 ∙ sym ((law t index).entries k end.1) ∙ sym end.3))

-- and so is one of making their index
pub cutting_end : (kind : DigestKind) (s : Sizes) (told : Option (List ℕ)) (fault : MakeFault) → IsOfCutting fault → IfSome told (λ t. Indexes kind s t (Err fault)) → IsOfImage s told fault
cutting_end kind s told faults.TooManyItems of index = index
cutting_end kind s told faults.ImageFault of index = tt
cutting_end kind s told faults.StoreFault of index = tt
cutting_end kind s told faults.Memory of index = tt
cutting_end kind s told (faults.Changed k was got) of index = absurd of

pub if_err : {A E : Type 0} (r : Result A E) (P Q : E → Type 0) → ((e : E) → P e → Q e) → IfErr r P → IfErr r Q
if_err (Ok x) P Q f h = tt
if_err (Err e) P Q f h = f e h

same_err : {B : Type 0} (x y : Result B MakeFault) (a b : MakeFault) → x ≡ Err a → y ≡ Err b → x ≡ y → a ≡ b
same_err x y a b p q e = cc

-- the store's count over one more step, which doesn't ask it
pub counts_same : {A B : Type 0} (fault : MakeFault) (old new : ℕ) → CountsCause {A = A} faults.StoreFault old new (Err fault) → CountsCause {A = B} faults.StoreFault old new (Err fault)
counts_same {A} {B} fault old new counts = record { never_falls = counts.never_falls; cause = λ e. counts.cause (ap (λ (f : MakeFault). Err f) (same_err {B = B} (Err fault) (Err faults.StoreFault) fault faults.StoreFault refl refl e)) }

pub counts_else : {A : Type 0} (r : Result A MakeFault) (old new : ℕ) → r ≢ Err faults.StoreFault → old ≤ new → CountsCause faults.StoreFault old new r
counts_else r old new other le = record { never_falls = le; cause = λ e. absurd (other e) }

-- an image whose index this is hasn't too many cuts
pub few_cuts : (kind : DigestKind) (s : Sizes) (told : Option (List ℕ)) (l : Listing) (X : Type 0) → ((t : List ℕ) → HasTooManyCuts s t → IsIndexOfImage kind s t l → ⊥) → IfSome told (λ t. IsIndexOfImage kind s t l) → IfSome told (λ t. HasTooManyCuts s t → X)
few_cuts kind s None l X law index = tt
few_cuts kind s (Some t) l X law index = λ many. absurd (law t many index)
