-- What the index of an image says of each chunk by its number.
use Rattle.std.proofs.Common.{◌≡◌, ℕ, zero, suc, ◌-◌, ◌<◌, ◌≤◌, ◌==◌, if◌then◌else◌, List, [], ◌∷◌, length, slice_index_or, slice_range, refl, sym, ap, subst, ◌∙◌, arith, append-nil, Option, Some, None, IfSome, Err}
use Rattle.std.proofs.lemmas.Bool.Decides.{nat_tests}
use Rattle.buzhash_cut.proofs.Cutting.{length-named_from}
use Rattle.buzhash_cut.proofs.Joins.{ends_in, cuts_of, names_of}
use Rattle.chunk_ends.specs.Cuts.{AreCuts}
use Rattle.buzhash_cut.specs.Image.{flags_of, named_from, listing_of, IsIndexOfImage, IndexGiven, HasTooManyCuts}
use Rattle.buzhash_cut.specs.declared.image.CutFault.{CutFault}
use Rattle.buzhash_cut.specs.declared.image.CutFault.TheVariants as faults
use Rattle.buzhash_cut.specs.Entries.{IsCutEntry, IsStep, AreLinked, AreAll}
use Rattle.caibx_codec.specs.Right.{IsRight}
use Rattle.chunk_ends.specs.Sizes.{Sizes}
use Rattle.caibx_codec.specs.Listing.{Listing, count_of, start_of, end_of, id_of, kind_of, slice_of, image_length}
use Rattle.chunk_store.specs.Digests.{digest_of}
use Rattle.chunk_store.specs.declared.id.DigestKind.{DigestKind}
use Rattle.chunk_store.specs.declared.id.DigestKind.TheVariants as kinds
use Rattle.dsy_base.specs.Bytes.{Held}

abbrev end_at : List (ℕ × List ℕ) → ℕ → ℕ
end_at es i = (slice_index_or es i (0, [])).0

abbrev id_at : List (ℕ × List ℕ) → ℕ → List ℕ
id_at es i = (slice_index_or es i (0, [])).1

abbrev start_at : ℕ → List (ℕ × List ℕ) → ℕ → ℕ
start_at start es i = if i == 0 then start else end_at es (i - 1)

start_at-suc : (start : ℕ) (es : List (ℕ × List ℕ)) (i : ℕ) → start_at start es (suc i) ≡ end_at es i
start_at-suc start es i = grind (arith, nat_tests)

-- a chunk begins where the one before it ends
pub start_of-suc : (l : Listing) (i : ℕ) → start_of l (suc i) ≡ end_of l i
start_of-suc l i = start_at-suc 0 l.entries i

module _ (s : Sizes) (kind : DigestKind) (image : List ℕ) where
  -- a chunk after the first begins where it begins among the rest
  later : (start end : ℕ) (ends : List ℕ) (i : ℕ) → start_at start (named_from kind image start (end ∷ ends)) (suc (suc i)) ≡ start_at end (named_from kind image end ends) (suc i)
  later start end ends i =
      let here : start_at start (named_from kind image start (end ∷ ends)) (suc (suc i)) ≡ end_at (named_from kind image end ends) i = start_at-suc start (named_from kind image start (end ∷ ends)) (suc i) in
      here ∙ sym (start_at-suc end (named_from kind image end ends) i)

  pub id_named : (start : ℕ) (ends : List ℕ) (i : ℕ) → i < length ends
      → id_at (named_from kind image start ends) i ≡ digest_of kind (slice_range image (start_at start (named_from kind image start ends) i) (end_at (named_from kind image start ends) i))
  id_named start [] i lt = absurd (omega arith)
  id_named start (end ∷ ends) zero lt = refl
  id_named start (end ∷ ends) (suc zero) lt = id_named end ends zero (omega arith)
  id_named start (end ∷ ends) (suc (suc i)) lt =
      id_named end ends (suc i) (omega arith)
      ∙ ap (λ a. digest_of kind (slice_range image a (end_at (named_from kind image end ends) (suc i)))) (sym (later start end ends i))

  pub ends_rise : (start : ℕ) (ends : List ℕ) → AreCuts s image start ends → (i : ℕ) → i < length ends
      → start_at start (named_from kind image start ends) i ≤ end_at (named_from kind image start ends) i
  ends_rise start [] cuts i lt = absurd (omega arith)
  ends_rise start (end ∷ ends) cuts zero lt = omega (arith, cuts.2)
  ends_rise start (end ∷ ends) cuts (suc zero) lt = ends_rise end ends cuts.3 zero (omega arith)
  ends_rise start (end ∷ ends) cuts (suc (suc i)) lt =
      let rest = ends_rise end ends cuts.3 (suc i) (omega arith) in
      omega (arith, rest, later start end ends i)

  -- the last chunk ends with the image
  pub last_end : (start : ℕ) (ends : List ℕ) → AreCuts s image start ends → start_at start (named_from kind image start ends) (length ends) ≡ length image
  last_end start [] cuts = cuts
  last_end start (end ∷ []) cuts = cuts.3
  last_end start (end ∷ next ∷ ends) cuts = later start end (next ∷ ends) (length ends) ∙ last_end end (next ∷ ends) cuts.3

abbrev pub made_of : DigestKind → ℕ → ℕ → ℕ → List (ℕ × List ℕ) → Listing
made_of kind least average greatest es = record { flags = flags_of kind; least = least; average = average; greatest = greatest; entries = es }

-- what is said of each chunk of the index of an image by its number
pub record AreNamed (kind : DigestKind) (image : List ℕ) (l : Listing) : Type 0 where
  pub rises : (i : ℕ) → i < count_of l → start_of l i ≤ end_of l i
  pub named : (i : ℕ) → i < count_of l → digest_of kind (slice_of l image i) ≡ id_of l i
  pub whole : image_length l ≡ length image

listed_named : (kind : DigestKind) (s : Sizes) (image ends : List ℕ) → AreCuts s image 0 ends → AreNamed kind image (listing_of kind s image ends)
listed_named kind s image ends cuts =
    let count = length-named_from kind image 0 ends in
    record {
      rises = λ i lt. ends_rise s kind image 0 ends cuts i (omega (arith, lt, count));
      named = λ i lt. sym (id_named s kind image 0 ends i (omega (arith, lt, count)));
      whole = ap (start_of (listing_of kind s image ends)) count ∙ last_end s kind image 0 ends cuts;
    }

pub index_named : (kind : DigestKind) (s : Sizes) (image : List ℕ) (l : Listing) → IsIndexOfImage kind s image l → AreNamed kind image l
index_named kind s image l is = subst (AreNamed kind image) (sym is.lists) (listed_named kind s image is.ends is.cuts)

-- the flags say by which digest its chunks are named
made_kind : (kind : DigestKind) (least average greatest : ℕ) (es : List (ℕ × List ℕ)) → kind_of (made_of kind least average greatest es) ≡ kind
unfolding kind_of
made_kind kinds.Sha512T256 least average greatest es = refl
made_kind kinds.Sha256 least average greatest es = refl

index_kind : (kind : DigestKind) (s : Sizes) (image : List ℕ) (l : Listing) → IsIndexOfImage kind s image l → kind_of l ≡ kind
index_kind kind s image l is = ap kind_of is.lists ∙ made_kind kind s.least s.average s.greatest (named_from kind image 0 is.ends)

-- an image is what its index lists
pub image_right : (kind : DigestKind) (s : Sizes) (image : List ℕ) (l : Listing) → IsIndexOfImage kind s image l → IsRight image l
image_right kind s image l is =
    let named = index_named kind s image l is in
    record {
      size = sym named.whole;
      entries = λ i lt. subst (λ (k : DigestKind). digest_of k (slice_of l image i) ≡ id_of l i) (sym (index_kind kind s image l is)) (named.named i lt);
    }

-- the last of all entries ends with the image
entries_end : (greatest start end : ℕ) (es : List (ℕ × List ℕ)) → AreLinked (IsStep greatest) start es end → start_at start es (length es) ≡ end
entries_end greatest start end [] steps = steps
entries_end greatest start end (e ∷ []) steps = steps.1
entries_end greatest start end (e ∷ next ∷ es) steps =
    let here : start_at start (e ∷ next ∷ es) (suc (suc (length es))) ≡ end_at (next ∷ es) (length es) = start_at-suc start (e ∷ next ∷ es) (suc (length es)) in
    let there : start_at e.0 (next ∷ es) (suc (length es)) ≡ end_at (next ∷ es) (length es) = start_at-suc e.0 (next ∷ es) (length es) in
    here ∙ sym there ∙ entries_end greatest e.0 end (next ∷ es) steps.1

module _ (kind : DigestKind) (s : Sizes) (h : Held) (es : List (ℕ × List ℕ)) (flags least average greatest : ℕ) (l : Listing)
    (is : l ≡ record { flags = flags; least = least; average = average; greatest = greatest; entries = es }) (said : flags ≡ flags_of kind) (all : AreAll kind s h es) where
  is_made : l ≡ made_of kind least average greatest es
  is_made = is ∙ ap (λ (f : ℕ). record { flags = f; least = least; average = average; greatest = greatest; entries = es }) said

  -- so the index has that kind, and the image's length
  pub listed_kind : kind_of l ≡ kind
  listed_kind = ap kind_of is_made ∙ made_kind kind least average greatest es

  pub listed_length : image_length l ≡ h.size
  listed_length = ap image_length is ∙ entries_end s.greatest 0 h.size es all.entries.steps

  -- what lists all chunks with their names is the index
  pub listed_index : (t : List ℕ) → length t ≡ h.size → AreLinked (IsCutEntry kind s t) 0 es h.size → least ≡ s.least → average ≡ s.average → greatest ≡ s.greatest → IsIndexOfImage kind s t l
  listed_index t long chunks a b c = record {
    ends = ends_in es;
    cuts = subst (AreCuts s t 0) (append-nil (ends_in es)) (cuts_of kind s t 0 h.size es [] chunks (sym long));
    lists = is_made ∙ ap (λ (n : ℕ). made_of kind n average greatest es) a ∙ ap (λ (n : ℕ). made_of kind s.least n greatest es) b
        ∙ ap (λ (n : ℕ). made_of kind s.least s.average n es) c ∙ ap (made_of kind s.least s.average s.greatest) (names_of kind s t 0 h.size es chunks);
  }

-- what a fault says
pub given_err : (o : Option (List ℕ)) (kind : DigestKind) (s : Sizes) (f : CutFault) → (f ≡ faults.TooManyItems → IfSome o (λ t. HasTooManyCuts s t)) → IfSome o (λ t. IndexGiven kind s t (Err f))
given_err None kind s f many = tt
given_err (Some t) kind s faults.TooManyItems many = many refl
given_err (Some t) kind s faults.ImageFault many = tt
given_err (Some t) kind s faults.Memory many = tt
