-- The image of stores: each chunk that they give stands in it at its place.
use Rattle.std.proofs.Common.{◌≡◌, ℕ, zero, suc, ◌+◌, ◌-◌, ◌<◌, ◌≤◌, ◌++◌, true, false, cond, List, [], ◌∷◌, length, take, drop, slice_index_or, Option, Some, None, eqb, refl, sym, ap, subst, ◌∙◌, arith}
use Rattle.std.proofs.Math.Seq.{drop-append_seam}
use Rattle.std.proofs.lemmas.Bool.{and_from, and_parts, eq-eqb, eqb-true}
use Rattle.std.proofs.lemmas.Grind.{flat_map-append}
use Rattle.std.proofs.lemmas.List.{append-nil, length-append, take-append-le, take_all}
use Rattle.std.proofs.lemmas.Slice.{between_is}
use Rattle.std.proofs.lemmas.Slice.Eq.{bytes_eq-Decides}
use Rattle.std.specs.List.{flat_map, range_with_len, repeat}
use Rattle.std.specs.Str.{bytes_eq}
use Rattle.caibx_codec.specs.Listing.{Listing, Rules, count_of, start_of, end_of, id_of, kind_of, size_of, slice_of}
use Rattle.chunk_store.specs.Giving.{GivesChunk, IsChunk}
use Rattle.chunk_store.specs.Digests.{digest_of}
use Rattle.chunk_store.specs.declared.id.DigestKind.{DigestKind}
use Rattle.dsy_base.specs.Maps.{Map}
use Rattle.image_reader.proofs.Covering.{range_more}
use Rattle.image_reader.specs.Covered.{IsCovered}
use Rattle.image_reader.specs.Images.{IsRightInRange, SomeGivesEntry, given_or_zeros, held_or_zeros, image_of_stores, is_chunk_of}

module _ (kind : DigestKind) (id : List ℕ) (size : ℕ) where
  length_zeros : (n : ℕ) → length {A = ℕ} (repeat n (0 ∷ [])) ≡ n
  length_zeros zero = refl
  length_zeros (suc n) = ap suc (length_zeros n)

  -- whatever is given has the size
  held_size : (rest : List ℕ) → length rest ≡ size → (o : Option (List ℕ)) → length (held_or_zeros kind id size rest o) ≡ size
  held_size rest h None = h
  held_size rest h (Some b) = (elim (is_chunk_of kind id size b) as (λ t. is_chunk_of kind id size b ≡ t → length (cond t b rest) ≡ size) [
    | true ↦ λ t. eqb-true (length b) size (and_parts (bytes_eq (digest_of kind b) id) (eqb (length b) size) t).1
    | false ↦ λ t. h
  ]) refl

  given_size : (maps : List (Map (List ℕ))) → length (given_or_zeros kind id size maps) ≡ size
  given_size [] = length_zeros size
  given_size (m ∷ ms) = held_size (given_or_zeros kind id size ms) (given_size ms) (m id)

  -- what some map gives has the digest
  is_the_chunk : (b : List ℕ) → IsChunk kind id size b → is_chunk_of kind id size b ≡ true
  is_the_chunk b c = and_from (bytes_eq (digest_of kind b) id) (eqb (length b) size) ((bytes_eq-Decides (digest_of kind b) id).1 c.named) (eq-eqb (length b) size c.sized)

  -- the first map gives it, or what the others give has the digest
  held_named : (rest : List ℕ) (o : Option (List ℕ)) → ((GivesChunk kind id size o → ⊥) → digest_of kind rest ≡ id) → digest_of kind (held_or_zeros kind id size rest o) ≡ id
  held_named rest None else_ = else_ (λ g. (let none : None ≡ Some g.0 = g.1 in absurd (cc)))
  held_named rest (Some b) else_ = (elim (is_chunk_of kind id size b) as (λ t. is_chunk_of kind id size b ≡ t → digest_of kind (cond t b rest) ≡ id) [
    | true ↦ λ t. (bytes_eq-Decides (digest_of kind b) id).0 (and_parts (bytes_eq (digest_of kind b) id) (eqb (length b) size) t).0
    | false ↦ λ t. else_ (λ g.
        let same : b ≡ g.0 = some_is b g.0 g.1 in
        let P : List ℕ → Type 0 = λ x. IsChunk kind id size x in
        let both : true ≡ false = sym (is_the_chunk b (subst P (sym same) g.2)) ∙ t in
        absurd (cc))
  ]) refl
    where
      some_is : (x y : List ℕ) → Some x ≡ Some y → x ≡ y
      some_is x y e = cc

  given_named : (maps : List (Map (List ℕ))) (k : ℕ) (m : Map (List ℕ)) → k < length maps → slice_index_or maps k m ≡ m → GivesChunk kind id size (m id) → digest_of kind (given_or_zeros kind id size maps) ≡ id
  given_named [] k m lt is gives = absurd (omega arith)
  given_named (x ∷ xs) zero m lt is gives = held_named (given_or_zeros kind id size xs) (x id) (λ not.
      let P : Map (List ℕ) → Type 0 = λ y. GivesChunk kind id size (y id) in
      absurd (not (subst P (sym is) gives)))
  given_named (x ∷ xs) (suc k) m lt is gives = held_named (given_or_zeros kind id size xs) (x id) (λ not. given_named xs k m (omega arith) is gives)

module _ (l : Listing) (maps : List (Map (List ℕ))) where
  -- the bytes of entry i, and of the first k entries
  abbrev entry : ℕ → List ℕ
  entry i = given_or_zeros (kind_of l) (id_of l i) (size_of l i) maps

  abbrev entries : ℕ → List ℕ
  entries k = flat_map entry (range_with_len 0 k)

  entries_more : (k : ℕ) → entries (k + 1) ≡ entries k ++ entry k
  entries_more k =
      let one : k + 1 ≡ suc k = omega arith in
      let there : 0 + k ≡ k = omega arith in
      ap entries one
      ∙ (ap (flat_map entry) (range_more 0 k)
      ∙ (flat_map-append entry (range_with_len 0 k) ((0 + k) ∷ [])
      ∙ (ap (λ x. entries k ++ x) (append-nil (entry (0 + k))) ∙ ap (λ j. entries k ++ entry j) there)))

  module _ (rules : Rules l) where
    entries_length : (k : ℕ) → k ≤ count_of l → length (entries k) ≡ start_of l k
    entries_length zero le = refl
    entries_length (suc k) le =
        let one : k + 1 ≡ suc k = omega arith in
        let P : ℕ → Type 0 = λ j. length (entries j) ≡ start_of l j in
        let rise = rules.rises k (omega arith) in
        let size = given_size (kind_of l) (id_of l k) (size_of l k) maps in
        let before = entries_length k (omega arith) in
        let both = ap length (entries_more k) ∙ length-append (entries k) (entry k) in
        let next = rules.next k in
        let here : length (entries (k + 1)) ≡ start_of l (k + 1) = omega arith in
        subst P one here

    -- the first entries are the front of all
    front_of : (j m k : ℕ) → j + m ≡ k → k ≤ count_of l → take (start_of l j) (entries k) ≡ entries j
    front_of j zero k is le =
        let same : k ≡ j = omega arith in
        let size = entries_length j (omega arith) in
        ap (λ x. take (start_of l j) (entries x)) same ∙ take_all (start_of l j) (entries j) (omega arith)
    front_of j (suc m) k is le =
        let last : k ≡ (j + m) + 1 = omega arith in
        let size = entries_length (j + m) (omega arith) in
        let front = front_of j m (j + m) refl (omega arith) in
        let shorter = entries_length j (omega arith) in
        let inside : start_of l j ≤ length (entries (j + m)) = (let cut = ap length front in up_to j m (omega arith)) in
        ap (λ x. take (start_of l j) (entries x)) last
        ∙ (ap (take (start_of l j)) (entries_more (j + m))
        ∙ (take-append-le (start_of l j) (entries (j + m)) (entry (j + m)) inside ∙ front))
      where
        up_to : (j m : ℕ) → j + m ≤ count_of l → start_of l j ≤ length (entries (j + m))
        up_to j zero le = let same : j + 0 ≡ j = omega arith in let P : ℕ → Type 0 = λ x. start_of l j ≤ length (entries x) in subst P (sym same) (let size = entries_length j (omega arith) in omega arith)
        up_to j (suc m) le =
            let next : j + suc m ≡ (j + m) + 1 = omega arith in
            let P : ℕ → Type 0 = λ x. start_of l j ≤ length (entries x) in
            let before = up_to j m (omega arith) in
            let both = ap length (entries_more (j + m)) ∙ length-append (entries (j + m)) (entry (j + m)) in
            subst P (sym next) (omega arith)

    -- the slice of entry i
    slice_is : (i : ℕ) → i < count_of l → slice_of l (image_of_stores l maps) i ≡ entry i
    slice_is i lt =
        let next = rules.next i in
        let P : ℕ → Type 0 = λ e. take e (entries (count_of l)) ≡ entries i ++ entry i in
        let front : take (end_of l i) (entries (count_of l)) ≡ entries i ++ entry i = subst P next (front_of (i + 1) (count_of l - (i + 1)) (count_of l) (omega arith) (omega arith) ∙ entries_more i) in
        let size = entries_length i (omega arith) in
        between_is (entries (count_of l)) (start_of l i) (end_of l i)
        ∙ (ap (drop (start_of l i)) front
        ∙ (ap (λ k. drop k (entries i ++ entry i)) (sym size) ∙ drop-append_seam (entries i) (entry i)))

    -- where each covered chunk is given, the image of the stores is right in the range
    pub stores_right : (at n : ℕ) → ((i : ℕ) → IsCovered l at n i → SomeGivesEntry l i maps) → IsRightInRange (image_of_stores l maps) l at n
    stores_right at n given = record {
      size = entries_length (count_of l) (omega arith);
      entries = λ i covered.
          let some = given i covered in
          ap (digest_of (kind_of l)) (slice_is i covered.listed) ∙ given_named (kind_of l) (id_of l i) (size_of l i) maps some.0 some.1 some.2 some.3 some.4;
    }
