-- Texts that are put piece by piece.
use Rattle.std.proofs.Common.{◌≡◌, ℕ, ◌+◌, ◌-◌, ◌<◌, ◌≤◌, ◌++◌, List, [], take, drop, slice_range, Option, Some, None, refl, sym, ap, subst, ◌∙◌, arith, inl, inr}
use Rattle.std.proofs.lemmas.Bool.{cases_lt}
use Rattle.std.proofs.lemmas.List.{append-nil, append_assoc, length-append, length-take, take-take}
use Rattle.std.specs.Option.{option_map}
use Rattle.caibx_codec.specs.Listing.{Listing, Rules, count_of, end_of, start_of}
use Rattle.cat_command.proofs.Parts.{part_covered, part_only, right_narrower, twins_wider}
use Rattle.cat_command.specs.Putting.{IsText, PutsText}
use Rattle.image_reader.proofs.Fronts.{ranges_join}
use Rattle.image_reader.specs.Covered.{IsCovered}
use Rattle.image_reader.specs.Images.{IsRange, IsRightInRange}

module _ (l : Listing) (at : ℕ) where
  -- no bytes
  pub text_none : IsText l at 0 []
  text_none = record {
    size = refl;
    right = λ t r. (let none : at + 0 - at ≡ 0 = omega arith in inl (ap (λ m. take m (drop at t)) (sym none)));
  }

  pub puts_none : (old new : Option (List ℕ)) → new ≡ old → PutsText l at 0 old new
  puts_none old new same = record { text = []; bytes = text_none; taken = same ∙ sym (with_none old) } where
    with_none : (o : Option (List ℕ)) → option_map (λ t. t ++ []) o ≡ o
    with_none None = refl
    with_none (Some t) = ap Some (append-nil t)

  -- bytes and then more
  pub text_more : (n m : ℕ) (one two : List ℕ) → IsText l at n one → IsText l (at + n) m two → IsText l at (n + m) (one ++ two)
  text_more n m one two a b = record {
    size = length-append one two ∙ (λ i. a.size i + b.size i);
    right = λ t r. joined t (a.right t (right_narrower l at (n + m) at n (omega arith) (omega arith) t r)) (b.right t (right_narrower l at (n + m) (at + n) m (omega arith) (omega arith) t r));
  } where
    joined : (t : List ℕ) → IsRange l at n t one → IsRange l (at + n) m t two → IsRange l at (n + m) t (one ++ two)
    joined t (inr twins) y = inr (twins_wider l at (n + m) at n (omega arith) (omega arith) twins)
    joined t (inl x) (inr twins) = inr (twins_wider l at (n + m) (at + n) m (omega arith) (omega arith) twins)
    joined t (inl x) (inl y) =
        let whole : at + n + m ≡ at + (n + m) = omega arith in
        inl ((λ i. x i ++ y i) ∙ (ranges_join t at (at + n) (at + n + m) (omega arith) (omega arith) ∙ ap (slice_range t at) whole))

  pub puts_more : (n m : ℕ) (old mid new : Option (List ℕ)) → PutsText l at n old mid → PutsText l (at + n) m mid new → PutsText l at (n + m) old new
  puts_more n m old mid new a b = record {
    text = a.text ++ b.text;
    bytes = text_more n m a.text b.text a.bytes b.bytes;
    taken = b.taken ∙ (ap (option_map (λ t. t ++ b.text)) a.taken ∙ both old);
  } where
    both : (o : Option (List ℕ)) → option_map (λ t. t ++ b.text) (option_map (λ t. t ++ a.text) o) ≡ option_map (λ t. t ++ (a.text ++ b.text)) o
    both None = refl
    both (Some t) = ap Some (append_assoc t a.text b.text)

-- a front of bytes that are of one entry
module _ (l : Listing) (rules : Rules l) (i from m : ℕ) (listed : i < count_of l) (starts : start_of l i ≤ from) (ends : from + m ≤ end_of l i) where
  front_of : (t : List ℕ) (j : ℕ) (bytes : List ℕ) → j ≤ m → bytes ≡ slice_range t from (from + m) → take j bytes ≡ slice_range t from (from + j)
  front_of t j bytes le is =
      let whole : from + m - from ≡ m = omega arith in
      let part : from + j - from ≡ j = omega arith in
      ap (take j) (is ∙ ap (λ k. take k (drop from t)) whole) ∙ (take-take j m (drop from t) le ∙ ap (λ k. take k (drop from t)) (sym part))

  pub text_front : (j : ℕ) (bytes : List ℕ) → j ≤ m → IsText l from m bytes → IsText l from j (take j bytes)
  text_front j bytes le text = elim (cases_lt 0 j) [
    | inl some ↦
        let short : from + j ≤ end_of l i = omega arith in
        record {
          size = (let cut = length-take j bytes in let all = text.size in omega arith);
          right = λ t r. go some t r (text.right t (record {
            size = r.size;
            entries = λ e c. (let only = part_only l rules i from listed starts m ends e c in let P : ℕ → Type 0 = λ k. IsCovered l from j k in r.entries e (subst P (sym only) (part_covered l rules i from listed starts j short some)));
          }));
        }
    | inr none ↦
        let zero_bytes : j ≡ 0 = omega arith in
        let P : ℕ → Type 0 = λ k. IsText l from k (take k bytes) in
        subst P (sym zero_bytes) (text_none l from)
  ] where
    go : 0 < j → (t : List ℕ) → IsRightInRange t l from j → IsRange l from m t bytes → IsRange l from j t (take j bytes)
    go some t r (inl is) = inl (front_of t j bytes le is)
    go some t r (inr h) =
        let only = part_only l rules i from listed starts m ends h.entry h.covered in
        let P : ℕ → Type 0 = λ k. IsCovered l from j k in
        inr (record {
          entry = h.entry;
          covered = subst P (sym only) (part_covered l rules i from listed starts j (omega arith) some);
          one = h.one;
          other = h.other;
          differ = h.differ;
          first = h.first;
          second = h.second;
        })
