-- Reading a piece field by field, and item by item.
use Rattle.std.proofs.Common.{◌≡◌, ℕ, ◌+◌, ◌≤◌, List, [], ◌∷◌, ◌++◌, length, take, drop, slice_range, Result, Ok, Err, refl, sym, ap, ◌∙◌, arith}
use Rattle.std.specs.Int.{w64, from_le_bytes}
use Rattle.std.proofs.lemmas.List.{take-append-drop, length-take, length-drop, drop-drop}
use Rattle.caibx_fields.specs.declared.fault.IndexFault.{IndexFault}
use Rattle.caibx_fields.specs.declared.field.Field.TheVariants as field
use Rattle.caibx_fields.specs.declared.field.Fields.{Fields}
use Rattle.caibx_fields.specs.Fields.{need, word_at, end_judged}
use Rattle.caibx_codec.specs.declared.reading.ReadFault.{ReadFault}
use Rattle.caibx_codec.specs.Answers.{ReadStops}
use Rattle.caibx_codec.specs.Reading.{Read, judge, reads_index, ◌>>=◌}
use Rattle.caibx_codec.proofs.Again.{reads_field}
use Rattle.caibx_codec.proofs.Fields.{need_least, no_id, no_end, word_passes, word_fails}
use Rattle.caibx_codec.proofs.Pieces.{stops_on}

-- the bytes of a field, where no part of it is kept
pub field_read : (r : Read) (t rest : List ℕ) → r.part ≡ [] → length t ≡ need r.fields.next → reads_index r (t ++ rest) ≡ (judge r t >>= λ s. reads_index s rest)
field_read r [] rest none len = absurd (omega (arith, need_least r.fields.next))
field_read r (x ∷ xs) rest none len =
    let whole : length r.part + length (x ∷ xs) ≡ need r.fields.next = omega (arith, ap length none) in
    reads_field r x xs rest whole ∙ ap (λ p. judge r (p ++ x ∷ xs) >>= λ s. reads_index s rest) none

-- the bytes begin with all of the next field, as the code sees it
module _ (r seen : Read) (is : seen ≡ r) (none : seen.part ≡ []) (b : List ℕ) (n : ℕ) (wide : n ≡ need seen.fields.next) (fits : n ≤ length b) where
  front : reads_index r b ≡ (judge r (take n b) >>= λ s. reads_index s (drop n b))
  front =
      let len : length (take n b) ≡ need r.fields.next = omega (arith, length-take n b, ap (λ x. need x.fields.next) is) in
      ap (reads_index r) (sym (take-append-drop n b)) ∙ field_read r (take n b) (drop n b) (ap (λ x. x.part) (sym is) ∙ none) len

  pub field_goes : (t : Read) → judge r (take n b) ≡ Ok t → reads_index r b ≡ reads_index t (drop n b)
  field_goes t one = front ∙ ap (λ x. x >>= λ s. reads_index s (drop n b)) one

  pub field_stops : (e : ReadFault) → ReadStops e (judge r (take n b)) → ReadStops e (reads_index r b)
  field_stops e h =
      stops_on e (judge r (take n b)) (reads_index r b) (λ f is. front ∙ ap (λ x. x >>= λ s. reads_index s (drop n b)) is) h

-- the bytes begin with an item or with the tail, whose first word was judged by itself
module _ (r seen : Read) (is : seen ≡ r) (next : r.fields.next ≡ field.End) (none : r.part ≡ []) (b : List ℕ) (fits : 40 ≤ length b)
    (k w : ℕ) (counted : k ≡ length seen.entries) (read : w ≡ from_le_bytes w64 (take 8 b)) (answer : Result Fields IndexFault) (made : answer ≡ end_judged seen.fields k w) where
  seen_next : seen.fields.next ≡ field.End
  seen_next = ap (λ x. x.fields.next) is ∙ next

  seen_none : seen.part ≡ []
  seen_none = ap (λ x. x.part) is ∙ none

  wide : need seen.fields.next ≡ 8
  wide = ap need seen_next

  word_made : answer ≡ word_at seen.fields.next seen.fields k w
  unfolding word_at
  word_made = made ∙ ap (λ f. word_at f seen.fields k w) (sym seen_next)

  small : 8 ≤ length b
  small = omega arith

  pub end_goes : (s : Fields) → answer ≡ Ok s → reads_index r b ≡ reads_index (record { fields = s; entries = seen.entries; part = seen.part }) (drop 8 b)
  end_goes s ok =
      let one = word_passes r seen is (take 8 b) k w counted read (no_id seen.fields.next wide) (no_end seen.fields.next wide) answer s word_made ok in
      field_goes r seen is seen_none b 8 (sym wide) small (record { fields = s; entries = seen.entries; part = [] }) one ∙ ap (λ p. reads_index (record { fields = s; entries = seen.entries; part = p }) (drop 8 b)) (sym seen_none)

  pub end_stops : (f : IndexFault) → answer ≡ Err f → reads_index r b ≡ Err f
  end_stops f err =
      front r seen is seen_none b 8 (sym wide) small ∙ ap (λ x. x >>= λ s. reads_index s (drop 8 b)) (word_fails r seen is (take 8 b) k w counted read (no_id seen.fields.next wide) (no_end seen.fields.next wide) answer f word_made err)

  -- and its id behind it
  module _ (s : Fields) (ok : answer ≡ Ok s) (id : s.next ≡ field.Id) where
    abbrev pub mid : Read
    mid = record { fields = s; entries = seen.entries; part = seen.part }

    left : 32 ≤ length (drop 8 b)
    left = omega (arith, length-drop 8 b)

    pub id_goes : (t : Read) → judge mid (slice_range b 8 40) ≡ Ok t → reads_index r b ≡ reads_index t (drop 40 b)
    id_goes t one =
        end_goes s ok ∙ field_goes mid mid refl seen_none (drop 8 b) 32 (sym (ap need id)) left t one ∙ ap (reads_index t) (drop-drop 32 8 b)

    pub id_stops : (e : ReadFault) → ReadStops e (judge mid (slice_range b 8 40)) → ReadStops e (reads_index r b)
    id_stops e h =
        let there = field_stops mid mid refl seen_none (drop 8 b) 32 (sym (ap need id)) left e h in
        stops_on e (reads_index mid (drop 8 b)) (reads_index r b) (λ f is. end_goes s ok ∙ is) there
