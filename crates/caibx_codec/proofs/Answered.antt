-- From what was read to what is answered.
use Rattle.std.proofs.Common.{◌≡◌, ◌≢◌, ℕ, ◌+◌, ◌≤◌, Bool, true, false, cond, List, [], ◌++◌, length, Result, Ok, Err, refl, sym, ap, subst, ◌∙◌, arith, lit≤}
use Rattle.std.specs.Prelude.{OnOk}
use Rattle.caibx_fields.specs.declared.fault.IndexFault.{IndexFault}
use Rattle.caibx_fields.specs.declared.fault.IndexFault.TheVariants as faults
use Rattle.caibx_fields.specs.declared.field.Field.{Field}
use Rattle.caibx_fields.specs.declared.field.Field.TheVariants as field
use Rattle.caibx_codec.specs.declared.reading.ReadFault.{ReadFault}
use Rattle.caibx_codec.specs.declared.reading.ReadFault.TheVariants as errors
use Rattle.caibx_fields.specs.Fields.{place_of}
use Rattle.caibx_codec.specs.Listing.{Listing}
use Rattle.caibx_codec.specs.Spelling.{IsIndexFile}
use Rattle.caibx_codec.specs.Answers.{ReadGoes, Judges, ReadEnds, FindsIndex}
use Rattle.caibx_codec.specs.Reading.{Read, reads_index, index_start, listing_read, is_read_whole, first_fault, fault_in_read, index_in, ◌>>=◌}
use Rattle.caibx_codec.specs.Standing.{bytes_of, IsReached, IsReachedBy}
use Rattle.caibx_codec.proofs.Again.{file_read}
use Rattle.caibx_codec.proofs.Pieces.{reads-append}
use Rattle.caibx_codec.proofs.Steps.{IsBytes, ok_is}
use Rattle.caibx_codec.proofs.Taken.{stands_on, start_stands, start_bytes, no_longer, whole_file, bytes_length}

pub start_for : IsReachedBy index_start []
start_for = record { stands = start_stands; is = start_bytes; size = lit≤ tt }

-- reading goes on from where it stands
read_on : (r : Read) (xs : List ℕ) → IsReached r → reads_index index_start (bytes_of r ++ xs) ≡ reads_index r xs
read_on r xs stands = reads-append index_start (bytes_of r) xs ∙ ap (λ a. a >>= λ s. reads_index s xs) stands.reads

pub judges_more : {A : Type 0} (r t : Read) (xs : List ℕ) (answer : Result A ReadFault) → IsReached r → ReadGoes (reads_index r xs) answer t → Judges (bytes_of r ++ xs) answer
unfolding first_fault
judges_more r t xs (Ok x) stands h = ap fault_in_read (read_on r xs stands ∙ h)
judges_more r t xs (Err (errors.Bad f)) stands h = ap fault_in_read (read_on r xs stands ∙ h)
judges_more r t xs (Err errors.Memory) stands h = tt
judges_more r t xs (Err errors.Over) stands h = h

pub stands_more : {A : Type 0} (r t : Read) (xs : List ℕ) (answer : Result A ReadFault) → IsBytes xs → IsReached r → ReadGoes (reads_index r xs) answer t → OnOk answer (IsReachedBy t (bytes_of r ++ xs))
stands_more r t xs (Ok x) fits stands h =
    let on = stands_on r t xs fits stands h in
    record { stands = on.0; is = on.1; size = subst (λ b. length b ≤ 167772264) on.1 (no_longer t on.0.good) }
stands_more r t xs (Err e) fits stands h = tt

-- ---- the end of the file

pub is_nothing : (f : Field) → f ≡ field.Nothing → is_read_whole f ≡ true
is_nothing field.Nothing h = refl
is_nothing _ h = absurd (cc)

pub not_nothing : (f : Field) → f ≢ field.Nothing → is_read_whole f ≡ false
not_nothing field.Nothing h = absurd (h refl)
not_nothing _ h = refl

pub cut_short : (r : Read) (at : ℕ) → IsReached r → at ≡ length (bytes_of r) → r.fields.next ≢ field.Nothing → index_in (bytes_of r) ≡ Err (faults.Truncated at)
unfolding index_in
cut_short r at stands is h =
    ap (λ a. a >>= λ s. cond (is_read_whole s.fields.next) (Ok (listing_read s)) (Err (faults.Truncated (length (bytes_of r))))) stands.reads
    ∙ ap (λ b. cond b (Ok (listing_read r)) (Err (faults.Truncated (length (bytes_of r))))) (not_nothing r.fields.next h)
    ∙ ap (λ n. Err (faults.Truncated n)) (sym is)

whole_read : (r : Read) → IsReached r → r.fields.next ≡ field.Nothing → index_in (bytes_of r) ≡ Ok (listing_read r)
unfolding index_in
whole_read r stands h =
    ap (λ a. a >>= λ s. cond (is_read_whole s.fields.next) (Ok (listing_read s)) (Err (faults.Truncated (length (bytes_of r))))) stands.reads
    ∙ ap (λ b. cond b (Ok (listing_read r)) (Err (faults.Truncated (length (bytes_of r))))) (is_nothing r.fields.next h)

-- ---- right answers

end_chosen : (b : Bool) (l i : Listing) (e : IndexFault) → cond b (Ok l) (Err e) ≡ Ok i → (b ≡ true) × (l ≡ i)
end_chosen true l i e h = (refl, ok_is l i h)
end_chosen false l i e h = absurd (cc)

pub found : (bytes : List ℕ) (i : Listing) (r : Read) → IsReachedBy r bytes → index_in bytes ≡ Ok i → IsIndexFile bytes i
unfolding index_in
found bytes i r for h =
    let read : reads_index index_start bytes ≡ Ok r = subst (λ b. reads_index index_start b ≡ Ok r) for.is for.stands.reads in
    let end : cond (is_read_whole r.fields.next) (Ok (listing_read r)) (Err (faults.Truncated (length bytes))) ≡ Ok i = ap (λ a. a >>= λ s. cond (is_read_whole s.fields.next) (Ok (listing_read s)) (Err (faults.Truncated (length bytes)))) (sym read) ∙ h in
    let g = end_chosen (is_read_whole r.fields.next) (listing_read r) i (faults.Truncated (length bytes)) end in
    subst (λ l. IsIndexFile bytes l) g.1 (subst (λ b. IsIndexFile b (listing_read r)) for.is (whole_file r for.stands.good g.0))

-- the bytes of a reader that stands for them are a file only of what they are read as
pub finds : (bytes : List ℕ) (answer : Result Listing ReadFault) → (r : Read) → IsReachedBy r bytes → ReadEnds bytes answer → FindsIndex bytes answer
finds bytes (Ok i) r stands h = found bytes i r stands h
finds bytes (Err (errors.Bad f)) r stands h = λ l file. let both : Ok l ≡ Err f = sym (file_read bytes l file) ∙ h in absurd (cc)
finds bytes (Err errors.Memory) r stands h = tt
finds bytes (Err errors.Over) r stands h = tt

-- the number of bytes, as the code counts it
pub length_is : (r seen : Read) → seen ≡ r → (n k part : ℕ) → IsReached r → n ≡ place_of seen.fields.next k → k ≡ length seen.entries → part ≡ length seen.part → n + part ≡ length (bytes_of r)
length_is r seen is n k part stands place counted filled =
    let at : n ≡ place_of seen.fields.next (length seen.entries) = place ∙ ap (place_of seen.fields.next) counted in
    let all = bytes_length r stands.good in
    let same : place_of seen.fields.next (length seen.entries) + length seen.part ≡ length (bytes_of r) = subst (λ (x : Read). place_of x.fields.next (length x.entries) + length x.part ≡ length (bytes_of r)) (sym is) (sym all) in
    omega (arith, same, at, filled)

-- ---- the end as the code comes to it, which has opened the reader

stands_for : (r : Read) → IsReached r → IsReachedBy r (bytes_of r)
stands_for r stands = record { stands = stands; is = refl; size = no_longer r stands.good }

abbrev AnswersBoth : Read → Result Listing ReadFault → Type 0
AnswersBoth r answer = ReadEnds (bytes_of r) answer × FindsIndex (bytes_of r) answer

module _ (r seen : Read) (is : seen ≡ r) (stands : IsReached r) where
  next_is : seen.fields.next ≡ r.fields.next
  next_is = ap (λ x. x.fields.next) is

  both : (answer : Result Listing ReadFault) → ReadEnds (bytes_of r) answer → AnswersBoth r answer
  both answer h = (h, finds (bytes_of r) answer r (stands_for r stands) h)

  pub ends_cut : (at : ℕ) → at ≡ length (bytes_of r) → seen.fields.next ≢ field.Nothing → AnswersBoth r (Err (errors.Bad (faults.Truncated at)))
  ends_cut at counted h = both (Err (errors.Bad (faults.Truncated at))) (cut_short r at stands counted (λ n. h (next_is ∙ n)))

  pub ends_whole : (l : Listing) → seen.fields.next ≡ field.Nothing → l ≡ listing_read seen → AnswersBoth r (Ok l)
  ends_whole l h made =
      let same : Ok (listing_read r) ≡ Ok l = ap (λ x. Ok (listing_read x)) (sym is) ∙ ap Ok (sym made) in
      both (Ok l) (whole_read r stands (sym next_is ∙ h) ∙ same)
