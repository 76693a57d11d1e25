-- Bytes in whole words that show no fault go on to an index file.
use Rattle.std.proofs.Common.{◌≡◌, ◌≢◌, ℕ, zero, suc, ◌+◌, ◌-◌, ◌*◌, ◌<◌, List, [], ◌∷◌, ◌++◌, length, take, drop, replicate, Result, Ok, Err, None, refl, sym, ap, subst, ◌∙◌, arith, append_assoc, lit<}
use Rattle.std.proofs.lemmas.List.{take-append-drop, length-append, length-replicate, append-nil, nil_from_length}
use Rattle.std.proofs.lemmas.Grind.{flat_map-append}
use Rattle.chunk_store.specs.Digests.{IsId}
use Rattle.caibx_fields.specs.declared.fault.IndexFault.{IndexFault}
use Rattle.caibx_fields.specs.declared.field.Field.{Field}
use Rattle.caibx_fields.specs.declared.field.Field.TheVariants as field
use Rattle.caibx_fields.specs.declared.field.Fields.{Fields}
use Rattle.caibx_fields.specs.Words.{word, words}
use Rattle.caibx_fields.specs.Fields.{need, place_of, to}
use Rattle.caibx_codec.specs.Spelling.{items, front_words, tail_words, spelling, BeginsFile}
use Rattle.caibx_codec.specs.Reading.{Read, reads_index, index_start, listing, first_fault, fault_in_read}
use Rattle.caibx_codec.specs.Standing.{head_part, tail_part, front, before, bytes_of, IsSound, IsGood}
use Rattle.caibx_codec.proofs.Steps.{IsBytes, id_step}
use Rattle.caibx_codec.proofs.Taken.{stands_on, start_stands, start_bytes, placed}

-- ---- from a field's front on

-- the bytes go on to the file of this index
abbrev GoesOn : List ℕ → Fields → List (ℕ × List ℕ) → Type 0
GoesOn b s es = (c : List ℕ) × (b ++ c ≡ spelling (listing s es) s.offset s.size)

both_parts : (ns : List ℕ) (k : ℕ) → words (take k ns) ++ words (drop k ns) ≡ words ns
both_parts ns k = sym (flat_map-append word (take k ns) (drop k ns)) ∙ ap words (take-append-drop k ns)

head_goes_on : (s : Fields) (es : List (ℕ × List ℕ)) (k : ℕ) → GoesOn (head_part s k) s es
unfolding spelling
head_goes_on s es k =
    let ns = front_words (listing s []) in
    let left = words (drop k ns) in
    let tail = words (tail_words s.offset s.size) in (
      (left ++ items es) ++ tail,
      sym (append_assoc (head_part s k) (left ++ items es) tail)
          ∙ ap (λ x. x ++ tail) (sym (append_assoc (head_part s k) left (items es)) ∙ ap (λ x. x ++ items es) (both_parts ns k)),
    )

tail_goes_on : (s : Fields) (es : List (ℕ × List ℕ)) (k : ℕ) → GoesOn (tail_part s es k) s es
unfolding spelling
tail_goes_on s es k =
    let ns = tail_words s.offset s.size in
    let all = front s ++ items es in
    (words (drop k ns), append_assoc all (words (take k ns)) (words (drop k ns)) ∙ ap (λ x. all ++ x) (both_parts ns k))

items_go_on : (s : Fields) (es : List (ℕ × List ℕ)) → GoesOn (front s ++ items es) s es
unfolding spelling
items_go_on s es = (words (tail_words s.offset s.size), refl)

field_goes_on : (f : Field) (s : Fields) (es : List (ℕ × List ℕ)) → f ≢ field.Id → GoesOn (before f s es) s es
unfolding before
field_goes_on field.HeadSize s es h = head_goes_on s es 0
field_goes_on field.HeadType s es h = head_goes_on s es 1
field_goes_on field.Flags s es h = head_goes_on s es 2
field_goes_on field.Min s es h = head_goes_on s es 3
field_goes_on field.Avg s es h = head_goes_on s es 4
field_goes_on field.Max s es h = head_goes_on s es 5
field_goes_on field.TableSize s es h = head_goes_on s es 6
field_goes_on field.TableType s es h = head_goes_on s es 7
field_goes_on field.End s es h = items_go_on s es
field_goes_on field.Id s es h = absurd (h refl)
field_goes_on field.Zero s es h = tail_goes_on s es 1
field_goes_on field.Offset s es h = tail_goes_on s es 2
field_goes_on field.Size s es h = tail_goes_on s es 3
field_goes_on field.Marker s es h = tail_goes_on s es 4
field_goes_on field.Nothing s es h = tail_goes_on s es 5

begins : (b : List ℕ) (f : Field) (s : Fields) (es : List (ℕ × List ℕ)) → IsSound f s es → GoesOn b s es → BeginsFile b
begins b f s es sound on = (
  on.0,
  listing s es,
  record {
    spells = record { offset = s.offset; size = s.size; offset_fits = sound.offset; size_fits = sound.size; is = on.1 };
    valid = sound.valid;
  },
)

-- ---- whole words

-- nothing is left after the fields but in an id
none_left : (f : Field) (n part k : ℕ) → f ≢ field.Id → place_of f n + part ≡ 8 * k → part < need f → part ≡ 0
none_left field.Id n part k h whole less = absurd (h refl)
none_left field.Nothing n part k h whole less = omega arith
none_left _ n part k h whole less = omega arith

word_begins : (f : Field) (s : Fields) (es : List (ℕ × List ℕ)) (part : List ℕ) (k : ℕ) → f ≢ field.Id → IsSound f s es → length part < need f → place_of f (length es) + length part ≡ 8 * k → BeginsFile (before f s es ++ part)
word_begins f s es part k h sound less whole =
    let none : part ≡ [] = nil_from_length part (none_left f (length es) (length part) k h whole less) in
    let same : before f s es ++ part ≡ before f s es = ap (λ p. before f s es ++ p) none ∙ append-nil (before f s es) in
    begins (before f s es ++ part) f s es sound (subst (λ b. GoesOn b s es) (sym same) (field_goes_on f s es h))

zeros_are_bytes : (n : ℕ) → IsBytes (replicate n 0)
zeros_are_bytes zero i = lit< tt
zeros_are_bytes (suc n) zero = lit< tt
zeros_are_bytes (suc n) (suc i) = zeros_are_bytes n i

filled_up : (xs : List ℕ) (n : ℕ) → IsBytes xs → IsBytes (xs ++ replicate n 0)
filled_up [] n fits i = zeros_are_bytes n i
filled_up (x ∷ xs) n fits zero = fits zero
filled_up (x ∷ xs) n fits (suc i) = filled_up xs n (λ k. fits (suc k)) i

-- an id is filled up with zeros
id_begins : (s : Fields) (es : List (ℕ × List ℕ)) (part : List ℕ) → IsSound field.Id s es → IsBytes part → length part < 32 → BeginsFile (before field.Id s es ++ part)
unfolding before
id_begins s es part sound fits less =
    let zeros : List ℕ = replicate (32 - length part) 0 in
    let id = part ++ zeros in
    let is : IsId id = record { bytes = filled_up part (32 - length part) fits; size = omega (arith, length-append part zeros, length-replicate {A = ℕ} (32 - length part) 0) } in
    let step = id_step s es id is sound in
    let more = es ++ (s.end, id) ∷ [] in
    let tail = words (tail_words s.offset s.size) in
    let on = items_go_on (to s field.End) more in
    begins (before field.Id s es ++ part) field.End (to s field.End) more step.1 (
      zeros ++ on.0,
      append_assoc (before field.Id s es) part (zeros ++ on.0)
          ∙ ap (λ x. before field.Id s es ++ x) (sym (append_assoc part zeros on.0))
          ∙ sym (append_assoc (before field.Id s es) id on.0)
          ∙ ap (λ x. x ++ on.0) (sym step.0)
          ∙ on.1,
    )

read_begins : (f : Field) (s : Fields) (es : List (ℕ × List ℕ)) (part : List ℕ) (k : ℕ) → IsSound f s es → IsBytes part → length part < need f → place_of f (length es) + length part ≡ 8 * k → BeginsFile (before f s es ++ part)
read_begins field.Id s es part k sound fits less whole = id_begins s es part sound fits less
read_begins f s es part k sound fits less whole = word_begins f s es part k (λ h. (cc)) sound less whole

good_begins : (r : Read) (k : ℕ) → IsGood r → length (bytes_of r) ≡ 8 * k → BeginsFile (bytes_of r)
unfolding bytes_of
good_begins r k good whole =
    read_begins r.fields.next r.fields r.entries r.part k good.sound good.bytes good.part
    (omega (arith, length-append (before r.fields.next r.fields r.entries) r.part, placed r.fields.next r.fields r.entries good.sound, whole))

no_fault_read : (x : Result Read IndexFault) → fault_in_read x ≡ None → (r : Read) × (x ≡ Ok r)
no_fault_read (Ok r) h = (r, refl)
no_fault_read (Err f) h = absurd (cc)

pub faultless_begins : (b : List ℕ) (k : ℕ) → IsBytes b → length b ≡ 8 * k → first_fault b ≡ None → BeginsFile b
unfolding first_fault
faultless_begins b k fits whole h =
    let read = no_fault_read (reads_index index_start b) h in
    let on = stands_on index_start read.0 b fits start_stands read.1 in
    let same : bytes_of read.0 ≡ b = on.1 ∙ ap (λ x. x ++ b) start_bytes in
    let P : List ℕ → Type 0 = BeginsFile in
    subst P same (good_begins read.0 k on.0.good (ap length same ∙ whole))
