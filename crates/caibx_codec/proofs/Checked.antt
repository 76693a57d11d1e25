-- Checking bytes field by field, of whose items only the number is kept.
use Rattle.std.proofs.Common.{◌≡◌, ◌≢◌, ℕ, ◌+◌, ◌<◌, ◌≤◌, true, cond, nat_lt, List, [], ◌∷◌, ◌++◌, length, Result, Ok, Err, refl, sym, ap, subst, ◌∙◌, arith, append_assoc}
use Rattle.std.specs.Int.{w64, from_le_bytes}
use Rattle.std.proofs.lemmas.List.{append-nil, length-append}
use Rattle.caibx_fields.specs.declared.fault.IndexFault.{IndexFault}
use Rattle.caibx_fields.specs.declared.fault.IndexFault.TheVariants as faults
use Rattle.caibx_fields.specs.declared.field.Field.TheVariants as field
use Rattle.caibx_fields.specs.declared.field.Fields.{Fields}
use Rattle.caibx_fields.specs.Fields.{need, to, word_at, end_judged}
use Rattle.caibx_codec.specs.Checking.{EndsFront, IsChecked, IsJudgedTo}
use Rattle.caibx_codec.specs.Listing.{Listing}
use Rattle.caibx_codec.specs.Spelling.{IsIndexFile}
use Rattle.caibx_codec.specs.Standing.{bytes_of}
use Rattle.caibx_codec.specs.Reading.{Read, judge, push_to_index, reads_index, index_start, index_in, is_read_whole, listing_read, ◌>>=◌}
use Rattle.caibx_codec.specs.declared.check.Front.{Front}
use Rattle.caibx_codec.proofs.Again.{file_read, under}
use Rattle.caibx_codec.proofs.Answered.{found, is_nothing, not_nothing}
use Rattle.caibx_codec.proofs.Fields.{judge_id, judge_nothing, judge_word}
use Rattle.caibx_codec.proofs.Fronts.{field_read}
use Rattle.caibx_codec.proofs.Pieces.{reads_none, reads_one}
use Rattle.caibx_codec.proofs.Steps.{IsBytes, bind_ok}
use Rattle.caibx_codec.proofs.Taken.{no_longer, stands_on, start_bytes, start_stands}
use Rattle.caibx_codec.proofs.Views.{at_end}

-- what a reader holds that has kept these items
abbrev read_by : Front → List (ℕ × List ℕ) → Read
read_by front es = record { fields = front.fields; entries = es; part = [] }

pub begins : (bytes : List ℕ) (front : Front) → read_by front [] ≡ index_start → front.count ≡ 0 → IsJudgedTo bytes bytes front
begins bytes front is none = record { entries = []; counted = none; reads = ap (λ r. reads_index r bytes) (sym is) }

-- ---- one field more

module _ (old : Front) (b : List ℕ) (wide : length b ≡ need old.fields.next) (bytes left : List ℕ) (h : IsJudgedTo bytes (b ++ left) old) where
  goes : reads_index index_start bytes ≡ (judge (read_by old h.entries) b >>= λ s. reads_index s left)
  goes = h.reads ∙ field_read (read_by old h.entries) b left refl wide

  pub stops : (f : IndexFault) → judge (read_by old h.entries) b ≡ Err f → reads_index index_start bytes ≡ Err f
  stops f one = goes ∙ ap (λ x. x >>= λ s. reads_index s left) one

  pub passes : (new : Front) (es : List (ℕ × List ℕ)) → new.count ≡ length es → judge (read_by old h.entries) b ≡ Ok (read_by new es) → IsJudgedTo bytes left new
  passes new es counted one = record { entries = es; counted = counted; reads = goes ∙ ap (λ x. x >>= λ s. reads_index s left) one }

  pub nothing_stops : old.fields.next ≡ field.Nothing → reads_index index_start bytes ≡ Err faults.Trailing
  nothing_stops next = stops faults.Trailing (judge_nothing (read_by old h.entries) b next)

  pub id_passes : (new : Front) → old.fields.next ≡ field.Id → new.fields ≡ to old.fields field.End → new.count ≡ old.count + 1 → IsJudgedTo bytes left new
  id_passes new next fields one_more =
      let es = h.entries ++ (old.fields.end, b) ∷ [] in
      let counted : new.count ≡ length es = omega (arith, length-append h.entries ((old.fields.end, b) ∷ []), h.counted) in
      passes new es counted (judge_id (read_by old h.entries) b next ∙ ap (λ s. Ok (record { fields = s; entries = es; part = [] })) (sym fields))

-- a word of this field was judged
pub record IsWord (old : Front) (b : List ℕ) (judged : Result Fields IndexFault) : Type 0 where
  pub is : judged ≡ word_at old.fields.next old.fields old.count (from_le_bytes w64 b)
  pub no_id : old.fields.next ≢ field.Id
  pub more : old.fields.next ≢ field.Nothing

pub end_word : (old : Front) (b : List ℕ) (n : ℕ) (judged : Result Fields IndexFault) → old.fields.next ≡ field.End → n ≡ from_le_bytes w64 b → judged ≡ end_judged old.fields old.count n → IsWord old b judged
unfolding word_at
end_word old b n judged next read made = record {
  is = made ∙ ap (end_judged old.fields old.count) read ∙ ap (λ f. word_at f old.fields old.count (from_le_bytes w64 b)) (sym next);
  no_id = λ id. absurd (cc (next, id));
  more = λ end. absurd (cc (next, end));
}

pub other_word : (old : Front) (b : List ℕ) (n : ℕ) (judged : Result Fields IndexFault) → old.fields.next ≢ field.Id → old.fields.next ≢ field.Nothing → n ≡ from_le_bytes w64 b → judged ≡ word_at old.fields.next old.fields old.count n → IsWord old b judged
other_word old b n judged no_id more read made = record { is = made ∙ ap (word_at old.fields.next old.fields old.count) read; no_id = no_id; more = more }

module _ (old : Front) (b : List ℕ) (wide : length b ≡ need old.fields.next) (judged : Result Fields IndexFault) (word : IsWord old b judged) (bytes left : List ℕ) (h : IsJudgedTo bytes (b ++ left) old) where
  one : judge (read_by old h.entries) b ≡ (judged >>= λ s. Ok (record { fields = s; entries = h.entries; part = [] }))
  one = judge_word (read_by old h.entries) b word.no_id word.more ∙ ap (λ k. word_at old.fields.next old.fields k (from_le_bytes w64 b) >>= λ s. Ok (record { fields = s; entries = h.entries; part = [] })) (sym h.counted) ∙ ap (λ x. x >>= λ s. Ok (record { fields = s; entries = h.entries; part = [] })) (sym word.is)

  pub word_stops : (f : IndexFault) → judged ≡ Err f → reads_index index_start bytes ≡ Err f
  word_stops f err = stops old b wide bytes left h f (one ∙ ap (λ x. x >>= λ s. Ok (record { fields = s; entries = h.entries; part = [] })) err)

  pub word_passes : (s : Fields) → judged ≡ Ok s → IsJudgedTo bytes left (record { fields = s; count = old.count })
  word_passes s ok = passes old b wide bytes left h (record { fields = s; count = old.count }) h.entries h.counted (one ∙ ap (λ x. x >>= λ s. Ok (record { fields = s; entries = h.entries; part = [] })) ok)

-- ---- the end

-- bytes that are less than a field
reads_short : (r : Read) (xs : List ℕ) → length r.part + length xs < need r.fields.next → reads_index r xs ≡ Ok (record r { part = r.part ++ xs })
unfolding push_to_index
reads_short r [] short = reads_none r ∙ ap (λ p. Ok (record r { part = p })) (sym (append-nil r.part))
reads_short r (x ∷ xs) short =
    let some = r.part ++ x ∷ [] in
    let more : nat_lt (length r.part + 1) (need r.fields.next) ≡ true = under (length r.part + 1) (need r.fields.next) (omega arith) in
    let left : length some + length xs < need r.fields.next = omega (arith, length-append r.part (x ∷ [])) in
    reads_one r x xs ∙ ap (λ b. cond b (Ok (record r { part = some })) (judge r some) >>= λ s. reads_index s xs) more ∙ reads_short (record r { part = some }) xs left ∙ ap (λ p. Ok (record r { part = p })) (append_assoc r.part (x ∷ []) xs)

module _ (front : Front) (bytes left : List ℕ) (h : IsJudgedTo bytes left front) (short : length left < need front.fields.next) where
  all : reads_index index_start bytes ≡ Ok (record { fields = front.fields; entries = h.entries; part = left })
  all = h.reads ∙ reads_short (read_by front h.entries) left (omega arith)

  pub ends_cut : front.fields.next ≢ field.Nothing → index_in bytes ≡ Err (faults.Truncated (length bytes))
  unfolding index_in
  ends_cut more =
      ap (λ a. a >>= λ s. cond (is_read_whole s.fields.next) (Ok (listing_read s)) (Err (faults.Truncated (length bytes)))) all
      ∙ ap (λ b. cond b (Ok (listing_read (record { fields = front.fields; entries = h.entries; part = left }))) (Err (faults.Truncated (length bytes)))) (not_nothing front.fields.next more)

  pub ends_whole : front.fields.next ≡ field.Nothing → (l : Listing) × (index_in bytes ≡ Ok l)
  unfolding index_in
  ends_whole next = (
    listing_read (record { fields = front.fields; entries = h.entries; part = left }),
    ap (λ a. a >>= λ s. cond (is_read_whole s.fields.next) (Ok (listing_read s)) (Err (faults.Truncated (length bytes)))) all
        ∙ ap (λ b. cond b (Ok (listing_read (record { fields = front.fields; entries = h.entries; part = left }))) (Err (faults.Truncated (length bytes)))) (is_nothing front.fields.next next),
  )

-- ---- the answer

-- bytes that are read as an index are its file
is_file : (bytes : List ℕ) (l : Listing) → IsBytes bytes → index_in bytes ≡ Ok l → IsIndexFile bytes l
unfolding index_in
is_file bytes l fits read =
    let g = bind_ok (reads_index index_start bytes) _ l read in
    let on = stands_on index_start g.0 bytes fits start_stands g.1 in
    let is : bytes_of g.0 ≡ bytes = on.1 ∙ ap (λ b. b ++ bytes) start_bytes in
    found bytes l g.0 (record { stands = on.0; is = is; size = subst (λ b. length b ≤ 167772264) is (no_longer g.0 on.0.good) }) read

-- and those of an index are read so
no_file : (bytes : List ℕ) (f : IndexFault) → index_in bytes ≡ Err f → (l : Listing) → IsIndexFile bytes l → ⊥
no_file bytes f read l file = let both : Ok l ≡ Err f = sym (file_read bytes l file) ∙ read in absurd (cc)

-- a field was the first fault
pub checked_faulty : (A : Type 0) (bytes : List ℕ) (f : IndexFault) → reads_index index_start bytes ≡ Err f → IsChecked {A = A} bytes (Err f)
unfolding index_in
checked_faulty A bytes f read =
    let whole : index_in bytes ≡ Err f = at_end (reads_index index_start bytes) _ f read in
    (no_file bytes f whole, whole)

pub checked : {A : Type 0} (front : Front) (bytes left : List ℕ) (answer : Result A IndexFault) → IsBytes bytes → IsJudgedTo bytes left front → length left < need front.fields.next → EndsFront front (length bytes) answer → IsChecked bytes answer
checked front bytes left (Ok x) fits h short ends =
    let read = ends bytes left h refl short in
    (read.0, is_file bytes read.0 fits read.1, read.1)
checked front bytes left (Err f) fits h short ends =
    let read = ends bytes left h refl short in
    (no_file bytes f read, read)
