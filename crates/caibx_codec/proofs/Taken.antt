-- What was read is spelled so: bytes that are read without a fault are those that the reader stands for.
use Rattle.std.proofs.Common.{◌≡◌, ℕ, zero, suc, ◌+◌, ◌*◌, ◌<◌, ◌≤◌, Bool, true, false, cond, nat_lt, List, [], ◌∷◌, ◌++◌, length, take, Result, Ok, refl, sym, ap, subst, ◌∙◌, arith, append_assoc, lit<, lit≤}
use Rattle.std.specs.List.{AllByRecursion}
use Rattle.std.proofs.lemmas.Bool.Decides.{nat_tests}
use Rattle.std.proofs.lemmas.List.{append-nil, length-append, nil_from_length}
use Rattle.chunk_store.specs.Digests.{IsId}
use Rattle.caibx_fields.specs.declared.fault.IndexFault.{IndexFault}
use Rattle.caibx_fields.specs.declared.field.Field.{Field}
use Rattle.caibx_fields.specs.declared.field.Field.TheVariants as field
use Rattle.caibx_fields.specs.declared.field.Fields.{Fields}
use Rattle.caibx_fields.specs.Words.{word, words}
use Rattle.caibx_fields.specs.Fields.{need, place_of}
use Rattle.caibx_codec.specs.Spelling.{item, items, tail_words, spelling, IsIndexFile}
use Rattle.caibx_codec.specs.Reading.{Read, judge, push_to_index, reads_index, index_start, listing, listing_read, is_read_whole, ◌>>=◌}
use Rattle.caibx_codec.specs.Standing.{front, before, bytes_of, EndFits, IsSound, IsGood, IsReached}
use Rattle.caibx_codec.proofs.Fields.{need_least}
use Rattle.caibx_codec.proofs.Pieces.{reads-append, reads_one, reads_none}
use Rattle.caibx_codec.proofs.Steps.{IsBytes, bind_ok, ok_is, judged}

pub IsBytes-push : (xs : List ℕ) (x : ℕ) → IsBytes xs → x < 256 → IsBytes (xs ++ x ∷ [])
IsBytes-push [] x h lt zero = lt
IsBytes-push [] x h lt (suc i) = lit< tt
IsBytes-push (y ∷ xs) x h lt zero = h zero
IsBytes-push (y ∷ xs) x h lt (suc i) = IsBytes-push xs x (λ k. h (suc k)) lt i

abbrev pub Took : Read → List ℕ → Read → Type 0
Took r xs t = (bytes_of t ≡ bytes_of r ++ xs) × IsGood t

-- a field of which this is the last byte, or not
tested : (b : Bool) (x t : Read) (r : Result Read IndexFault) (P : Read → Type 0) → cond b (Ok x) r ≡ Ok t → (b ≡ true → P x) → (b ≡ false → r ≡ Ok t → P t) → P t
tested true x t r P h more last = subst P (ok_is x t h) (more refl)
tested false x t r P h more last = last refl h

below : (n m : ℕ) → nat_lt n m ≡ true → n < m
below n m h = grind (arith, nat_tests)

not_below : (n m : ℕ) → nat_lt n m ≡ false → m ≤ n
not_below n m h = grind (arith, nat_tests)

push_takes : (r t : Read) (x : ℕ) → x < 256 → IsGood r → push_to_index r x ≡ Ok t → Took r (x ∷ []) t
unfolding push_to_index bytes_of
push_takes r t x lt good h =
    let some = r.part ++ x ∷ [] in
    let fits : IsBytes some = IsBytes-push r.part x good.bytes lt in
    let len : length some ≡ length r.part + 1 = length-append r.part (x ∷ []) in
    let regroup : before r.fields.next r.fields r.entries ++ some ≡ (before r.fields.next r.fields r.entries ++ r.part) ++ x ∷ [] = sym (append_assoc (before r.fields.next r.fields r.entries) r.part (x ∷ [])) in
    tested (nat_lt (length r.part + 1) (need r.fields.next)) (record r { part = some }) t (judge r some) (Took r (x ∷ [])) h
    (λ less. let room = below (length r.part + 1) (need r.fields.next) less in (regroup, record { sound = good.sound; bytes = fits; part = omega (arith, len, room) }))
    (λ last whole.
    let all : length some ≡ need r.fields.next = omega (arith, len, good.part, not_below (length r.part + 1) (need r.fields.next) last) in
    let j = judged r some t all fits good.sound whole in
    let none : IsBytes t.part = subst IsBytes (sym j.none) (λ i. lit< tt) in
    let empty : length t.part < need t.fields.next = subst (λ p. length p < need t.fields.next) (sym j.none) (need_least t.fields.next) in
    (ap (λ p. before t.fields.next t.fields t.entries ++ p) j.none ∙ append-nil (before t.fields.next t.fields t.entries) ∙ j.bytes ∙ regroup, record { sound = j.sound; bytes = none; part = empty }))

pub reads_takes : (r t : Read) (xs : List ℕ) → IsBytes xs → IsGood r → reads_index r xs ≡ Ok t → Took r xs t
reads_takes r t [] fits good h =
    let same : r ≡ t = ok_is r t (sym (reads_none r) ∙ h) in
    subst (Took r []) same (sym (append-nil (bytes_of r)), good)
reads_takes r t (x ∷ xs) fits good h =
    let one = bind_ok (push_to_index r x) (λ s. reads_index s xs) t (sym (reads_one r x xs) ∙ h) in
    let first = push_takes r one.0 x (fits zero) good one.1 in
    let others = reads_takes one.0 t xs (λ i. fits (suc i)) first.1 one.2 in
    (others.0 ∙ ap (λ b. b ++ xs) first.0 ∙ append_assoc (bytes_of r) (x ∷ []) xs, others.1)

-- a reader that stands for its bytes stands for more of them after more
pub stands_on : (r t : Read) (xs : List ℕ) → IsBytes xs → IsReached r → reads_index r xs ≡ Ok t → IsReached t × (bytes_of t ≡ bytes_of r ++ xs)
stands_on r t xs fits stands h =
    let took = reads_takes r t xs fits stands.good h in
    (record { reads = ap (reads_index index_start) took.0 ∙ reads-append index_start (bytes_of r) xs ∙ ap (λ a. a >>= λ s. reads_index s xs) stands.reads ∙ h; good = took.1 }, took.0)

pub start_stands : IsReached index_start
unfolding index_start bytes_of before EndFits reads_index
start_stands = record {
  reads = refl;
  good = record {
    sound = record {
      valid = record { size = lit≤ tt; few = lit≤ tt; chunks = tt; ids = tt; flags = lit< tt; least = lit< tt; average = lit< tt };
      end = (refl, refl);
      offset = lit< tt;
      size = lit< tt;
    };
    bytes = λ i. lit< tt;
    part = lit< tt;
  };
}

pub start_bytes : bytes_of index_start ≡ []
unfolding index_start bytes_of before
start_bytes = refl

-- ---- the whole file

whole_at : (f : Field) (s : Fields) (es : List (ℕ × List ℕ)) (part : List ℕ) → is_read_whole f ≡ true → IsSound f s es → length part < need f → before f s es ++ part ≡ spelling (listing s es) s.offset s.size
unfolding before spelling
whole_at field.Nothing s es part h sound small =
    let none : part ≡ [] = nil_from_length part (omega arith) in
    ap (λ p. before field.Nothing s es ++ p) none ∙ append-nil (before field.Nothing s es)
whole_at _ s es part h sound small = absurd (cc)

pub whole_file : (r : Read) → IsGood r → is_read_whole r.fields.next ≡ true → IsIndexFile (bytes_of r) (listing_read r)
unfolding bytes_of
whole_file r good h = record {
  spells = record {
    offset = r.fields.offset;
    size = r.fields.size;
    offset_fits = good.sound.offset;
    size_fits = good.sound.size;
    is = whole_at r.fields.next r.fields r.entries r.part h good.sound good.part;
  };
  valid = good.sound.valid;
}

-- ---- how long it can be

pub items_length : (es : List (ℕ × List ℕ)) → AllByRecursion (λ e. IsId e.1) es → length (items es) ≡ 40 * length es
unfolding items item
items_length [] ids = refl
items_length (e ∷ es) ids =
    let rest = items_length es ids.1 in
    let this : length (item e) ≡ 40 = omega (arith, length-append (word e.0) e.1, ids.0.size) in
    omega (arith, length-append (item e) (items es), rest, this)

-- with what stands before and after the items
pub around : (a b : List ℕ) (es : List (ℕ × List ℕ)) (m n : ℕ) → length a ≡ m → length b ≡ n → AllByRecursion (λ e. IsId e.1) es → length ((a ++ items es) ++ b) ≡ m + n + 40 * length es
around a b es m n front_long back_long ids =
    omega (arith, length-append (a ++ items es) b, length-append a (items es), items_length es ids)

-- a field begins after the bytes before it
pub placed : (f : Field) (s : Fields) (es : List (ℕ × List ℕ)) → IsSound f s es → length (before f s es) ≡ place_of f (length es)
unfolding before
placed field.HeadSize s es sound = refl
placed field.HeadType s es sound = refl
placed field.Flags s es sound = refl
placed field.Min s es sound = refl
placed field.Avg s es sound = refl
placed field.Max s es sound = refl
placed field.TableSize s es sound = refl
placed field.TableType s es sound = refl
placed field.End s es sound = omega (arith, length-append (front s) (items es), items_length es sound.valid.ids)
placed field.Id s es sound = around (front s) (words (s.end ∷ [])) es 64 8 refl refl sound.valid.ids
placed field.Zero s es sound = around (front s) (words (take 1 (tail_words s.offset s.size))) es 64 8 refl refl sound.valid.ids
placed field.Offset s es sound = around (front s) (words (take 2 (tail_words s.offset s.size))) es 64 16 refl refl sound.valid.ids
placed field.Size s es sound = around (front s) (words (take 3 (tail_words s.offset s.size))) es 64 24 refl refl sound.valid.ids
placed field.Marker s es sound = around (front s) (words (take 4 (tail_words s.offset s.size))) es 64 32 refl refl sound.valid.ids
placed field.Nothing s es sound = around (front s) (words (tail_words s.offset s.size)) es 64 40 refl refl sound.valid.ids

pub bytes_length : (r : Read) → IsGood r → length (bytes_of r) ≡ place_of r.fields.next (length r.entries) + length r.part
unfolding bytes_of
bytes_length r good = omega (arith, length-append (before r.fields.next r.fields r.entries) r.part, placed r.fields.next r.fields r.entries good.sound)

ends_by : (f : Field) (s : Fields) (es : List (ℕ × List ℕ)) (n : ℕ) → IsSound f s es → n < need f → place_of f (length es) + n ≤ 167772264
unfolding EndFits
ends_by field.HeadSize s es n sound small = omega arith
ends_by field.HeadType s es n sound small = omega arith
ends_by field.Flags s es n sound small = omega arith
ends_by field.Min s es n sound small = omega arith
ends_by field.Avg s es n sound small = omega arith
ends_by field.Max s es n sound small = omega arith
ends_by field.TableSize s es n sound small = omega arith
ends_by field.TableType s es n sound small = omega arith
ends_by field.Id s es n sound small = omega (arith, sound.end.2)
ends_by _ s es n sound small = omega (arith, sound.valid.few)

pub no_longer : (r : Read) → IsGood r → length (bytes_of r) ≤ 167772264
no_longer r good = omega (arith, bytes_length r good, ends_by r.fields.next r.fields r.entries (length r.part) good.sound good.part)
