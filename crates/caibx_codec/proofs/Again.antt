-- What is spelled so is read: the bytes of an index file are read without a fault, to the end.
use Rattle.std.proofs.Common.{◌≡◌, ℕ, ◌+◌, ◌-◌, ◌*◌, ◌^◌, ◌<◌, ◌≤◌, true, false, cond, eqb, nat_lt, nat_le, List, [], ◌∷◌, ◌++◌, length, Ok, Err, refl, sym, ap, ◌∙◌, arith, append_assoc, lit<}
use Rattle.std.specs.Int.{w64, from_le_bytes}
use Rattle.std.specs.List.{AllByRecursion}
use Rattle.std.proofs.lemmas.Bool.Decides.{nat_tests}
use Rattle.std.proofs.lemmas.List.{append-nil, length-append}
use Rattle.std.proofs.lemmas.Nat.{from_le_bytes-to_le_bytes_8}
use Rattle.chunk_store.specs.Digests.{IsId}
use Rattle.caibx_fields.specs.declared.fault.IndexFault.TheVariants as faults
use Rattle.caibx_fields.specs.declared.field.Field.{Field}
use Rattle.caibx_fields.specs.declared.field.Field.TheVariants as field
use Rattle.caibx_fields.specs.declared.field.Fields.{Fields}
use Rattle.caibx_fields.specs.Words.{word, words}
use Rattle.caibx_fields.specs.Fields.{need, word_at, end_judged}
use Rattle.caibx_codec.specs.Listing.{Listing, IsValid, AreChunks}
use Rattle.caibx_codec.specs.Spelling.{item, items, spelling, IsIndexFile, front_words, tail_words}
use Rattle.caibx_codec.specs.Reading.{Read, judge, judge_at, push_to_index, reads_index, index_start, listing_read, is_read_whole, index_in, ◌>>=◌}
use Rattle.caibx_codec.specs.Standing.{last_end}
use Rattle.caibx_codec.proofs.Fields.{judge_word, judge_id, no_id, no_end}
use Rattle.caibx_codec.proofs.Pieces.{reads_one, reads_none}
use Rattle.caibx_codec.proofs.Steps.{ok_is}

-- ---- one field

judge_part_at : (f : Field) (r : Read) (p b : List ℕ) → judge_at f (record r { part = p }) b ≡ judge_at f r b
unfolding judge_at
judge_part_at field.Id r p b = refl
judge_part_at field.Nothing r p b = refl
judge_part_at _ r p b = refl

above : (n m : ℕ) → m ≤ n → nat_lt n m ≡ false
above n m h = grind (arith, nat_tests)

pub under : (n m : ℕ) → n < m → nat_lt n m ≡ true
under n m h = grind (arith, nat_tests)

-- all bytes that the next field still needs
pub reads_field : (r : Read) (x : ℕ) (xs rest : List ℕ) → length r.part + length (x ∷ xs) ≡ need r.fields.next → reads_index r ((x ∷ xs) ++ rest) ≡ (judge r (r.part ++ x ∷ xs) >>= λ s. reads_index s rest)
unfolding push_to_index
reads_field r x [] rest len =
    let last : nat_lt (length r.part + 1) (need r.fields.next) ≡ false = above (length r.part + 1) (need r.fields.next) (omega arith) in
    reads_one r x rest ∙ ap (λ b. cond b (Ok (record r { part = r.part ++ x ∷ [] })) (judge r (r.part ++ x ∷ [])) >>= λ s. reads_index s rest) last
reads_field r x (y ∷ ys) rest len =
    let some = r.part ++ x ∷ [] in
    let more : nat_lt (length r.part + 1) (need r.fields.next) ≡ true = under (length r.part + 1) (need r.fields.next) (omega arith) in
    let one : reads_index r ((x ∷ y ∷ ys) ++ rest) ≡ reads_index (record r { part = some }) ((y ∷ ys) ++ rest) = reads_one r x ((y ∷ ys) ++ rest) ∙ ap (λ b. cond b (Ok (record r { part = some })) (judge r some) >>= λ s. reads_index s ((y ∷ ys) ++ rest)) more in
    let left : length some + length (y ∷ ys) ≡ need r.fields.next = omega (arith, length-append r.part (x ∷ [])) in
    let others = reads_field (record r { part = some }) y ys rest left in
    let same : judge (record r { part = some }) (some ++ y ∷ ys) ≡ judge r (r.part ++ x ∷ y ∷ ys) = judge_part_at r.fields.next r some (some ++ y ∷ ys) ∙ ap (judge r) (append_assoc r.part (x ∷ []) (y ∷ ys)) in
    one ∙ others ∙ ap (λ a. a >>= λ s. reads_index s rest) same

abbrev at : Fields → List (ℕ × List ℕ) → Read
at s es = record { fields = s; entries = es; part = [] }

-- a word that is right
reads_word : (s t : Fields) (es : List (ℕ × List ℕ)) (w : ℕ) (rest : List ℕ) → need s.next ≡ 8 → w < 2 ^ 64 → word_at s.next s (length es) w ≡ Ok t → reads_index (at s es) (word w ++ rest) ≡ reads_index (at t es) rest
reads_word s t es w rest wide small right =
    let again : from_le_bytes w64 (word w) ≡ w = from_le_bytes-to_le_bytes_8 w small in
    let made : judge (at s es) (word w) ≡ Ok (at t es) = judge_word (at s es) (word w) (no_id s.next wide) (no_end s.next wide) ∙ ap (λ n. word_at s.next s (length es) n >>= λ u. Ok (at u es)) again ∙ ap (λ a. a >>= λ u. Ok (at u es)) right in
    reads_field (at s es) _ _ rest (sym wide) ∙ ap (λ a. a >>= λ u. reads_index u rest) made

-- ---- the items

module _ (flags min avg max : ℕ) (small : max ≤ 67108864) where
  -- where the fields are before this one, after an item that ends there
  abbrev fields : Field → ℕ → Fields
  fields f end = record { next = f; flags = flags; min = min; avg = avg; max = max; end = end; offset = 0; size = 0 }

  end_right : (es : List (ℕ × List ℕ)) (from w : ℕ) → length es < 4194304 → from < w → w ≤ from + max → word_at field.End (fields field.End from) (length es) w ≡ Ok (fields field.Id w)
  unfolding word_at end_judged
  end_right es from w few more fits =
      let not_zero : eqb w 0 ≡ false = grind (arith, nat_tests) in
      let room : nat_le 4194304 (length es) ≡ false = grind (arith, nat_tests) in
      let ordered : nat_le w from ≡ false = grind (arith, nat_tests) in
      let no_larger : nat_lt max (w - from) ≡ false = grind (arith, nat_tests) in
      rw (not_zero, room, ordered, no_larger) refl

  reads_id : (es : List (ℕ × List ℕ)) (end : ℕ) (id rest : List ℕ) → length id ≡ 32 → reads_index (at (fields field.Id end) es) (id ++ rest) ≡ reads_index (at (fields field.End end) (es ++ (end, id) ∷ [])) rest
  reads_id es end [] rest len = absurd (omega arith)
  reads_id es end (x ∷ xs) rest len =
      reads_field (at (fields field.Id end) es) x xs rest (omega arith) ∙ ap (λ a. a >>= λ u. reads_index u rest) (judge_id (at (fields field.Id end) es) (x ∷ xs) refl)

  split : (e : ℕ × List ℕ) (es : List (ℕ × List ℕ)) (rest : List ℕ) → items (e ∷ es) ++ rest ≡ word e.0 ++ (e.1 ++ (items es ++ rest))
  unfolding items item
  split e es rest = append_assoc (item e) (items es) rest ∙ append_assoc (word e.0) e.1 (items es ++ rest)

  none_left : (rest : List ℕ) → items [] ++ rest ≡ rest
  unfolding items
  none_left rest = refl

  reads_items : (done es : List (ℕ × List ℕ)) (from : ℕ) (rest : List ℕ) → AreChunks max from es → AllByRecursion (λ e. IsId e.1) es → length done + length es ≤ 4194304 → from + length es * 67108864 < 2 ^ 64
      → reads_index (at (fields field.End from) done) (items es ++ rest) ≡ reads_index (at (fields field.End (last_end from es)) (done ++ es)) rest
  reads_items done [] from rest chunks ids few bound =
      ap (reads_index (at (fields field.End from) done)) (none_left rest) ∙ ap (λ es. reads_index (at (fields field.End from) es) rest) (sym (append-nil done))
  reads_items done (e ∷ es) from rest chunks ids few bound =
      let end = reads_word (fields field.End from) (fields field.Id e.0) done e.0 (e.1 ++ (items es ++ rest)) refl (omega (arith, chunks.1, small)) (end_right done from e.0 (omega arith) chunks.0 chunks.1) in
      let id = reads_id done e.0 e.1 (items es ++ rest) ids.0.size in
      let more : length (done ++ (e.0, e.1) ∷ []) + length es ≤ 4194304 = omega (arith, length-append done ((e.0, e.1) ∷ [])) in
      let others = reads_items (done ++ (e.0, e.1) ∷ []) es e.0 rest chunks.2 ids.1 more (omega (arith, chunks.1, small)) in
      ap (reads_index (at (fields field.End from) done)) (split e es rest) ∙ end ∙ id ∙ others ∙ ap (λ x. reads_index (at (fields field.End (last_end e.0 es)) x) rest) (append_assoc done ((e.0, e.1) ∷ []) es)

-- ---- the whole file

abbrev head : Field → ℕ → ℕ → ℕ → ℕ → Fields
head f flags min avg max = record { next = f; flags = flags; min = min; avg = avg; max = max; end = 0; offset = 0; size = 0 }

abbrev tail : Field → Listing → ℕ → ℕ → Fields
tail f l offset size = record { next = f; flags = l.flags; min = l.least; avg = l.average; max = l.greatest; end = last_end 0 l.entries; offset = offset; size = size }

max_right : (flags min avg w : ℕ) → w ≤ 67108864 → word_at field.Max (head field.Max flags min avg 0) 0 w ≡ Ok (head field.TableSize flags min avg w)
unfolding word_at
max_right flags min avg w small =
    let test : nat_lt 67108864 w ≡ false = grind (arith, nat_tests) in
    rw test refl

reads_front : (l : Listing) → IsValid l → (rest : List ℕ) → reads_index index_start (words (front_words l) ++ rest) ≡ reads_index (at (head field.End l.flags l.least l.average l.greatest) []) rest
unfolding index_start word_at
reads_front l valid rest =
    reads_word (head field.HeadSize 0 0 0 0) (head field.HeadType 0 0 0 0) [] 48 _ refl (lit< tt) refl
    ∙ reads_word (head field.HeadType 0 0 0 0) (head field.Flags 0 0 0 0) [] 0x96824d9c7b129ff9 _ refl (lit< tt) refl
    ∙ reads_word (head field.Flags 0 0 0 0) (head field.Min l.flags 0 0 0) [] l.flags _ refl valid.flags refl
    ∙ reads_word (head field.Min l.flags 0 0 0) (head field.Avg l.flags l.least 0 0) [] l.least _ refl valid.least refl
    ∙ reads_word (head field.Avg l.flags l.least 0 0) (head field.Max l.flags l.least l.average 0) [] l.average _ refl valid.average refl
    ∙ reads_word (head field.Max l.flags l.least l.average 0) (head field.TableSize l.flags l.least l.average l.greatest) [] l.greatest _ refl (omega (arith, valid.size)) (max_right l.flags l.least l.average l.greatest valid.size)
    ∙ reads_word (head field.TableSize l.flags l.least l.average l.greatest) (head field.TableType l.flags l.least l.average l.greatest) [] 0xffffffffffffffff _ refl (lit< tt) refl
    ∙ reads_word (head field.TableType l.flags l.least l.average l.greatest) (head field.End l.flags l.least l.average l.greatest) [] 0xe75b9e112f17417d rest refl (lit< tt) refl

reads_tail : (l : Listing) (offset size : ℕ) → offset < 2 ^ 64 → size < 2 ^ 64 → reads_index (at (tail field.End l 0 0) l.entries) (words (tail_words offset size)) ≡ Ok (at (tail field.Nothing l offset size) l.entries)
unfolding word_at end_judged
reads_tail l offset size offset_fits size_fits =
    reads_word (tail field.End l 0 0) (tail field.Zero l 0 0) l.entries 0 _ refl (lit< tt) refl
    ∙ reads_word (tail field.Zero l 0 0) (tail field.Offset l 0 0) l.entries 0 _ refl (lit< tt) refl
    ∙ reads_word (tail field.Offset l 0 0) (tail field.Size l offset 0) l.entries offset _ refl offset_fits refl
    ∙ reads_word (tail field.Size l offset 0) (tail field.Marker l offset size) l.entries size _ refl size_fits refl
    ∙ reads_word (tail field.Marker l offset size) (tail field.Nothing l offset size) l.entries 0x4b4f050e5549ecd1 [] refl (lit< tt) refl
    ∙ reads_none (at (tail field.Nothing l offset size) l.entries)

reads_spelling : (l : Listing) (offset size : ℕ) → IsValid l → offset < 2 ^ 64 → size < 2 ^ 64 → reads_index index_start (spelling l offset size) ≡ Ok (at (tail field.Nothing l offset size) l.entries)
unfolding spelling
reads_spelling l offset size valid offset_fits size_fits =
    ap (reads_index index_start) (append_assoc (words (front_words l)) (items l.entries) (words (tail_words offset size)))
    ∙ reads_front l valid (items l.entries ++ words (tail_words offset size))
    ∙ reads_items l.flags l.least l.average l.greatest valid.size [] l.entries 0 (words (tail_words offset size)) valid.chunks valid.ids (omega (arith, valid.few)) (omega (arith, valid.few))
    ∙ reads_tail l offset size offset_fits size_fits

-- an index file is read, as its index
pub file_read : (bytes : List ℕ) (l : Listing) → IsIndexFile bytes l → index_in bytes ≡ Ok l
unfolding index_in
file_read bytes l file =
    let spells = file.spells in
    let read = ap (reads_index index_start) spells.is ∙ reads_spelling l spells.offset spells.size file.valid spells.offset_fits spells.size_fits in
    ap (λ a. a >>= λ r. cond (is_read_whole r.fields.next) (Ok (listing_read r)) (Err (faults.Truncated (length bytes)))) read

-- bytes are the file of one index at most
pub one_index : (bytes : List ℕ) (l m : Listing) → IsIndexFile bytes l → IsIndexFile bytes m → l ≡ m
one_index bytes l m a b = ok_is l m (sym (file_read bytes l a) ∙ file_read bytes m b)
