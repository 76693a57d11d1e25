-- What is spelled so is read.
use Rattle.std.proofs.Common.{◌≡◌, ℕ, ◌+◌, ◌-◌, ◌<◌, ◌≤◌, Bool, true, false, cond, eqb, nat_lt, nat_le, List, [], ◌∷◌, ◌++◌, length, Option, Some, None, Ok, Err, refl, sym, ap, ◌∙◌, arith, append_assoc, append-nil}
use Rattle.std.specs.Prelude.{◌&&◌}
use Rattle.std.specs.List.{list_all, flat_map}
use Rattle.std.specs.Char.{is_ascii_hexdigit}
use Rattle.std.proofs.lemmas.Bool.Decides.{nat_tests}
use Rattle.std.proofs.lemmas.List.{length-append}
use Rattle.std.proofs.lemmas.List.Sums.{list_all-from_AllPass}
use Rattle.httparse.specs.Grammar.{is_ows, is_extension_byte, print_extension, IsExtension, ChunkLine, print_chunk_line, IsChunkLine, chunk_size}
use Rattle.http_frames.specs.declared.fault.WireFault.TheVariants as faults
use Rattle.http_frames.specs.declared.body.BodyKind.TheVariants as kind
use Rattle.http_frames.specs.declared.progress.Next.TheVariants as next
use Rattle.http_frames.specs.SizeLine.{size_in}
use Rattle.http_frames.specs.Body.{line_limit, Reading, push_to_body, push_at, in_line, sized, expected, reads_body, body_start, may_end, body_in, ◌>>=◌}
use Rattle.http_frames.specs.Spelling.{WireChunk, print_chunk, chunk_data, IsSizeLine, IsWireChunk, AreWireChunks, chunked_spelling, print_line, trailer, IsTrailer}
use Rattle.http_frames.proofs.SizeLines.{size_read}
use Rattle.http_frames.proofs.Trailers.{trailer_read}
use Rattle.http_frames.proofs.Runs.{reads-append, reads_one, reads_none, counted_run, chunk_counts}

-- no line feed
abbrev NoFeed : List ℕ → Type 0
NoFeed [] = Unit {0}
NoFeed (b ∷ bs) = (eqb b 10 ≡ false) × NoFeed bs

no_feed-append : (xs ys : List ℕ) → NoFeed xs → NoFeed ys → NoFeed (xs ++ ys)
no_feed-append [] ys h k = k
no_feed-append (x ∷ xs) ys h k = (h.0, no_feed-append xs ys h.1 k)

and_true : (a b : Bool) → (a && b) ≡ true → (a ≡ true) × (b ≡ true)
and_true true b h = (refl, h)
and_true false b h = absurd (cc)

no_feed_by : (test : ℕ → Bool) → ((b : ℕ) → test b ≡ true → eqb b 10 ≡ false) → (xs : List ℕ) → list_all test xs ≡ true → NoFeed xs
no_feed_by test never [] all = tt
no_feed_by test never (x ∷ xs) all =
    let two = and_true (test x) (list_all test xs) all in
    (never x two.0, no_feed_by test never xs two.1)

digit_no_feed : (b : ℕ) → is_ascii_hexdigit b ≡ true → eqb b 10 ≡ false
digit_no_feed b h = grind (arith, nat_tests)

ows_no_feed : (b : ℕ) → is_ows b ≡ true → eqb b 10 ≡ false
ows_no_feed b h = grind (arith, nat_tests)

text_no_feed : (b : ℕ) → is_extension_byte b ≡ true → eqb b 10 ≡ false
text_no_feed b h = grind (arith, nat_tests)

extension_no_feed : (e : Option (List ℕ)) → IsExtension e → NoFeed (print_extension e)
extension_no_feed None is = tt
extension_no_feed (Some text) is = (refl, no_feed_by is_extension_byte text_no_feed text (list_all-from_AllPass is_extension_byte text is))

-- a line without its last byte
abbrev front : ChunkLine → List ℕ
front l = l.digits ++ (l.pad ++ (print_extension l.extension ++ 13 ∷ []))

front_is : (l : ChunkLine) → print_chunk_line l ≡ front l ++ 10 ∷ []
unfolding print_chunk_line
front_is l = simp append_assoc

front_no_feed : (l : ChunkLine) → IsChunkLine l → NoFeed (front l)
front_no_feed l is =
    no_feed-append l.digits _ (no_feed_by is_ascii_hexdigit digit_no_feed l.digits (list_all-from_AllPass is_ascii_hexdigit l.digits is.digits.2))
    (no_feed-append l.pad _ (no_feed_by is_ows ows_no_feed l.pad (list_all-from_AllPass is_ows l.pad is.pad))
    (no_feed-append (print_extension l.extension) _ (extension_no_feed l.extension is.extension) (refl, tt)))

-- ---- a size line

at_line : (room : ℕ) (r : Reading) (x : ℕ) → r.next ≡ next.SizeLine → push_to_body room r x ≡ in_line room r x
unfolding push_at
at_line room r x is = ap (λ n. push_at n room r x) is

line_goes_on : (room : ℕ) (r : Reading) (x : ℕ) → eqb x 10 ≡ false → length r.line < 255 → in_line room r x ≡ Ok (record r { line = r.line ++ x ∷ [] })
unfolding in_line
line_goes_on room r x clear few =
    let test : nat_le line_limit (length r.line + 1) ≡ false = grind (arith, nat_tests) in
    rw (clear, test) refl

line_ends : (room : ℕ) (r : Reading) → in_line room r 10 ≡ sized room r (size_in (r.line ++ 10 ∷ []))
unfolding in_line
line_ends room r = refl

line_run : (room : ℕ) (r : Reading) (xs : List ℕ) → r.next ≡ next.SizeLine → NoFeed xs → length r.line + length xs ≤ 255 → reads_body room r xs ≡ Ok (record r { line = r.line ++ xs })
line_run room r [] is clear few = reads_none room r ∙ ap (λ t. Ok (record r { line = t })) (sym (append-nil r.line))
line_run room r (x ∷ xs) is clear few =
    let more = record r { line = r.line ++ x ∷ [] } in
    reads_one room r x xs ∙ ap (λ a. a >>= λ s. reads_body room s xs) (at_line room r x is ∙ line_goes_on room r x clear.0 (omega arith))
    ∙ line_run room more xs is clear.1 (omega (arith, length-append r.line (x ∷ [])))
    ∙ ap (λ t. Ok (record r { line = t })) (append_assoc r.line (x ∷ []) xs)

abbrev with_line : Reading → List ℕ → Reading
with_line r t = record r { line = t }

line_read : (room : ℕ) (r : Reading) (l : ChunkLine) (rest : List ℕ) → r.next ≡ next.SizeLine → r.line ≡ [] → IsSizeLine l → reads_body room r (print_chunk_line l ++ rest) ≡ (sized room (with_line r (r.line ++ front l)) (Some (chunk_size l)) >>= λ s. reads_body room s rest)
line_read room r l rest is empty right =
    let s = with_line r (r.line ++ front l) in
    let none : length r.line ≡ 0 = ap length empty in
    let len : length (front l) + 1 ≤ 256 = omega (arith, right.short, ap length (front_is l), length-append (front l) (10 ∷ [])) in
    let whole : s.line ++ 10 ∷ [] ≡ print_chunk_line l = ap (λ t. (t ++ front l) ++ 10 ∷ []) empty ∙ sym (front_is l) in
    let size : size_in (s.line ++ 10 ∷ []) ≡ Some (chunk_size l) = ap size_in whole ∙ size_read (print_chunk_line l) l [] (right.line, sym (append-nil (print_chunk_line l))) in
    ap (λ t. reads_body room r (t ++ rest)) (front_is l) ∙ ap (reads_body room r) (append_assoc (front l) (10 ∷ []) rest)
    ∙ reads-append room r (front l) (10 ∷ rest)
    ∙ ap (λ a. a >>= λ u. reads_body room u (10 ∷ rest)) (line_run room r (front l) is (front_no_feed l right.line) (omega (arith, none, len)))
    ∙ reads_one room s 10 rest
    ∙ ap (λ a. a >>= λ u. reads_body room u rest) (at_line room s 10 is ∙ line_ends room s ∙ ap (sized room s) size)

-- ---- a chunk

opens : (room n : ℕ) (r : Reading) → 0 < n → length r.body + n ≤ room → sized room r (Some n) ≡ Ok (record r { next = next.Chunk; left = n; line = [] })
unfolding sized
opens room n r some fits =
    let one : eqb n 0 ≡ false = grind (arith, nat_tests) in
    let two : nat_lt room (length r.body + n) ≡ false = grind (arith, nat_tests) in
    rw (one, two) refl

closes : (room : ℕ) (r : Reading) → sized room r (Some 0) ≡ Ok (record r { next = next.Trailer; line = [] })
unfolding sized
closes room r = refl

after_chunk : (room : ℕ) (r : Reading) (rest : List ℕ) → r.next ≡ next.ChunkCr → reads_body room r (13 ∷ 10 ∷ rest) ≡ reads_body room (record r { next = next.SizeLine }) rest
unfolding push_at expected reads_body
after_chunk room r rest is = ap (λ n. push_at n room r 13 >>= λ s. reads_body room s (10 ∷ rest)) is

abbrev done : Reading → List ℕ → Reading
done r bs = record r { next = next.SizeLine; left = length bs - length bs; line = []; body = r.body ++ bs }

data_read : (room : ℕ) (r : Reading) (bs rest : List ℕ) → r.next ≡ next.Chunk → r.left ≡ length bs → 0 < length bs → length r.body + length bs ≤ room → reads_body room r (bs ++ rest) ≡ reads_body room (record r { next = next.ChunkCr; left = length bs - length bs; body = r.body ++ bs }) rest
data_read room r [] rest is left some fits = absurd (omega arith)
data_read room r (b ∷ bs) rest is left some fits =
    let test : nat_le (length (b ∷ bs)) (length (b ∷ bs)) ≡ true = grind (arith, nat_tests) in
    let run = counted_run next.Chunk next.ChunkCr chunk_counts room r b bs is (omega (arith, left)) (omega (arith, left)) in
    reads-append room r (b ∷ bs) rest
    ∙ ap (λ a. a >>= λ s. reads_body room s rest) (run
    ∙ ap (λ n. Ok (record r { next = cond (nat_le n (length (b ∷ bs))) next.ChunkCr next.Chunk; left = n - length (b ∷ bs); body = r.body ++ b ∷ bs })) left
    ∙ ap (λ t. Ok (record r { next = cond t next.ChunkCr next.Chunk; left = length (b ∷ bs) - length (b ∷ bs); body = r.body ++ b ∷ bs })) test)

chunk_read : (room : ℕ) (r : Reading) (c : WireChunk) (rest : List ℕ) → r.next ≡ next.SizeLine → r.line ≡ [] → IsWireChunk c → length r.body + length c.bytes ≤ room → reads_body room r (print_chunk c ++ rest) ≡ reads_body room (done r c.bytes) rest
chunk_read room r c rest is empty right fits =
    let s = with_line r (r.line ++ front c.line) in
    let begun = record s { next = next.Chunk; left = length c.bytes; line = [] } in
    let filled = record begun { next = next.ChunkCr; left = length c.bytes - length c.bytes; body = r.body ++ c.bytes } in
    ap (reads_body room r) (append_assoc (print_chunk_line c.line) (c.bytes ++ 13 ∷ 10 ∷ []) rest ∙ ap (λ t. print_chunk_line c.line ++ t) (append_assoc c.bytes (13 ∷ 10 ∷ []) rest))
    ∙ line_read room r c.line (c.bytes ++ 13 ∷ 10 ∷ rest) is empty right.line
    ∙ ap (λ n. sized room s (Some n) >>= λ u. reads_body room u (c.bytes ++ 13 ∷ 10 ∷ rest)) right.size
    ∙ ap (λ a. a >>= λ u. reads_body room u (c.bytes ++ 13 ∷ 10 ∷ rest)) (opens room (length c.bytes) s right.some fits)
    ∙ data_read room begun c.bytes (13 ∷ 10 ∷ rest) refl refl right.some fits
    ∙ after_chunk room filled rest refl

-- ---- all

pub chunks_read : (room : ℕ) (r : Reading) (cs : List WireChunk) (last : ChunkLine) (ls : List (List ℕ)) → r.next ≡ next.SizeLine → r.line ≡ [] → r.trailer ≡ 0 → AreWireChunks cs → IsSizeLine last → chunk_size last ≡ 0 → IsTrailer ls → length r.body + length (flat_map chunk_data cs) ≤ room
    → (s : Reading) × (reads_body room r (chunked_spelling cs last ls) ≡ Ok s) × (s.next ≡ next.Whole) × (s.body ≡ r.body ++ flat_map chunk_data cs)
chunks_read room r [] last ls is empty none right end zero tail fits =
    let s = with_line r (r.line ++ front last) in
    let at = record s { next = next.Trailer; line = [] } in (
      record at { next = next.Whole; trailer = at.trailer + length (flat_map print_line ls) + 1 },
      line_read room r last (trailer ls) is empty end
          ∙ ap (λ n. sized room s (Some n) >>= λ u. reads_body room u (trailer ls)) zero
          ∙ ap (λ a. a >>= λ u. reads_body room u (trailer ls)) (closes room s)
          ∙ trailer_read room at ls refl none tail,
      refl,
      sym (append-nil r.body),
    )
chunks_read room r (c ∷ cs) last ls is empty none right end zero tail fits =
    let one = length-append c.bytes (flat_map chunk_data cs) in
    let two = length-append r.body c.bytes in
    let others = chunks_read room (done r c.bytes) cs last ls refl refl none right.1 end zero tail (omega (arith, one, two)) in (
      others.0,
      ap (reads_body room r) (append_assoc (print_chunk c) (flat_map print_chunk cs) (print_chunk_line last ++ trailer ls))
          ∙ chunk_read room r c (chunked_spelling cs last ls) is empty right.0 (omega (arith, one)) ∙ others.1,
      others.2,
      others.3 ∙ append_assoc r.body c.bytes (flat_map chunk_data cs),
    )

-- the body of chunks is their bytes
pub spelled : (room : ℕ) (cs : List WireChunk) (last : ChunkLine) (ls : List (List ℕ)) → AreWireChunks cs → IsSizeLine last → chunk_size last ≡ 0 → IsTrailer ls → length (flat_map chunk_data cs) ≤ room → body_in room kind.Chunked (chunked_spelling cs last ls) ≡ Ok (flat_map chunk_data cs)
unfolding body_in body_start
spelled room cs last ls right end zero tail fits =
    let all = chunks_read room (body_start kind.Chunked) cs last ls refl refl refl right end zero tail (omega (arith, fits)) in
    ap (λ a. a >>= λ r. cond (may_end r.next) (Ok r.body) (Err faults.CutShort)) all.1
    ∙ ap (λ n. cond (may_end n) (Ok all.0.body) (Err faults.CutShort)) all.2
    ∙ ap Ok all.3
