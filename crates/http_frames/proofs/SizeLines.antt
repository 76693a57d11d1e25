-- The size that is read is the one of the line before a chunk.
use Rattle.std.proofs.Common.{◌≡◌, ℕ, ◌<◌, ◌≤◌, Bool, true, false, cond, eqb, nat_lt, nat_le, List, [], ◌∷◌, ◌++◌, length, Option, Some, None, Result, Ok, Err, refl, sym, ap, subst, ◌∙◌, arith, append_assoc, append-nil}
use Rattle.std.specs.Prelude.{◌&&◌, OnErr}
use Rattle.std.specs.List.{list_all}
use Rattle.std.specs.Char.{is_ascii_hexdigit}
use Rattle.std.specs.Str.Parse.{digits_value}
use Rattle.std.proofs.lemmas.Bool.Decides.{nat_tests}
use Rattle.std.proofs.lemmas.List.Sums.{AllPass-from_list_all, list_all-from_AllPass}
use Rattle.httparse.specs.Grammar.{is_ows, is_extension_byte, skip_ows, print_extension, IsExtension, ChunkLine, print_chunk_line, ReadsChunkLine, HasNoChunkLine, NeverHasChunkLine, chunk_size}
use Rattle.httparse.specs.declared.Status.{Status}
use Rattle.httparse.specs.declared.Status.TheVariants.{Complete, Partial}
use Rattle.httparse.specs.Outcome.{IfComplete, OnPartial}
use Rattle.httparse.specs.Spans.{IsChunkLineAt}
use Rattle.http_frames.specs.SizeLine.{digits_in, past_digits, begins_line_feed, ends_text, ends_line, size_in}

-- ---- a line is read

-- the first byte, where there is one, fails the test
abbrev Ends : (ℕ → Bool) → List ℕ → Type 0
Ends test [] = Unit {0}
Ends test (b ∷ bs) = test b ≡ false

and_true : (a b : Bool) → (a && b) ≡ true → (a ≡ true) × (b ≡ true)
and_true true b h = (refl, h)
and_true false b h = absurd (cc)

digits_front : (ds rest : List ℕ) → list_all is_ascii_hexdigit ds ≡ true → Ends is_ascii_hexdigit rest → (digits_in (ds ++ rest) ≡ ds) × (past_digits (ds ++ rest) ≡ rest)
digits_front [] [] all ends = (refl, refl)
digits_front [] (b ∷ bs) all ends = (rw ends refl, rw ends refl)
digits_front (d ∷ ds) rest all ends =
    let two = and_true (is_ascii_hexdigit d) (list_all is_ascii_hexdigit ds) all in
    let others = digits_front ds rest two.1 ends in
    (rw two.0 (ap (λ x. d ∷ x) others.0), rw two.0 others.1)

pad_front : (pad rest : List ℕ) → list_all is_ows pad ≡ true → Ends is_ows rest → skip_ows (pad ++ rest) ≡ rest
pad_front [] [] all ends = refl
pad_front [] (b ∷ bs) all ends = rw ends refl
pad_front (p ∷ pad) rest all ends =
    let two = and_true (is_ows p) (list_all is_ows pad) all in
    rw two.0 (pad_front pad rest two.1 ends)

text_ends : (text rest : List ℕ) → list_all is_extension_byte text ≡ true → ends_text (text ++ 13 ∷ 10 ∷ rest) ≡ true
text_ends [] rest all = refl
text_ends (t ∷ text) rest all =
    let two = and_true (is_extension_byte t) (list_all is_extension_byte text) all in
    let no_cr : eqb t 13 ≡ false = grind (arith, nat_tests) in
    let no_lf : eqb t 10 ≡ false = grind (arith, nat_tests) in
    rw (no_cr, no_lf) (text_ends text rest two.1)

extension_ends : (e : Option (List ℕ)) (rest : List ℕ) → IsExtension e → ends_line (print_extension e ++ 13 ∷ 10 ∷ rest) ≡ true
extension_ends None rest is = refl
extension_ends (Some text) rest is = text_ends text rest (list_all-from_AllPass is_extension_byte text is)

after_pad : (test : ℕ → Bool) → test 59 ≡ false → test 13 ≡ false → (e : Option (List ℕ)) (rest : List ℕ) → Ends test (print_extension e ++ 13 ∷ 10 ∷ rest)
after_pad test semicolon cr None rest = cr
after_pad test semicolon cr (Some x) rest = semicolon

ows_is_no_digit : (b : ℕ) → is_ows b ≡ true → is_ascii_hexdigit b ≡ false
ows_is_no_digit b ows = grind (arith, nat_tests)

after_digits : (pad rest : List ℕ) → list_all is_ows pad ≡ true → Ends is_ascii_hexdigit rest → Ends is_ascii_hexdigit (pad ++ rest)
after_digits [] rest all ends = ends
after_digits (p ∷ pad) rest all ends = ows_is_no_digit p ((and_true (is_ows p) (list_all is_ows pad) all).0)

printed : (l : ChunkLine) (rest : List ℕ) → print_chunk_line l ++ rest ≡ l.digits ++ (l.pad ++ (print_extension l.extension ++ 13 ∷ 10 ∷ rest))
unfolding print_chunk_line
printed l rest = simp append_assoc

size_by : (line ds tail : List ℕ) → digits_in line ≡ ds → skip_ows (past_digits line) ≡ tail → 0 < length ds → length ds ≤ 16 → ends_line tail ≡ true → size_in line ≡ Some (digits_value 16 ds)
unfolding size_in
size_by line ds tail digits tail_is some few ends =
    let one : nat_lt 0 (length ds) ≡ true = grind (arith, nat_tests) in
    let two : nat_le (length ds) 16 ≡ true = grind (arith, nat_tests) in
    rw (digits, tail_is, one, two, ends) refl

pub size_read : (line : List ℕ) (l : ChunkLine) (rest : List ℕ) → ReadsChunkLine line l rest → size_in line ≡ Some (chunk_size l)
size_read line l rest reads =
    let tail = print_extension l.extension ++ 13 ∷ 10 ∷ rest in
    let is : line ≡ l.digits ++ (l.pad ++ tail) = reads.1 ∙ printed l rest in
    let pad = list_all-from_AllPass is_ows l.pad reads.0.pad in
    let front = digits_front l.digits (l.pad ++ tail) (list_all-from_AllPass is_ascii_hexdigit l.digits reads.0.digits.2) (after_digits l.pad tail pad (after_pad is_ascii_hexdigit refl refl l.extension rest)) in
    size_by line l.digits tail (ap digits_in is ∙ front.0) (ap (λ x. skip_ows (past_digits x)) is ∙ ap skip_ows front.1 ∙ pad_front l.pad tail pad (after_pad is_ows refl refl l.extension rest)) reads.0.digits.0 reads.0.digits.1 (extension_ends l.extension rest reads.0.extension)

-- ---- what is read is a line

digits_step : (b : Bool) (x : ℕ) (xs ds ps : List ℕ) → is_ascii_hexdigit x ≡ b → xs ≡ ds ++ ps → list_all is_ascii_hexdigit ds ≡ true → (x ∷ xs ≡ cond b (x ∷ ds) [] ++ cond b ps (x ∷ xs)) × (list_all is_ascii_hexdigit (cond b (x ∷ ds) []) ≡ true)
digits_step true x xs ds ps is same all = (ap (λ t. x ∷ t) same, rw (is, all) refl)
digits_step false x xs ds ps is same all = (refl, refl)

digits_split : (xs : List ℕ) → (xs ≡ digits_in xs ++ past_digits xs) × (list_all is_ascii_hexdigit (digits_in xs) ≡ true)
digits_split [] = (refl, refl)
digits_split (x ∷ xs) =
    let others = digits_split xs in
    digits_step (is_ascii_hexdigit x) x xs (digits_in xs) (past_digits xs) refl others.0 others.1

abbrev HasPad : List ℕ → List ℕ → Type 0
HasPad xs rest = (pad : List ℕ) × (xs ≡ pad ++ rest) × (list_all is_ows pad ≡ true)

pad_step : (b : Bool) (x : ℕ) (xs rest : List ℕ) → is_ows x ≡ b → HasPad xs rest → HasPad (x ∷ xs) (cond b rest (x ∷ xs))
pad_step true x xs rest is h = (x ∷ h.0, ap (λ t. x ∷ t) h.1, rw (is, h.2) refl)
pad_step false x xs rest is h = ([], refl, refl)

pad_split : (xs : List ℕ) → HasPad xs (skip_ows xs)
pad_split [] = ([], refl, refl)
pad_split (x ∷ xs) = pad_step (is_ows x) x xs (skip_ows xs) refl (pad_split xs)

abbrev HasText : List ℕ → Type 0
HasText xs = (text : List ℕ) × (rest : List ℕ) × (xs ≡ text ++ 13 ∷ 10 ∷ rest) × (list_all is_extension_byte text ≡ true)

feed_split : (x : ℕ) (xs : List ℕ) → x ≡ 13 → begins_line_feed xs ≡ true → (rest : List ℕ) × (x ∷ xs ≡ 13 ∷ 10 ∷ rest)
feed_split x [] is h = absurd (cc)
feed_split x (y ∷ ys) is h =
    let feed : y ≡ 10 = grind (arith, nat_tests) in
    (ys, rw (is, feed) refl)

text_step : (cr lf : Bool) (x : ℕ) (xs : List ℕ) → eqb x 13 ≡ cr → eqb x 10 ≡ lf → cond cr (begins_line_feed xs) (cond lf false (ends_text xs)) ≡ true → (ends_text xs ≡ true → HasText xs) → HasText (x ∷ xs)
text_step true lf x xs is_cr is_lf h others =
    let is : x ≡ 13 = grind (arith, nat_tests) in
    let end = feed_split x xs is h in
    ([], end.0, end.1, refl)
text_step false true x xs is_cr is_lf h others = absurd (cc)
text_step false false x xs is_cr is_lf h others =
    let text = others h in
    let one : is_extension_byte x ≡ true = rw (is_cr, is_lf) refl in
    (x ∷ text.0, text.1, ap (λ t. x ∷ t) text.2, rw (one, text.3) refl)

text_split : (xs : List ℕ) → ends_text xs ≡ true → HasText xs
text_split [] h = absurd (cc)
text_split (x ∷ xs) h = text_step (eqb x 13) (eqb x 10) x xs refl refl h (text_split xs)

abbrev HasEnd : List ℕ → Type 0
HasEnd xs = (e : Option (List ℕ)) × (rest : List ℕ) × (xs ≡ print_extension e ++ 13 ∷ 10 ∷ rest) × IsExtension e

end_step : (semi cr : Bool) (x : ℕ) (xs : List ℕ) → eqb x 59 ≡ semi → eqb x 13 ≡ cr → cond semi (ends_text xs) (cond cr (begins_line_feed xs) false) ≡ true → HasEnd (x ∷ xs)
end_step true cr x xs is_semi is_cr h =
    let is : x ≡ 59 = grind (arith, nat_tests) in
    let text = text_split xs h in
    (Some text.0, text.1, ap (λ t. t ∷ xs) is ∙ ap (λ t. 59 ∷ t) text.2, AllPass-from_list_all is_extension_byte text.0 text.3)
end_step false true x xs is_semi is_cr h =
    let is : x ≡ 13 = grind (arith, nat_tests) in
    let end = feed_split x xs is h in
    (None, end.0, end.1, tt)
end_step false false x xs is_semi is_cr h = absurd (cc)

end_split : (xs : List ℕ) → ends_line xs ≡ true → HasEnd xs
end_split [] h = absurd (cc)
end_split (x ∷ xs) h = end_step (eqb x 59) (eqb x 13) x xs refl refl h

line_of : (line : List ℕ) → 0 < length (digits_in line) → length (digits_in line) ≤ 16 → ends_line (skip_ows (past_digits line)) ≡ true → (l : ChunkLine) × (rest : List ℕ) × ReadsChunkLine line l rest
line_of line some few ends =
    let digits = digits_split line in
    let pad = pad_split (past_digits line) in
    let end = end_split (skip_ows (past_digits line)) ends in
    let l : ChunkLine = record { digits = digits_in line; pad = pad.0; extension = end.0 } in
    let is : line ≡ print_chunk_line l ++ end.1 =
    digits.0 ∙ ap (λ x. digits_in line ++ x) (pad.1 ∙ ap (λ x. pad.0 ++ x) end.2) ∙ sym (printed l end.1) in
    (l, end.1, (record { digits = (some, few, AllPass-from_list_all is_ascii_hexdigit (digits_in line) digits.1); pad = AllPass-from_list_all is_ows pad.0 pad.2; extension = end.3 }, is))

refused : (a b c : Bool) (n : ℕ) → (a ≡ true → b ≡ true → c ≡ true → ⊥) → cond (a && b && c) (Some n) None ≡ None
refused true true true n h = absurd (h refl refl refl)
refused true true false n h = refl
refused true false c n h = refl
refused false b c n h = refl

above_zero : (n : ℕ) → nat_lt 0 n ≡ true → 0 < n
above_zero n h = grind (arith, nat_tests)

at_most : (n m : ℕ) → nat_le n m ≡ true → n ≤ m
at_most n m h = grind (arith, nat_tests)

pub no_size : (line : List ℕ) → HasNoChunkLine line → size_in line ≡ None
unfolding size_in
no_size line none =
    refused (nat_lt 0 (length (digits_in line))) (nat_le (length (digits_in line)) 16) (ends_line (skip_ows (past_digits line))) (digits_value 16 (digits_in line))
    (λ a b c. let l = line_of line (above_zero _ a) (at_most _ _ b) c in none l.0 l.1 l.2)

pub never_size : (line : List ℕ) → NeverHasChunkLine line → size_in line ≡ None
never_size line never = no_size line (subst HasNoChunkLine (append-nil line) (never []))

-- ---- what the parser answers

pub size_told : {E : Type 0} (line : List ℕ) (r : Result (Status (ℕ × ℕ)) E) (len size : ℕ) → IfComplete r (λ p. (l : ChunkLine) × IsChunkLineAt line p.0 p.1 l) → r ≡ Ok (Complete (len, size)) → size_in line ≡ Some size
size_told line r len size complete is =
    let at = subst (λ x. IfComplete x (λ p. (l : ChunkLine) × IsChunkLineAt line p.0 p.1 l)) is complete in
    size_read line at.0 _ at.1.reads ∙ ap Some (sym at.1.size_is)

pub none_yet : {E : Type 0} (line : List ℕ) (r : Result (Status (ℕ × ℕ)) E) → OnPartial r (HasNoChunkLine line) → r ≡ Ok Partial → size_in line ≡ None
none_yet line r partial is = no_size line (subst (λ x. OnPartial x (HasNoChunkLine line)) is partial)

pub none_ever : {E : Type 0} (line : List ℕ) (r : Result (Status (ℕ × ℕ)) E) (e : E) → OnErr r (NeverHasChunkLine line) → r ≡ Err e → size_in line ≡ None
none_ever line r e never is = never_size line (subst (λ x. OnErr x (NeverHasChunkLine line)) is never)
