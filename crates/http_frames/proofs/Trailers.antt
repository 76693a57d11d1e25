-- The lines after the last chunk are read.
use Rattle.std.proofs.Common.{◌≡◌, ◌≢◌, ℕ, ◌+◌, ◌<◌, false, cond, eqb, nat_le, List, [], ◌∷◌, ◌++◌, length, Ok, refl, sym, ap, ◌∙◌, arith, append_assoc}
use Rattle.std.specs.List.{flat_map}
use Rattle.std.proofs.lemmas.Bool.Decides.{nat_tests}
use Rattle.std.proofs.lemmas.List.{length-append}
use Rattle.http_frames.specs.declared.progress.Next.{Next}
use Rattle.http_frames.specs.declared.progress.Next.TheVariants as next
use Rattle.http_frames.specs.Body.{trailer_limit, Reading, push_to_body, push_at, trailed, reads_body, ◌>>=◌}
use Rattle.http_frames.specs.Spelling.{HasNoFeed, IsTrailerLine, AreTrailerLines, print_line, trailer, IsTrailer}
use Rattle.http_frames.proofs.Runs.{reads-append, reads_one, reads_none}

-- what was read, after this many bytes of the trailer
abbrev came : Reading → Next → ℕ → Reading
came r n count = record r { next = n; trailer = count }

fits : (after : Next) (r : Reading) → r.trailer + 1 < trailer_limit → trailed after r ≡ Ok (came r after (r.trailer + 1))
unfolding trailed
fits after r few =
    let test : nat_le trailer_limit (r.trailer + 1) ≡ false = grind (arith, nat_tests) in
    rw test refl

begins : (room : ℕ) (r : Reading) (b : ℕ) → r.next ≡ next.Trailer → b ≢ 10 → b ≢ 13 → r.trailer + 1 < trailer_limit → push_to_body room r b ≡ Ok (came r next.TrailerLine (r.trailer + 1))
unfolding push_at
begins room r b is feed return few =
    let one : eqb b 10 ≡ false = grind (arith, nat_tests) in
    let two : eqb b 13 ≡ false = grind (arith, nat_tests) in
    ap (λ n. push_at n room r b) is
    ∙ ap (λ t. cond t (Ok (record r { next = next.Whole })) (trailed (cond (eqb b 13) next.TrailerCr next.TrailerLine) r)) one
    ∙ ap (λ t. trailed (cond t next.TrailerCr next.TrailerLine) r) two
    ∙ fits next.TrailerLine r few

goes_on : (room : ℕ) (r : Reading) (b : ℕ) → r.next ≡ next.TrailerLine → b ≢ 10 → r.trailer + 1 < trailer_limit → push_to_body room r b ≡ Ok (came r next.TrailerLine (r.trailer + 1))
unfolding push_at
goes_on room r b is feed few =
    let one : eqb b 10 ≡ false = grind (arith, nat_tests) in
    ap (λ n. push_at n room r b) is ∙ ap (λ t. trailed (cond t next.Trailer next.TrailerLine) r) one ∙ fits next.TrailerLine r few

ends : (room : ℕ) (r : Reading) → r.next ≡ next.TrailerLine → r.trailer + 1 < trailer_limit → push_to_body room r 10 ≡ Ok (came r next.Trailer (r.trailer + 1))
unfolding push_at
ends room r is few = ap (λ n. push_at n room r 10) is ∙ fits next.Trailer r few

run : (room : ℕ) (r : Reading) (xs : List ℕ) → r.next ≡ next.TrailerLine → HasNoFeed xs → r.trailer + length xs < trailer_limit → reads_body room r xs ≡ Ok (came r next.TrailerLine (r.trailer + length xs))
run room r [] is clear few =
    reads_none room r ∙ ap (λ n. Ok (came r n r.trailer)) is ∙ ap (λ t. Ok (came r next.TrailerLine t)) (omega arith)
run room r (x ∷ xs) is clear few =
    let more = came r next.TrailerLine (r.trailer + 1) in
    reads_one room r x xs ∙ ap (λ a. a >>= λ s. reads_body room s xs) (goes_on room r x is clear.0 (omega arith))
    ∙ run room more xs refl clear.1 (omega arith)
    ∙ ap (λ t. Ok (came r next.TrailerLine t)) (omega arith)

no_feed_more : (xs : List ℕ) → HasNoFeed xs → HasNoFeed (xs ++ 13 ∷ [])
no_feed_more [] clear = ((λ e. absurd (omega (arith, e))), tt)
no_feed_more (x ∷ xs) clear = (clear.0, no_feed_more xs clear.1)

line_read : (room : ℕ) (r : Reading) (l rest : List ℕ) → r.next ≡ next.Trailer → IsTrailerLine l → r.trailer + length (print_line l) < trailer_limit → reads_body room r (print_line l ++ rest) ≡ reads_body room (came r next.Trailer (r.trailer + length (print_line l))) rest
line_read room r [] rest is line few = absurd line
line_read room r (b ∷ bs) rest is line few =
    let text = bs ++ 13 ∷ [] in
    let long = length-append bs (13 ∷ 10 ∷ []) in
    let short = length-append bs (13 ∷ []) in
    let one = came r next.TrailerLine (r.trailer + 1) in
    let two = came r next.TrailerLine (r.trailer + 1 + length text) in
    ap (λ t. reads_body room r (b ∷ t)) (append_assoc bs (13 ∷ 10 ∷ []) rest ∙ sym (append_assoc bs (13 ∷ []) (10 ∷ rest)))
    ∙ reads_one room r b (text ++ 10 ∷ rest)
    ∙ ap (λ a. a >>= λ s. reads_body room s (text ++ 10 ∷ rest)) (begins room r b is line.1.0 line.0 (omega (arith, few)))
    ∙ reads-append room one text (10 ∷ rest)
    ∙ ap (λ a. a >>= λ s. reads_body room s (10 ∷ rest)) (run room one text refl (no_feed_more bs line.1.1) (omega (arith, few, long, short)))
    ∙ reads_one room two 10 rest
    ∙ ap (λ a. a >>= λ s. reads_body room s rest) (ends room two refl (omega (arith, few, long, short)))
    ∙ ap (λ t. reads_body room (came r next.Trailer t) rest) (omega (arith, long, short))

lines_read : (room : ℕ) (r : Reading) (ls : List (List ℕ)) (rest : List ℕ) → r.next ≡ next.Trailer → AreTrailerLines ls → r.trailer + length (flat_map print_line ls) < trailer_limit → reads_body room r (flat_map print_line ls ++ rest) ≡ reads_body room (came r next.Trailer (r.trailer + length (flat_map print_line ls))) rest
lines_read room r [] rest is are few =
    ap (λ n. reads_body room (came r n r.trailer) rest) is ∙ ap (λ t. reads_body room (came r next.Trailer t) rest) (omega arith)
lines_read room r (l ∷ ls) rest is are few =
    let long = length-append (print_line l) (flat_map print_line ls) in
    ap (reads_body room r) (append_assoc (print_line l) (flat_map print_line ls) rest)
    ∙ line_read room r l (flat_map print_line ls ++ rest) is are.0 (omega (arith, few, long))
    ∙ lines_read room (came r next.Trailer (r.trailer + length (print_line l))) ls rest refl are.1 (omega (arith, few, long))
    ∙ ap (λ t. reads_body room (came r next.Trailer t) rest) (omega (arith, long))

end_read : (room : ℕ) (r : Reading) → r.next ≡ next.Trailer → r.trailer + 1 < trailer_limit → reads_body room r (13 ∷ 10 ∷ []) ≡ Ok (came r next.Whole (r.trailer + 1))
unfolding push_at reads_body
end_read room r is few =
    ap (λ n. push_at n room r 13 >>= λ s. reads_body room s (10 ∷ [])) is ∙ ap (λ a. a >>= λ s. reads_body room s (10 ∷ [])) (fits next.TrailerCr r few)

-- the whole trailer is read, and nothing but what comes next and how many bytes of it there were has changed
pub trailer_read : (room : ℕ) (r : Reading) (ls : List (List ℕ)) → r.next ≡ next.Trailer → r.trailer ≡ 0 → IsTrailer ls → reads_body room r (trailer ls) ≡ Ok (record r { next = next.Whole; trailer = r.trailer + length (flat_map print_line ls) + 1 })
trailer_read room r ls is none right =
    let long = length-append (flat_map print_line ls) (13 ∷ 10 ∷ []) in
    lines_read room r ls (13 ∷ 10 ∷ []) is right.lines (omega (arith, none, long, right.short))
    ∙ end_read room (came r next.Trailer (r.trailer + length (flat_map print_line ls))) refl (omega (arith, none, long, right.short))
