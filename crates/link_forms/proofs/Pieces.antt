-- Bytes that come in pieces.
use Rattle.std.proofs.Common.{subst, length-drop, ◌≡◌, ℕ, zero, suc, ◌+◌, ◌-◌, ◌<◌, ◌≤◌, List, [], ◌∷◌, ◌++◌, length, get_or, take, drop, Vec, vec_len, Global, Some, IfSome, sym, ap, ◌∙◌, refl, arith, append_assoc, append-nil, add-one}
use Rattle.std.specs.Prelude.{slice_get}
use Rattle.std.specs.List.{AllZip, each_same}
use Rattle.std.proofs.lemmas.List.{drop_more, length-take-le, drop-append-le, take-append-le, drop-drop}
use Rattle.std.proofs.lemmas.Option.{none-some, slice_get_read, get_or_from_slice_get}
use Rattle.std.proofs.Math.Seq.{take-add, drop-append-add, take-append-add}
use Rattle.link_forms.specs.MemLinks.{bytes_in_pieces, come, to_come, link_of, traffic_of}
use Rattle.dsy_base.specs.Links.{LinkState, ReadsNext, received}
use Rattle.link_forms.specs.declared.mem_link.MemLink.{MemLink}

come_passed : {Z : Type 0} (ps : List (Vec ℕ Z)) (i m : ℕ) (p : Vec ℕ Z) → slice_get ps i ≡ Some p → come ps (suc i) m ≡ come ps i (length p.items + m)
come_passed [] i m p h = absurd (none-some p h)
come_passed (x ∷ xs) zero m p h =
    let same : x ≡ p = get_or_from_slice_get (x ∷ xs) 0 p p h in
    ap (λ b. b ++ take m (bytes_in_pieces xs)) (append-nil x.items) ∙ sym (ap (λ q. take (length q.items + m) (x.items ++ bytes_in_pieces xs)) (sym same) ∙ take-append-add x.items (bytes_in_pieces xs) m)
come_passed (x ∷ xs) (suc i) m p h =
    append_assoc x.items (bytes_in_pieces (take (suc i) xs)) (take m (bytes_in_pieces (drop (suc i) xs))) ∙ ap (λ b. x.items ++ b) (come_passed xs i m p h)
    ∙ sym (append_assoc x.items (bytes_in_pieces (take i xs)) (take (length p.items + m) (bytes_in_pieces (drop i xs))))

to_come_passed : {Z : Type 0} (ps : List (Vec ℕ Z)) (i m : ℕ) (p : Vec ℕ Z) → slice_get ps i ≡ Some p → to_come ps (suc i) m ≡ to_come ps i (length p.items + m)
to_come_passed [] i m p h = absurd (none-some p h)
to_come_passed (x ∷ xs) zero m p h =
    let same : x ≡ p = get_or_from_slice_get (x ∷ xs) 0 p p h in
    sym (ap (λ q. drop (length q.items + m) (x.items ++ bytes_in_pieces xs)) (sym same) ∙ drop-append-add x.items (bytes_in_pieces xs) m)
to_come_passed (x ∷ xs) (suc i) m p h = to_come_passed xs i m p h

-- once a piece has come whole, all is the same at the next one
pub passed : {Z : Type 0} (ps : List (Vec ℕ Z)) (i at : ℕ) (p : Vec ℕ Z) → i < length ps → p ≡ get_or ps i p → vec_len p ≤ at → (come ps (i + 1) (at - vec_len p) ≡ come ps i at) × (to_come ps (i + 1) (at - vec_len p) ≡ to_come ps i at)
passed ps i at p h e l =
    let there : slice_get ps i ≡ Some p = slice_get_read ps (length ps) i p refl h e in
    let sum : length p.items + (at - vec_len p) ≡ at = grind arith in (
      ap (λ k. come ps k (at - vec_len p)) (add-one i) ∙ come_passed ps i (at - vec_len p) p there ∙ ap (come ps i) sum,
      ap (λ k. to_come ps k (at - vec_len p)) (add-one i) ∙ to_come_passed ps i (at - vec_len p) p there ∙ ap (to_come ps i) sum,
    )

-- a connection that passes such a piece tells the same
pub link_passed : (l : MemLink) (p : Vec ℕ Global) (n : ℕ) → l.piece < length l.pieces.items → p ≡ get_or l.pieces.items l.piece p → n ≡ vec_len p → n ≤ l.at → link_of (record l { piece = l.piece + 1; at = l.at - n }) ≡ link_of l
link_passed l p n h e s f =
    let g = passed l.pieces.items l.piece l.at p h e (grind arith) in
    ap (λ k. link_of (record l { piece = l.piece + 1; at = l.at - k })) s
    ∙ (λ i. record { traffic = Some (record { received = g.0 i; coming = g.1 i; sent = l.sent.items }); faults = l.faults })

-- a connection from which a part of this piece is read
rest_of_piece : {Z : Type 0} (ps : List (Vec ℕ Z)) (i : ℕ) (p : Vec ℕ Z) → i < length ps → p ≡ get_or ps i p → bytes_in_pieces (drop i ps) ≡ p.items ++ bytes_in_pieces (drop (i + 1) ps)
rest_of_piece ps i p h e = ap bytes_in_pieces (drop_more ps i p h) ∙ ap (λ q. q.items ++ bytes_in_pieces (drop (i + 1) ps)) (sym e)

next_of_piece : {Z : Type 0} (ps : List (Vec ℕ Z)) (i at n : ℕ) (p : Vec ℕ Z) → i < length ps → p ≡ get_or ps i p → at + n ≤ length p.items → take n (to_come ps i at) ≡ take n (drop at p.items)
next_of_piece ps i at n p h e f =
    let more = bytes_in_pieces (drop (i + 1) ps) in
    let first : at ≤ length p.items = omega arith in
    let left : n ≤ length (drop at p.items) = rw length-drop (omega arith) in
    ap (λ b. take n (drop at b)) (rest_of_piece ps i p h e) ∙ ap (take n) (drop-append-le at p.items more first) ∙ take-append-le n (drop at p.items) more left

read_here : (l : MemLink) (p : Vec ℕ Global) (n : ℕ) (b : List ℕ) → l.piece < length l.pieces.items → p ≡ get_or l.pieces.items l.piece p → l.at + n ≤ length p.items → b ≡ take n (drop l.at p.items) → ReadsNext b (link_of l).traffic (link_of (record l { at = l.at + n })).traffic
read_here l p n b h e f g =
    let ps = l.pieces.items in
    let left : n ≤ length (drop l.at p.items) = rw length-drop (omega arith) in
    let size : length b ≡ n = ap length g ∙ length-take-le n (drop l.at p.items) left in
    let rest = bytes_in_pieces (drop l.piece ps) in
    let before = bytes_in_pieces (take l.piece ps) in
    let come_more : come ps l.piece (l.at + n) ≡ come ps l.piece l.at ++ take n (to_come ps l.piece l.at) = ap (λ c. before ++ c) (take-add l.at n rest) ∙ sym (append_assoc before (take l.at rest) (take n (drop l.at rest))) in
    let left_over : to_come ps l.piece (l.at + n) ≡ drop n (to_come ps l.piece l.at) = sym (drop-drop n l.at rest) in
    record {
      next = ap (λ k. take k (to_come ps l.piece l.at)) size ∙ next_of_piece ps l.piece l.at n p h e f ∙ sym g;
      received = (λ i. Some (record { received = come_more i; coming = left_over i; sent = l.sent.items })) ∙ ap (λ k. Some (received k (traffic_of l))) (sym size);
    }

pub reads_next : (k l : MemLink) (p : Vec ℕ Global) (n : ℕ) (b : List ℕ) → link_of l ≡ link_of k → l.piece < length l.pieces.items → p ≡ get_or l.pieces.items l.piece p → l.at + n ≤ length p.items → b ≡ take n (drop l.at p.items) → ReadsNext b (link_of k).traffic (link_of (record l { at = l.at + n })).traffic
reads_next k l p n b same h e f g =
    let P : LinkState → Type 0 = λ s. ReadsNext b s.traffic (link_of (record l { at = l.at + n })).traffic in
    subst P same (read_here l p n b h e f g)

-- what holds of the piece that stands there
pub piece_left : {Z : Type 0} (ps : List (Vec ℕ Z)) (i at : ℕ) (p : Vec ℕ Z) → i < length ps → p ≡ get_or ps i p → IfSome (slice_get ps i) (λ q. at < vec_len q) → at < vec_len p
piece_left ps i at p h e g =
    let there : slice_get ps i ≡ Some p = slice_get_read ps (length ps) i p refl h e in
    rw there at g

-- copies of pieces have the same bytes
pub copied_bytes : {Z : Type 0} (ps qs : List (Vec ℕ Z)) → AllZip (λ v w. AllZip (λ x y. y ≡ x) v.items w.items × (vec_len w ≡ vec_len v)) ps qs → bytes_in_pieces qs ≡ bytes_in_pieces ps
copied_bytes [] [] h = refl
copied_bytes [] (q ∷ qs) h = absurd h
copied_bytes (p ∷ ps) [] h = absurd h
copied_bytes (p ∷ ps) (q ∷ qs) h = λ i. each_same p.items q.items h.0.0 i ++ copied_bytes ps qs h.1 i
