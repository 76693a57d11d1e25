-- Connections on which nothing has come or gone yet.
use Rattle.std.proofs.Common.{◌≡◌, ℕ, List, [], ◌∷◌, ◌++◌, map, take, drop, Vec, sym, ap, ◌∙◌, refl, append_assoc}
use Rattle.std.proofs.lemmas.List.{take-append-drop}
use Rattle.std.proofs.lemmas.List.Elements.{All-head, All-tail}
use Rattle.std.proofs.lemmas.Grind.{flat_map-append}
use Rattle.std.specs.List.{All}
use Rattle.dsy_base.specs.Links.{IsFreshLink}
use Rattle.link_forms.specs.MemLinks.{bytes_in_pieces, come, to_come, fresh_traffic, link_of, traffic_of}
use Rattle.link_forms.specs.declared.mem_link.MemLink.{MemLink}

come_whole : {Z : Type 0} (ps : List (Vec ℕ Z)) (i at : ℕ) → come ps i at ++ to_come ps i at ≡ bytes_in_pieces ps
come_whole ps i at =
    let rest = bytes_in_pieces (drop i ps) in
    append_assoc (bytes_in_pieces (take i ps)) (take at rest) (drop at rest) ∙ ap (λ b. bytes_in_pieces (take i ps) ++ b) (take-append-drop at rest)
    ∙ sym (flat_map-append (λ p. p.items) (take i ps) (drop i ps)) ∙ ap bytes_in_pieces (take-append-drop i ps)

first_fresh : (l : MemLink) → IsFreshLink (link_of l) → fresh_traffic l ≡ traffic_of l
first_fresh l h =
    let ps = l.pieces.items in
    let all : bytes_in_pieces ps ≡ to_come ps l.piece l.at = sym (come_whole ps l.piece l.at) ∙ ap (λ b. b ++ to_come ps l.piece l.at) h.received in
    let none = sym h.received in
    let unsent = sym h.sent in
    λ i. record { received = none i; coming = all i; sent = unsent i }

-- they are as they were at first
pub all_first : (ls : List MemLink) → All (λ l. IsFreshLink (link_of l)) ls → map fresh_traffic ls ≡ map traffic_of ls
all_first [] h = refl
all_first (l ∷ ls) h =
    let P : MemLink → Type 0 = λ l. IsFreshLink (link_of l) in
    let first = first_fresh l (All-head P l ls h) in
    let others = all_first ls (All-tail P l ls h) in
    λ i. first i ∷ others i
