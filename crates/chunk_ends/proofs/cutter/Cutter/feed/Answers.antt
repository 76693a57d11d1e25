use Rattle.std.proofs.Common.{◌≡◌, ℕ, ◌+◌, ◌-◌, List, ◌++◌, length, drop, ap, ◌∙◌}
use Rattle.chunk_ends.proofs.Feeds.{fed_whole, fed_end, cut_there}
use Rattle.chunk_ends.specs.Cuts.{window_of}
use Rattle.chunk_ends.specs.Feeding.{CutterKept}
use Rattle.circular_buffer.specs.Buffer.{Buffer}
use Rattle.chunk_ends.proofs.cutter.Cutter.feed.Goals as goal

pub returns-in-Some-clause-cut : goal.returns-in-Some-clause-cut
returns-in-Some-clause-cut c = λ image more fed.
    cut_there c.args.self.now image fed c.args.piece.now more c.in-Some.n _ (c.in-Some.ensures.end image fed) (ap (λ (k : CutterKept). k.at + c.in-Some.n) c.self.view_is)

pub returns-in-Some-clause-fed : goal.returns-in-Some-clause-fed
returns-in-Some-clause-fed c = λ image fed.
    let at = ap (λ (k : CutterKept). k.at + c.in-Some.n) c.self.view_is in
    fed_end c.args.self.now image fed c.args.piece.now c.in-Some.n _ (c.in-Some.ensures.end image fed) (ap (λ (k : CutterKept). k.sizes) c.self.view_is) at at (ap (λ (b : Buffer ℕ). b.items) c.clear.ensures)

pub returns-in-None-clause-fed : goal.returns-in-None-clause-fed
returns-in-None-clause-fed c = λ image fed.
    let all : List ℕ = c.self.inside.last.items ++ c.args.piece.now in
    let room : c.self.inside.last.capacity ≡ 48 = c.self.invariant.3 in
    let last : c.extend_from_slice.new.self.items ≡ window_of (c.args.self.now.last ++ c.args.piece.now) =
    ap (λ (b : Buffer ℕ). b.items) c.extend_from_slice.ensures ∙ ap (λ (n : ℕ). drop (length all - n) all) room
    ∙ ap (λ (k : CutterKept). window_of (k.last ++ c.args.piece.now)) c.self.view_is in
    fed_whole c.args.self.now image fed c.args.piece.now _ (c.in-None.ensures.end image fed)
    (ap (λ (k : CutterKept). k.sizes) c.self.view_is) (ap (λ (k : CutterKept). k.at + length c.args.piece.now) c.self.view_is) (ap (λ (k : CutterKept). k.begun) c.self.view_is) last
