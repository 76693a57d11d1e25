use Rattle.std.proofs.Common.{◌≡◌, ℕ, ◌+◌, List, ◌++◌, length, take, min, ap, ◌∙◌, arith}
use Rattle.std.proofs.lemmas.List.{take_min}
use Rattle.chunk_ends.proofs.seam.put_seam.Goals as goal

-- the two halves of the ring and the piece, one after the other
pub returns-clause-put : goal.returns-clause-put
returns-clause-put c =
    let start : length c.as_slices.result.0.now ≡ 0 + length c.as_slices.result.0.now = omega arith in
    let few : c.min.result ≡ min 48 (length c.args.piece.now) = omega arith in
    let more : take c.min.result c.args.piece.now ≡ take 48 c.args.piece.now = ap (λ (n : ℕ). take n c.args.piece.now) few ∙ take_min 48 c.args.piece.now in
    let first : take (length c.as_slices.result.0.now) c.put.new.out ≡ c.as_slices.result.0.now = ap (λ (n : ℕ). take n c.put.new.out) start ∙ c.put.ensures.put in
    let kept = c.put-2.ensures.put ∙ ap (λ (x : List ℕ). x ++ c.as_slices.result.1.now) first ∙ c.as_slices.ensures in
    c.put-3.ensures.put ∙ ap (λ (x : List ℕ). x ++ take c.min.result c.args.piece.now) kept ∙ ap (λ (x : List ℕ). c.args.last.now.items ++ x) more
