use Rattle.std.proofs.Common.{◌≡◌, ℕ, ◌+◌, ◌-◌, drop, length, slice_range, ap, ◌∙◌, arith}
use Rattle.buzhash_cut.proofs.Joins.{if_one}
use Rattle.buzhash_cut.proofs.Pieces.{front_of}
use Rattle.buzhash_cut.proofs.slicer.Slicer.refill.Goals as goal

pub returns-clause-read : goal.returns-clause-read
returns-clause-read g c =
    let n : ℕ = c.in_ok-n.n in
    let at : ℕ = c.args.self.now.at in
    if_one (g.V.View.held c.args.view.now).bytes (λ t. slice_range c.fill.new.piece 0 n ≡ slice_range t at (at + n)) _ c.in_ok-n.ensures.bytes (λ t read far.
    let end : at + n ≡ at + (n - 0) = omega arith in
    record {
      fed = far.fed;
      left = front_of c.fill.new.piece (drop (length c.fill.new.piece) c.args.self.now.piece.items) n c.args.self.now.piece.len (omega (arith, c.in_ok-n.ensures.some)) (omega (arith, c.in_ok-n.ensures.some))
          ∙ read ∙ ap (slice_range t at) end;
      chunk = far.chunk;
    })
