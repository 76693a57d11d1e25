use Rattle.std.proofs.Common.{◌≡◌, ℕ, List, length}
use Rattle.image_reader.proofs.Covering.{IsAt}
use Rattle.image_reader.proofs.Fronts.{IsFront}
use Rattle.image_reader.proofs.reading.read_range.Given as goal
use Rattle.image_reader.specs.Images.{IsRightInRange}
use Rattle.image_reader.specs.Reading.{ReadsTo, reader_state}

abbrev pub invariant-loop-i : goal.invariant-loop-i
invariant-loop-i g l =
    let n = length l.initial.out in
    record {
      stands : IsAt l.index l.at n l.i l.done;
      reads : ReadsTo g.S.Store l.at n l.i (reader_state l.index l.initial.chain l.initial.kept) (reader_state l.index l.chain l.kept);
      front : (t : List ℕ) → IsRightInRange t l.index l.at n → IsFront l.index l.at n l.done t l.out;
      kinds : l.kept.kind ≡ l.initial.kept.kind;
    }
