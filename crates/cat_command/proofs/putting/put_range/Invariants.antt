use Rattle.std.proofs.Common.{◌≡◌, ◌<◌}
use Rattle.cat_command.proofs.putting.put_range.Given as goal
use Rattle.cat_command.specs.Putting.{PutsText, bytes_before}
use Rattle.image_reader.proofs.Covering.{IsAt}
use Rattle.image_reader.specs.Reading.{ReadsTo}

abbrev pub invariant-loop-i : goal.invariant-loop-i
invariant-loop-i g l =
    let index = l.initial.reader.index in
    record {
      stands : IsAt index l.range.at l.range.size l.i l.done;
      exact : l.done < l.range.size → l.done ≡ bytes_before index l.range.at l.i;
      reads : ReadsTo g.S.Store l.range.at l.range.size l.i l.initial.reader l.reader;
      puts : PutsText index l.range.at l.done (g.O.Sink.output l.initial.out).taken (g.O.Sink.output l.out).taken;
      faults : (g.O.Sink.output l.out).faults ≡ (g.O.Sink.output l.initial.out).faults;
    }
