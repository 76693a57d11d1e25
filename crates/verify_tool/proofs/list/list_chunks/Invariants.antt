use Rattle.std.proofs.Common.{◌≡◌, take}
use Rattle.std.specs.List.{flat_map}
use Rattle.verify_tool.specs.Blocks.{PutsAllBut}
use Rattle.verify_tool.specs.Texts.{id_line}
use Rattle.verify_tool.proofs.list.list_chunks.Given as goal

abbrev pub invariant-loop-i : goal.invariant-loop-i
invariant-loop-i g l = record {
  sent : PutsAllBut (flat_map id_line (take l.i l.index.entries)) (g.S.Sink.output l.fn.out).taken (g.S.Sink.output l.out).taken l.block.items;
  faults : (g.S.Sink.output l.out).faults ≡ (g.S.Sink.output l.fn.out).faults;
}
