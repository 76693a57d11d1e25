use Rattle.std.proofs.Common.{arith, ◌∙◌}
use Rattle.verify_tool.proofs.Sending.{put_gives, stops_in_put, stops_after_put, goes_on, ends}
use Rattle.verify_tool.proofs.list.list_chunks.Goals as goal

pub returns-in-Err-clause-bytes : goal.returns-in-Err-clause-bytes
returns-in-Err-clause-bytes g c =
    stops_in_put c.args.index.now.entries c.loop-i.i (g.S.Sink.output c.args.out.now).taken (g.S.Sink.output c.loop-i.out).taken (g.S.Sink.output c.put_full.new.out).taken c.loop-i.block.items c.loop-i.invariant.sent c.in-Err.ensures.bytes

pub returns-in-Err-push_line-clause-bytes : goal.returns-in-Err-push_line-clause-bytes
returns-in-Err-push_line-clause-bytes g c =
    stops_after_put c.args.index.now.entries c.loop-i.i (g.S.Sink.output c.args.out.now).taken (g.S.Sink.output c.loop-i.out).taken (g.S.Sink.output c.put_full.new.out).taken c.loop-i.block.items c.loop-i.invariant.sent c.put_full.new.block.items c.in-Ok.ensures.bytes

pub loop-i-preserved : goal.loop-i-preserved
loop-i-preserved g c = record {
  sent = goes_on c.args.index.now.entries c.loop-i.i (g.S.Sink.output c.args.out.now).taken (g.S.Sink.output c.loop-i.out).taken (g.S.Sink.output c.put_full.new.out).taken c.loop-i.block.items c.loop-i.invariant.sent c.put_full.new.block.items c.push_line.new.block.items c.id.result.0
      (omega (arith, c.loop-i-test.true, c.count-i-end.ensures)) c.in-Ok.ensures.bytes c.in-Ok-push_line.ensures.ok c.id.ensures;
  faults = c.in-Ok.ensures.faults.done ∙ c.loop-i.invariant.faults;
}

pub returns-clause-bytes : goal.returns-clause-bytes
returns-clause-bytes g c =
    let put = put_gives c.loop-i.block.items (g.S.Sink.output c.loop-i.out).taken (g.S.Sink.output c.put.new.self).taken c.put.result (rw c.deref.ensures.value at c.put.ensures.ok) (rw c.deref.ensures.value at c.put.ensures.err) c.put.ensures.kept in
    ends c.args.index.now.entries c.loop-i.i (g.S.Sink.output c.args.out.now).taken (g.S.Sink.output c.loop-i.out).taken (g.S.Sink.output c.put.new.self).taken c.loop-i.block.items c.loop-i.invariant.sent c.put.result
    (omega (arith, c.loop-i-test.false, c.count-i-end.ensures)) put
