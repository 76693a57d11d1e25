use Rattle.std.proofs.Common.{◌≡◌, ◌-◌, ◌≤◌, length, take, Some}
use Rattle.std.specs.Prelude.{IfSome, IsSome}
use Rattle.caibx_codec.proofs.reading.feed_front.Given as goal

-- the reader was fed the view's first bytes
abbrev pub invariant-loop-at : goal.invariant-loop-at
invariant-loop-at g l = record {
  fed : IfSome (g.V.View.held l.fn.v).bytes (λ t. l.reader ≡ Some (take l.at t));
  fresh : IsSome l.reader;
  size : IfSome l.reader (λ b. length b ≤ 167772264);
  kept : g.V.View.held l.v ≡ g.V.View.held l.fn.v;
  faults : g.V.View.faults l.v ≡ g.V.View.faults l.fn.v;
  inside : l.at ≤ l.end;
}

abbrev pub decreases-loop-at : goal.decreases-loop-at
decreases-loop-at g l = l.end - l.at
