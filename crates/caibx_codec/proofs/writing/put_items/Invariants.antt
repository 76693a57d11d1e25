use Rattle.std.proofs.Common.{◌≡◌, ◌-◌, ◌≤◌, ◌++◌, length, take}
use Rattle.std.specs.Option.{option_map}
use Rattle.caibx_codec.specs.Seen.{pairs}
use Rattle.caibx_codec.specs.Spelling.{items}
use Rattle.caibx_codec.proofs.writing.put_items.Given as goal

-- the items before `at` were put
abbrev pub invariant-loop-at : goal.invariant-loop-at
invariant-loop-at g l = record {
  taken : (g.S.Sink.output l.out).taken ≡ option_map (λ t. t ++ items (pairs (take l.at l.entries))) (g.S.Sink.output l.fn.out).taken;
  faults : (g.S.Sink.output l.out).faults ≡ (g.S.Sink.output l.fn.out).faults;
  inside : l.at ≤ length l.entries;
}

abbrev pub decreases-loop-at : goal.decreases-loop-at
decreases-loop-at g l = length l.entries - l.at
