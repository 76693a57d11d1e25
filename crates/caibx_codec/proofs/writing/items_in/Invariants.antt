use Rattle.std.proofs.Common.{◌≡◌, take}
use Rattle.caibx_codec.specs.Seen.{pairs}
use Rattle.caibx_codec.specs.Spelling.{items}
use Rattle.caibx_codec.proofs.writing.items_in.Given as goal

abbrev pub invariant-loop-entry : goal.invariant-loop-entry
invariant-loop-entry l = l.bytes.items ≡ items (pairs (take l.entry-index l.entries))
