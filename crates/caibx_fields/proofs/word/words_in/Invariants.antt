use Rattle.std.proofs.Common.{◌≡◌, take}
use Rattle.caibx_fields.specs.Words.{words}
use Rattle.caibx_fields.proofs.word.words_in.Given as goal

abbrev pub invariant-loop-number : goal.invariant-loop-number
invariant-loop-number l = l.bytes.items ≡ words (take l.number-index l.numbers)
