-- Words whose URL finds no room.
use Rattle.std.proofs.Common.{◌≡◌, Result, Ok, Err, refl}
use Rattle.command_line.specs.Judging.{AnswersBy}
use Rattle.command_words.specs.declared.command.Command.{Command}
use Rattle.command_words.specs.declared.usage.WordsFault.{WordsFault}
use Rattle.command_words.specs.declared.usage.WordsFault.TheVariants as fault

pub no_room : (expected result : Result Command WordsFault) → AnswersBy {T = Command} {U = Command} (λ c. c) expected result → expected ≡ Err fault.Memory → result ≡ Err fault.Memory
no_room expected (Ok c) h e = cc
no_room expected (Err (fault.Usage place why)) h e = cc
no_room expected (Err fault.Memory) h e = refl
