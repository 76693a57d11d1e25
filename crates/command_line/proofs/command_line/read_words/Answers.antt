use Rattle.std.proofs.Common.{map, string_bytes}
use Rattle.command_line.proofs.Limits.{answer_fits}
use Rattle.command_line.proofs.NoRoom.{no_room}
use Rattle.command_line.proofs.command_line.read_words.Goals as goal

pub returns-clause-room : goal.returns-clause-room
returns-clause-room c = no_room _ _ c.read_line.ensures

pub returns-clause-fits : goal.returns-clause-fits
returns-clause-fits c = answer_fits (map string_bytes c.args.words.now) _ c.read_line.ensures
