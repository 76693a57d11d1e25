-- What bytes in memory hold whose parts wait for one another, and what is left of such a target that was split.
use Rattle.std.specs.Prelude.{Some, [], vec_len}
use Rattle.dsy_base.specs.Bytes.{Held}
use Rattle.dsy_base.specs.Splits.{Left}
use Rattle.worker_cases.specs.declared.meeting.Met.{Met}

-- what a target or a part holds
abbrev pub meeting_held : Met → Held
meeting_held t = record { bytes = Some t.bytes.items; size = vec_len t.bytes; name = [] }

-- what is left of a target beside its parts
abbrev pub meeting_left : Met → Left
meeting_left t = record { size = vec_len t.bytes; name = []; faults = 0 }
