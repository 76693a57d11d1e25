-- What bytes in memory hold whose calls never fail, and what is left of a target that was split.
use Rattle.std.specs.Prelude.{Some, vec_len}
use Rattle.dsy_base.specs.Bytes.{Held}
use Rattle.dsy_base.specs.Splits.{Left}
use Rattle.dsy_sure.specs.declared.sure_bytes.SureBytes.{SureBytes}

-- what a view, a target or a part that never fails holds
abbrev pub target_held : SureBytes → Held
target_held t = record { bytes = Some t.bytes.items; size = vec_len t.bytes; name = t.name }

-- what is left of a target that never fails beside its parts
abbrev pub target_left : SureBytes → Left
target_left t = record { size = vec_len t.bytes; name = t.name; faults = 0 }
