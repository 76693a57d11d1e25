-- What a target in memory or one of its parts holds, and what is left of a target that was split.
use Rattle.std.specs.Prelude.{Some, vec_len}
use Rattle.dsy_base.specs.Bytes.{Held}
use Rattle.dsy_base.specs.Splits.{Left}
use Rattle.byte_forms.specs.declared.mem_target.MemTarget.{MemTarget}

-- what a target in memory holds, or a part of one
abbrev pub target_held : MemTarget → Held
target_held t = record { bytes = Some t.bytes.items; size = vec_len t.bytes; name = t.name }

-- what is left of a target in memory beside its parts
abbrev pub target_left : MemTarget → Left
target_left t = record { size = vec_len t.bytes; name = t.name; faults = t.faults }
