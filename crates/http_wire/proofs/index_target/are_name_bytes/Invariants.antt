use Rattle.std.proofs.Common.{◌≡◌, drop}
use Rattle.std.specs.List.{list_all}
use Rattle.http_wire.specs.IndexTarget.{is_name_byte}
use Rattle.http_wire.proofs.index_target.are_name_bytes.Given as goal

-- all bytes so far may stand in a name
abbrev pub invariant-loop-byte : goal.invariant-loop-byte
invariant-loop-byte l = list_all is_name_byte l.bytes ≡ list_all is_name_byte (drop l.byte-index l.bytes)
