use Rattle.std.proofs.Common.{◌≡◌, ◌++◌, map, string_bytes}
use Rattle.std.specs.BTreeMap.{keys}
use Rattle.std.specs.List.{filter}
use Rattle.dsy_base.specs.Maps.{is_listed}
use Rattle.dsy_forms.proofs.named_files.shallow_keys.Given as goal

-- the names so far, and those of the keys that are left
abbrev pub invariant-loop-key : goal.invariant-loop-key
invariant-loop-key l = l.names.items ++ filter is_listed (map string_bytes l.key-iterator) ≡ filter is_listed (map string_bytes (keys l.files))
