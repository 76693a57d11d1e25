-- What files and folders in slots show, by their names.
use Rattle.std.specs.Prelude.{String}
use Rattle.std.specs.BTreeMap.{BTreeMap}
use Rattle.std.specs.Option.{option_map}
use Rattle.dsy_base.specs.Maps.{Map}
use Rattle.dsy_base.specs.Slots.{held_in}
use Rattle.dsy_base.specs.declared.slots.Slot.{Slot}

-- what is shown of the things in slots
abbrev pub shown_in : {V X Y : Type 0} → (V → X) → BTreeMap (String Y) (Slot V) → Map X
shown_in shows slots q = option_map shows (held_in slots q)
