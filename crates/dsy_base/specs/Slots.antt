-- Slots by name: what stands in each, and how often calls on its name have failed.
use Rattle.std.specs.Prelude.{ℕ, String}
use Rattle.std.specs.BTreeMap.{BTreeMap, get_by_text}
use Rattle.std.specs.Option.{option_map, option_and_then}
use Rattle.dsy_base.specs.declared.slots.Slot.{Slot}
use Rattle.dsy_base.specs.Maps.{Map}

-- what stands under each name
abbrev pub held_in : {V Y : Type 0} → BTreeMap (String Y) (Slot V) → Map V
held_in slots q = option_and_then (λ s. s.held) (get_by_text slots q)

-- the number of each name
abbrev pub counts_in : {V Y : Type 0} → BTreeMap (String Y) (Slot V) → Map ℕ
counts_in slots q = option_map (λ s. s.faults) (get_by_text slots q)
