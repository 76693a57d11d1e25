-- The map that a tree of files holds.
use Rattle.std.specs.Prelude.{ℕ, List, String, Vec}
use Rattle.std.specs.BTreeMap.{BTreeMap, get_by_text}
use Rattle.std.specs.Option.{option_map}
use Rattle.dsy_base.specs.Maps.{Map}

-- the bytes of each file by its name
abbrev pub map_of : {Y Z : Type 0} → BTreeMap (String Y) (Vec ℕ Z) → Map (List ℕ)
map_of files q = option_map (λ v. v.items) (get_by_text files q)
