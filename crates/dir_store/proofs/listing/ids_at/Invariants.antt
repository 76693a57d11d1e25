use Rattle.std.proofs.Common.{◌≡◌, map, take}
use Rattle.std.specs.List.{filter_map}
use Rattle.dir_store.specs.Names.{id_at_path}
use Rattle.dir_store.proofs.listing.ids_at.Given as goal

-- the ids so far
abbrev pub invariant-loop-name : goal.invariant-loop-name
invariant-loop-name l = map (λ id. id.0) l.ids.items ≡ filter_map id_at_path (take l.name-index l.names.items)
