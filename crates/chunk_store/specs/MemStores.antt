-- What a store in memory holds.
use Rattle.std.specs.Prelude.{ℕ, List, Vec}
use Rattle.std.specs.BTreeMap.{BTreeMap, get_by}
use Rattle.std.specs.Cmp.Lexicographic.{slice_cmp}
use Rattle.std.specs.Option.{option_map}
use Rattle.std.specs.Ordering.{nat_cmp}
use Rattle.chunk_store.specs.declared.id.ChunkId.{ChunkId}
use Rattle.dsy_base.specs.Maps.{Map}

-- the bytes under each id
abbrev pub bytes_by_id : {Z : Type 0} → BTreeMap ChunkId (Vec ℕ Z) → Map (List ℕ)
bytes_by_id chunks id = option_map (λ v. v.items) (get_by (λ k. slice_cmp nat_cmp id k.0) chunks)
