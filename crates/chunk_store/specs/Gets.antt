-- What a store may answer when it is asked for a chunk.
use Rattle.std.specs.Prelude.{◌≡◌, ℕ, ◌<◌, ◌≤◌, List, length, take, Option, Some, None, Result, Ok, Err}
use Rattle.chunk_store.specs.declared.store.GetFault.{GetFault}
use Rattle.chunk_store.specs.declared.store.GetFault.TheVariants as get

-- `get` into a buffer, which then holds `out`, where `held` is held under the id
abbrev pub GetGives : Option (List ℕ) → Result ℕ GetFault → List ℕ → Type 0
GetGives held (Ok n) out = (n ≤ length out) × (held ≡ Some (take n out))
GetGives held (Err get.Missing) out = held ≡ None
GetGives held (Err get.Longer) out = (b : List ℕ) × (held ≡ Some b) × (length out < length b)
GetGives held (Err get.Failed) out = Unit {0}
GetGives held (Err get.Memory) out = Unit {0}
