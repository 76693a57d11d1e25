-- What is found of chunk files ahead. `told` are the files of their folder, where they are told.
use Rattle.std.specs.Prelude.{◌≡◌, ℕ, Bool, All, List, [], map, slice_index_or, Option, IfSome}
use Rattle.chunk_store.specs.declared.id.ChunkId.{ChunkId}
use Rattle.chunk_store.specs.declared.id.DigestKind.{DigestKind}
use Rattle.dsy_base.specs.Maps.{Map}
use Rattle.store_check.specs.Verifying.{is_damaged}
use Rattle.store_check.specs.declared.verdicts.Verdict.{Verdict}
use Rattle.store_check.specs.declared.verdicts.Verdicts.{Verdicts}

-- the verdict on an item
abbrev pub verdict : ℕ → Bool → Verdict
verdict item damaged = record { item = item; damaged = damaged }

-- the id of an item
abbrev pub id_at : List ChunkId → ℕ → List ℕ
id_at ids i = slice_index_or (map (λ id. id.0) ids) i []

-- the verdict is what the item's file is
abbrev pub IsVerdict : DigestKind → Option (Map (List ℕ)) → List ChunkId → Verdict → Type 0
IsVerdict kind told ids v = IfSome told (λ m. v.damaged ≡ is_damaged kind m (id_at ids v.item))

-- all verdicts of the room are
abbrev pub AreVerdicts : DigestKind → Option (Map (List ℕ)) → List ChunkId → Verdicts → Type 0
AreVerdicts kind told ids room = All (IsVerdict kind told ids) room.list.items
