-- What pruning a folder store removes. m are the folder's files by their names, `keeps` says of an id whether its chunk
-- stays.
use Rattle.std.specs.Prelude.{◌≡◌, ◌⊎◌, ℕ, ◌≤◌, Bool, not, cond, map, ◌&&◌, ◌||◌, false, List, length, take, Option}
use Rattle.std.specs.Prelude.{Some, None, IfSome}
use Rattle.std.specs.BTreeSet.{BTreeSet}
use Rattle.std.specs.List.{list_any}
use Rattle.std.specs.Option.{option_map}
use Rattle.std.specs.Set.{is_member}
use Rattle.std.specs.Str.{bytes_eq}
use Rattle.caibx_codec.specs.Listing.{Listing}
use Rattle.chunk_store.specs.declared.id.ChunkId.{ChunkId}
use Rattle.dir_store.specs.Lists.{IsNamesWhere}
use Rattle.dir_store.specs.Names.{id_at_path, is_temporary}
use Rattle.dsy_base.specs.Maps.{Map, is_listed}
use Rattle.verify_tool.specs.Texts.{ids_of}

-- whether the id is in the set
abbrev pub has_id : BTreeSet ChunkId → List ℕ → Bool
has_id set id = is_member bytes_eq (map (λ k. k.0) set.keys) id

-- whether one of the indexes lists the id
abbrev pub is_listed_in : List Listing → List ℕ → Bool
is_listed_in ls id = list_any (λ l. is_member bytes_eq (ids_of l) id) ls

-- whether there is an id, and its chunk doesn't stay
abbrev pub is_unkept : (List ℕ → Bool) → Option (List ℕ) → Bool
is_unkept keeps None = false
is_unkept keeps (Some id) = not (keeps id)

-- the file of this name goes: a temporary one, or that of a chunk that isn't kept
abbrev pub is_victim : (List ℕ → Bool) → List ℕ → Bool
is_victim keeps q = is_temporary q || is_unkept keeps (id_at_path q)

-- the files without all that go. What a folder doesn't list stays
abbrev pub pruned : (List ℕ → Bool) → Map (List ℕ) → Map (List ℕ)
pruned keeps m q = cond (is_victim keeps q && is_listed q) None (m q)

-- the files without those of these names
abbrev pub without : List (List ℕ) → Map (List ℕ) → Map (List ℕ)
without names m q = cond (is_member bytes_eq names q) None (m q)

-- n is the number of files that go
abbrev pub CountsVictims : (List ℕ → Bool) → ℕ → Map (List ℕ) → Type 0
CountsVictims keeps n m = (names : List (List ℕ)) × IsNamesWhere (is_victim keeps) m names × (n ≡ length names)

-- a front of these names' files has gone, and nothing else
abbrev pub RemovesFront : List (List ℕ) → Option (Map (List ℕ)) → Option (Map (List ℕ)) → Type 0
RemovesFront names old new = (k : ℕ) × (k ≤ length names) × (new ≡ option_map (without (take k names)) old)

-- what a refusal leaves: all files, or those without a front of the files that go, in the order of their names
abbrev pub StopsPruning : (List ℕ → Bool) → Option (Map (List ℕ)) → Option (Map (List ℕ)) → Type 0
StopsPruning keeps old new = (new ≡ old) ⊎ ((names : List (List ℕ))
    × IfSome old (λ m. IsNamesWhere (is_victim keeps) m names) × RemovesFront names old new)

-- each file stays that doesn't go: the chunks that are kept, and all that is no chunk's and no temporary
abbrev pub KeepsRest : (List ℕ → Bool) → Option (Map (List ℕ)) → Option (Map (List ℕ)) → Type 0
KeepsRest keeps old new = IfSome old (λ m. IfSome new (λ n. (q : List ℕ) → is_victim keeps q ≡ false → n q ≡ m q))
