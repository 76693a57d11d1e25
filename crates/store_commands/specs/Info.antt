-- `info -s STORE.. -e RETRIES INDEX`, over groups of stores.
use Rattle.std.specs.Prelude.{◌≡◌, ◌⊎◌, ℕ, ◌<◌, ◌≤◌, if◌then◌else◌, Bool, List, length}
use Rattle.std.specs.Prelude.{map, Option, Some, None, IfSome, Result, Ok, Err}
use Rattle.caibx_codec.specs.Asks.{IsListedHas}
use Rattle.caibx_codec.specs.Listing.{Listing, count_of, id_of}
use Rattle.chunk_store.specs.Folders.{chunks}
use Rattle.command_outcome.specs.declared.outcome.Outcome.{Outcome}
use Rattle.command_outcome.specs.declared.outcome.Outcome.TheVariants as ends
use Rattle.command_groups.specs.Asking.{GroupsAsked}
use Rattle.command_groups.specs.Groups.{group_files, stores_of}
use Rattle.command_groups.specs.Lacking.{FailsFirstIn, group_said}
use Rattle.command_words.specs.declared.command.Location.{Location}
use Rattle.dsy_base.specs.Maps.{Map}
use Rattle.verify_tool.specs.Counts.{DeniesOthers, held_count, is_listed_before}
use Rattle.verify_tool.specs.Texts.{text_of_info, unique_count}
use Rattle.command_indexes.specs.Gets.{IndexGot}
use Rattle.command_worlds.specs.Printing.{Printed}
use Rattle.command_worlds.specs.Steps.{◌>>=◌}
use Rattle.command_steps.specs.Sources.{AllThere, ConsultsStores, FirstUnreached, OnStorage, Storage}
use Rattle.command_worlds.specs.Worlds.{OnOut, Step, World}

-- all stores of a group failed when the groups were asked whether they have a listed chunk: the group is the first of
-- those that don't deny it, and its first store is named
abbrev pub NotAsked : ℕ → Storage → Storage → List (List Location) → Listing → Outcome → Type 0
NotAsked e w v groups l (ends.StoreFault s) = AllThere w.disk (stores_of groups)
    × ((k : ℕ) × (k < count_of l) × FailsFirstIn (λ x. x.denied (id_of l k)) e w v s groups)
NotAsked e w v groups l ends.Memory = Unit {0}
NotAsked e w v groups l other = ⊥

abbrev pub NotCounted : ℕ → Storage → Storage → List (List Location) → Listing → Outcome → Type 0
NotCounted e w v groups l o = FirstUnreached w.disk v.disk (stores_of groups) o ⊎ NotAsked e w v groups l o

-- n is no more than the number of different listed ids. Where all groups tell, it is the number of those that some of
-- them holds; `sure` says whether folders never fail. There are n ids, and of each other one that is listed every group
-- has a store that has denied it
pub record IsCount (sure : Bool) (w v : Storage) (groups : List (List Location)) (l : Listing) (n : ℕ) : Type 0 where
  pub there : AllThere w.disk (stores_of groups)
  pub size : n ≤ unique_count l
  pub denied : DeniesOthers (group_said w v) l (count_of l) n groups
  pub counts : IfSome w.disk.folders (λ m. (fs : List (Map (List ℕ))) → map (group_files sure m) groups ≡ map Some fs
      → n ≡ held_count l (map chunks fs))

-- once for a listed id, and never for another
abbrev pub asks_once : Listing → List ℕ → ℕ
asks_once l id = if is_listed_before l (count_of l) id then 1 else 0

-- how many ids the stores hold, where some are given
abbrev pub CountedInStores : Bool → ℕ → Storage → Storage → List (List Location) → Listing
    → Result (Option ℕ) Outcome → Type 0
CountedInStores sure e w v groups l (Ok None) = length groups ≡ 0
CountedInStores sure e w v groups l (Ok (Some n)) = (0 < length groups) × IsCount sure w v groups l n
CountedInStores sure e w v groups l (Err o) = NotCounted e w v groups l o

-- servers are asked only whether they have a chunk, at most once for each listed id, and e times more where they
-- failed, and they are sent nothing but fronts of such requests
abbrev pub IdsCounted : Bool → List (List Location) → ℕ → Listing → Step Storage (Option ℕ)
IdsCounted sure groups e l w r v = CountedInStores sure e w v groups l r × ConsultsStores (stores_of groups) w v
    × GroupsAsked e (λ id. 0) (asks_once l) (IsListedHas l) groups w.dial.ended v.dial.ended

abbrev pub InfoEnds : Bool → List (List Location) → ℕ → List ℕ → Step World Unit
InfoEnds sure groups e index = do
  l ← OnStorage (IndexGot index)
  n ← OnStorage (IdsCounted sure groups e l)
  OnOut (Printed (text_of_info l n))
