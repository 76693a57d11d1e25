-- What the words are to do, and what each command does.
use Rattle.std.specs.Prelude.{◌⊎◌, IsTrue, ◌≡◌, ◌≢◌, ◌&&◌, ℕ, Bool, true, false, not, is_some, if◌then◌else◌}
use Rattle.std.specs.Prelude.{List, [], ◌∷◌, length, Option, Some, None, IfSome, Result, Ok, Err}
use Rattle.std.specs.List.{All}
use Rattle.caibx_codec.specs.Listing.{Listing}
use Rattle.command_help.specs.Help.{help_text}
use Rattle.command_help.specs.declared.help.Topic.TheVariants as topics
use Rattle.command_line.specs.CommandLine.{command_line}
use Rattle.command_outcome.specs.declared.outcome.Outcome.{Outcome}
use Rattle.command_outcome.specs.declared.outcome.Outcome.TheVariants as ends
use Rattle.command_words.specs.Limits.{Fits}
use Rattle.command_words.specs.declared.command.Command.{Command}
use Rattle.command_words.specs.declared.command.Command.TheVariants as commands
use Rattle.command_words.specs.declared.command.Location.{Location}
use Rattle.command_words.specs.declared.command.Location.TheVariants as locations
use Rattle.command_words.specs.declared.usage.UsageWhy.{UsageWhy}
use Rattle.command_words.specs.declared.usage.WordsFault.{WordsFault}
use Rattle.command_words.specs.declared.usage.WordsFault.TheVariants as faults
use Rattle.image_commands.specs.Chop.{ChopEnds, IsChopped}
use Rattle.print_commands.specs.Demo.{DemoEnds}
use Rattle.extract_command.specs.Extract.{ExtractEnds, IsExtracted, never_fail, temporary_out}
use Rattle.image_commands.specs.Make.{IsMade, MakeEnds, StoreHas}
use Rattle.store_commands.specs.VerifyIndex.{IsVerified, VerifyIndexEnds}
use Rattle.cache_command.specs.Caching.{CacheEnds, IsCached}
use Rattle.cat_command.specs.Cat.{CatEnds}
use Rattle.store_commands.specs.Info.{InfoEnds}
use Rattle.print_commands.specs.ListChunks.{ListChunksEnds}
use Rattle.store_commands.specs.Prune.{IsPruned, PruneEnds}
use Rattle.proxy_command.specs.ProxyServing.{LookTypes, ProxyServerEnds}
use Rattle.server_commands.specs.ChunkServing.{ChunkServerEnds}
use Rattle.server_commands.specs.IndexServing.{IndexServerEnds}
use Rattle.server_commands.specs.Serving.{Heard}
use Rattle.store_commands.specs.Verify.{IsVerifiedStore, VerifyEnds}
use Rattle.command_indexes.specs.Places.{are_files, is_file}
use Rattle.command_indexes.specs.Spelled.{IndexSpells}
use Rattle.command_indexes.specs.Blames.{Parts, Spares, unheard}
use Rattle.command_worlds.specs.Printing.{Printed}
use Rattle.command_groups.specs.Groups.{stores_of}
use Rattle.command_steps.specs.Sources.{storage_of}
use Rattle.command_worlds.specs.Steps.{◌>>=◌}
use Rattle.command_steps.specs.Stores.{are_folders, is_folder}
use Rattle.command_worlds.specs.Worlds.{OnOut, Step, World}

-- ---- a row a command

-- whether it listens for connections
abbrev pub listens : Command → Bool
listens (commands.ChunkServer store host port writable workers digest) = true
listens (commands.Proxy stores retries cache host port workers digest) = true
listens (commands.IndexServer store host port writable) = true
listens other = false

-- what types say of calls: whether none on a target fails, and what those on folders that are looked at may answer
pub record SureTypes : Type 0 where
  pub target : Bool
  pub looks : LookTypes

-- types that say so
abbrev pub sure_types : Bool → LookTypes → SureTypes
sure_types target looks = record { target = target; looks = looks }

-- how each ends, from the world before it to the world after it, where this was heard
abbrev pub CommandEnds : SureTypes → Heard → Command → Step World Unit
CommandEnds sure h (commands.Make store sizes workers digest index image) = MakeEnds store digest sizes index image
CommandEnds sure h (commands.VerifyIndex workers index image) = VerifyIndexEnds index image
CommandEnds sure h (commands.Chop store workers index image) = ChopEnds store index image
CommandEnds sure h (commands.Cache stores retries cache workers indexes) =
    CacheEnds sure.looks.never_fail stores retries cache workers indexes
CommandEnds sure h (commands.ListChunks index) = ListChunksEnds index
CommandEnds sure h (commands.Extract stores retries seeds cache in_place workers index target) =
    ExtractEnds (never_fail sure.target h.never_fails)
    (record { groups = stores; retries = retries; sure = sure.looks.never_fail }) cache seeds in_place index target
CommandEnds sure h (commands.Cat stores retries offset length index) =
    CatEnds sure.looks.never_fail stores retries offset length index
CommandEnds sure h (commands.Info stores retries index) = InfoEnds sure.looks.never_fail stores retries index
CommandEnds sure h (commands.Verify store repair workers digest) = VerifyEnds digest store repair
CommandEnds sure h (commands.Prune store indexes) = PruneEnds store indexes
CommandEnds sure h (commands.Demo number size workers digest) = DemoEnds digest number size
CommandEnds sure h commands.Help = OnOut (Printed (help_text topics.All))
CommandEnds sure h commands.Version = OnOut (Printed (help_text topics.Version))
CommandEnds sure h (commands.HelpOn kind) = OnOut (Printed (help_text (topics.Command kind)))
CommandEnds sure h (commands.ChunkServer store host port writable workers digest) =
    ChunkServerEnds digest h store writable workers
CommandEnds sure h (commands.Proxy stores retries cache host port workers digest) =
    ProxyServerEnds sure.looks h stores retries cache digest workers
CommandEnds sure h (commands.IndexServer store host port writable) = IndexServerEnds h store writable

-- each group of stores is one store
abbrev pub HasNoGroups : Command → Type 0
HasNoGroups (commands.Cache stores retries cache workers indexes) = All (λ (g : List Location). length g ≡ 1) stores
HasNoGroups (commands.Extract stores retries seeds cache in_place workers index target) =
    All (λ (g : List Location). length g ≡ 1) stores
HasNoGroups (commands.Cat stores retries offset size index) = All (λ (g : List Location). length g ≡ 1) stores
HasNoGroups (commands.Info stores retries index) = All (λ (g : List Location). length g ≡ 1) stores
HasNoGroups other = Unit {0}

-- each group of stores tells what it holds, where its stores are folders that tell: it is one store, or folders never
-- fail
abbrev pub GroupsTell : (looks_never_fail : Bool) → Command → Type 0
GroupsTell looks_never_fail c = HasNoGroups c ⊎ IsTrue looks_never_fail

-- what no outcome of it changes
abbrev pub spares : Command → Spares
spares (commands.Make store sizes workers digest index image) = record
    { files = false; folders = not (is_folder store); dial = is_folder store; out = true }
spares (commands.VerifyIndex workers index image) = record
    { files = true; folders = true; dial = is_file index; out = true }
spares (commands.Chop store workers index image) = record
    { files = true; folders = not (is_folder store); dial = is_folder store && is_file index; out = true }
spares (commands.Cache stores retries cache workers indexes) = record
    { files = true; folders = false; dial = are_folders (stores_of stores) && are_files indexes; out = true }
spares (commands.Extract stores retries seeds cache in_place workers index target) = record
    { files = false; folders = not (is_some cache); dial = are_folders (stores_of stores) && is_file index; out = true }
spares (commands.Cat stores retries offset length index) = record
    { files = true; folders = true; dial = are_folders (stores_of stores) && is_file index; out = false }
spares (commands.ListChunks index) = record { files = true; folders = true; dial = is_file index; out = false }
spares (commands.Info stores retries index) = record
    { files = true; folders = true; dial = are_folders (stores_of stores) && is_file index; out = false }
spares (commands.Verify store repair workers digest) = record
    { files = true; folders = false; dial = true; out = false }
spares (commands.Prune store indexes) = record
    { files = true; folders = false; dial = are_files indexes; out = true }
spares (commands.ChunkServer store host port writable workers digest) = record
    { files = true; folders = false; dial = true; out = true }
spares (commands.Proxy stores retries cache host port workers digest) = record
    { files = true; folders = false; dial = are_folders (stores_of stores); out = true }
spares (commands.IndexServer store host port writable) = record
    { files = true; folders = false; dial = true; out = true }
spares other = record { files = true; folders = true; dial = true; out = false }

-- whose files, folders and servers its faults are of, where the outcome doesn't name them
abbrev pub parts : Heard → Command → Parts
parts h (commands.Make store sizes workers digest index image) = record
    { image = image; indexes = []; stores = store ∷ []; target = []; cache = []; listener = unheard }
parts h (commands.VerifyIndex workers index image) = record
    { image = image; indexes = index ∷ []; stores = []; target = []; cache = []; listener = unheard }
parts h (commands.Chop store workers index image) = record
    { image = image; indexes = index ∷ []; stores = store ∷ []; target = []; cache = []; listener = unheard }
parts h (commands.Cache stores retries cache workers indexes) = record
    { image = []; indexes = indexes; stores = stores_of stores; target = []; cache = cache; listener = unheard }
parts h (commands.ListChunks index) = record
    { image = []; indexes = index ∷ []; stores = []; target = []; cache = []; listener = unheard }
parts h (commands.Extract stores retries seeds cache in_place workers index target) = record {
  image = [];
  indexes = index ∷ [];
  stores = stores_of stores;
  target = if in_place then target else temporary_out target;
  cache = [];
  listener = unheard;
}
parts h (commands.Cat stores retries offset length index) = record
    { image = []; indexes = index ∷ []; stores = stores_of stores; target = []; cache = []; listener = unheard }
parts h (commands.Info stores retries index) = record
    { image = []; indexes = index ∷ []; stores = stores_of stores; target = []; cache = []; listener = unheard }
parts h (commands.Verify store repair workers digest) = record
    { image = []; indexes = []; stores = locations.Folder store ∷ []; target = []; cache = []; listener = unheard }
parts h (commands.Prune store indexes) = record
    { image = []; indexes = indexes; stores = locations.Folder store ∷ []; target = []; cache = []; listener = unheard }
parts h (commands.ChunkServer store host port writable workers digest) = record
    { image = []; indexes = []; stores = []; target = []; cache = []; listener = (h.old.faults, h.new.faults) }
parts h (commands.Proxy stores retries cache host port workers digest) = record {
  image = [];
  indexes = [];
  stores = stores_of stores;
  target = [];
  cache = [];
  listener = (h.old.faults, h.new.faults);
}
parts h (commands.IndexServer store host port writable) = record
    { image = []; indexes = []; stores = []; target = []; cache = []; listener = (h.old.faults, h.new.faults) }
parts h other = record { image = []; indexes = []; stores = []; target = []; cache = []; listener = unheard }

-- what Done says of it, beside how it ends. An INDEX that is a URL spells what the body of an accepted reply 200
-- spells, if the dialer tells its connections
abbrev pub Achieves : SureTypes → Heard → Command → World → World → Type 0
Achieves sure h (commands.Make store sizes workers digest index image) w v =
    IfSome w.disk.files (λ b. IfSome v.disk.files (λ a. (l : Listing)
    × IsMade b a digest sizes index image l × StoreHas (storage_of w) (storage_of v) store l))
Achieves sure h (commands.VerifyIndex workers index image) w v =
    IfSome w.disk.files (λ m. IsVerified (IndexSpells (storage_of w) (storage_of v)) m index image)
Achieves sure h (commands.Chop store workers index image) w v = IfSome w.disk.files (λ b. (l : Listing)
    × IsChopped (IndexSpells (storage_of w) (storage_of v)) b index image l
    × StoreHas (storage_of w) (storage_of v) store l)
Achieves sure h (commands.Cache stores retries cache workers indexes) w v =
    IfSome w.disk.folders (λ f. IfSome v.disk.folders (λ g.
    IsCached (IndexSpells (storage_of w) (storage_of v)) f g cache indexes))
Achieves sure h (commands.Extract stores retries seeds cache in_place workers index target) w v =
    IfSome v.disk.files (λ a. IsExtracted (IndexSpells (storage_of w) (storage_of v)) a index target)
Achieves sure h (commands.Verify store repair workers digest) w v =
    IfSome w.disk.folders (λ f. IfSome v.disk.folders (λ g.
    IsVerifiedStore digest f g w.out.taken v.out.taken store repair))
Achieves sure h (commands.Prune store indexes) w v =
    IfSome w.disk.folders (λ f. IfSome v.disk.folders (λ g.
    IsPruned (IndexSpells (storage_of w) (storage_of v)) f g store indexes))
Achieves sure h other w v = CommandEnds sure h other w (Ok tt) v

-- a refusal leaves all files as they were, but for the temporary one
abbrev pub LeavesOut : Bool → List ℕ → World → World → Type 0
LeavesOut true out w v = Unit {0}
LeavesOut false out w v = IfSome w.disk.files (λ b. IfSome v.disk.files (λ a.
    (q : List ℕ) → q ≢ temporary_out out → a q ≡ b q))

-- what a refusal leaves of it, beside how it ends
abbrev pub LeavesBehind : Command → World → World → Type 0
LeavesBehind (commands.Extract stores retries seeds cache in_place workers index target) w v =
    LeavesOut in_place target w v
LeavesBehind other w v = Unit {0}

-- ---- the words

-- the command of the words, and why else they are refused
abbrev pub command_said : Result Command WordsFault → Option Command
command_said (Ok c) = Some c
command_said (Err fault) = None

abbrev pub command_of : List (List ℕ) → Option Command
command_of words = command_said (command_line words)

abbrev pub refusal_in : Result Command WordsFault → Option (ℕ × UsageWhy)
refusal_in (Ok c) = None
refusal_in (Err (faults.Usage place why)) = Some (place, why)
refusal_in (Err faults.Memory) = None

abbrev pub usage_refusal : List (List ℕ) → Option (ℕ × UsageWhy)
usage_refusal words = refusal_in (command_line words)

-- the outcome tells of the words exactly where they are refused, with this place and reason. Want of memory is free
abbrev pub TellsRefusal : Option (ℕ × UsageWhy) → Outcome → Type 0
TellsRefusal refusal (ends.Usage place why) = refusal ≡ Some (place, why)
TellsRefusal refusal ends.Memory = Unit {0}
TellsRefusal refusal other = refusal ≡ None

abbrev pub NoCommand : List (List ℕ) → Outcome → Type 0
NoCommand words (ends.Usage place why) = usage_refusal words ≡ Some (place, why)
NoCommand words ends.Memory = Unit {0}
NoCommand words other = ⊥

abbrev pub WordsRead : List (List ℕ) → Step World Command
WordsRead words w (Ok c) v = (command_of words ≡ Some c) × Fits c × (v ≡ w)
WordsRead words w (Err o) v = NoCommand words o × (v ≡ w)

-- the words are read, and then the command does its steps
abbrev pub DesyncEnds : SureTypes → Heard → List (List ℕ) → Step World Unit
DesyncEnds sure h words = do
  c ← WordsRead words
  CommandEnds sure h c
