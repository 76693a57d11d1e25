-- What the words of a command line say. A word is its bytes, and places count from the first word, the command, as 0.
use Rattle.std.specs.Prelude.{ℕ, ◌==◌, ◌&&◌, Bool, List, [], ◌∷◌, length, map, codes, Option, Some, None, unwrap_or}
use Rattle.std.specs.Prelude.{Result, Ok, Err, IfOk, ◌≡◌, if◌then◌else◌, slice_index_or}
use Rattle.std.specs.Str.{bytes_eq}
use Rattle.chunk_store.specs.declared.id.DigestKind.{DigestKind}
use Rattle.chunk_store.specs.declared.id.DigestKind.TheVariants as kinds
use Rattle.command_line.specs.Judging.{judged, whole_fault, AnswersBy}
use Rattle.command_words.specs.declared.command.Command.{Command}
use Rattle.command_words.specs.declared.command.Command.TheVariants as said
use Rattle.command_words.specs.declared.command.Location.{Location}
use Rattle.command_words.specs.declared.command.Location.TheVariants as location
use Rattle.command_words.specs.declared.location.NoLocation.{NoLocation}
use Rattle.command_words.specs.declared.option_table.CommandKind.{CommandKind}
use Rattle.command_words.specs.declared.option_table.CommandKind.TheVariants as command
use Rattle.command_words.specs.declared.option_table.OptionKind.TheVariants as option
use Rattle.command_words.specs.declared.roles.Role.{Role}
use Rattle.command_words.specs.declared.roles.Role.TheVariants as role
use Rattle.command_words.specs.declared.usage.UsageWhy.TheVariants as why
use Rattle.command_words.specs.declared.usage.WordsFault.{WordsFault}
use Rattle.command_words.specs.declared.usage.WordsFault.TheVariants as fault
use Rattle.command_words.specs.Locations.{location_of, parts_of}
use Rattle.command_words.specs.OptionTable.{command_named}
use Rattle.command_words.specs.Roles.{WordsByRole, by_role, words_as, operand, value, is_given}
use Rattle.command_line.specs.Values.{number_in_word, workers_of, retries_of, byte_count_of, sizes_of, listen_of}
use Rattle.command_line.specs.Values.{kind_in_word}

-- ---- what words that have passed say, by their roles

abbrev pub read_location : Result Location NoLocation → Location
read_location (Ok l) = l
read_location (Err e) = location.Folder []

abbrev pub store : WordsByRole → Location
store p = read_location (location_of (value option.Store p))

-- the locations between the `|` of a word
abbrev pub group_of : List ℕ → List Location
group_of w = map (λ part. read_location (location_of part)) (parts_of w)

abbrev pub stores : WordsByRole → List (List Location)
stores p = map group_of (words_as (role.Value option.Store) p.roles p.words)

-- no call is made again where no number is given
abbrev pub retries : WordsByRole → ℕ
retries p = unwrap_or (retries_of (value option.Retries p)) 0

abbrev pub cache : WordsByRole → Option (List ℕ)
cache p = if is_given option.Cache p.roles then Some (value option.Cache p) else None

-- 10 workers where no number is given
abbrev pub workers : WordsByRole → ℕ
workers p = unwrap_or (workers_of (value option.Concurrency p)) 10

-- 16, 64 and 256 KiB where no sizes are given
abbrev pub sizes : WordsByRole → List ℕ
sizes p = unwrap_or (sizes_of (value option.ChunkSize p)) (16384 ∷ 65536 ∷ 262144 ∷ [])

-- SHA-512/256 where none is named
abbrev pub digest : WordsByRole → DigestKind
digest p = unwrap_or (kind_in_word (value option.Digest p)) kinds.Sha512T256

abbrev pub address : WordsByRole → List ℕ × ℕ
address p = unwrap_or (listen_of (value option.Listen p)) ([], 0)

-- the start of the image where no offset is given
abbrev pub offset : WordsByRole → ℕ
offset p = unwrap_or (byte_count_of (value option.Offset p)) 0

-- none where no length is given
abbrev pub size : WordsByRole → Option ℕ
size p = byte_count_of (value option.Length p)

abbrev pub number : ℕ → List ℕ → ℕ
number most w = unwrap_or (number_in_word 0 most w) 0

-- a server with a cache before its stores
abbrev pub proxy : WordsByRole → Command
proxy p =
    said.Proxy (stores p) (retries p) (value option.Cache p) (address p).0 (address p).1 (workers p) (digest p)

abbrev pub command_by_roles : CommandKind → WordsByRole → Command
command_by_roles command.Make p = said.Make (store p) (sizes p) (workers p) (digest p) (operand 0 p) (operand 1 p)
command_by_roles command.Extract p =
    said.Extract (stores p) (retries p) (words_as (role.Value option.Seed) p.roles p.words) (cache p)
    (is_given option.InPlace p.roles) (workers p) (operand 0 p) (operand 1 p)
command_by_roles command.Cat p = said.Cat (stores p) (retries p) (offset p) (size p) (operand 0 p)
command_by_roles command.VerifyIndex p = said.VerifyIndex (workers p) (operand 0 p) (operand 1 p)
command_by_roles command.Chop p = said.Chop (store p) (workers p) (operand 0 p) (operand 1 p)
command_by_roles command.Cache p =
    said.Cache (stores p) (retries p) (value option.Cache p) (workers p) (words_as role.Operand p.roles p.words)
command_by_roles command.ListChunks p = said.ListChunks (operand 0 p)
command_by_roles command.Info p = said.Info (stores p) (retries p) (operand 0 p)
command_by_roles command.Verify p =
    said.Verify (value option.Store p) (is_given option.Repair p.roles) (workers p) (digest p)
command_by_roles command.Prune p = said.Prune (value option.Store p) (words_as role.Operand p.roles p.words)
command_by_roles command.ChunkServer p =
    if is_given option.Cache p.roles then proxy p
    else said.ChunkServer (value option.Store p) (address p).0 (address p).1 (is_given option.Writable p.roles)
    (workers p) (digest p)
command_by_roles command.IndexServer p =
    said.IndexServer (value option.Store p) (address p).0 (address p).1 (is_given option.Writable p.roles)
command_by_roles command.Demo p =
    said.Demo (number 18446744073709551615 (operand 0 p)) (number 536870912 (operand 1 p)) (workers p) (digest p)

-- that command, unless there was no memory
abbrev pub Says : {E : Type 0} → CommandKind → WordsByRole → Result Command E → Type 0
Says k p result = IfOk result (λ c. c ≡ command_by_roles k p)

-- ---- all words

-- the command, unless the words are no whole one
abbrev pub complete : Option WordsFault → Command → Result Command WordsFault
complete (Some e) c = Err e
complete None c = Ok c

abbrev pub command_by : CommandKind → List (List ℕ) → Result (List Role) WordsFault → Result Command WordsFault
command_by k words (Err e) = Err e
command_by k words (Ok roles) =
    complete (whole_fault k (by_role roles words)) (command_by_roles k (by_role roles words))

-- the words after a command
abbrev pub command_with : CommandKind → List (List ℕ) → Result Command WordsFault
command_with k words = command_by k words (judged k words)

abbrev pub is_alone : List (List ℕ) → List ℕ → Bool
is_alone words w = (length words == 1) && bytes_eq (slice_index_or words 0 []) w

abbrev pub command_or_help : Option CommandKind → List (List ℕ) → Result Command WordsFault
command_or_help None words = Err (fault.Usage 0 why.UnknownCommand)
command_or_help (Some k) words = if is_alone words (codes "--help") then Ok (said.HelpOn k) else command_with k words

-- the command that words are, or their first fault
abbrev pub command_line : List (List ℕ) → Result Command WordsFault
command_line [] = Err (fault.Usage 0 why.NoCommand)
command_line (w ∷ words) =
    if is_alone (w ∷ words) (codes "--help") then Ok said.Help
    else (if is_alone (w ∷ words) (codes "--version") then Ok said.Version
    else command_or_help (command_named w) words)

-- what reading the words may answer: exactly that, or that there was no memory
abbrev pub ReadsWords : List (List ℕ) → Result Command WordsFault → Type 0
ReadsWords words result = AnswersBy (λ c. c) (command_line words) result

-- a URL among them takes more room than `url` has
abbrev pub FindsNoRoom : List (List ℕ) → Type 0
FindsNoRoom words = command_line words ≡ Err fault.Memory
