-- The options and the commands, a row each. A word is its bytes.
use Rattle.std.specs.Prelude.{ℕ, ◌&&◌, Bool, true, false, List, [], ◌∷◌, codes, Option, find, option_map, unwrap_or}
use Rattle.std.specs.Prelude.{nat_lt}
use Rattle.std.specs.Option.{option_or}
use Rattle.std.specs.Str.{bytes_eq}
use denote.Enum.Bare.{sameb}
use denote.Enum.Declared.{tag_of}
use Rattle.command_words.specs.contracts.option_table.CommandKind as a_command
use Rattle.command_words.specs.contracts.option_table.OptionKind as an_option
use Rattle.command_words.specs.declared.option_table.CommandKind.{CommandKind}
use Rattle.command_words.specs.declared.option_table.CommandKind.TheVariants as command
use Rattle.command_words.specs.declared.option_table.OptionKind.{OptionKind}
use Rattle.command_words.specs.declared.option_table.OptionKind.TheVariants as option
use Rattle.command_words.specs.declared.option_table.Takes.{Takes}
use Rattle.command_words.specs.declared.option_table.Times.{Times}

-- ---- the two tables

-- an option, its spelling in one letter, where there is one, its spelling in words, and whether the next word is its
-- value
unfoldable pub option_rows : List (OptionKind × List ℕ × List ℕ × Bool)
option_rows =
    (option.Store, codes "-s", codes "--store", true)
    ∷ (option.ChunkSize, codes "-m", codes "--chunk-size", true)
    ∷ (option.Concurrency, codes "-n", codes "--concurrency", true)
    ∷ (option.Cache, codes "-c", codes "--cache", true)
    ∷ (option.InPlace, codes "-k", codes "--in-place", false)
    ∷ (option.Seed, codes "--seed", codes "--seed", true)
    ∷ (option.Repair, codes "-r", codes "--repair", false)
    ∷ (option.Yes, codes "-y", codes "--yes", false)
    ∷ (option.Listen, codes "-l", codes "--listen", true)
    ∷ (option.Writable, codes "-w", codes "--writeable", false)
    ∷ (option.Digest, codes "--digest", codes "--digest", true)
    ∷ (option.Offset, codes "-o", codes "--offset", true)
    ∷ (option.Length, codes "-l", codes "--length", true)
    ∷ (option.Retries, codes "-e", codes "--error-retry", true)
    ∷ []

-- `least` to `greatest` times
abbrev pub times : ℕ → ℕ → Times
times l g = record { least = l; greatest = g }

-- this many operands that are names, the first of them of indexes that are read
abbrev pub names : ℕ → ℕ → ℕ → Takes
names l g n =
    record { operands = times l g; indexes = n; writes_index = false; needs_folder = false; takes_numbers = false }

-- the name of an index that is written, and one more
abbrev pub written_index : Takes
written_index =
    record { operands = times 2 2; indexes = 1; writes_index = true; needs_folder = false; takes_numbers = false }

-- a store that has to be a folder, unless there is a cache before it, and this many names of indexes
abbrev pub folder_and_indexes : ℕ → ℕ → Takes
folder_and_indexes l g =
    record { operands = times l g; indexes = g; writes_index = false; needs_folder = true; takes_numbers = false }

-- a number and a size
abbrev pub number_and_size : Takes
number_and_size =
    record { operands = times 2 2; indexes = 0; writes_index = false; needs_folder = false; takes_numbers = true }

abbrev pub once : Times
once = times 1 1

abbrev pub at_most_once : Times
at_most_once = times 0 1

-- the options that a command takes, and how often
abbrev pub options_of : CommandKind → List (OptionKind × Times)
options_of command.Make =
    (option.Store, once) ∷ (option.ChunkSize, at_most_once) ∷ (option.Concurrency, at_most_once)
    ∷ (option.Digest, at_most_once) ∷ []
options_of command.Extract =
    (option.Store, times 1 16) ∷ (option.Retries, at_most_once) ∷ (option.Seed, times 0 64)
    ∷ (option.Cache, at_most_once) ∷ (option.InPlace, at_most_once) ∷ (option.Concurrency, at_most_once) ∷ []
options_of command.Cat =
    (option.Store, times 1 16) ∷ (option.Retries, at_most_once) ∷ (option.Offset, at_most_once)
    ∷ (option.Length, at_most_once) ∷ []
options_of command.VerifyIndex = (option.Concurrency, at_most_once) ∷ []
options_of command.Chop = (option.Store, once) ∷ (option.Concurrency, at_most_once) ∷ []
options_of command.Cache =
    (option.Store, times 1 16) ∷ (option.Retries, at_most_once) ∷ (option.Cache, once)
    ∷ (option.Concurrency, at_most_once) ∷ []
options_of command.ListChunks = []
options_of command.Info = (option.Store, times 0 16) ∷ (option.Retries, at_most_once) ∷ []
options_of command.Verify =
    (option.Store, once) ∷ (option.Repair, at_most_once) ∷ (option.Concurrency, at_most_once)
    ∷ (option.Digest, at_most_once) ∷ []
options_of command.Prune = (option.Store, once) ∷ (option.Yes, once) ∷ []
options_of command.ChunkServer =
    (option.Store, times 1 16) ∷ (option.Retries, at_most_once) ∷ (option.Cache, at_most_once) ∷ (option.Listen, once)
    ∷ (option.Writable, at_most_once) ∷ (option.Concurrency, at_most_once) ∷ (option.Digest, at_most_once) ∷ []
options_of command.IndexServer = (option.Store, once) ∷ (option.Listen, once) ∷ (option.Writable, at_most_once) ∷ []
options_of command.Demo = (option.Concurrency, at_most_once) ∷ (option.Digest, at_most_once) ∷ []

-- a command, the word that it is called by, the options that it takes and how often, and what else it takes
abbrev pub row : CommandKind → List ℕ → Takes → CommandKind × List ℕ × List (OptionKind × Times) × Takes
row k w takes = (k, w, options_of k, takes)

unfoldable pub command_rows : List (CommandKind × List ℕ × List (OptionKind × Times) × Takes)
command_rows =
    row command.Make (codes "make") written_index
    ∷ row command.Extract (codes "extract") (names 2 2 1)
    ∷ row command.Cat (codes "cat") (names 1 1 1)
    ∷ row command.VerifyIndex (codes "verify-index") (names 2 2 1)
    ∷ row command.Chop (codes "chop") (names 2 2 1)
    ∷ row command.Cache (codes "cache") (names 1 64 64)
    ∷ row command.ListChunks (codes "list-chunks") (names 1 1 1)
    ∷ row command.Info (codes "info") (names 1 1 1)
    ∷ row command.Verify (codes "verify") (folder_and_indexes 0 0)
    ∷ row command.Prune (codes "prune") (folder_and_indexes 1 64)
    ∷ row command.ChunkServer (codes "chunk-server") (folder_and_indexes 0 0)
    ∷ row command.IndexServer (codes "index-server") (folder_and_indexes 0 0)
    ∷ row command.Demo (codes "demo") number_and_size
    ∷ []

-- what the first row says that passes the test
abbrev pub first_row : {R T : Type 0} → (R → Bool) → (R → T) → List R → Option T
first_row passes says rows = option_map says (find passes rows)

-- ---- options

abbrev pub same_option : OptionKind → OptionKind → Bool
same_option = sameb an_option.the_type

-- by which options are told apart
abbrev pub option_number : OptionKind → ℕ
option_number = tag_of an_option.the_type

-- the next word is the option's value
unfoldable pub takes_value : OptionKind → Bool
takes_value o = unwrap_or (first_row (λ row. same_option row.0 o) (λ row. row.3) option_rows) false

-- ---- commands

abbrev pub same_command : CommandKind → CommandKind → Bool
same_command = sameb a_command.the_type

-- the command that is called so
unfoldable pub command_named : List ℕ → Option CommandKind
command_named w = first_row (λ row. bytes_eq w row.1) (λ row. row.0) command_rows

abbrev pub times_among : OptionKind → List (OptionKind × Times) → Times
times_among o options = unwrap_or (first_row (λ p. same_option p.0 o) (λ p. p.1) options) (times 0 0)

-- how often the command takes the option
unfoldable pub times_of : CommandKind → OptionKind → Times
times_of k o = unwrap_or (first_row (λ row. same_command row.0 k) (λ row. times_among o row.2) command_rows) (times 0 0)

-- what the command takes beside its options
unfoldable pub takes_of : CommandKind → Takes
takes_of k = unwrap_or (first_row (λ row. same_command row.0 k) (λ row. row.3) command_rows) (names 0 0 0)

-- the command takes the option at all
abbrev pub takes_option : CommandKind → OptionKind → Bool
takes_option k o = nat_lt 0 (times_of k o).greatest

-- ---- the options of a command, by their spelling

-- the first that the command takes and that is spelled so in one letter, or has this one spelling
unfoldable pub short_named : CommandKind → List ℕ → Option OptionKind
short_named k w = first_row (λ row. bytes_eq w row.1 && takes_option k row.0) (λ row. row.0) option_rows

-- the first that the command takes and that is spelled so in words
unfoldable pub long_named : CommandKind → List ℕ → Option OptionKind
long_named k w = first_row (λ row. bytes_eq w row.2 && takes_option k row.0) (λ row. row.0) option_rows

-- the command takes stores in groups, and calls that fail are made again
abbrev pub takes_groups : CommandKind → Bool
takes_groups k = takes_option k option.Retries

-- the option of the command that is spelled so
abbrev pub option_named : CommandKind → List ℕ → Option OptionKind
option_named k w = option_or (short_named k w) (long_named k w)
