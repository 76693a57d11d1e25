-- How the words of a command are judged. The words are those after the command; places count the command too.
use Rattle.std.specs.Prelude.{◌≡◌, ℕ, ◌+◌, ◌==◌, ◌&&◌, Bool, false, not, List, [], ◌∷◌, length, sum_by, find, take}
use Rattle.std.specs.Prelude.{slice_index_or, Option, Some, None, is_some, option_map, Result, Ok, Err}
use Rattle.std.specs.Prelude.{if◌then◌else◌, nat_lt}
use Rattle.std.specs.List.{list_any, range_with_len}
use Rattle.std.specs.Option.{option_or}
use Rattle.command_line.specs.declared.judge.Refusal.{Refusal}
use Rattle.command_line.specs.declared.judge.Refusal.TheVariants as refusal
use Rattle.command_words.specs.declared.command.Location.{Location}
use Rattle.command_words.specs.declared.command.Location.TheVariants as location
use Rattle.command_words.specs.declared.location.IndexPlace.{IndexPlace}
use Rattle.command_words.specs.declared.location.NoLocation.{NoLocation}
use Rattle.command_words.specs.declared.location.NoLocation.TheVariants as no
use Rattle.command_words.specs.declared.option_table.CommandKind.{CommandKind}
use Rattle.command_words.specs.declared.option_table.OptionKind.{OptionKind}
use Rattle.command_words.specs.declared.option_table.OptionKind.TheVariants as option
use Rattle.command_words.specs.declared.option_table.Takes.{Takes}
use Rattle.command_words.specs.declared.roles.Role.{Role}
use Rattle.command_words.specs.declared.roles.Role.TheVariants as role
use Rattle.command_words.specs.declared.usage.UsageWhy.{UsageWhy}
use Rattle.command_words.specs.declared.usage.UsageWhy.TheVariants as why
use Rattle.command_words.specs.declared.usage.WordsFault.{WordsFault}
use Rattle.command_words.specs.declared.usage.WordsFault.TheVariants as fault
use Rattle.command_words.specs.Locations.{location_of, parts_of, names_folder, is_index_url, index_place_of}
use Rattle.command_words.specs.OptionTable.{takes_of, takes_groups, times_of}
use Rattle.command_words.specs.Roles.{WordsByRole, by_role, awaited, role_of, roles_of, times_of_role, place_of_role}
use Rattle.command_words.specs.Roles.{words_as, value, is_given}
use Rattle.command_words.specs.Whole.{first_surplus, why_not_whole}
use Rattle.command_line.specs.Values.{number_in_word, workers_of, retries_of, byte_count_of, sizes_of, listen_of}
use Rattle.command_line.specs.Values.{is_seed, kind_in_word}

-- ---- one word

abbrev pub unless : Bool → UsageWhy → Option Refusal
unless right y = if right then None else Some (refusal.Why y)

abbrev pub is_empty : List ℕ → Bool
is_empty w = length w == 0

-- a location that was read, or why not
abbrev pub store_refusal : Bool → Result Location NoLocation → Option Refusal
store_refusal needs_folder (Ok (location.Folder name)) = None
store_refusal needs_folder (Ok (location.Http host port prefix)) = unless (not needs_folder) why.NeedsFolder
store_refusal needs_folder (Err no.Bad) = Some (refusal.Why why.BadLocation)
store_refusal needs_folder (Err no.Memory) = Some refusal.Memory

-- how many stores the words name
abbrev pub stores_named : WordsByRole → ℕ
stores_named p = sum_by (λ w. length (parts_of w)) (words_as (role.Value option.Store) p.roles p.words)

-- the first of these that is no location decides
abbrev pub parts_refusal : List (List ℕ) → Option Refusal
parts_refusal [] = None
parts_refusal (w ∷ parts) = option_or (store_refusal false (location_of w)) (parts_refusal parts)

-- a group of locations, where n stores are named before it
abbrev pub group_refusal : ℕ → List (List ℕ) → Option Refusal
group_refusal n parts =
    if nat_lt 16 (n + length parts) then Some (refusal.Why why.TooMany)
    else (if list_any is_empty parts then Some (refusal.Why why.Empty) else parts_refusal parts)

-- a location, or a group of them
abbrev pub location_refusal : CommandKind → ℕ → List ℕ → Option Refusal
location_refusal k n w =
    if takes_groups k then group_refusal n (parts_of w)
    else (if is_empty w then Some (refusal.Why why.Empty)
    else store_refusal (takes_of k).needs_folder (location_of w))

-- a name that may not be empty, and is to pass the test
abbrev pub name_refusal : Bool → Bool → UsageWhy → Option Refusal
name_refusal empty right y = if empty then Some (refusal.Why why.Empty) else unless right y

-- the value of an option, where n stores are named before it
abbrev pub value_refusal : CommandKind → ℕ → OptionKind → List ℕ → Option Refusal
value_refusal k n option.Store w = location_refusal k n w
value_refusal k n option.ChunkSize w = unless (is_some (sizes_of w)) why.BadSizes
value_refusal k n option.Concurrency w = unless (is_some (workers_of w)) why.BadNumber
value_refusal k n option.Cache w = unless (not (is_empty w)) why.Empty
value_refusal k n option.Seed w = name_refusal (is_empty w) (is_seed w) why.BadSeed
value_refusal k n option.Listen w = unless (is_some (listen_of w)) why.BadListen
value_refusal k n option.Digest w = unless (is_some (kind_in_word w)) why.BadDigest
value_refusal k n option.Offset w = unless (is_some (byte_count_of w)) why.BadNumber
value_refusal k n option.Length w = unless (is_some (byte_count_of w)) why.BadNumber
value_refusal k n option.Retries w = unless (is_some (retries_of w)) why.BadNumber
value_refusal k n without w = None

-- a place of an index that was read, or why not
abbrev pub place_refusal : Result IndexPlace NoLocation → Option Refusal
place_refusal (Ok p) = None
place_refusal (Err no.Bad) = Some (refusal.Why why.BadLocation)
place_refusal (Err no.Memory) = Some refusal.Memory

-- an index has a place; one that is written is no URL
abbrev pub index_refusal : Bool → List ℕ → Option Refusal
index_refusal is_written w =
    if is_written then unless (not (is_index_url w)) why.BadLocation else place_refusal (index_place_of w)

-- one of the operands that a command takes: the first of them are indexes
abbrev pub named_refusal : Takes → ℕ → List ℕ → Option Refusal
named_refusal takes n w = if nat_lt n takes.indexes then index_refusal takes.writes_index w else None

-- the operand that has n before it
abbrev pub name_operand_refusal : Takes → ℕ → List ℕ → Option Refusal
name_operand_refusal takes n w =
    if is_empty w then Some (refusal.Why why.Empty)
    else (if nat_lt n takes.operands.greatest then named_refusal takes n w else Some (refusal.Why why.Operands))

-- those of `demo` are a number and a size
abbrev pub number_refusal : ℕ → List ℕ → Option Refusal
number_refusal most w = name_refusal (is_empty w) (is_some (number_in_word 0 most w)) why.BadNumber

-- and a third one is one too many, empty or not
abbrev pub demo_operand_refusal : ℕ → List ℕ → Option Refusal
demo_operand_refusal n w =
    if n == 0 then number_refusal 18446744073709551615 w
    else (if n == 1 then number_refusal 536870912 w else Some (refusal.Why why.Operands))

abbrev pub operand_refusal : CommandKind → ℕ → List ℕ → Option Refusal
operand_refusal k n w =
    if (takes_of k).takes_numbers then demo_operand_refusal n w else name_operand_refusal (takes_of k) n w

-- a word of a role, after the words before it
abbrev pub refusal_of : CommandKind → WordsByRole → Role → List ℕ → Option Refusal
refusal_of k before role.Dashes w = None
refusal_of k before role.Unknown w = Some (refusal.Why why.UnknownOption)
refusal_of k before (role.Given o) w =
    unless (nat_lt (times_of_role (role.Given o) before.roles) (times_of k o).greatest) why.TooMany
refusal_of k before (role.Value o) w = value_refusal k (stores_named before) o w
refusal_of k before role.Operand w = operand_refusal k (times_of_role role.Operand before.roles) w

-- ---- all words

abbrev pub fault_at : ℕ → Refusal → WordsFault
fault_at place (refusal.Why y) = fault.Usage place y
fault_at place refusal.Memory = fault.Memory

-- the words, each with its role
abbrev pub words_by_role : CommandKind → List (List ℕ) → WordsByRole
words_by_role k words = by_role (roles_of k words) words

-- why a word is refused after the words before it, if it is
abbrev pub refusal_after : CommandKind → List (List ℕ) → List ℕ → Option Refusal
refusal_after k before w = refusal_of k (words_by_role k before) (role_of k (roles_of k before) w) w

-- why the word at i is refused, if it is: what comes after it doesn't matter
abbrev pub refusal_at : CommandKind → List (List ℕ) → ℕ → Option Refusal
refusal_at k words i = refusal_after k (take i words) (slice_index_or words i [])

-- the first word that is refused, from 0
abbrev pub first_refused : CommandKind → List (List ℕ) → Option ℕ
first_refused k words = find (λ i. is_some (refusal_at k words i)) (range_with_len 0 (length words))

abbrev pub fault_by : CommandKind → List (List ℕ) → Option ℕ → Option WordsFault
fault_by k words None =
    if is_some (awaited (roles_of k words)) then Some (fault.Usage (length words + 1) why.NoValue) else None
fault_by k words (Some i) = option_map (fault_at (i + 1)) (refusal_at k words i)

-- the fault of the first word that is refused, or that the last one's value is missing
abbrev pub first_word_fault : CommandKind → List (List ℕ) → Option WordsFault
first_word_fault k words = fault_by k words (first_refused k words)

-- the roles of the words, unless there is a fault
abbrev pub judged : CommandKind → List (List ℕ) → Result (List Role) WordsFault
judged k words = elim (first_word_fault k words) [ Some e ↦ Err e | None ↦ Ok (roles_of k words) ]

-- ---- all words as a whole, once each has passed

-- why no folder stands alone: an option that doesn't stand beside one, at its place, else a store that is none
abbrev pub not_folder : Option ℕ → WordsByRole → Option WordsFault
not_folder (Some i) p = Some (fault.Usage (i + 1) why.TooMany)
not_folder None p =
    if names_folder (value option.Store p) then None
    else option_map (λ i. fault.Usage (i + 1) why.NeedsFolder) (place_of_role (role.Value option.Store) p.roles)

-- so, where the command needs a folder and there is no cache
abbrev pub folder_fault : CommandKind → WordsByRole → Option WordsFault
folder_fault k p =
    if (takes_of k).needs_folder && not (is_given option.Cache p.roles) then not_folder (first_surplus p.roles) p
    else None

-- why words that have passed are no whole command
abbrev pub whole_fault : CommandKind → WordsByRole → Option WordsFault
whole_fault k p =
    option_or (folder_fault k p) (option_map (fault.Usage (length p.words + 1)) (why_not_whole k p.roles))

-- ---- what the functions may answer: want of memory is free

-- the answer is exactly the refusal that is expected, or want of memory
abbrev pub RefusesWords : Option Refusal → Result Unit Refusal → Type 0
RefusesWords expected (Ok u) = expected ≡ None
RefusesWords expected (Err (refusal.Why y)) = expected ≡ Some (refusal.Why y)
RefusesWords expected (Err refusal.Memory) = Unit {0}

-- the answer is exactly what is expected, or want of memory
abbrev pub AnswersBy : {T U : Type 0} → (T → U) → Result U WordsFault → Result T WordsFault → Type 0
AnswersBy view expected (Ok x) = expected ≡ Ok (view x)
AnswersBy view expected (Err (fault.Usage place y)) = expected ≡ Err (fault.Usage place y)
AnswersBy view expected (Err fault.Memory) = Unit {0}
