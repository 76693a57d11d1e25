-- What each word of a command is. The words are those after the command, and a word is its bytes.
use Rattle.std.specs.Prelude.{ℕ, ◌+◌, ◌-◌, ◌*◌, ◌==◌, Bool, List, [], ◌∷◌, ◌++◌, length, codes, count_by, fold}
use Rattle.std.specs.Prelude.{position, Option, Some, None, if◌then◌else◌, nat_eq, nat_lt, slice_index_or}
use Rattle.std.specs.List.{slice_get, starts_with}
use Rattle.std.specs.Str.{bytes_eq}
use Rattle.command_words.specs.declared.option_table.CommandKind.{CommandKind}
use Rattle.command_words.specs.declared.option_table.OptionKind.{OptionKind}
use Rattle.command_words.specs.declared.roles.Role.{Role}
use Rattle.command_words.specs.declared.roles.Role.TheVariants as role
use Rattle.command_words.specs.OptionTable.{option_named, option_number, takes_value}

-- what a word is that begins with `-`, by the option that it spells
abbrev pub option_role : Option OptionKind → Role
option_role None = role.Unknown
option_role (Some o) = role.Given o

-- what a word is by itself: `--`, an option where it begins with `-`, else an operand
abbrev pub spelled_role : CommandKind → List ℕ → Role
spelled_role k w =
    if bytes_eq w (codes "--") then role.Dashes
    else (if starts_with nat_eq w (codes "-") then option_role (option_named k w) else role.Operand)

-- the option of the role, where its value is the next word
abbrev pub opens : Role → Option OptionKind
opens (role.Given o) = if takes_value o then Some o else None
opens other = None

-- the option whose value is to come after words of these roles
abbrev pub awaited : List Role → Option OptionKind
awaited roles = elim (slice_get roles (length roles - 1)) [ None ↦ None | Some r ↦ opens r ]

-- by which roles are told apart
abbrev pub role_number : Role → ℕ
role_number role.Dashes = 0
role_number role.Unknown = 1
role_number role.Operand = 2
role_number (role.Given o) = 3 + 2 * option_number o
role_number (role.Value o) = 4 + 2 * option_number o

-- how many words have the role
abbrev pub times_of_role : Role → List Role → ℕ
times_of_role r roles = count_by (λ q. role_number q == role_number r) roles

-- the option stands among words of these roles
abbrev pub is_given : OptionKind → List Role → Bool
is_given o roles = nat_lt 0 (times_of_role (role.Given o) roles)

-- the place of the first word of the role
abbrev pub place_of_role : Role → List Role → Option ℕ
place_of_role r roles = position (λ q. role_number q == role_number r) roles

-- what a word is after words of these roles: the value that is to come, after `--` an operand, else what it is by
-- itself
abbrev pub role_of : CommandKind → List Role → List ℕ → Role
role_of k before w = elim (awaited before) [
  | Some o ↦ role.Value o
  | None ↦ if nat_lt 0 (times_of_role role.Dashes before) then role.Operand else spelled_role k w
]

-- the roles of the words, each by those before it
abbrev pub roles_of : CommandKind → List (List ℕ) → List Role
roles_of k words = fold (λ before w. before ++ role_of k before w ∷ []) [] words

-- the words that have the role, in order
abbrev pub words_as : Role → List Role → List (List ℕ) → List (List ℕ)
words_as r [] words = []
words_as r (q ∷ roles) [] = []
words_as r (q ∷ roles) (w ∷ words) =
    if role_number q == role_number r then w ∷ words_as r roles words else words_as r roles words

-- the k-th of them from 0, or the empty word
abbrev pub word_as : Role → ℕ → List Role → List (List ℕ) → List ℕ
word_as r k roles words = slice_index_or (words_as r roles words) k []

-- words after a command, each with its role
pub record WordsByRole : Type 0 where
  pub roles : List Role
  pub words : List (List ℕ)

abbrev pub by_role : List Role → List (List ℕ) → WordsByRole
by_role roles words = record { roles = roles; words = words }

-- the operand at a place, from 0
abbrev pub operand : ℕ → WordsByRole → List ℕ
operand k p = word_as role.Operand k p.roles p.words

-- the value of an option, or the empty word
abbrev pub value : OptionKind → WordsByRole → List ℕ
value o p = word_as (role.Value o) 0 p.roles p.words
