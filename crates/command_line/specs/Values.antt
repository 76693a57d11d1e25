-- What the values of options and the operands say. A word is its bytes.
use Rattle.std.specs.Prelude.{ℕ, ◌+◌, ◌-◌, ◌*◌, ◌==◌, ◌&&◌, ◌||◌, Bool, List, [], ◌∷◌, length, take, drop, slice_index}
use Rattle.std.specs.Prelude.{codes, position, Option, Some, None, option_map, if◌then◌else◌, nat_eq, nat_le, nat_lt}
use Rattle.std.specs.Prelude.{not}
use Rattle.std.specs.List.{ends_with}
use Rattle.std.specs.Char.{is_ascii_digit}
use Rattle.std.specs.Path.{rfind_below}
use Rattle.std.specs.Str.{bytes_eq}
use Rattle.chunk_store.specs.declared.id.DigestKind.{DigestKind}
use Rattle.chunk_store.specs.declared.id.DigestKind.TheVariants as kinds
use Rattle.command_words.specs.Locations.{is_index_url}

-- the number that the digit makes of the digits n before it, unless it is above `most`
abbrev pub with_digit : ℕ → ℕ → ℕ → Option ℕ
with_digit most n c = if is_ascii_digit c && nat_le (n * 10 + (c - 48)) most then Some (n * 10 + (c - 48)) else None

-- the number that the digits make after n
abbrev pub with_digits : ℕ → ℕ → List ℕ → Option ℕ
with_digits most n [] = Some n
with_digits most n (c ∷ cs) = elim (with_digit most n c) [ None ↦ None | Some m ↦ with_digits most m cs ]

-- a number is `0`, or digits of which the first isn't `0`
abbrev pub number_up_to : ℕ → List ℕ → Option ℕ
number_up_to most w =
    if (length w == 0) || (nat_lt 1 (length w) && (slice_index w 0 == 48)) then None else with_digits most 0 w

abbrev at_least : ℕ → Option ℕ → Option ℕ
at_least least None = None
at_least least (Some n) = if nat_le least n then Some n else None

abbrev pub number_in_word : ℕ → ℕ → List ℕ → Option ℕ
number_in_word least most w = at_least least (number_up_to most w)

-- workers, by -n
abbrev pub workers_of : List ℕ → Option ℕ
workers_of w = number_in_word 1 32 w

-- how often a call that failed is made again, by -e
abbrev pub retries_of : List ℕ → Option ℕ
retries_of w = number_in_word 0 16 w

-- a number of bytes of an image, by -o and -l
abbrev pub byte_count_of : List ℕ → Option ℕ
byte_count_of w = number_in_word 0 18446744073709551615 w

-- what stands before and after the first c
abbrev pub split_at : ℕ → List ℕ → Option (List ℕ × List ℕ)
split_at c w = option_map (λ k. (take k w, drop (k + 1) w)) (position (λ b. b == c) w)

-- the bytes of a number of KiB
abbrev pub kib_of : List ℕ → Option ℕ
kib_of w = option_map (λ n. n * 1024) (number_in_word 0 9999999 w)

abbrev three : Option ℕ → Option ℕ → Option ℕ → Option (List ℕ)
three None b c = None
three (Some a) None c = None
three (Some a) (Some b) None = None
three (Some a) (Some b) (Some c) = Some (a ∷ b ∷ c ∷ [])

-- the sizes in bytes, by -m: three numbers of KiB with `:` between
abbrev pub sizes_of : List ℕ → Option (List ℕ)
sizes_of w = elim (split_at 58 w) [
  | None ↦ None
  | Some p ↦ elim (split_at 58 p.1) [ None ↦ None | Some q ↦ three (kib_of p.0) (kib_of q.0) (kib_of q.1) ]
]

-- what stands before and after the last c
abbrev pub split_at_last : ℕ → List ℕ → Option (List ℕ × List ℕ)
split_at_last c w = option_map (λ k. (take k w, drop (k + 1) w)) (rfind_below c w (length w))

-- the host and the port, by -l: what stands before and after the last `:`
abbrev pub listen_of : List ℕ → Option (List ℕ × ℕ)
listen_of w = elim (split_at_last 58 w) [
  | None ↦ None
  | Some p ↦ option_map (λ n. (p.0, n)) (number_in_word 1 65535 p.1)
]

-- the word ends in `.caibx` and has more before it
abbrev pub ends_in_caibx : List ℕ → Bool
ends_in_caibx w = nat_lt 6 (length w) && ends_with nat_eq w (codes ".caibx")

-- the name of a seed's index, which is a file
abbrev pub is_seed : List ℕ → Bool
is_seed w = ends_in_caibx w && not (is_index_url w)

-- the kind of digest, by --digest: SHA-512/256 or SHA-256 (FIPS 180-4)
abbrev pub kind_in_word : List ℕ → Option DigestKind
kind_in_word w =
    if bytes_eq w (codes "sha512-256") then Some kinds.Sha512T256
    else (if bytes_eq w (codes "sha256") then Some kinds.Sha256 else None)
