-- Maps from names to what stands under them. A name is its bytes.
use Rattle.std.specs.Prelude.{◌≡◌, ℕ, ◌<◌, ◌≤◌, ◌==◌, ◌&&◌, Bool, List, length, take, count_by, nat_le, Option, Some}
use Rattle.std.specs.Prelude.{None, Result, Ok, Err, is_some}
use Rattle.std.specs.Cmp.Lexicographic.{slice_cmp}
use Rattle.std.specs.List.Sorted.{IsStrictlySortedBy}
use Rattle.std.specs.Map.{update}
use Rattle.std.specs.Ordering.{nat_cmp}
use Rattle.std.specs.Set.{is_member}
use Rattle.std.specs.Str.{bytes_eq}
use Rattle.dsy_base.specs.declared.fault.FileFault.{FileFault}
use Rattle.dsy_base.specs.declared.fault.FileFault.TheVariants as file

-- what stands under each name
abbrev pub Map : Type 0 → Type 0
Map X = List ℕ → Option X

-- the map with w under the name
abbrev pub at_name : {X : Type 0} → Map X → List ℕ → Option X → Map X
at_name m name w = update bytes_eq m name w

-- a name with at most one `/`, which a folder lists
abbrev pub is_listed : List ℕ → Bool
is_listed name = nat_le (count_by (λ c. c == 47) name) 1

-- all names that a map lists, each once, in the order of their bytes
pub record IsNamesOf {X : Type 0} (m : Map X) (names : List (List ℕ)) : Type 0 where
  pub sorted : IsStrictlySortedBy (slice_cmp nat_cmp) names
  pub all : (q : List ℕ) → is_member bytes_eq names q ≡ (is_listed q && is_some (m q))

-- what a read into a buffer may answer, which then holds `out`, where `held` stands under the name
abbrev pub ReadGives : Option (List ℕ) → Result ℕ FileFault → List ℕ → Type 0
ReadGives held (Ok n) out = (n ≤ length out) × (held ≡ Some (take n out))
ReadGives held (Err file.Absent) out = held ≡ None
ReadGives held (Err file.Longer) out = (b : List ℕ) × (held ≡ Some b) × (length out < length b)
ReadGives held (Err file.Failed) out = Unit {0}
ReadGives held (Err file.Memory) out = Unit {0}
