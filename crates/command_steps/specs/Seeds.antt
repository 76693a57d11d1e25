-- Seeds: other images at hand, each named by its index. The index `X.caibx` is that of the image X.
use Rattle.std.specs.Prelude.{◌≡◌, ◌⊎◌, ℕ, ◌+◌, ◌-◌, ◌<◌, ◌≤◌, List, [], ◌∷◌, ◌++◌, length, take, drop, codes}
use Rattle.std.specs.Prelude.{Option, Some, None, IfSome, IsSome, if◌then◌else◌, slice_index_or, unwrap_or}
use Rattle.std.specs.Prelude.{Result, Ok, Err}
use Rattle.std.specs.List.{All, AllZip, fold}
use Rattle.std.specs.Option.{option_map}
use Rattle.std.specs.Str.{bytes_eq}
use Rattle.caibx_codec.specs.Listing.{Listing, count_of}
use Rattle.command_outcome.specs.declared.outcome.Outcome.{Outcome}
use Rattle.command_outcome.specs.declared.outcome.Outcome.TheVariants as ends
use Rattle.command_steps.specs.InputFiles.{Holds, Listed, NotRead}
use Rattle.command_steps.specs.Uses.{Uses}
use Rattle.command_worlds.specs.Worlds.{FileRose, Reads, Step}
use Rattle.dsy_base.specs.Bytes.{Held}
use Rattle.dsy_base.specs.Disk.{Disk}
use Rattle.dsy_base.specs.Maps.{Map}
use Rattle.extract_plan.specs.Places.{items_of, seed_item_limit}
use Rattle.extract_plan.specs.declared.seed.Seed.{Seed}

-- ---- their names

-- the image whose index has this name
abbrev pub image_name : List ℕ → List ℕ
image_name q = if bytes_eq (drop (length q - 6) q) (codes ".caibx") then take (length q - 6) q else q

-- the name of this number
abbrev pub name_at : List (List ℕ) → ℕ → List ℕ
name_at names k = slice_index_or names k []

-- ---- their indexes

-- how many items the indexes list, with n beside them
abbrev pub items_with : ℕ → List Listing → ℕ
items_with n ls = fold (λ m l. m + count_of l) n ls

-- an index was put to others that list n items: how many these list with it, which are no more than they may be
abbrev pub CountedWith : ℕ → Listing → Result ℕ Outcome → Type 0
CountedWith n l (Ok m) = (m ≡ n + count_of l) × (m ≤ seed_item_limit)
CountedWith n l (Err ends.TooManyItems) = seed_item_limit < n + count_of l
CountedWith n l (Err ends.Memory) = Unit {0}
CountedWith n l (Err other) = ⊥

-- the files of these names are there, and are the index files of these indexes
abbrev pub AllListed : Disk → List (List ℕ) → List Listing → Type 0
AllListed d = AllZip (λ q l. Listed d q l)

-- the first index that couldn't be read; or the first with which they list more items together than they may, where n
-- are listed beside them
abbrev pub NoneListed : Disk → Disk → ℕ → List (List ℕ) → Outcome → Type 0
NoneListed d e n [] o = ⊥
NoneListed d e n (q ∷ names) o = NotRead d e q o ⊎ ((l : Listing) × Listed d q l
    × ((o ≡ ends.TooManyItems) × (seed_item_limit < n + count_of l)
    ⊎ ((n + count_of l ≤ seed_item_limit) × NoneListed d e (n + count_of l) names o)))

-- the indexes of these names were read in order, and list no more items together than they may
abbrev pub IndexesRead : List (List ℕ) → Step Disk (List Listing)
IndexesRead names d (Ok ls) e = (AllListed d names ls × (items_of ls ≤ seed_item_limit)) × Reads d e
    × Uses names [] d e
IndexesRead names d (Err o) e = NoneListed d e 0 names o × Reads d e × Uses names [] d e

-- ---- their images

-- what was opened under this name: a view that tells what the file holds; or none, where the file isn't there, or
-- opening it failed
abbrev pub IsViewed : Disk → Disk → List ℕ → Option Held → Type 0
IsViewed d e q (Some h) = Holds d q h.bytes × (h.name ≡ q) × IfSome h.bytes (λ t. length t ≡ h.size)
IsViewed d e q None = IfSome d.files (λ m. m q ≡ None) ⊎ FileRose d e q

-- the name that a seed was opened under; the empty one where it has no view
abbrev pub label_in : {V : Type 0} → (V → Held) → Seed V → List ℕ
label_in held s = unwrap_or (option_map (λ v. (held v).name) s.view) []

module _ {V : Type 0} (held : V → Held) (faults : V → ℕ) where
  -- a fresh seed under this name
  pub record IsSeedAt (d e : Disk) (name : List ℕ) (s : Seed V) : Type 0 where
    pub viewed : IsViewed d e name (option_map held s.view)
    pub unfailed : unwrap_or (option_map faults s.view) 0 ≡ 0

  -- a fresh seed under each of the names was appended
  abbrev pub OpensSeeds : Disk → Disk → List (List ℕ) → List (Seed V) → List (Seed V) → Type 0
  OpensSeeds d e [] old new = new ≡ old
  OpensSeeds d e (q ∷ names) old new = (s : Seed V) × IsSeedAt d e q s × OpensSeeds d e names (old ++ s ∷ []) new

-- the name of each seed that has a view has a number
abbrev pub SeedsKnown : {V : Type 0} → (V → Held) → Map ℕ → List (Seed V) → Type 0
SeedsKnown held counts seeds = All (λ s. IfSome s.view (λ v. IsSome (counts (held v).name))) seeds
