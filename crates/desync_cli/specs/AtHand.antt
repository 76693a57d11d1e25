-- Commands that need no server: their indexes are files, and each chunk that they want is at hand.
use Rattle.std.specs.Prelude.{◌≡◌, ◌⊎◌, ◌++◌, ℕ, ◌<◌, ◌≤◌, Bool, true, false, List, [], ◌∷◌, length, map, Option}
use Rattle.std.specs.Prelude.{IfSome, IsSome, IsSomeAnd, IsTrue}
use Rattle.std.specs.List.{All, AllZip, Any}
use Rattle.assembler.specs.Assemblies.{RightAlike}
use Rattle.caibx_codec.specs.Listing.{Listing, count_of, id_of, kind_of, size_of}
use Rattle.cat_command.specs.Cat.{range_size}
use Rattle.chunk_store.specs.Folders.{chunks}
use Rattle.chunk_store.specs.Giving.{GivesChunk}
use Rattle.command_outcome.specs.declared.outcome.Outcome.{Outcome}
use Rattle.command_outcome.specs.declared.outcome.Outcome.TheVariants as ends
use Rattle.command_indexes.specs.Places.{are_files, is_file}
use Rattle.command_groups.specs.Groups.{stores_of}
use Rattle.command_steps.specs.InputFiles.{IsListed}
use Rattle.command_steps.specs.Seeds.{image_name}
use Rattle.command_steps.specs.Sources.{IsThere, location_files}
use Rattle.command_words.specs.declared.command.Command.{Command}
use Rattle.command_words.specs.declared.command.Command.TheVariants as commands
use Rattle.command_words.specs.declared.command.Location.{Location}
use Rattle.command_words.specs.declared.command.Location.TheVariants as locations
use Rattle.dsy_base.specs.Disk.{Disk}
use Rattle.dsy_base.specs.Maps.{Map}
use Rattle.extract_plan.specs.Places.{items_of, seed_item_limit}
use Rattle.extract_command.specs.Extract.{Into, SeedHas, Seeds, base_of, beside, folder_of, in_place}
use Rattle.image_reader.specs.Covered.{IsCovered}

-- a folder gives the chunk of entry i; what a server has isn't at hand
abbrev pub StoreGivesEntry : Map (Map (List ℕ)) → Listing → ℕ → Location → Type 0
StoreGivesEntry n l i s =
    IsSomeAnd (location_files n s) (λ f. GivesChunk (kind_of l) (id_of l i) (size_of l i) (chunks f (id_of l i)))

-- a group gives it whichever of its stores is asked: it has stores, and each gives it
abbrev pub GroupGivesEntry : Map (Map (List ℕ)) → Listing → ℕ → List Location → Type 0
GroupGivesEntry n l i g = (1 ≤ length g) × All (StoreGivesEntry n l i) g

-- the cache, as a group of one folder, and the groups of stores
abbrev pub near : Option (List ℕ) → List (List Location) → List (List Location)
near cache groups = map (λ c. locations.Folder c ∷ []) (folder_of cache) ++ groups

-- entry i is at hand: an alike one is right in the base, or a seed has its chunk, or a group of folders gives it
abbrev pub IsAtHand : Map (List ℕ) → Map (Map (List ℕ)) → Into → Listing → Seeds → List (List Location) → ℕ → Type 0
IsAtHand b n out l x groups i = RightAlike l (base_of b out l) i
    ⊎ (((s : ℕ) × SeedHas (kind_of l) b x (id_of l i) (size_of l i) s) ⊎ Any (GroupGivesEntry n l i) groups)

-- the index lists each id with one size
abbrev pub ListsOneSize : Listing → Type 0
ListsOneSize l =
    (i j : ℕ) → i < count_of l → j < count_of l → id_of l i ≡ id_of l j → size_of l i ≡ size_of l j

-- `extract` needs none: INDEX, which is no URL, and the indexes of the seeds are index files, the folders are there,
-- and each entry of INDEX is at hand. Where there is a cache, INDEX lists each id with one size
pub record NeedsNoServer (b : Map (List ℕ)) (n : Map (Map (List ℕ))) (groups : List (List Location))
    (cache : Option (List ℕ)) (seeds : List (List ℕ)) (out : Into) (index : List ℕ) : Type 0 where
  pub file : IsTrue (is_file index)
  pub listing : Listing
  pub listed : IsListed b index listing
  pub listings : List Listing
  pub seeds_listed : AllZip (λ q l. IsListed b q l) seeds listings
  pub few : items_of listings ≤ seed_item_limit
  pub there : All (IsThere n) (stores_of groups)
  pub cache_there : IfSome cache (λ c. IsSome (n c))
  pub one_size : IsSome cache → ListsOneSize listing
  pub at_hand : (i : ℕ) → i < count_of listing → IsAtHand b n out listing
      (record { images = map image_name seeds; listings = listings }) (near cache groups) i

-- the file that becomes the image
abbrev pub into : Bool → List ℕ → Into
into true out = in_place out
into false out = beside out

-- `cat` so: for each entry with bytes of the range a group of folders gives the chunk
pub record CatNeedsNoServer (b : Map (List ℕ)) (n : Map (Map (List ℕ))) (groups : List (List Location)) (offset : ℕ)
    (size : Option ℕ) (index : List ℕ) : Type 0 where
  pub file : IsTrue (is_file index)
  pub listing : Listing
  pub listed : IsListed b index listing
  pub there : All (IsThere n) (stores_of groups)
  pub given : (i : ℕ) → IsCovered listing offset (range_size listing offset size) i
      → Any (GroupGivesEntry n listing i) groups

-- the file of this name is an index, and for each of its entries a group of folders gives the chunk
pub record AllGiven (b : Map (List ℕ)) (n : Map (Map (List ℕ))) (groups : List (List Location)) (index : List ℕ)
    (l : Listing) : Type 0 where
  pub listed : IsListed b index l
  pub given : (i : ℕ) → i < count_of l → Any (GroupGivesEntry n l i) groups

-- `cache` so: for each entry of each INDEX a group of folders gives the chunk
pub record CacheNeedsNoServer (b : Map (List ℕ)) (n : Map (Map (List ℕ))) (groups : List (List Location))
    (cache : List ℕ) (indexes : List (List ℕ)) : Type 0 where
  pub files : IsTrue (are_files indexes)
  pub there : All (IsThere n) (stores_of groups)
  pub cache_there : IsSome (n cache)
  pub listings : List Listing
  pub given : AllZip (AllGiven b n groups) indexes listings

-- a command that needs no server is done, unless there was no memory, or the output failed
abbrev pub EndsAtHand : Command → Disk → Outcome → Type 0
EndsAtHand (commands.Extract stores retries seeds cache in_place workers index target) d o =
    IfSome d.files (λ b. IfSome d.folders (λ n. NeedsNoServer b n stores cache seeds (into in_place target) index
    → (o ≡ ends.Done) ⊎ (o ≡ ends.Memory)))
EndsAtHand (commands.Cache stores retries cache workers indexes) d o =
    IfSome d.files (λ b. IfSome d.folders (λ n. CacheNeedsNoServer b n stores cache indexes
    → (o ≡ ends.Done) ⊎ (o ≡ ends.Memory)))
EndsAtHand (commands.Cat stores retries offset size index) d o =
    IfSome d.files (λ b. IfSome d.folders (λ n. CatNeedsNoServer b n stores offset size index
    → (o ≡ ends.Done) ⊎ ((o ≡ ends.OutFault) ⊎ (o ≡ ends.Memory))))
EndsAtHand other d o = Unit {0}
