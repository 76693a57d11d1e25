-- What stands under names, and was printed, where all of that is told; and how commands read it where no call fails.
use Rattle.std.specs.Prelude.{◌≡◌, ◌⊎◌, ◌++◌, ℕ, ◌+◌, ◌<◌, ◌≤◌, List, [], ◌∷◌, Some, MatchOption, MatchResult}
use Rattle.caibx_codec.specs.Listing.{Listing, count_of}
use Rattle.caibx_codec.specs.Reading.{index_in}
use Rattle.command_outcome.specs.declared.outcome.Outcome.{Outcome}
use Rattle.command_outcome.specs.declared.outcome.Outcome.TheVariants as ends
use Rattle.command_steps.specs.Stores.{folder_name}
use Rattle.command_words.specs.declared.command.Location.{Location}
use Rattle.command_worlds.specs.Worlds.{World}
use Rattle.dsy_base.specs.Maps.{Map, at_name}
use Rattle.extract_plan.specs.Places.{seed_item_limit}

-- files and folders by their names, and what was printed
pub record Contents : Type 0 where
  pub files : Map (List ℕ)
  pub folders : Map (Map (List ℕ))
  pub printed : List ℕ

-- a world that tells these
pub record HasContents (w : World) (x : Contents) : Type 0 where
  pub files : w.disk.files ≡ Some x.files
  pub folders : w.disk.folders ≡ Some x.folders
  pub printed : w.out.taken ≡ Some x.printed

-- the same with this file
abbrev pub with_file : Contents → List ℕ → List ℕ → Contents
with_file x q b = record x { files = at_name x.files q (Some b) }

-- with the files of this folder
abbrev pub with_folder : Contents → List ℕ → Map (List ℕ) → Contents
with_folder x q f = record x { folders = at_name x.folders q (Some f) }

-- with a text printed besides
abbrev pub with_text : Contents → List ℕ → Contents
with_text x text = record x { printed = x.printed ++ text }

-- how a command ends: from what stood before it, by its outcome, to what stands after it
abbrev pub Ending : Type 1
Ending = Contents → Outcome → Contents → Type 0

-- it ends so, and nothing has changed
abbrev pub Unchanged : Outcome → Ending
Unchanged e x o y = (o ≡ e) × (y ≡ x)

-- it is done, and a text was printed
abbrev pub PrintsText : List ℕ → Ending
PrintsText text x o y = (o ≡ ends.Done) × (y ≡ with_text x text)

-- ---- what is read, and how the command ends with that; where it isn't there, the command has ended

infixl 10 ◌>>=◌
-- what follows on what is read
abbrev pub ◌>>=◌ : {A : Type 0} → ((A → Ending) → Ending) → (A → Ending) → Ending
reading >>= next = reading next

-- the bytes of an image
abbrev pub image_at : List ℕ → (List ℕ → Ending) → Ending
image_at q next x o y = MatchOption (x.files q) (Unchanged (ends.NoFile q) x o y) (λ t. next t x o y)

-- the files of a folder
abbrev pub folder_at : List ℕ → (Map (List ℕ) → Ending) → Ending
folder_at q next x o y = MatchOption (x.folders q) (Unchanged (ends.NoFolder q) x o y) (λ f. next f x o y)

-- those of each store's folder
abbrev pub folders_at : List Location → (List (Map (List ℕ)) → Ending) → Ending
folders_at [] next = next []
folders_at (s ∷ stores) next = folder_at (folder_name s) (λ f. folders_at stores (λ fs. next (f ∷ fs)))

-- the index that a file is
abbrev pub index_at : List ℕ → (Listing → Ending) → Ending
index_at q next x o y = MatchOption (x.files q) (Unchanged (ends.NoFile q) x o y)
    (λ b. MatchResult (index_in b) (λ l. next l x o y) (λ fault. Unchanged (ends.BadIndex q fault) x o y))

-- the indexes that files are, which with n items besides list no more than they may
abbrev pub indexes_at : ℕ → List (List ℕ) → (List Listing → Ending) → Ending
indexes_at n [] next = next []
indexes_at n (q ∷ names) next = index_at q (λ l x o y.
    ((seed_item_limit < n + count_of l) × Unchanged ends.TooManyItems x o y)
    ⊎ ((n + count_of l ≤ seed_item_limit) × indexes_at (n + count_of l) names (λ ls. next (l ∷ ls)) x o y))
