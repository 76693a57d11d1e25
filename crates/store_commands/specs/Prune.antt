-- `prune -s STORE -y INDEX..`. A name is its bytes; files are a folder's, where they are told.
use Rattle.std.specs.Prelude.{◌≡◌, ℕ, Bool, List, [], Option, Some, Ok, Err}
use Rattle.std.specs.List.{AllZip}
use Rattle.std.specs.Option.{option_map}
use Rattle.caibx_codec.specs.Listing.{Listing}
use Rattle.command_outcome.specs.declared.outcome.Outcome.{Outcome}
use Rattle.command_outcome.specs.declared.outcome.Outcome.TheVariants as ends
use Rattle.command_indexes.specs.Gets.{IndexesGot}
use Rattle.command_worlds.specs.Steps.{◌>>=◌}
use Rattle.command_steps.specs.Stores.{StoreTaken}
use Rattle.command_worlds.specs.Worlds.{Adds, FolderRose, OnDisk, Step, World}
use Rattle.dsy_base.specs.Disk.{Disk}
use Rattle.dsy_base.specs.Maps.{Map, at_name}
use Rattle.verify_tool.specs.Pruning.{StopsPruning, is_listed_in, pruned}

-- the folder, whose files were `held`, was given back, and its files stand to those as P says
pub record PrunedBack (q : List ℕ) (held : Option (Map (List ℕ)))
    (P : Option (Map (List ℕ)) → Option (Map (List ℕ)) → Type 0) (d e : Disk) : Type 0 where
  pub files : Option (Map (List ℕ))
  pub back : e.folders ≡ option_map (λ m. at_name m q files) d.folders
  pub change : P held files

-- all files went but the chunks that are kept and the strangers
abbrev pub IsPrunedTo : (List ℕ → Bool) → Option (Map (List ℕ)) → Option (Map (List ℕ)) → Type 0
IsPrunedTo keeps old new = new ≡ option_map (pruned keeps) old

module _ (keeps : List ℕ → Bool) (q : List ℕ) (held : Option (Map (List ℕ))) where
  abbrev pub NotPruned : Disk → Disk → Outcome → Type 0
  NotPruned d e (ends.StoreFault k) = (k ≡ 0) × FolderRose d e q × PrunedBack q held (StopsPruning keeps) d e
  NotPruned d e ends.Memory = PrunedBack q held (StopsPruning keeps) d e
  NotPruned d e other = ⊥

  abbrev pub StorePruned : Step Disk Unit
  StorePruned d (Ok u) e = PrunedBack q held (IsPrunedTo keeps) d e × Adds d e
  StorePruned d (Err o) e = NotPruned d e o × Adds d e

-- the indexes are read before anything is removed
abbrev pub PruneEnds : List ℕ → List (List ℕ) → Step World Unit
PruneEnds store indexes = do
  ls ← IndexesGot 0 indexes
  held ← OnDisk (StoreTaken [] store)
  OnDisk (StorePruned (is_listed_in ls) store held)

-- each INDEX spells an index by the relation that is given, and the store's folder, which was there, holds its files
-- without those that are no listed chunk's and no stranger. No other folder has changed
pub record IsPruned (Spelled : List ℕ → Listing → Type 0) (folders folders_after : Map (Map (List ℕ))) (store : List ℕ)
    (indexes : List (List ℕ)) : Type 0 where
  pub listings : List Listing
  pub listed : AllZip Spelled indexes listings
  pub held : Map (List ℕ)
  pub folder_was : folders store ≡ Some held
  pub folder_is : folders_after ≡ at_name folders store (Some (pruned (is_listed_in listings) held))
