-- What files and folders in memory tell whose calls never fail.
use Rattle.std.specs.Prelude.{ℕ, List, Some, String, Vec}
use Rattle.std.specs.BTreeMap.{BTreeMap}
use Rattle.std.specs.Option.{option_map}
use Rattle.dsy_base.specs.Disk.{Disk}
use Rattle.dsy_base.specs.Maps.{Map}
use Rattle.dsy_base.specs.Slots.{counts_in}
use Rattle.dsy_base.specs.declared.slots.Slot.{Slot}
use Rattle.dsy_forms.specs.SlotFiles.{shown_in}
use Rattle.dsy_forms.specs.Trees.{map_of}
use Rattle.dsy_sure.specs.declared.sure_files.SureFiles.{SureFiles}
use Rattle.dsy_sure.specs.declared.sure_folder.SureFolder.{SureFolder}

-- the bytes of the files in slots, and the files of the folders in slots
abbrev pub files_in : {Y Z : Type 0} → BTreeMap (String Y) (Slot (Vec ℕ Z)) → Map (List ℕ)
files_in slots = shown_in (λ f. f.items) slots

-- the files of each folder among these slots
abbrev pub folders_in : {Y : Type 0} → BTreeMap (String Y) (Slot SureFolder) → Map (Map (List ℕ))
folders_in slots = shown_in (λ f. map_of f.files) slots

-- the bytes of each file by its name
abbrev pub files_of : SureFiles → Map (List ℕ)
files_of s = files_in s.files

-- the files of each folder by its name
abbrev pub folders_of : SureFiles → Map (Map (List ℕ))
folders_of s = folders_in s.folders

-- the number 0 under each name that has one
abbrev pub zeros : Map ℕ → Map ℕ
zeros m q = option_map (λ _. 0) (m q)

-- the number of each name that was used, which is 0: no call has failed
abbrev pub zeros_in : {V Y : Type 0} → BTreeMap (String Y) (Slot V) → Map ℕ
zeros_in slots = zeros (counts_in slots)

-- all of it
abbrev pub disk_of : SureFiles → Disk
disk_of s = record {
  files = Some (files_of s);
  folders = Some (folders_of s);
  file_counts = zeros_in s.files;
  folder_counts = zeros_in s.folders;
}
