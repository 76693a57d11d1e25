-- What files and folders in memory tell.
use Rattle.std.specs.Prelude.{ℕ, List, Some, String}
use Rattle.std.specs.BTreeMap.{BTreeMap}
use Rattle.dsy_forms.specs.declared.mem_files.MemFiles.{MemFiles}
use Rattle.dsy_forms.specs.declared.mem_folder.MemFolder.{MemFolder}
use Rattle.byte_forms.specs.declared.mem_target.MemFile.{MemFile}
use Rattle.dsy_base.specs.declared.slots.Slot.{Slot}
use Rattle.dsy_base.specs.Disk.{Disk}
use Rattle.dsy_base.specs.Maps.{Map}
use Rattle.dsy_base.specs.Slots.{counts_in}
use Rattle.dsy_forms.specs.SlotFiles.{shown_in}
use Rattle.dsy_forms.specs.Trees.{map_of}

-- the bytes of the files in slots, and the files of the folders in slots
abbrev pub files_in : {Y : Type 0} → BTreeMap (String Y) (Slot MemFile) → Map (List ℕ)
files_in slots = shown_in (λ f. f.bytes.items) slots

abbrev pub folders_in : {Y : Type 0} → BTreeMap (String Y) (Slot MemFolder) → Map (Map (List ℕ))
folders_in slots = shown_in (λ f. map_of f.files) slots

-- the bytes of each file by its name
abbrev pub files_of : MemFiles → Map (List ℕ)
files_of s = files_in s.files

-- the files of each folder by its name
abbrev pub folders_of : MemFiles → Map (Map (List ℕ))
folders_of s = folders_in s.folders

-- the number of each file name, and of each folder name, that was used
abbrev pub file_counts_of : MemFiles → Map ℕ
file_counts_of s = counts_in s.files

abbrev pub folder_counts_of : MemFiles → Map ℕ
folder_counts_of s = counts_in s.folders

-- all of it
abbrev pub disk_of : MemFiles → Disk
disk_of s = record {
  files = Some (files_of s);
  folders = Some (folders_of s);
  file_counts = file_counts_of s;
  folder_counts = folder_counts_of s;
}
