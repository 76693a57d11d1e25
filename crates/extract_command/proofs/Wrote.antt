-- What calls on files leave of a disk, one after the other.
use Rattle.std.proofs.Common.{◌≡◌, ◌∙◌, ℕ, ◌≤◌, List, Option, Some, None, IsSome, unwrap_or, ap, arith, inl, inr, refl}
use Rattle.std.specs.Map.{count_at}
use Rattle.cache_store.specs.Shelves.{Shelf}
use Rattle.command_steps.proofs.Numbers.{counted_le}
use Rattle.command_steps.specs.Cache.{folders_with, with_cache}
use Rattle.command_worlds.specs.Worlds.{Reads, Writes}
use Rattle.dsy_base.specs.Disk.{Disk, GivesFile, OnFile}
use Rattle.dsy_base.specs.Counts.{Rose}
use Rattle.dsy_base.specs.Maps.{Map}
use Rattle.dsy_base.specs.declared.fault.IoFault.{IoFault}
use Rattle.dsy_base.specs.declared.fault.IoFault.TheVariants as io
use Rattle.extract_command.specs.Extract.{IsCounted, answer_of_taking}

pub wrote_then : (d b e : Disk) → Writes d b → Writes b e → Writes d e
wrote_then d b e u v = record {
  folders = v.folders ∙ u.folders;
  counts = λ q. omega (arith, u.counts q, v.counts q);
  folder_counts = λ q. omega (arith, u.folder_counts q, v.folder_counts q);
}

pub wrote_read : (d e : Disk) → Reads d e → Writes d e
wrote_read d e r = record { folders = r.folders; counts = r.counts; folder_counts = r.folder_counts }

-- a disk that was only read, with the folder of a cache
pub read_with : (o : Option Shelf) (d e : Disk) → Reads d e → Reads (with_cache o d) (with_cache o e)
read_with o d e r = record { files = r.files; folders = ap (folders_with o) r.folders; counts = r.counts; folder_counts = r.folder_counts; known = r.known; folder_known = r.folder_known }

same_count : (m n : Map ℕ) → n ≡ m → (q : List ℕ) → count_at m q ≤ count_at n q
same_count m n same q = let at : count_at n q ≡ count_at m q = ap (λ (k : Map ℕ). count_at k q) same in omega (arith, at)

pub wrote_on : (d e : Disk) (name : List ℕ) → OnFile d e name → Writes d e
wrote_on d e name o = record { folders = o.folders; counts = counted_le d.file_counts e.file_counts name o.counts; folder_counts = same_count d.folder_counts e.folder_counts o.folder_counts }

pub wrote_back : (d e : Disk) (name : List ℕ) (n : ℕ) → GivesFile d e name n → Writes d e
wrote_back d e name n o = record { folders = o.folders; counts = counted_le d.file_counts e.file_counts name o.counts.counted; folder_counts = same_count d.folder_counts e.folder_counts o.folder_counts }

-- ---- what has a number

-- a number that rose is there
rose_known : (o : Option ℕ) (old : ℕ) → Rose old (unwrap_or o 0) → IsSome o
rose_known None old (inl more) = absurd (omega (arith, more))
rose_known None old (inr full) = absurd (omega (arith, full))
rose_known (Some n) old rose = refl

pub untaken_numbered : (q : List ℕ) (d e : Disk) (old : ℕ) (fault : IoFault) → (fault ≡ io.Failed → Rose old (count_at e.file_counts q)) → e.files ≡ d.files → IsCounted q d (answer_of_taking fault) e
untaken_numbered q d e old io.Failed rose same = inl (rose_known (e.file_counts q) old (rose refl))
untaken_numbered q d e old io.Memory rose same = inr (refl, same)
