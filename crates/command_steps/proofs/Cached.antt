-- The folder of a cache: how reaching it leaves the disk, and what counts when it is given back.
use Rattle.std.proofs.Common.{◌≡◌, ℕ, List, [], ◌∷◌, Option, Some, None, Ok, Err, Result, refl, ap, subst, sym, arith, ◌∙◌}
use Rattle.std.specs.Map.{count_at}
use Rattle.cache_store.specs.Shelves.{Shelf}
use Rattle.command_outcome.specs.declared.outcome.Outcome.{Outcome}
use Rattle.command_outcome.specs.declared.outcome.Outcome.TheVariants as ends
use Rattle.command_steps.proofs.Numbers.{rose_longer}
use Rattle.command_steps.proofs.Taken.{adds_none, gives_adds}
use Rattle.command_steps.proofs.Used.{uses_twice, uses_within, within_first, within_rest, within_same}
use Rattle.command_steps.specs.Uses.{Uses, folders_among}
use Rattle.command_words.specs.declared.command.Location.{Location}
use Rattle.command_steps.specs.Cache.{CacheGiven, CacheOpened, folders_with, with_cache}
use Rattle.command_steps.specs.Stores.{NotReached}
use Rattle.command_worlds.specs.Worlds.{Adds, Reads}
use Rattle.dsy_base.specs.Disk.{Disk}

still : (d e : Disk) → e ≡ d → Reads d e
still d e same = subst (Reads d) (sym same) (record { files = refl; folders = refl; counts = λ q. omega arith; folder_counts = λ q. omega arith; known = λ q is. is; folder_known = λ q is. is })

-- the disk is only read
pub cache_reads : (stores : List Location) (cache : Option (List ℕ)) (d e : Disk) (r : Result Unit Outcome) → CacheOpened stores cache d r e → Reads d e
cache_reads stores None d e (Ok u) h = still d e h
cache_reads stores None d e (Err o) h = absurd h
cache_reads stores (Some q) d e (Ok u) h = h.1
cache_reads stores (Some q) d e (Err o) h = h.1

-- where it was reached, no store is given back
pub cache_beside : (stores : List Location) (cache : Option (List ℕ)) (d e : Disk) → CacheOpened [] cache d (Ok tt) e → CacheOpened stores cache d (Ok tt) e
cache_beside stores None d e h = h
cache_beside stores (Some q) d e h = h

reads_on : (d b e : Disk) → Reads d b → Reads b e → Reads d e
reads_on d b e u v = record {
  files = v.files ∙ u.files;
  folders = v.folders ∙ u.folders;
  counts = λ q. omega (arith, u.counts q, v.counts q);
  folder_counts = λ q. omega (arith, u.folder_counts q, v.folder_counts q);
  known = λ q is. v.known q (u.known q is);
  folder_known = λ q is. v.folder_known q (u.folder_known q is);
}

-- what was refused before more was given back
pub cache_longer : (stores : List Location) (cache : Option (List ℕ)) (d e f : Disk) (o : Outcome) → CacheOpened [] cache d (Err o) e → Reads e f → Uses [] (folders_among stores) e f → CacheOpened stores cache d (Err o) f
cache_longer stores None d e f o h r u = absurd h
cache_longer stores (Some q) d e f o h r u = (
  later o h.0,
  reads_on d e f h.1 r,
  uses_twice [] (q ∷ folders_among stores) d e f
      (uses_within [] (q ∷ []) [] (q ∷ folders_among stores) d e (within_same []) (within_first q (folders_among stores)) h.2)
      (uses_within [] (folders_among stores) [] (q ∷ folders_among stores) e f (within_same []) (within_rest q (folders_among stores)) u),
) where
  later : (o : Outcome) → NotReached d e q o → NotReached d f q o
  later (ends.NoFolder name) h = h
  later (ends.FileFault name) h = (h.0, rose_longer (count_at d.folder_counts q) (count_at e.folder_counts q) (count_at f.folder_counts q) (r.folder_counts q) h.1)
  later ends.Memory h = tt
  later other h = absurd h

-- its folder is among the folders again, and no number falls or is forgotten
pub given_folders : (o : Option Shelf) (d e : Disk) → CacheGiven o d e → e.folders ≡ folders_with o d.folders
given_folders None d e h = ap (λ (x : Disk). x.folders) h
given_folders (Some s) d e h = h.0

pub given_adds : (o : Option Shelf) (d e : Disk) → CacheGiven o d e → Adds d e
given_adds None d e h = subst (Adds d) (sym h) (adds_none d)
given_adds (Some s) d e h = gives_adds d e s.place s.faults h.1

-- the disk was only read, which counts as with the cache's folder
pub given_reads : (o : Option Shelf) (d e : Disk) → CacheGiven o d e → Reads (with_cache o d) e
given_reads o d e h =
    let adds = given_adds o d e h in
    record { files = adds.files; folders = given_folders o d e h; counts = adds.counts; folder_counts = adds.folder_counts; known = adds.known; folder_known = adds.folder_known }

pub given_files : (o : Option Shelf) (d e : Disk) → CacheGiven o d e → e.file_counts ≡ d.file_counts
given_files None d e h = ap (λ (x : Disk). x.file_counts) h
given_files (Some s) d e h = h.1.counts
