-- What a step leaves, and what its refusals tell: none is Done, and a fault that is told has raised its count. Proved once a
-- step, and composed.
use Rattle.std.proofs.Common.{◌∙◌, ◌+◌, ◌≤◌, ℕ, zero, suc, Bool, false, true, not, IsTrue, List, [], ◌∷◌, Option, Some, None, Result, Ok, Err, refl, sym, subst, inl, inr, arith}
use Rattle.std.specs.Map.{count_at}
use Rattle.caibx_codec.specs.Listing.{Listing, count_of}
use Rattle.chunk_store.specs.Said.{Said}
use Rattle.command_outcome.specs.declared.outcome.Outcome.{Outcome}
use Rattle.command_outcome.specs.declared.outcome.Outcome.TheVariants as ends
use Rattle.command_indexes.specs.Blames.{Blames, Keeps, Parts, Spares}
use Rattle.command_steps.specs.Cache.{CacheOpened}
use Rattle.command_steps.specs.InputFiles.{ImageOpened, IndexRead, NotRead}
use Rattle.command_worlds.specs.Printing.{Printed}
use Rattle.command_steps.specs.Seeds.{IndexesRead, NoneListed}
use Rattle.command_worlds.specs.Steps.{◌>>=◌, Passed, each, nothing}
use Rattle.command_steps.specs.Dials.{Dials}
use Rattle.command_steps.specs.Sources.{ConsultsStores, FailsFirst as SourceFails, FirstUnreached, OnStorage, Storage, SourcesOpened, StoreRose, Unreached, storage_of, store_at}
use Rattle.command_steps.specs.Stores.{NotReached, StoreTaken, are_folders, is_folder}
use Rattle.command_steps.specs.TakenStores.{SourceTaken}
use Rattle.command_worlds.specs.Worlds.{Adds, FileRose, FolderRose, OnDisk, OnOut, Pure, Reads, Step, World, Writes, world}
use Rattle.command_words.specs.Locations.{index_place_of}
use Rattle.command_words.specs.declared.command.Location.{Location}
use Rattle.command_words.specs.declared.command.Location.TheVariants as locations
use Rattle.command_steps.proofs.Cached.{cache_reads}
use Rattle.command_indexes.proofs.Rises.{index_rose_later, index_rose_longer}
use Rattle.command_steps.proofs.Consulted.{store_rose_later, store_rose_longer}
use Rattle.command_steps.proofs.Dialed.{dials_none, dials_twice}
use Rattle.command_steps.proofs.Numbers.{rose_later, rose_longer}
use Rattle.dsy_base.specs.Disk.{Disk, Output}
use Rattle.dsy_base.specs.Links.{DialState}
use Rattle.dsy_base.specs.Maps.{Map}

-- an outcome that a command refuses with
abbrev pub IsRefusal : Outcome → Type 0
IsRefusal ends.Done = ⊥
IsRefusal (ends.Usage place why) = ⊥
IsRefusal other = Unit {0}

-- a refusal, whose fault has raised its count
abbrev pub IsFair : Parts → Outcome → World → World → Type 0
IsFair x o w v = IsRefusal o × Blames x o w v

-- what is spared is as before, and no count has fallen
pub record IsLeft (s : Spares) (w v : World) : Type 0 where
  pub keeps : Keeps s w v
  pub files : (q : List ℕ) → count_at w.disk.file_counts q ≤ count_at v.disk.file_counts q
  pub folders : (q : List ℕ) → count_at w.disk.folder_counts q ≤ count_at v.disk.folder_counts q
  pub dial : Dials w.dial v.dial
  pub out : w.out.faults ≤ v.out.faults

-- each refusal of the step is fair, and each end of it leaves the world so. `at` is the world round what the step is of
pub record IsStep {W A : Type 0} (at : W → World) (s : Spares) (x : Parts) (step : W → Result A Outcome → W → Type 0) : Type 0 where
  pub fair : (w v : W) (o : Outcome) → step w (Err o) v → IsFair x o (at w) (at v)
  pub leaves : (w v : W) (r : Result A Outcome) → step w r v → IsLeft s (at w) (at v)

pub left_twice : {s : Spares} {w u v : World} → IsLeft s w u → IsLeft s u v → IsLeft s w v
left_twice {s} {w} {u} {v} a b = record {
  keeps = record { files = λ t. b.keeps.files t ∙ a.keeps.files t; folders = λ t. b.keeps.folders t ∙ a.keeps.folders t; dial = λ t. b.keeps.dial t ∙ a.keeps.dial t; out = λ t. b.keeps.out t ∙ a.keeps.out t };
  files = λ q. omega (arith, a.files q, b.files q);
  folders = λ q. omega (arith, a.folders q, b.folders q);
  dial = dials_twice w.dial u.dial v.dial a.dial b.dial;
  out = omega (arith, a.out, b.out);
}

-- the store that is named has failed
pub source_failed : (lacks : Said → Type 0) (w v : World) (k : ℕ) (names : List Location) → SourceFails lacks (storage_of w) (storage_of v) k names → StoreRose (storage_of w) (storage_of v) (store_at names k)
source_failed lacks w v k [] h = absurd h
source_failed lacks w v zero (q ∷ names) h = h.0
source_failed lacks w v (suc k) (q ∷ names) h = source_failed lacks w v k names h.1

-- a fault after other steps is one over all of them
fair_earlier : {s z : Spares} (w u v : World) (x : Parts) (o : Outcome) → IsLeft s w u → IsLeft z u v → IsFair x o u v → IsFair x o w v
fair_earlier {s} {z} w u v x o a b h = (h.0, go o h.1) where
  file : (q : List ℕ) → FileRose u.disk v.disk q → FileRose w.disk v.disk q
  file q r = rose_later (count_at w.disk.file_counts q) (count_at u.disk.file_counts q) (count_at v.disk.file_counts q) (a.files q) r

  folder : (q : List ℕ) → FolderRose u.disk v.disk q → FolderRose w.disk v.disk q
  folder q r = rose_later (count_at w.disk.folder_counts q) (count_at u.disk.folder_counts q) (count_at v.disk.folder_counts q) (a.folders q) r

  go : (o : Outcome) → Blames x o u v → Blames x o w v
  go ends.ImageFault r = file x.image r
  go (ends.StoreFault k) r = store_rose_later (storage_of w) (storage_of u) (storage_of v) a.folders a.dial b.dial (store_at x.stores k) r
  go ends.TargetFault r = file x.target r
  go ends.CacheFault r = folder x.cache r
  go (ends.FileFault name) (inl r) = inl (file name r)
  go (ends.FileFault name) (inr (inl r)) = inr (inl (folder name r))
  go (ends.FileFault name) (inr (inr r)) = inr (inr (r.0, index_rose_later w.dial u.dial v.dial a.dial b.dial (index_place_of name) r.1))
  go ends.OutFault r = rose_later w.out.faults u.out.faults v.out.faults a.out r
  go ends.ListenFault r = r
  go other r = r

-- a fault before other steps is one over all of them
pub fair_longer : {s z : Spares} (w v u : World) (x : Parts) (o : Outcome) → IsLeft s w v → IsLeft z v u → IsFair x o w v → IsFair x o w u
fair_longer {s} {z} w v u x o b a h = (h.0, go o h.1) where
  file : (q : List ℕ) → FileRose w.disk v.disk q → FileRose w.disk u.disk q
  file q r = rose_longer (count_at w.disk.file_counts q) (count_at v.disk.file_counts q) (count_at u.disk.file_counts q) (a.files q) r

  folder : (q : List ℕ) → FolderRose w.disk v.disk q → FolderRose w.disk u.disk q
  folder q r = rose_longer (count_at w.disk.folder_counts q) (count_at v.disk.folder_counts q) (count_at u.disk.folder_counts q) (a.folders q) r

  go : (o : Outcome) → Blames x o w v → Blames x o w u
  go ends.ImageFault r = file x.image r
  go (ends.StoreFault k) r = store_rose_longer (storage_of w) (storage_of v) (storage_of u) a.folders b.dial a.dial (store_at x.stores k) r
  go ends.TargetFault r = file x.target r
  go ends.CacheFault r = folder x.cache r
  go (ends.FileFault name) (inl r) = inl (file name r)
  go (ends.FileFault name) (inr (inl r)) = inr (inl (folder name r))
  go (ends.FileFault name) (inr (inr r)) = inr (inr (r.0, index_rose_longer w.dial v.dial u.dial b.dial a.dial (index_place_of name) r.1))
  go ends.OutFault r = rose_longer w.out.faults v.out.faults u.out.faults a.out r
  go ends.ListenFault r = r
  go other r = r

abbrev pub whole : World → World
whole w = w

-- the world between two steps
abbrev pub between : {A B : Type 0} {step : Step World A} {next : A → Step World B} {w v : World} {r : Result B Outcome} → Passed step next w r v → World
between h = world h.disk h.dial h.out

pub bound : {A B : Type 0} {s : Spares} {x : Parts} {step : World → Result A Outcome → World → Type 0} {next : A → World → Result B Outcome → World → Type 0}
    → IsStep whole s x step → ((a : A) → IsStep whole s x (next a)) → IsStep whole s x (step >>= next)
bound {A} {B} {s} {x} {step} {next} first rest = record { fair = fair; leaves = leaves } where
  fair : (w v : World) (o : Outcome) → (step >>= next) w (Err o) v → IsFair x o w v
  fair w v o (inl h) = first.fair w v o h
  fair w v o (inr h) = fair_earlier w (between h) v x o (first.leaves w (between h) (Ok h.gave) h.did) ((rest h.gave).leaves (between h) v (Err o) h.then) ((rest h.gave).fair (between h) v o h.then)

  leaves : (w v : World) (r : Result B Outcome) → (step >>= next) w r v → IsLeft s w v
  leaves w v (Ok b) h = left_twice (first.leaves w (between h) (Ok h.gave) h.did) ((rest h.gave).leaves (between h) v (Ok b) h.then)
  leaves w v (Err o) (inl h) = first.leaves w v (Err o) h
  leaves w v (Err o) (inr h) = left_twice (first.leaves w (between h) (Ok h.gave) h.did) ((rest h.gave).leaves (between h) v (Err o) h.then)

-- the same of each in order
still : (s : Spares) (w : World) → IsLeft s w w
still s w = record { keeps = record { files = λ t. refl; folders = λ t. refl; dial = λ t. refl; out = λ t. refl }; files = λ q. omega arith; folders = λ q. omega arith; dial = dials_none _; out = omega arith }

pub each_step : {X : Type 0} {s : Spares} {x : Parts} {step : X → Step World Unit} → ((y : X) → IsStep whole s x (step y)) → (ys : List X) → IsStep whole s x (each step ys)
each_step {X} {s} {x} {step} k [] = record { fair = λ w v o h. absurd h; leaves = leaves } where
  leaves : (w v : World) (r : Result Unit Outcome) → nothing w r v → IsLeft s w v
  leaves w v (Ok u) h = subst (λ z. IsLeft s w z) (sym h) (still s w)
  leaves w v (Err o) h = absurd h
each_step {X} {s} {x} {step} k (y ∷ ys) = bound (k y) (λ u. each_step k ys)

-- a step that touches nothing, whose refusals name nobody's fault
pub pure_step : {A : Type 0} {s : Spares} {x : Parts} (answers : Result A Outcome → Type 0) → ((o : Outcome) (w v : World) → answers (Err o) → IsFair x o w v) → IsStep whole s x (Pure answers)
pure_step {A} {s} {x} answers refuses = record { fair = λ w v o h. refuses o w v h.0; leaves = λ w v r h. subst (λ z. IsLeft s w z) (sym h.1) (still s w) }

-- ---- steps over a part of the world

-- what is beside the disk, and what is beside the output
pub record Unread : Type 0 where
  pub dial : DialState
  pub out : Output

pub record Unprinted : Type 0 where
  pub disk : Disk
  pub dial : DialState

abbrev pub round : Unread → Disk → World
round p d = world d p.dial p.out

abbrev pub beside : Unprinted → Output → World
beside d p = world d.disk d.dial p

pub on_disk : {A : Type 0} {s : Spares} {x : Parts} {step : Disk → Result A Outcome → Disk → Type 0} → ((p : Unread) → IsStep (round p) s x step) → IsStep whole s x (OnDisk step)
on_disk {A} {s} {x} {step} k = record {
  fair = λ w v o h. subst (λ p. IsFair x o w (world v.disk v.dial p)) (sym h.2) (subst (λ n. IsFair x o w (world v.disk n w.out)) (sym h.1) ((k (unread w)).fair w.disk v.disk o h.0));
  leaves = λ w v r h. subst (λ p. IsLeft s w (world v.disk v.dial p)) (sym h.2) (subst (λ n. IsLeft s w (world v.disk n w.out)) (sym h.1) ((k (unread w)).leaves w.disk v.disk r h.0));
} where
  unread : World → Unread
  unread w = record { dial = w.dial; out = w.out }

pub on_out : {A : Type 0} {s : Spares} {x : Parts} {step : Output → Result A Outcome → Output → Type 0} → ((d : Unprinted) → IsStep (beside d) s x step) → IsStep whole s x (OnOut step)
on_out {A} {s} {x} {step} k = record {
  fair = λ w v o h. subst (λ d. IsFair x o w (world d v.dial v.out)) (sym h.1) (subst (λ n. IsFair x o w (world w.disk n v.out)) (sym h.2) ((k (unprinted w)).fair w.out v.out o h.0));
  leaves = λ w v r h. subst (λ d. IsLeft s w (world d v.dial v.out)) (sym h.1) (subst (λ n. IsLeft s w (world w.disk n v.out)) (sym h.2) ((k (unprinted w)).leaves w.out v.out r h.0));
} where
  unprinted : World → Unprinted
  unprinted w = record { disk = w.disk; dial = w.dial }

pub reads : {s : Spares} {d e : Disk} (p : Unread) → Reads d e → IsLeft s (round p d) (round p e)
reads p r = record { keeps = record { files = λ t. r.files; folders = λ t. r.folders; dial = λ t. refl; out = λ t. refl }; files = r.counts; folders = r.folder_counts; dial = dials_none _; out = omega arith }

-- what a step that writes folders leaves, and one that writes files
pub adds : {f n o : Bool} {d e : Disk} (p : Unread) → Adds d e → IsLeft (record { files = f; folders = false; dial = n; out = o }) (round p d) (round p e)
adds p r = record { keeps = record { files = λ t. r.files; folders = λ t. absurd (cc); dial = λ t. refl; out = λ t. refl }; files = r.counts; folders = r.folder_counts; dial = dials_none _; out = omega arith }

pub writes : {f n o : Bool} {d e : Disk} (p : Unread) → Writes d e → IsLeft (record { files = false; folders = f; dial = n; out = o }) (round p d) (round p e)
writes p r = record { keeps = record { files = λ t. absurd (cc); folders = λ t. r.folders; dial = λ t. refl; out = λ t. refl }; files = r.counts; folders = r.folder_counts; dial = dials_none _; out = omega arith }

abbrev pub behind : Output → Storage → World
behind p w = world w.disk w.dial p

pub on_sources : {A : Type 0} {s : Spares} {x : Parts} {step : Storage → Result A Outcome → Storage → Type 0} → ((p : Output) → IsStep (behind p) s x step) → IsStep whole s x (OnStorage step)
on_sources {A} {s} {x} {step} k = record {
  fair = λ w v o h. subst (λ p. IsFair x o w (world v.disk v.dial p)) (sym h.1) ((k w.out).fair (storage_of w) (storage_of v) o h.0);
  leaves = λ w v r h. subst (λ p. IsLeft s w (world v.disk v.dial p)) (sym h.1) ((k w.out).leaves (storage_of w) (storage_of v) r h.0);
}

pub consults : {s : Spares} {w v : Storage} (p : Output) (stores : List Location) → (IsTrue s.dial → IsTrue (are_folders stores)) → ConsultsStores stores w v → IsLeft s (behind p w) (behind p v)
consults p stores spared r = record {
  keeps = record { files = λ t. r.0.disk.files; folders = λ t. r.0.disk.folders; dial = λ t. r.1 (spared t); out = λ t. refl };
  files = r.0.disk.counts;
  folders = r.0.disk.folder_counts;
  dial = r.0.dial;
  out = omega arith;
}

-- ---- the steps

-- an index that wasn't read
pub unread_fair : (x : Parts) (w v : World) (q : List ℕ) (o : Outcome) → NotRead w.disk v.disk q o → IsFair x o w v
unread_fair x w v q (ends.NoFile name) h = (tt, tt)
unread_fair x w v q (ends.BadIndex name fault) h = (tt, tt)
unread_fair x w v q (ends.FileFault name) h = (tt, inl (subst (λ n. FileRose w.disk v.disk n) (sym h.0) h.1))
unread_fair x w v q ends.Memory h = (tt, tt)
unread_fair x w v q other h = absurd h

module _ (s : Spares) (x : Parts) (p : Unread) where
  pub index_step : (q : List ℕ) → IsStep (round p) s x (IndexRead q)
  index_step q = record { fair = λ d e o h. unread_fair x (round p d) (round p e) q o h.0; leaves = leaves } where
    leaves : (d e : Disk) (r : Result Listing Outcome) → IndexRead q d r e → IsLeft s (round p d) (round p e)
    leaves d e (Ok l) h = reads p h.1
    leaves d e (Err o) h = reads p h.1

  none_listed_fair : (d e : Disk) (n : ℕ) (names : List (List ℕ)) (o : Outcome) → NoneListed d e n names o → IsFair x o (round p d) (round p e)
  none_listed_fair d e n [] o h = absurd h
  none_listed_fair d e n (q ∷ names) o (inl h) = unread_fair x (round p d) (round p e) q o h
  none_listed_fair d e n (q ∷ names) o (inr (l, listed, inl h)) = subst (λ r. IsFair x r (round p d) (round p e)) (sym h.0) (tt, tt)
  none_listed_fair d e n (q ∷ names) o (inr (l, listed, inr h)) = none_listed_fair d e (n + count_of l) names o h.1

  pub indexes_step : (names : List (List ℕ)) → IsStep (round p) s x (IndexesRead names)
  indexes_step names = record { fair = λ d e o h. none_listed_fair d e 0 names o h.0; leaves = leaves } where
    leaves : (d e : Disk) (r : Result (List Listing) Outcome) → IndexesRead names d r e → IsLeft s (round p d) (round p e)
    leaves d e (Ok ls) h = reads p h.1
    leaves d e (Err o) h = reads p h.1

  pub image_step : IsStep (round p) s x (ImageOpened x.image)
  image_step = record { fair = go; leaves = leaves } where
    go : (d e : Disk) (o : Outcome) → ImageOpened x.image d (Err o) e → IsFair x o (round p d) (round p e)
    go d e (ends.NoFile name) h = (tt, tt)
    go d e ends.ImageFault h = (tt, h.0)
    go d e ends.Memory h = (tt, tt)
    go d e other h = absurd h.0

    leaves : (d e : Disk) (r : Result (Option (List ℕ)) Outcome) → ImageOpened x.image d r e → IsLeft s (round p d) (round p e)
    leaves d e (Ok told) h = reads p h.1
    leaves d e (Err o) h = reads p h.1

  pub reached_fair : (d e : Disk) (q : List ℕ) (o : Outcome) → NotReached d e q o → IsFair x o (round p d) (round p e)
  reached_fair d e q (ends.NoFolder name) h = (tt, tt)
  reached_fair d e q (ends.FileFault name) h = (tt, inr (inl (subst (λ n. FolderRose d e n) (sym h.0) h.1)))
  reached_fair d e q ends.Memory h = (tt, tt)
  reached_fair d e q other h = absurd h

  unreached_fair : (d e : Disk) (q : Location) (o : Outcome) → Unreached d e q o → IsFair x o (round p d) (round p e)
  unreached_fair d e q ends.Memory h = (tt, tt)
  unreached_fair d e (locations.Folder q) (ends.NoFolder name) h = (tt, tt)
  unreached_fair d e (locations.Folder q) (ends.FileFault name) h = (tt, inr (inl (subst (λ n. FolderRose d e n) (sym h.0) h.1)))
  unreached_fair d e (locations.Folder q) other h = absurd h
  unreached_fair d e (locations.Http host port prefix) other h = absurd h

  pub first_source_fair : (d e : Disk) (names : List Location) (o : Outcome) → FirstUnreached d e names o → IsFair x o (round p d) (round p e)
  first_source_fair d e [] o h = absurd h
  first_source_fair d e (q ∷ names) o (inl h) = unreached_fair d e q o h
  first_source_fair d e (q ∷ names) o (inr h) = first_source_fair d e names o h.1

  pub sources_step : (stores : List Location) → IsStep (round p) s x (SourcesOpened stores)
  sources_step stores = record { fair = go; leaves = leaves } where
    go : (d e : Disk) (o : Outcome) → SourcesOpened stores d (Err o) e → IsFair x o (round p d) (round p e)
    go d e o h = elim h.0 [
      | inl k ↦ first_source_fair d e stores o k
      | inr k ↦ subst (λ r. IsFair x r (round p d) (round p e)) (sym k) (tt, tt)
    ]

    leaves : (d e : Disk) (r : Result Unit Outcome) → SourcesOpened stores d r e → IsLeft s (round p d) (round p e)
    leaves d e (Ok u) h = reads p h.1
    leaves d e (Err o) h = reads p h.1

pub sources_fair : (s : Spares) (x : Parts) (p : Output) (w v : Storage) (names : List Location) (o : Outcome) → FirstUnreached w.disk v.disk names o → IsFair x o (behind p w) (behind p v)
sources_fair s x p w v [] o h = absurd h
sources_fair s x p w v (q ∷ names) o (inl h) = reached q o h where
  reached : (q : Location) (o : Outcome) → Unreached w.disk v.disk q o → IsFair x o (behind p w) (behind p v)
  reached q ends.Memory h = (tt, tt)
  reached (locations.Folder q) (ends.NoFolder name) h = (tt, tt)
  reached (locations.Folder q) (ends.FileFault name) h = (tt, inr (inl (subst (λ n. FolderRose w.disk v.disk n) (sym h.0) h.1)))
  reached (locations.Folder q) other h = absurd h
  reached (locations.Http host port prefix) other h = absurd h
sources_fair s x p w v (q ∷ names) o (inr h) = sources_fair s x p w v names o h.1

-- the folder of a cache
pub cache_step : (s : Spares) (x : Parts) (p : Unread) (stores : List Location) (cache : Option (List ℕ)) → IsStep (round p) s x (CacheOpened stores cache)
cache_step s x p stores cache = record { fair = λ d e o h. go cache d e o h; leaves = λ d e r h. reads p (cache_reads stores cache d e r h) } where
  go : (cache : Option (List ℕ)) (d e : Disk) (o : Outcome) → CacheOpened stores cache d (Err o) e → IsFair x o (round p d) (round p e)
  go None d e o h = absurd h
  go (Some q) d e o h = reached_fair s x p d e q o h.0

pub taken_step : (f n o : Bool) (x : Parts) (p : Unread) (images : List (List ℕ)) (q : List ℕ) → IsStep (round p) (record { files = f; folders = false; dial = n; out = o }) x (StoreTaken images q)
taken_step f n o x p images q = record { fair = λ d e r h. reached_fair (record { files = f; folders = false; dial = n; out = o }) x p d e q r h.0; leaves = leaves } where
  leaves : (d e : Disk) (r : Result (Option (Map (List ℕ))) Outcome) → StoreTaken images q d r e → IsLeft (record { files = f; folders = false; dial = n; out = o }) (round p d) (round p e)
  leaves d e (Ok held) h = adds p h.1.1
  leaves d e (Err r) h = reads p h.1

-- a store that is taken to be written
pub source_taken_step : (f n o : Bool) (x : Parts) (p : Unread) (images : List (List ℕ)) (store : Location) → IsStep (round p) (record { files = f; folders = not (is_folder store); dial = n; out = o }) x (SourceTaken images store)
source_taken_step f n o x p images (locations.Folder q) = taken_step f n o x p images q
source_taken_step f n o x p images (locations.Http host port prefix) = record { fair = fair; leaves = leaves } where
  fair : (d e : Disk) (r : Outcome) → SourceTaken images (locations.Http host port prefix) d (Err r) e → IsFair x r (round p d) (round p e)
  fair d e r h = subst (λ r. IsFair x r (round p d) (round p e)) (sym h.0) (tt, tt)

  leaves : (d e : Disk) (r : Result (Option (Map (List ℕ))) Outcome) → SourceTaken images (locations.Http host port prefix) d r e → IsLeft (record { files = f; folders = true; dial = n; out = o }) (round p d) (round p e)
  leaves d e (Ok held) h = subst (λ y. IsLeft (record { files = f; folders = true; dial = n; out = o }) (round p d) (round p y)) (sym h.1) (still (record { files = f; folders = true; dial = n; out = o }) (round p d))
  leaves d e (Err r) h = reads p h.1

pub printed_step : (f g n : Bool) (x : Parts) (d : Unprinted) (text : List ℕ) → IsStep (beside d) (record { files = f; folders = g; dial = n; out = false }) x (Printed text)
printed_step f g n x d text = record {
  fair = go;
  leaves = λ p q r h. record { keeps = record { files = λ t. refl; folders = λ t. refl; dial = λ t. refl; out = λ t. absurd (cc) }; files = λ q. omega arith; folders = λ q. omega arith; dial = dials_none _; out = h.1 };
} where
  go : (p q : Output) (o : Outcome) → Printed text p (Err o) q → IsFair x o (beside d p) (beside d q)
  go p q ends.OutFault h = (tt, h.0.0)
  go p q ends.Memory h = (tt, tt)
  go p q other h = absurd h.0
