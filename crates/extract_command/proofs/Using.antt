-- Which names making an image has used.
use Rattle.std.proofs.Common.{◌≡◌, ℕ, List, [], ◌∷◌, Option, Some, None, subst, sym}
use Rattle.cache_store.specs.Shelves.{Shelf}
use Rattle.command_steps.proofs.Used.{Within, file_given, file_used, folder_given, uses_none, uses_then, uses_twice, uses_within, within_first, within_left, within_none, within_rest, within_right, within_same}
use Rattle.command_groups.specs.Groups.{stores_of}
use Rattle.command_steps.specs.Cache.{CacheGiven}
use Rattle.command_steps.specs.Uses.{Uses, folders_among}
use Rattle.command_words.specs.declared.command.Location.{Location}
use Rattle.dsy_base.specs.Disk.{Disk, GivesFile, OnFile}
use Rattle.extract_command.proofs.Shelved.{name_in}
use Rattle.extract_command.specs.Extract.{folder_of, folders_reached}

-- the folders of stores were used, and then the images of seeds
pub both_used : (names folders : List (List ℕ)) (d b e : Disk) → Uses [] folders d b → Uses names [] b e → Uses names folders d e
both_used names folders d b e = uses_then [] folders names [] names folders d b e (within_none names) (within_same folders) (within_same names) (within_none folders)

shelf_used : (o : Option Shelf) (d e : Disk) → CacheGiven o d e → Uses [] (folder_of (name_in o)) d e
shelf_used None d e h = subst (λ (y : Disk). Uses [] [] d y) (sym h) (uses_none [] [] d)
shelf_used (Some s) d e h = folder_given s.place d e s.faults h.1

-- the cache's folder was given back, then the stores, and then the images of the seeds
pub back_used : (o : Option Shelf) (cache : Option (List ℕ)) (groups : List (List Location)) (names : List (List ℕ)) (d b c e : Disk) → name_in o ≡ cache → CacheGiven o d b → Uses [] (folders_among (stores_of groups)) b c → Uses names [] c e → Uses names (folders_reached cache groups) d e
back_used o cache groups names d b c e named given closed ended =
    let folders = folders_reached cache groups in
    let shelf = subst (λ n. Uses [] (folder_of n) d b) named (shelf_used o d b given) in
    let sources = uses_then [] (folder_of cache) [] (folders_among (stores_of groups)) [] folders d b c (within_same []) (within_left (folder_of cache) (folders_among (stores_of groups))) (within_same []) (within_right (folder_of cache) (folders_among (stores_of groups))) shelf closed in
    both_used names folders d c e sources ended

-- and before all of it the kits, whose names are among those
pub kits_used : (images : List (List ℕ)) (cache : Option (List ℕ)) (groups : List (List Location)) (names : List (List ℕ)) (d a e : Disk) → Within names images → Uses images (folders_among (stores_of groups)) d a → Uses names (folders_reached cache groups) a e
    → Uses images (folders_reached cache groups) d e
kits_used images cache groups names d a e among kits rest =
    let folders = folders_reached cache groups in
    uses_then images (folders_among (stores_of groups)) names folders images folders d a e (within_same images) (within_right (folder_of cache) (folders_among (stores_of groups))) among (within_same folders) kits rest

-- the images of the seeds were opened
pub seeds_used : (images folders : List (List ℕ)) (d b : Disk) → Uses images [] d b → Uses images folders d b
seeds_used images folders d b = uses_within images [] images folders d b (within_same images) (within_none folders)

-- and then the kits of the other workers
pub opened_used : (images : List (List ℕ)) (cache : Option (List ℕ)) (groups : List (List Location)) (d b e : Disk) → Uses images [] d b → Uses images (folders_among (stores_of groups)) b e → Uses images (folders_reached cache groups) d e
opened_used images cache groups d b e seeds kits =
    let folders = folders_reached cache groups in
    uses_twice images folders d b e (seeds_used images folders d b seeds) (uses_within images (folders_among (stores_of groups)) images folders b e (within_same images) (within_right (folder_of cache) (folders_among (stores_of groups))) kits)

module _ (q : List ℕ) (images folders : List (List ℕ)) (d b : Disk) (opened : Uses images folders d b) where
  here : Within (q ∷ []) (q ∷ images)
  here = within_first q images

  seeds : Uses (q ∷ images) folders d b
  seeds = uses_within images folders (q ∷ images) folders d b (within_rest q images) (within_same folders) opened

  -- what is held was given back before the file was taken
  pub untouched_used : (e : Disk) → Uses images folders b e → Uses (q ∷ images) folders d e
  untouched_used e gone = uses_twice (q ∷ images) folders d b e seeds (uses_within images folders (q ∷ images) folders b e (within_rest q images) (within_same folders) gone)

  taken : (c : Disk) → OnFile b c q → Uses (q ∷ images) folders d c
  taken c took = uses_twice (q ∷ images) folders d b c seeds (uses_within (q ∷ []) [] (q ∷ images) folders b c here (within_none folders) (file_used q b c took))

  -- after the file was taken, or couldn't be
  pub untaken_used : (c e : Disk) → OnFile b c q → Uses images folders c e → Uses (q ∷ images) folders d e
  untaken_used c e took gone = uses_twice (q ∷ images) folders d c e (taken c took) (uses_within images folders (q ∷ images) folders c e (within_rest q images) (within_same folders) gone)

  -- and then the file
  pub made_used : (c f e : Disk) (n : ℕ) → OnFile b c q → Uses images folders c f → GivesFile f e q n → Uses (q ∷ images) folders d e
  made_used c f e n took back gave = uses_twice (q ∷ images) folders d f e (untaken_used c f took back) (uses_within (q ∷ []) [] (q ∷ images) folders f e here (within_none folders) (file_given q f e n gave))
