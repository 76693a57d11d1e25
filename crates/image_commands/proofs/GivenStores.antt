-- A store that was taken and written while an image was open, and both given back.
use Rattle.std.proofs.Common.{◌≡◌, ◌∙◌, ℕ, List, [], ◌∷◌, Option, Some, None, IfSome, IsSome, IsTrue, is_some, not, Result, Ok, Err, refl, sym, ap, subst, true≢false, arith, inl, inr}
use Rattle.std.specs.Map.{count_at}
use Rattle.std.specs.Option.{option_map}
use Rattle.buzhash_cut.specs.Sizes.{Sizes}
use Rattle.caibx_codec.specs.Listing.{Listing, count_of, id_of}
use Rattle.chunk_store.specs.Folders.{chunks}
use Rattle.chunk_store.specs.Said.{KeepsOf, Said}
use Rattle.chunk_store.specs.declared.id.DigestKind.{DigestKind}
use Rattle.command_outcome.specs.declared.outcome.Outcome.{Outcome}
use Rattle.command_words.specs.declared.command.Location.{Location}
use Rattle.command_words.specs.declared.command.Location.TheVariants as locations
use Rattle.command_steps.proofs.Consulted.{reads_twice}
use Rattle.command_steps.proofs.Dialed.{dials_none}
use Rattle.command_steps.proofs.Given.{given_earlier, stands_there, store_rises, store_says}
use Rattle.command_steps.proofs.Numbers.{counted_known, counted_le, given_rose}
use Rattle.command_steps.proofs.Opened.{given_back}
use Rattle.command_steps.proofs.Used.{Within, uses_then, uses_twice, uses_within, within_none, within_same}
use Rattle.command_steps.specs.AnyStores.{IsGiven, source_faults, source_files, location_in, place_in, said_in}
use Rattle.command_steps.specs.Sources.{DialsStores, Storage, StoreRose, said_at, storage}
use Rattle.command_steps.specs.Stores.{is_folder}
use Rattle.command_steps.specs.TakenStores.{SourceTaken, given_to}
use Rattle.command_steps.specs.Uses.{Uses, folders_among}
use Rattle.command_worlds.specs.Worlds.{Adds, FileRose, Reads}
use Rattle.command_steps.specs.declared.any_store.AnyStore.{AnyStore}
use Rattle.command_steps.specs.declared.any_store.AnyStore.TheVariants as stores
use Rattle.image_commands.specs.Make.{StoreGiven, WritesStore}
use Rattle.dsy_base.specs.Counts.{Rose, raised}
use Rattle.dsy_base.specs.Disk.{Disk, GivesFile, HoldsSame}
use Rattle.dsy_base.specs.Links.{DialState}
use Rattle.dsy_base.specs.Maps.{Map, at_name}
use Rattle.image_store.specs.PutChunks.{SaysAll}
use Rattle.image_store.specs.StoreImage.{SaysOf}

-- a store that isn't reached
pub refused_read : (images : List (List ℕ)) (store : Location) (d e : Disk) (o : Outcome) → SourceTaken images store d (Err o) e → Reads d e
refused_read images (locations.Folder name) d e o taken = taken.1
refused_read images (locations.Http host port prefix) d e o taken = taken.1

-- what was refused before the image was given back
pub taken_longer : (images : List (List ℕ)) (store : Location) (d e f : Disk) (o : Outcome) → SourceTaken [] store d (Err o) e → Reads e f → Uses images [] e f → SourceTaken images store d (Err o) f
taken_longer images (locations.Folder name) d e f o taken read used = (
  given_back d e f read name o taken.0,
  reads_twice d e f taken.1 read,
  uses_then [] (name ∷ []) images [] images (name ∷ []) d e f (within_none images) (within_same (name ∷ [])) (within_same images) (within_none (name ∷ [])) taken.2 used,
)
taken_longer images (locations.Http host port prefix) d e f o taken read used = (
  taken.0,
  reads_twice d e f taken.1 read,
  uses_twice images [] d e f (uses_within [] [] images [] d e (within_none images) (within_same []) taken.2) used,
)

-- beside more images
pub taken_beside : (some all : List (List ℕ)) (store : Location) (d e : Disk) (r : Result (Option (Map (List ℕ))) Outcome) → Within some all → SourceTaken some store d r e → SourceTaken all store d r e
taken_beside some all (locations.Folder name) d e (Ok held) within taken = taken
taken_beside some all (locations.Folder name) d e (Err o) within taken = (taken.0, taken.1, uses_within some (name ∷ []) all (name ∷ []) d e within (within_same (name ∷ [])) taken.2)
taken_beside some all (locations.Http host port prefix) d e (Ok held) within taken = taken
taken_beside some all (locations.Http host port prefix) d e (Err o) within taken = (taken.0, taken.1, uses_within some [] all [] d e within (within_same []) taken.2)

read_adds : (d b e : Disk) → Reads d b → Adds b e → Adds d e
read_adds d b e r a = record {
  files = a.files ∙ r.files;
  counts = λ q. omega (arith, r.counts q, a.counts q);
  folder_counts = λ q. omega (arith, r.folder_counts q, a.folder_counts q);
  known = λ q is. a.known q (r.known q is);
  folder_known = λ q is. a.folder_known q (r.folder_known q is);
}

server_stays : (store : Location) (files : Option (Map (List ℕ))) (folders : Option (Map (Map (List ℕ)))) → IsTrue (not (is_folder store)) → given_to store files folders ≡ folders
server_stays (locations.Folder q) files folders t = absurd (cc)
server_stays (locations.Http host port prefix) files folders t = refl

-- what is left where the images were given back, and then the store
pub record GivesStore {L D K : Type 0} (files : L → Option (Map (List ℕ))) (place : L → List ℕ) (faults : L → ℕ) (state : D → DialState) (images : List (List ℕ)) (store : Location) (w v : Storage) (s : AnyStore L D K) : Type 0 where
  pub folders : v.disk.folders ≡ given_to store (source_files files s) w.disk.folders
  pub kept : WritesStore images store w v
  pub given : IsGiven place faults state w v s

pub gives_store : {L D K : Type 0} (files : L → Option (Map (List ℕ))) (place : L → List ℕ) (faults : L → ℕ) (state : D → DialState) (images : List (List ℕ)) (d b e : Disk) (k j : DialState) (store : Location) (s : AnyStore L D K)
    → Reads d b → Uses images [] d b
    → e.folders ≡ given_to store (source_files files s) b.folders → Adds b e → Uses [] (folders_among (store ∷ [])) b e → DialsStores (store ∷ []) k j → IsGiven place faults state (storage b k) (storage e j) s
    → GivesStore files place faults state images store (storage d k) (storage e j) s
gives_store files place faults state images d b e k j store s read used is adds uses dials given =
    let folders = folders_among (store ∷ []) in
    record {
      folders = is ∙ ap (given_to store (source_files files s)) read.folders;
      kept = record {
        adds = read_adds d b e read adds;
        folders = λ t. is ∙ server_stays store (source_files files s) b.folders t ∙ read.folders;
        dials = dials;
        used = uses_then images [] [] folders images folders d b e (within_same images) (within_none folders) (within_none images) (within_same folders) used uses;
      };
      given = given_earlier place faults state (storage d k) (storage b k) (storage e j) read.folder_counts (dials_none k) dials.0 s given;
    }

-- beside one image alone
pub writes_beside : (some all : List (List ℕ)) (store : Location) (w v : Storage) → Within some all → WritesStore some store w v → WritesStore all store w v
writes_beside some all store w v within h = record { adds = h.adds; folders = h.folders; dials = h.dials; used = uses_within some (folders_among (store ∷ [])) all (folders_among (store ∷ [])) w.disk v.disk within (within_same (folders_among (store ∷ []))) h.used }

-- ---- the store

-- what more is said shows what was said
pub says_more : (l : Listing) (k : ℕ) (a b : Said) → ((id : List ℕ) → KeepsOf a b id) → SaysAll l k a → SaysAll l k b
says_more l k a b keeps says = λ i below.
    let s = says i below in
    (s.0, s.1, elim s.2 [ inl shown ↦ inl ((keeps (id_of l i)).shown s.0 shown) | inr taken ↦ inr ((keeps (id_of l i)).taken s.0 taken) ])

pub stored_more : (kind : DigestKind) (s : Sizes) (told : Option (List ℕ)) (bytes : List ℕ) (a b : Said) → ((id : List ℕ) → KeepsOf a b id) → SaysOf kind s told bytes a → SaysOf kind s told bytes b
stored_more kind s told bytes a b keeps says = (says.0, says.1, says.2, says.3, says_more says.0 (count_of says.0) a b keeps says.4)

same_there : {A : Type 0} (o : Option A) (y : Option (Map (Map (List ℕ)))) → IfSome y (λ m. o ≡ o)
same_there o None = tt
same_there o (Some m) = refl

module _ {L D K : Type 0} (files : L → Option (Map (List ℕ))) (place : L → List ℕ) (faults : L → ℕ) (state : D → DialState) where
  store_back : (w v : Storage) (s : AnyStore L D K) (held : Option (Map (List ℕ))) (P : Map (List ℕ) → Map (List ℕ) → Type 0) (Q : Said → Type 0) → ((a b : Said) → ((id : List ℕ) → KeepsOf a b id) → Q a → Q b)
      → v.disk.folders ≡ given_to (location_in place s) (source_files files s) w.disk.folders → IsGiven place faults state w v s → is_some (option_map chunks (source_files files s)) ≡ is_some (option_map chunks held)
      → IfSome held (λ f. IfSome (source_files files s) (P f)) → Q (said_in files state s) → StoreGiven (location_in place s) held P Q w v
  store_back w v (stores.Folder l) held P Q grows is given tells stands says = go w.disk.folders held (files l) is tells stands where
    go : (y : Option (Map (Map (List ℕ)))) (a b : Option (Map (List ℕ))) → v.disk.folders ≡ option_map (λ m. at_name m (place l) b) y → is_some (option_map chunks b) ≡ is_some (option_map chunks a) → IfSome a (λ f. IfSome b (P f))
        → IfSome y (λ m. IfSome a (λ f. (g : Map (List ℕ)) × (v.disk.folders ≡ Some (at_name m (place l) (Some g))) × P f g))
    go None a b is tells stands = tt
    go (Some m) None b is tells stands = tt
    go (Some m) (Some f) None is tells stands = absurd (true≢false (sym tells))
    go (Some m) (Some f) (Some g) is tells stands = (g, is, stands)
  store_back w v (stores.Http r) held P Q grows is given tells stands says =
      let keeps = store_says {L = L} {D = D} {K = K} files place faults state w v (stores.Http r) (same_there (source_files {L = L} {D = D} {K = K} files (stores.Http r)) w.disk.folders) given in
      grows (said_in {L = L} {D = D} {K = K} files state (stores.Http r)) (said_at w v (location_in {L = L} {D = D} {K = K} place (stores.Http r))) keeps says

  module _ (w v : Storage) (store : Location) (old new : AnyStore L D K) (same : place_in place new ≡ place_in place old) (located : location_in place old ≡ store) (folders : v.disk.folders ≡ given_to store (source_files files new) w.disk.folders)
      (given : IsGiven place faults state w v new) where
    there : location_in place new ≡ store
    there = stands_there place old new same ∙ located

    is_back : v.disk.folders ≡ given_to (location_in place new) (source_files files new) w.disk.folders
    is_back = subst (λ s. v.disk.folders ≡ given_to s (source_files files new) w.disk.folders) (sym there) folders

    pub back : (P : Map (List ℕ) → Map (List ℕ) → Type 0) (Q : Said → Type 0) → ((x y : Said) → ((id : List ℕ) → KeepsOf x y id) → Q x → Q y) → is_some (option_map chunks (source_files files new)) ≡ is_some (option_map chunks (source_files files old))
        → IfSome (source_files files old) (λ f. IfSome (source_files files new) (P f)) → Q (said_in files state new) → StoreGiven store (source_files files old) P Q w v
    back P Q grows tells stands says = subst (λ s. StoreGiven s (source_files files old) P Q w v) there (store_back w v new (source_files files old) P Q grows is_back given tells stands says)

    pub rose : source_faults faults state old ≡ 0 → Rose (source_faults faults state old) (source_faults faults state new) → StoreRose w v store
    rose none more = subst (λ s. StoreRose w v s) there (store_rises files place faults state w v new given (subst (λ n. Rose n (source_faults faults state new)) none more))
