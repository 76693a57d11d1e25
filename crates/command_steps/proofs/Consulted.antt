-- Stores that are consulted in several steps.
use Rattle.std.proofs.Common.{◌≡◌, ◌∙◌, ◌≤◌, ◌++◌, ℕ, IsTrue, List, [], ◌∷◌, refl, subst, inl, inr, arith}
use Rattle.std.proofs.lemmas.Bool.{cases_lt}
use Rattle.std.specs.Map.{count_at}
use Rattle.command_words.specs.declared.command.Location.{Location}
use Rattle.command_words.specs.declared.command.Location.TheVariants as locations
use Rattle.command_steps.proofs.Dialed.{any_earlier, any_longer, dials_none, dials_twice}
use Rattle.command_steps.proofs.Numbers.{rose_later, rose_longer}
use Rattle.command_steps.specs.Dials.{Dials}
use Rattle.command_steps.specs.Sources.{Consults, ConsultsStores, Storage, StoreRose, server_at, storage}
use Rattle.command_steps.specs.Stores.{are_folders}
use Rattle.command_worlds.specs.Worlds.{Reads}
use Rattle.dsy_base.specs.Counts.{Rose, raised}
use Rattle.dsy_base.specs.Disk.{Disk}
use Rattle.dsy_base.specs.Links.{DialState}
use Rattle.http_read.specs.Refusals.{IsUnacceptable}

pub reads_none : (d : Disk) → Reads d d
reads_none d = record { files = refl; folders = refl; counts = λ q. omega arith; folder_counts = λ q. omega arith; known = λ q is. is; folder_known = λ q is. is }

pub reads_twice : (d b e : Disk) → Reads d b → Reads b e → Reads d e
reads_twice d b e r s = record {
  files = s.files ∙ r.files;
  folders = s.folders ∙ r.folders;
  counts = λ q. omega (arith, r.counts q, s.counts q);
  folder_counts = λ q. omega (arith, r.folder_counts q, s.folder_counts q);
  known = λ q is. s.known q (r.known q is);
  folder_known = λ q is. s.folder_known q (r.folder_known q is);
}

pub consults_none : (w : Storage) → Consults w w
consults_none w = record { disk = reads_none w.disk; dial = dials_none w.dial }

pub consults_twice : (w u v : Storage) → Consults w u → Consults u v → Consults w v
consults_twice w u v a b = record { disk = reads_twice w.disk u.disk v.disk a.disk b.disk; dial = dials_twice w.dial u.dial v.dial a.dial b.dial }

-- a rise of a count that stays at its greatest value, after other calls and before
pub dialed_later : (a b c : ℕ) → raised a 0 ≤ b → Rose b c → Rose a c
dialed_later a b c le (inl more) = elim (cases_lt a c) [
  | inl below ↦ inl below
  | inr at_least ↦ inr (omega (arith, le, more, at_least))
]
dialed_later a b c le (inr full) = inr full

pub dialed_longer : (a b c : ℕ) → raised b 0 ≤ c → Rose a b → Rose a c
dialed_longer a b c le (inl more) = elim (cases_lt a c) [
  | inl below ↦ inl below
  | inr at_least ↦ inr (omega (arith, le, more, at_least))
]
dialed_longer a b c le (inr full) = inr (omega (arith, le, full))

-- a fault after more was consulted, and one before
pub store_rose_later : (w u v : Storage) → ((q : List ℕ) → count_at w.disk.folder_counts q ≤ count_at u.disk.folder_counts q) → Dials w.dial u.dial → Dials u.dial v.dial → (s : Location) → StoreRose u v s → StoreRose w v s
store_rose_later w u v le a b (locations.Folder q) rose = rose_later (count_at w.disk.folder_counts q) (count_at u.disk.folder_counts q) (count_at v.disk.folder_counts q) (le q) rose
store_rose_later w u v le a b (locations.Http host port prefix) (inl rose) = inl (dialed_later w.dial.faults u.dial.faults v.dial.faults a.faults rose)
store_rose_later w u v le a b (locations.Http host port prefix) (inr bad) = inr (any_earlier (IsUnacceptable (server_at host port prefix)) w.dial.ended u.dial.ended v.dial.ended a.ended b.ended bad)

pub store_rose_longer : (w v u : Storage) → ((q : List ℕ) → count_at v.disk.folder_counts q ≤ count_at u.disk.folder_counts q) → Dials w.dial v.dial → Dials v.dial u.dial → (s : Location) → StoreRose w v s → StoreRose w u s
store_rose_longer w v u le a b (locations.Folder q) rose = rose_longer (count_at w.disk.folder_counts q) (count_at v.disk.folder_counts q) (count_at u.disk.folder_counts q) (le q) rose
store_rose_longer w v u le a b (locations.Http host port prefix) (inl rose) = inl (dialed_longer w.dial.faults v.dial.faults u.dial.faults b.faults rose)
store_rose_longer w v u le a b (locations.Http host port prefix) (inr bad) = inr (any_longer (IsUnacceptable (server_at host port prefix)) w.dial.ended v.dial.ended u.dial.ended a.ended b.ended bad)

-- ---- the stores of a command

-- files and folders were read before
pub reads_consult : (d b : Disk) (k : DialState) (v : Storage) (stores : List Location) → Reads d b → ConsultsStores stores (storage b k) v → ConsultsStores stores (storage d k) v
reads_consult d b k v stores r h = (consults_twice (storage d k) (storage b k) v (record { disk = r; dial = dials_none k }) h.0, h.1)

-- they were only read
pub only_read : (d e : Disk) (k : DialState) (stores : List Location) → Reads d e → ConsultsStores stores (storage d k) (storage e k)
only_read d e k stores r = (record { disk = r; dial = dials_none k }, λ t. refl)

folders_both : (front : List Location) (q : Location) → IsTrue (are_folders (front ++ q ∷ [])) → IsTrue (are_folders front) × IsTrue (are_folders (q ∷ []))
folders_both [] q t = (refl, t)
folders_both (locations.Folder name ∷ front) q t = folders_both front q t
folders_both (locations.Http host port prefix ∷ front) q t = absurd (cc)

-- one more was given back
pub consults_more : (w u v : Storage) (front all : List Location) (q : Location) → all ≡ front ++ q ∷ [] → ConsultsStores front w u → ConsultsStores (q ∷ []) u v → ConsultsStores all w v
consults_more w u v front all q same h k =
    let both : IsTrue (are_folders all) → IsTrue (are_folders front) × IsTrue (are_folders (q ∷ [])) = λ t. folders_both front q (subst (λ l. IsTrue (are_folders l)) same t) in
    (consults_twice w u v h.0 k.0, λ t. k.1 (both t).1 ∙ h.1 (both t).0)
