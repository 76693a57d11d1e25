-- A store that was taken, and given back with what it has counted.
use Rattle.std.proofs.Common.{◌≡◌, ℕ, List, Bool, true, false, cond, Option, IsSome, refl, sym, ap, subst, arith}
use Rattle.std.specs.Map.{count_at}
use Rattle.std.specs.Str.{bytes_eq}
use Rattle.command_words.specs.declared.command.Location.{Location}
use Rattle.command_steps.proofs.Dialed.{dials_none}
use Rattle.command_steps.proofs.Numbers.{counted_known, counted_le}
use Rattle.command_steps.specs.Sources.{DialsStores}
use Rattle.command_worlds.specs.Worlds.{Adds}
use Rattle.dsy_base.specs.Disk.{Disk, GivesFolder}
use Rattle.dsy_base.specs.Links.{DialState}
use Rattle.dsy_base.specs.Maps.{Map, at_name}

pub adds_none : (d : Disk) → Adds d d
adds_none d = record { files = refl; counts = λ q. omega arith; folder_counts = λ q. omega arith; known = λ q is. is; folder_known = λ q is. is }

pub gives_adds : (d e : Disk) (q : List ℕ) (n : ℕ) → GivesFolder d e q n → Adds d e
gives_adds d e q n given = record {
  files = given.files;
  counts = λ p. let same : count_at e.file_counts p ≡ count_at d.file_counts p = ap (λ m. count_at m p) given.counts in omega (arith, same);
  folder_counts = counted_le d.folder_counts e.folder_counts q given.folder_counts.counted;
  known = λ p is. subst (λ (m : Map ℕ). IsSome (m p)) (sym given.counts) is;
  folder_known = counted_known d.folder_counts e.folder_counts q given.folder_counts.counted;
}

-- no server is asked
pub not_dialed : (stores : List Location) (k : DialState) → DialsStores stores k k
not_dialed stores k = (dials_none k, λ t. refl)

-- what is written twice under one name
pub at_name_twice : {X : Type 0} (m : Map X) (name : List ℕ) (u w : Option X) → at_name (at_name m name u) name w ≡ at_name m name w
at_name_twice m name u w = λ i q. twice (bytes_eq name q) w u (m q) i where
  twice : {X : Type 0} (b : Bool) (w u r : Option X) → cond b w (cond b u r) ≡ cond b w r
  twice true w u r = refl
  twice false w u r = refl
