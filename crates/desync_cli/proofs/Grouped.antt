-- Stores in groups: how many they are, which of them failed, and groups of one store each.
use Rattle.std.proofs.Common.{Bool, true, false, ◌&&◌, ◌⊎◌, Some, is_some, drop, ◌≡◌, ◌++◌, ◌+◌, ◌≤◌, ℕ, zero, suc, IfSome, IsTrue, List, [], ◌∷◌, Option, length, map, sum_by, take, refl, sym, subst, ap, ◌∙◌, inl, inr, arith}
use Rattle.std.specs.List.{All}
use Rattle.std.proofs.lemmas.Bool.{cases_lt}
use Rattle.std.proofs.lemmas.List.{length-append}
use Rattle.std.proofs.lemmas.List.Elements.{All-head, All-tail}
use Rattle.std.proofs.lemmas.List.Sums.{sum_by-cons}
use Rattle.chunk_store.specs.Said.{Said}
use Rattle.command_groups.specs.Groups.{AreGroups, first_store, group_files, stores_of}
use Rattle.command_groups.specs.Lacking.{FailsFirstIn, GroupFailsFirst, GroupRose, GroupsLack, HaveLackedIn, RoseBy}
use Rattle.command_groups.specs.Numbers.{numbered_by}
use Rattle.command_steps.proofs.Dialed.{some_shown}
use Rattle.command_steps.specs.Dials.{since}
use Rattle.command_steps.specs.Sources.{Storage, StoreRose, location_files, server_at, store_at}
use Rattle.command_steps.specs.Stores.{are_folders}
use Rattle.command_worlds.specs.Worlds.{FolderRose}
use Rattle.command_words.specs.declared.command.Location.{Location}
use Rattle.command_words.specs.declared.command.Location.TheVariants as locations
use Rattle.command_words.specs.Limits.{AreFewStores}
use Rattle.dsy_base.specs.Counts.{Rose, raised}
use Rattle.dsy_base.specs.Maps.{Map}
use Rattle.http_read.specs.Refusals.{IsUnacceptable}
use Rattle.http_read.specs.Remotes.{AtLeast}
use Rattle.store_chain.proofs.Pairs.{cons_head, cons_tail}
use Rattle.store_chain.specs.Refusals.{Lacks}
use Rattle.store_group.specs.Groups.{all_tell, seen_of, steady_of}
use Rattle.desync_cli.specs.Exact.{firsts_of}
use Rattle.store_chain.specs.declared.query.Query.{Query}
use Rattle.store_chain.specs.declared.refused.Refused.{Refused}
use Rattle.store_chain.specs.declared.refused.Refused.TheVariants as refused

-- ---- how many they are

stores_counted : (groups : List (List Location)) → length (stores_of groups) ≡ sum_by length groups
stores_counted [] = refl
stores_counted (g ∷ groups) = length-append g (stores_of groups) ∙ ap (λ n. length g + n) (stores_counted groups) ∙ sym (sum_by-cons length g groups)

-- the words of a command name groups
pub are_groups : (groups : List (List Location)) (retries : ℕ) → 1 ≤ length groups → AreFewStores groups retries → AreGroups groups retries
are_groups groups retries some few = record { some = some; each = few.0; few = omega (arith, few.1, stores_counted groups); again = few.2 }

-- ---- the first store of a group that failed

abbrev pub HaveStores : List (List Location) → Type 0
HaveStores groups = All (λ (g : List Location). 1 ≤ length g) groups

rose_by : (a b n : ℕ) → raised a (n + 1) ≤ b → Rose a b
rose_by a b n le = elim (cases_lt a b) [ inl more ↦ inl more | inr other ↦ inr (omega (arith, le, other)) ]

-- of calls and replies that failed, together at least one, one did
called_or_replied : (w v : Storage) (host : List ℕ) (port : ℕ) (prefix : List ℕ) (calls replies : ℕ) → 1 ≤ calls + replies → raised w.dial.faults calls ≤ v.dial.faults
    → IfSome (since w.dial.ended v.dial.ended) (AtLeast replies (IsUnacceptable (server_at host port prefix))) → StoreRose w v (locations.Http host port prefix)
called_or_replied w v host port prefix zero replies some rose bad =
    inr (some_shown (IsUnacceptable (server_at host port prefix)) replies (since w.dial.ended v.dial.ended) (omega (arith, some)) bad)
called_or_replied w v host port prefix (suc calls) replies some rose bad = inl (rose_by w.dial.faults v.dial.faults calls (omega (arith, rose)))

pub store_rose : (n : ℕ) (w v : Storage) (s : Location) → RoseBy (n + 1) w v s → StoreRose w v s
store_rose n w v (locations.Folder q) h = rose_by _ _ n h
store_rose n w v (locations.Http host port prefix) h = called_or_replied w v host port prefix h.0 h.1 (omega (arith, h.2)) h.3 h.4

group_rose : (e : ℕ) (w v : Storage) (g rest : List Location) → 1 ≤ length g → GroupRose e w v g → StoreRose w v (store_at (g ++ rest) 0)
group_rose e w v [] rest some h = absurd (omega (arith, some))
group_rose e w v (s ∷ g) rest some h = store_rose e w v s (All-head (RoseBy (e + 1) w v) s g h)

one_more : (m k : ℕ) → suc m + k ≡ suc (m + k)
one_more m k = omega arith

later_at : (g rest : List Location) (k : ℕ) → store_at (g ++ rest) (length g + k) ≡ store_at rest k
later_at [] rest k = ap (λ n. store_at rest n) (omega arith)
later_at (s ∷ g) rest k = ap (λ n. store_at (s ∷ (g ++ rest)) n) (one_more (length g) k) ∙ later_at g rest k

first_rose : (lacks : Said → Type 0) (e : ℕ) (w v : Storage) (k : ℕ) (groups : List (List Location)) → HaveStores groups → GroupFailsFirst lacks e w v k groups → StoreRose w v (store_at (stores_of groups) (first_store groups k))
first_rose lacks e w v k [] some h = absurd h
first_rose lacks e w v zero (g ∷ groups) some h = group_rose e w v g (stores_of groups) (All-head (λ (g : List Location). 1 ≤ length g) g groups some) h.0
first_rose lacks e w v (suc k) (g ∷ groups) some h =
    let rest = first_rose lacks e w v k groups (All-tail (λ (g : List Location). 1 ≤ length g) g groups some) h.1 in
    let at = ap (store_at (g ++ stores_of groups)) (length-append g (stores_of (take k groups))) ∙ later_at g (stores_of groups) (first_store groups k) in
    subst (StoreRose w v) (sym at) rest

-- the store that is named has failed
pub group_failed : (lacks : Said → Type 0) (e : ℕ) (w v : Storage) (s : ℕ) (groups : List (List Location)) → HaveStores groups → FailsFirstIn lacks e w v s groups → StoreRose w v (store_at (stores_of groups) s)
group_failed lacks e w v s groups some (k, is, h) = subst (λ n. StoreRose w v (store_at (stores_of groups) n)) (sym is) (first_rose lacks e w v k groups some h)

same_store : (s n : ℕ) → refused.StoreFault s ≡ refused.StoreFault n → s ≡ n
same_store s n e = cc

fault_named : (e : ℕ) (c : Query) (w v : Storage) (s : ℕ) (groups : List (List Location)) (r : Refused) → refused.StoreFault s ≡ numbered_by (first_store groups) r → GroupsLack e c w v groups r → FailsFirstIn (Lacks c) e w v s groups
fault_named e c w v s groups refused.Missing is h = absurd cc
fault_named e c w v s groups (refused.Damaged k x) is h = absurd cc
fault_named e c w v s groups (refused.StoreFault k) is h = (k, same_store s _ is, h)
fault_named e c w v s groups refused.Memory is h = absurd cc

pub lacking_failed : (e : ℕ) (c : Query) (w v : Storage) (s : ℕ) (groups : List (List Location)) → HaveStores groups → HaveLackedIn e c w v groups (refused.StoreFault s) → StoreRose w v (store_at (stores_of groups) s)
lacking_failed e c w v s groups some (r, is, h) = group_failed (Lacks c) e w v s groups some (fault_named e c w v s groups r is h)

-- ---- groups of one store each

abbrev pub AreAlone : List (List Location) → Type 0
AreAlone groups = All (λ (g : List Location). length g ≡ 1) groups

-- each has a store
pub alone_some : (groups : List (List Location)) → AreAlone groups → HaveStores groups
alone_some groups alone k d lt = let one = alone k d lt in omega (arith, one)

-- ---- groups of folders that tell

-- each has a store, and is that one or of folders that never fail
pub record AreTelling (sure : Bool) (groups : List (List Location)) : Type 0 where
  pub have : HaveStores groups
  pub tell : AreAlone groups ⊎ IsTrue sure

module _ (m : Map (Map (List ℕ))) where
  abbrev Files : Location → Option (Map (List ℕ))
  Files = location_files m

  -- what is behind the stores of a group
  behind : (g more : List Location) (fs : List (Map (List ℕ))) → map Files (g ++ more) ≡ map Some fs → map Files more ≡ map Some (drop (length g) fs)
  behind [] more fs are = are
  behind (q ∷ g) more [] are = absurd (cc)
  behind (q ∷ g) more (f ∷ fs) are = behind g more fs (cons_tail (Files q) (Some f) (map Files (g ++ more)) (map Some fs) are)

  -- they all tell
  front_tells : (g more : List Location) (fs : List (Map (List ℕ))) → map Files (g ++ more) ≡ map Some fs → all_tell Files g ≡ true
  front_tells [] more fs are = refl
  front_tells (q ∷ g) more [] are = absurd (cc)
  front_tells (q ∷ g) more (f ∷ fs) are =
      let one = ap is_some (cons_head (Files q) (Some f) (map Files (g ++ more)) (map Some fs) are) in
      let others = front_tells g more fs (cons_tail (Files q) (Some f) (map Files (g ++ more)) (map Some fs) are) in
      λ i. one i && others i

  -- the group tells what its first store holds
  one_first : (sure : Bool) (s : Location) (g more : List Location) (f : Map (List ℕ)) (fs : List (Map (List ℕ))) → (length (s ∷ g) ≡ 1) ⊎ IsTrue sure → map Files (s ∷ (g ++ more)) ≡ map Some (f ∷ fs) → group_files sure m (s ∷ g) ≡ Some f
  one_first true s g more f fs tell are =
      ap (λ (b : Bool). seen_of Files (s ∷ g) (steady_of b 0 (s ∷ g))) (front_tells (s ∷ g) more (f ∷ fs) are) ∙ cons_head (Files s) (Some f) (map Files (g ++ more)) (map Some fs) are
  one_first false s [] more f fs tell are = cons_head (Files s) (Some f) (map Files more) (map Some fs) are
  one_first false s (q ∷ g) more f fs (inl one) are = absurd (omega (arith, one))
  one_first false s (q ∷ g) more f fs (inr t) are = absurd (cc)

  -- the groups tell what their first stores hold
  tell_firsts : (sure : Bool) (groups : List (List Location)) (fs : List (Map (List ℕ))) → HaveStores groups → AreAlone groups ⊎ IsTrue sure → map Files (stores_of groups) ≡ map Some fs → map (group_files sure m) groups ≡ map Some (firsts_of groups fs)
  tell_firsts sure [] fs have tell are = refl
  tell_firsts sure ([] ∷ groups) fs have tell are =
      let none : 1 ≤ 0 = All-head (λ (g : List Location). 1 ≤ length g) [] groups have in
      absurd (omega (arith, none))
  tell_firsts sure ((s ∷ g) ∷ groups) [] have tell are = absurd (cc)
  tell_firsts sure ((s ∷ g) ∷ groups) (f ∷ fs) have tell are =
      let one = one_first sure s g (stores_of groups) f fs (elim tell [ inl alone ↦ inl (All-head (λ (g : List Location). length g ≡ 1) (s ∷ g) groups alone) | inr t ↦ inr t ]) are in
      let others = tell_firsts sure groups (drop (length g) fs) (All-tail (λ (g : List Location). 1 ≤ length g) (s ∷ g) groups have)
      (elim tell [ inl alone ↦ inl (All-tail (λ (g : List Location). length g ≡ 1) (s ∷ g) groups alone) | inr t ↦ inr t ]) (behind (s ∷ g) (stores_of groups) (f ∷ fs) are) in
      λ i. one i ∷ others i

pub tells_first : (sure : Bool) (m : Map (Map (List ℕ))) (groups : List (List Location)) (fs : List (Map (List ℕ))) → AreTelling sure groups → map (location_files m) (stores_of groups) ≡ map Some fs → map (group_files sure m) groups ≡ map Some (firsts_of groups fs)
tells_first sure m groups fs telling are = tell_firsts m sure groups fs telling.have telling.tell are

-- ---- folders that haven't failed

no_fault : (w v : Storage) → ((q : List ℕ) → FolderRose w.disk v.disk q → ⊥) → (names : List Location) → IsTrue (are_folders names) → (k : ℕ) → StoreRose w v (store_at names k) → ⊥
no_fault w v unrisen [] all k rose = unrisen [] rose
no_fault w v unrisen (locations.Folder q ∷ names) all zero rose = unrisen q rose
no_fault w v unrisen (locations.Folder q ∷ names) all (suc k) rose = no_fault w v unrisen names all k rose
no_fault w v unrisen (locations.Http host port prefix ∷ names) all k rose = absurd (cc)

-- so no group of them failed when it was asked for something
pub none_failed_first : (lacks : Said → Type 0) (e : ℕ) (w v : Storage) → ((q : List ℕ) → FolderRose w.disk v.disk q → ⊥) → (s : ℕ) (groups : List (List Location)) → HaveStores groups → IsTrue (are_folders (stores_of groups)) → FailsFirstIn lacks e w v s groups → ⊥
none_failed_first lacks e w v unrisen s groups have all h = no_fault w v unrisen (stores_of groups) all s (group_failed lacks e w v s groups have h)

pub none_lacking : (e : ℕ) (c : Query) (w v : Storage) → ((q : List ℕ) → FolderRose w.disk v.disk q → ⊥) → (s : ℕ) (groups : List (List Location)) → HaveStores groups → IsTrue (are_folders (stores_of groups)) → HaveLackedIn e c w v groups (refused.StoreFault s) → ⊥
none_lacking e c w v unrisen s groups have all h = no_fault w v unrisen (stores_of groups) all s (lacking_failed e c w v s groups have h)
