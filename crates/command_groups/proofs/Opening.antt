-- Groups of stores that are opened in order.
use Rattle.std.proofs.Common.{◌≡◌, ◌∙◌, ◌++◌, ◌≤◌, ℕ, List, [], ◌∷◌, length, map, Option, Some, None, IfSome, refl, sym, ap, subst, inl, inr, arith}
use Rattle.std.proofs.lemmas.List.{append-nil, append_assoc, map-append}
use Rattle.std.proofs.lemmas.List.Elements.{All-append, All-cons, All-head, All-nil, All-push, All-tail}
use Rattle.std.specs.List.{All}
use Rattle.command_groups.proofs.Flat.{folders_back, folders_front, none_of_both, places_more}
use Rattle.command_groups.specs.Groups.{stores_of}
use Rattle.command_groups.specs.Opened.{AreUnused, IsFresh, IsGroupAt, OpensGroups, files_in, locations_in}
use Rattle.command_outcome.specs.declared.outcome.Outcome.{Outcome}
use Rattle.command_outcome.specs.declared.outcome.Outcome.TheVariants as ends
use Rattle.command_steps.proofs.Consulted.{reads_none}
use Rattle.command_steps.proofs.OpenedSources.{unreached_after}
use Rattle.command_steps.proofs.Used.{uses_then, uses_twice, within_same}
use Rattle.command_steps.specs.AnyStores.{IsKnown, source_faults}
use Rattle.command_steps.specs.Sources.{FirstUnreached, IsThere, Unreached, location_files}
use Rattle.command_steps.specs.Uses.{IsNoneOf, Uses, folders_among}
use Rattle.command_steps.specs.declared.any_store.AnyStore.{AnyStore}
use Rattle.command_words.specs.declared.command.Location.{Location}
use Rattle.command_worlds.specs.Worlds.{Reads}
use Rattle.dsy_base.specs.Disk.{Disk}
use Rattle.dsy_base.specs.Links.{DialState}
use Rattle.dsy_base.specs.Maps.{Map}
use Rattle.dsy_base.specs.declared.look.Look.{Ghosts as LookWords}
use Rattle.store_chain.proofs.Pairs.{cons_head, cons_tail}
use Rattle.store_group.specs.Groups.{Grouped}

-- ---- the first that isn't reached

abbrev files_of : Option (Map (Map (List ℕ))) → Location → Option (Map (List ℕ))
files_of None q = None
files_of (Some m) q = location_files m q

files_are : (o : Option (Map (Map (List ℕ)))) (q : Location) → IfSome o (λ m. files_of o q ≡ location_files m q)
files_are None q = tt
files_are (Some m) q = refl

there_then : (d b e : Disk) → Reads d b → (q : Location) (names : List Location) (o : Outcome) → IfSome d.folders (λ m. IsThere m q) → FirstUnreached b e names o → FirstUnreached d e (q ∷ names) o
there_then d b e r q names o there h =
    unreached_after (files_of d.folders) (λ s. s) (λ s. 0) d b b e r (reads_none b) q names q o (record { there = there; found = files_are d.folders q; located = refl; unfailed = refl }) h

first_there : (o : Option (Map (Map (List ℕ)))) (q : Location) (names : List Location) → IfSome o (λ m. All (IsThere m) (q ∷ names)) → IfSome o (λ m. IsThere m q)
first_there None q names all = tt
first_there (Some m) q names all = All-head (IsThere m) q names all

rest_there : (o : Option (Map (Map (List ℕ)))) (q : Location) (names : List Location) → IfSome o (λ m. All (IsThere m) (q ∷ names)) → IfSome o (λ m. All (IsThere m) names)
rest_there None q names all = tt
rest_there (Some m) q names all = All-tail (IsThere m) q names all

-- one of a later group, after those of this one were there
pub unreached_behind : (d b e : Disk) → Reads d b → (front rest : List Location) (o : Outcome) → 1 ≤ length front → IfSome d.folders (λ m. All (IsThere m) front) → FirstUnreached b e rest o → FirstUnreached d e (front ++ rest) o
unreached_behind d b e r [] rest o some there h = absurd (omega (arith, some))
unreached_behind d b e r (q ∷ []) rest o some there h = there_then d b e r q rest o (first_there d.folders q [] there) h
unreached_behind d b e r (q ∷ p ∷ front) rest o some there h =
    inr (first_there d.folders q (p ∷ front) there, unreached_behind d b e r (p ∷ front) rest o (omega arith) (rest_there d.folders q (p ∷ front) there) h)

-- or one of this group
pub unreached_before : (d e : Disk) (front rest : List Location) (o : Outcome) → FirstUnreached d e front o → FirstUnreached d e (front ++ rest) o
unreached_before d e [] rest o h = absurd h
unreached_before d e (q ∷ front) rest o (inl h) = inl h
unreached_before d e (q ∷ front) rest o (inr h) = inr (h.0, unreached_before d e front rest o h.1)

-- or there was no memory
pub unreached_memory : (d e : Disk) (front rest : List Location) (o : Outcome) → 1 ≤ length front → o ≡ ends.Memory → FirstUnreached d e (front ++ rest) o
unreached_memory d e [] rest o some none = absurd (omega (arith, some))
unreached_memory d e (q ∷ front) rest o some none = inl (subst (Unreached d e q) (sym none) tt)

pub there_both : (o : Option (Map (Map (List ℕ)))) (front rest : List Location) → IfSome o (λ m. All (IsThere m) front) → IfSome o (λ m. All (IsThere m) rest) → IfSome o (λ m. All (IsThere m) (front ++ rest))
there_both None front rest a b = tt
there_both (Some m) front rest a b = All-append (IsThere m) front rest a b

-- ---- stores that were just opened

pub zeros_all : {S X : Type 0} (counted : S → ℕ) (xs : List S) (names : List X) → map counted xs ≡ map (λ q. 0) names → All (λ s. counted s ≡ 0) xs
zeros_all counted [] names same = All-nil (λ s. counted s ≡ 0)
zeros_all counted (x ∷ xs) [] same = absurd (cc)
zeros_all counted (x ∷ xs) (q ∷ names) same =
    All-cons (λ s. counted s ≡ 0) x xs (cons_head (counted x) 0 (map counted xs) (map (λ q. 0) names) same) (zeros_all counted xs names (cons_tail (counted x) 0 (map counted xs) (map (λ q. 0) names) same))

-- ---- groups that are appended one by one

module _ {L D K : Type 0} (look : LookWords L) (state : D → DialState) (retries : ℕ) where
  there_in : (m : Map (Map (List ℕ))) (groups : List (List Location)) (old new : List (Grouped (AnyStore L D K))) → OpensGroups look state retries (Some m) groups old new → All (IsThere m) (stores_of groups)
  there_in m [] old new h = All-nil (IsThere m)
  there_in m (names ∷ groups) old new h = All-append (IsThere m) names (stores_of groups) h.1.there (there_in m groups (old ++ h.0 ∷ []) new h.2)

  pub groups_there : (folders : Option (Map (Map (List ℕ)))) (groups : List (List Location)) (old new : List (Grouped (AnyStore L D K))) → OpensGroups look state retries folders groups old new → IfSome folders (λ m. All (IsThere m) (stores_of groups))
  groups_there None groups old new h = tt
  groups_there (Some m) groups old new h = there_in m groups old new h

  -- what is made of each group, behind what was made of those before
  made_in : {X : Type 0} (of : Grouped (AnyStore L D K) → X) (from : List Location → X) (folders : Option (Map (Map (List ℕ)))) → ((names : List Location) (g : Grouped (AnyStore L D K)) → IsGroupAt look state retries folders names g → of g ≡ from names)
      → (groups : List (List Location)) (old new : List (Grouped (AnyStore L D K))) → OpensGroups look state retries folders groups old new → map of new ≡ map of old ++ map from groups
  made_in of from folders each [] old new h = ap (λ (l : List (Grouped (AnyStore L D K))). map of l) h ∙ sym (append-nil (map of old))
  made_in {X} of from folders each (names ∷ groups) old new h =
      let one : map of (old ++ h.0 ∷ []) ≡ map of old ++ from names ∷ [] = map-append of old (h.0 ∷ []) ∙ ap (λ (x : X). map of old ++ x ∷ []) (each names h.0 h.1) in
      made_in of from folders each groups (old ++ h.0 ∷ []) new h.2 ∙ ap (λ (l : List X). l ++ map from groups) one ∙ append_assoc (map of old) (from names ∷ []) (map from groups)

  from_none : {X : Type 0} (of : Grouped (AnyStore L D K) → X) (from : List Location → X) (folders : Option (Map (Map (List ℕ)))) → ((names : List Location) (g : Grouped (AnyStore L D K)) → IsGroupAt look state retries folders names g → of g ≡ from names)
      → (groups : List (List Location)) (old new : List (Grouped (AnyStore L D K))) → old ≡ [] → OpensGroups look state retries folders groups old new → map of new ≡ map from groups
  from_none of from folders each groups old new is h = made_in of from folders each groups [] new (subst (λ (l : List (Grouped (AnyStore L D K))). OpensGroups look state retries folders groups l new) is h)

  pub groups_found : (folders : Option (Map (Map (List ℕ)))) (groups : List (List Location)) (old new : List (Grouped (AnyStore L D K))) → old ≡ [] → OpensGroups look state retries folders groups old new → IfSome folders (λ m. map (files_in look.files) new ≡ map (map (location_files m)) groups)
  groups_found None groups old new is h = tt
  groups_found (Some m) groups old new is h = from_none (files_in look.files) (map (location_files m)) (Some m) (λ names g at. at.found) groups old new is h

  pub groups_located : (folders : Option (Map (Map (List ℕ)))) (groups : List (List Location)) (old new : List (Grouped (AnyStore L D K))) → old ≡ [] → OpensGroups look state retries folders groups old new → map (locations_in look.place) new ≡ groups
  groups_located folders groups old new is h = from_none (locations_in look.place) (λ names. names) folders (λ names g at. at.located) groups old new is h ∙ same groups where
    same : (l : List (List Location)) → map (λ names. names) l ≡ l
    same [] = refl
    same (q ∷ l) = ap (λ (m : List (List Location)). q ∷ m) (same l)

  all_in : (P : Grouped (AnyStore L D K) → Type 0) (folders : Option (Map (Map (List ℕ)))) → ((names : List Location) (g : Grouped (AnyStore L D K)) → IsGroupAt look state retries folders names g → P g) → (groups : List (List Location)) (old new : List (Grouped (AnyStore L D K))) → All P old → OpensGroups look state retries folders groups old new → All P new
  all_in P folders each [] old new all h = subst (λ (l : List (Grouped (AnyStore L D K))). All P l) (sym h) all
  all_in P folders each (names ∷ groups) old new all h = all_in P folders each groups (old ++ h.0 ∷ []) new (All-push P old h.0 all (each names h.0 h.1)) h.2

  pub groups_fresh : (folders : Option (Map (Map (List ℕ)))) (groups : List (List Location)) (old new : List (Grouped (AnyStore L D K))) → old ≡ [] → OpensGroups look state retries folders groups old new → All (IsFresh (source_faults look.faults state) retries) new
  groups_fresh folders groups old new is h =
      let P = IsFresh (source_faults look.faults state) retries in
      all_in P folders (λ names g at. at.fresh) groups old new (subst (λ (l : List (Grouped (AnyStore L D K))). All P l) (sym is) (All-nil P)) h

  pub groups_unused : (folders : Option (Map (Map (List ℕ)))) (groups : List (List Location)) (old new : List (Grouped (AnyStore L D K))) → old ≡ [] → OpensGroups look state retries folders groups old new → All (AreUnused state) new
  groups_unused folders groups old new is h =
      let P : Grouped (AnyStore L D K) → Type 0 = AreUnused state in
      all_in P folders (λ names g at. at.unused) groups old new (subst (λ (l : List (Grouped (AnyStore L D K))). All P l) (sym is) (All-nil P)) h

-- the names of the stores of one group more are known
pub groups_known : {S : Type 0} (of : S → List Location) (counts : Map ℕ) (old new : List S) (g : S) → new ≡ old ++ g ∷ [] → All (IsKnown counts) (stores_of (map of old)) → All (IsKnown counts) (of g) → All (IsKnown counts) (stores_of (map of new))
groups_known of counts old new g is known one =
    subst (λ (l : List Location). All (IsKnown counts) l) (sym (places_more of new old g is)) (All-append (IsKnown counts) (stores_of (map of old)) (of g) known one)

-- ---- which folders were used

-- those of this group, once more by its stores' names, and those of the rest
pub used_more : (names first rest stores : List Location) (d b c e : Disk) → names ≡ first ++ rest → stores ≡ first → Uses [] (folders_among first) d b → Uses [] (folders_among stores) b c → Uses [] (folders_among rest) c e → Uses [] (folders_among names) d e
used_more names first rest stores d b c e is at u v w =
    let same : Uses [] (folders_among first) b c = subst (λ (l : List Location). Uses [] (folders_among l) b c) at v in
    uses_then [] (folders_among first) [] (folders_among rest) [] (folders_among names) d c e (within_same []) (folders_front names first rest is) (within_same []) (folders_back names first rest is) (uses_twice [] (folders_among first) d b c u same) w

-- each folder of the new groups is one of the old, or one of these
pub among_more : {S : Type 0} (of : S → List Location) (old mid new : List S) (g : S) (first rest names : List Location) → names ≡ first ++ rest → of g ≡ first → mid ≡ old ++ g ∷ []
    → ((q : List ℕ) → IsNoneOf q (folders_among (stores_of (map of mid))) → IsNoneOf q (folders_among rest) → IsNoneOf q (folders_among (stores_of (map of new))))
    → (q : List ℕ) → IsNoneOf q (folders_among (stores_of (map of old))) → IsNoneOf q (folders_among names) → IsNoneOf q (folders_among (stores_of (map of new)))
among_more of old mid new g first rest names is at same among q a b =
    let one : IsNoneOf q (folders_among (of g)) = subst (λ (l : List Location). IsNoneOf q (folders_among l)) (sym at) (folders_front names first rest is q b) in
    among q (none_of_both q (stores_of (map of mid)) (stores_of (map of old)) (of g) (places_more of mid old g same) a one) (folders_back names first rest is q b)
