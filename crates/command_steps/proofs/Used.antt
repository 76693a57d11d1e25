-- Which names a step has used, over several steps.
use Rattle.std.proofs.Common.{◌≡◌, ◌∙◌, ◌++◌, ℕ, List, [], ◌∷◌, All, Option, Some, None, map, refl, ap, subst, sym}
use Rattle.std.proofs.lemmas.List.{map-append}
use Rattle.std.proofs.lemmas.List.Elements.{All-append, All-cons, All-nil}
use Rattle.command_steps.specs.AnyStores.{IsKnown}
use Rattle.command_steps.specs.Uses.{IsNoneOf, OnlyOf, Uses, folders_among, names_among}
use Rattle.command_words.specs.declared.command.Location.{Location}
use Rattle.command_words.specs.declared.command.Location.TheVariants as locations
use Rattle.dsy_base.specs.Bytes.{Held}
use Rattle.dsy_base.specs.Counts.{Counted}
use Rattle.dsy_base.specs.Disk.{Disk, GivesFile, GivesFolder, OnFile, OnFolder}
use Rattle.dsy_base.specs.Maps.{Map}

-- the one names hold the others
abbrev pub Within : List (List ℕ) → List (List ℕ) → Type 0
Within some all = (q : List ℕ) → IsNoneOf q all → IsNoneOf q some

only_none : (names : List (List ℕ)) (m : Map ℕ) → OnlyOf names m m
only_none names m q none = refl

only_same : (names : List (List ℕ)) (old new : Map ℕ) → new ≡ old → OnlyOf names old new
only_same names old new same q none = ap (λ (m : Map ℕ). m q) same

only_counted : (name : List ℕ) (old new : Map ℕ) → Counted old new name → OnlyOf (name ∷ []) old new
only_counted name old new c q none = c.others q none.0

pub uses_none : (files folders : List (List ℕ)) (d : Disk) → Uses files folders d d
uses_none files folders d = record { files = only_none files d.file_counts; folders = only_none folders d.folder_counts }

-- more names, over one step after another
pub uses_twice : (files folders : List (List ℕ)) (d b e : Disk) → Uses files folders d b → Uses files folders b e → Uses files folders d e
uses_twice files folders d b e u v = record { files = λ q none. v.files q none ∙ u.files q none; folders = λ q none. v.folders q none ∙ u.folders q none }

pub uses_within : (files folders files' folders' : List (List ℕ)) (d e : Disk) → Within files files' → Within folders folders' → Uses files folders d e → Uses files' folders' d e
uses_within files folders files' folders' d e fs gs u = record { files = λ q none. u.files q (fs q none); folders = λ q none. u.folders q (gs q none) }

-- names of which each stands in the one or in the other step's
pub uses_then : (files folders files' folders' all all' : List (List ℕ)) (d b e : Disk) → Within files all → Within folders all' → Within files' all → Within folders' all' → Uses files folders d b → Uses files' folders' b e → Uses all all' d e
uses_then files folders files' folders' all all' d b e fs gs fs' gs' u v = uses_twice all all' d b e (uses_within files folders all all' d b fs gs u) (uses_within files' folders' all all' b e fs' gs' v)

-- ---- one call

pub file_used : (name : List ℕ) (d e : Disk) → OnFile d e name → Uses (name ∷ []) [] d e
file_used name d e h = record { files = only_counted name d.file_counts e.file_counts h.counts; folders = only_same [] d.folder_counts e.folder_counts h.folder_counts }

pub file_given : (name : List ℕ) (d e : Disk) (n : ℕ) → GivesFile d e name n → Uses (name ∷ []) [] d e
file_given name d e n h = record { files = only_counted name d.file_counts e.file_counts h.counts.counted; folders = only_same [] d.folder_counts e.folder_counts h.folder_counts }

pub folder_used : (name : List ℕ) (d e : Disk) → OnFolder d e name → Uses [] (name ∷ []) d e
folder_used name d e h = record { files = only_same [] d.file_counts e.file_counts h.counts; folders = only_counted name d.folder_counts e.folder_counts h.folder_counts }

pub folder_given : (name : List ℕ) (d e : Disk) (n : ℕ) → GivesFolder d e name n → Uses [] (name ∷ []) d e
folder_given name d e n h = record { files = only_same [] d.file_counts e.file_counts h.counts; folders = only_counted name d.folder_counts e.folder_counts h.folder_counts.counted }

-- ---- names that stand in longer lists

pub within_same : (names : List (List ℕ)) → Within names names
within_same names q none = none

pub within_none : (names : List (List ℕ)) → Within [] names
within_none names q none = tt

pub within_first : (name : List ℕ) (names : List (List ℕ)) → Within (name ∷ []) (name ∷ names)
within_first name names q none = (none.0, tt)

pub within_rest : (name : List ℕ) (names : List (List ℕ)) → Within names (name ∷ names)
within_rest name names q none = none.1

pub within_left : (some more : List (List ℕ)) → Within some (some ++ more)
within_left [] more q none = tt
within_left (name ∷ some) more q none = (none.0, within_left some more q none.1)

pub within_right : (some more : List (List ℕ)) → Within more (some ++ more)
within_right [] more q none = none
within_right (name ∷ some) more q none = within_right some more q none.1

-- ---- the names of the elements of a list

-- they are those of the first one and those of the rest
pub record AreJoined {X : Type 0} (names : List X → List (List ℕ)) : Type 0 where
  pub none : (q : List ℕ) → IsNoneOf q (names [])
  pub first : (x : X) (xs : List X) → Within (names (x ∷ [])) (names (x ∷ xs))
  pub rest : (x : X) (xs : List X) → Within (names xs) (names (x ∷ xs))
  pub both : (x : X) (xs : List X) (q : List ℕ) → IsNoneOf q (names (x ∷ [])) → IsNoneOf q (names xs) → IsNoneOf q (names (x ∷ xs))

pub folders_joined : AreJoined folders_among
folders_joined = record { none = λ q. tt; first = first; rest = rest; both = both } where
  first : (s : Location) (stores : List Location) → Within (folders_among (s ∷ [])) (folders_among (s ∷ stores))
  first (locations.Folder name) stores q none = (none.0, tt)
  first (locations.Http host port prefix) stores q none = tt

  rest : (s : Location) (stores : List Location) → Within (folders_among stores) (folders_among (s ∷ stores))
  rest (locations.Folder name) stores q none = none.1
  rest (locations.Http host port prefix) stores q none = none

  both : (s : Location) (stores : List Location) (q : List ℕ) → IsNoneOf q (folders_among (s ∷ [])) → IsNoneOf q (folders_among stores) → IsNoneOf q (folders_among (s ∷ stores))
  both (locations.Folder name) stores q one none = (one.0, none)
  both (locations.Http host port prefix) stores q one none = none

pub views_joined : AreJoined names_among
views_joined = record { none = λ q. tt; first = first; rest = rest; both = both } where
  first : (o : Option Held) (views : List (Option Held)) → Within (names_among (o ∷ [])) (names_among (o ∷ views))
  first None views q none = tt
  first (Some h) views q none = (none.0, tt)

  rest : (o : Option Held) (views : List (Option Held)) → Within (names_among views) (names_among (o ∷ views))
  rest None views q none = none
  rest (Some h) views q none = none.1

  both : (o : Option Held) (views : List (Option Held)) (q : List ℕ) → IsNoneOf q (names_among (o ∷ [])) → IsNoneOf q (names_among views) → IsNoneOf q (names_among (o ∷ views))
  both None views q one none = none
  both (Some h) views q one none = (one.0, none)

module _ {X : Type 0} (names : List X → List (List ℕ)) (j : AreJoined names) where
  within_front : (front : List X) (x : X) → Within (names front) (names (front ++ x ∷ []))
  within_front [] x q none = j.none q
  within_front (y ∷ front) x q none = j.both y front q (j.first y (front ++ x ∷ []) q none) (within_front front x q (j.rest y (front ++ x ∷ []) q none))

  within_last : (front : List X) (x : X) → Within (names (x ∷ [])) (names (front ++ x ∷ []))
  within_last [] x q none = none
  within_last (y ∷ front) x q none = within_last front x q (j.rest y (front ++ x ∷ []) q none)

  -- none of those before, and not the one that was appended
  pub none_of_more : (front : List X) (x : X) (q : List ℕ) → IsNoneOf q (names front) → IsNoneOf q (names (x ∷ [])) → IsNoneOf q (names (front ++ x ∷ []))
  none_of_more [] x q none last = last
  none_of_more (y ∷ front) x q none last = j.both y (front ++ x ∷ []) q (j.first y front q none) (none_of_more front x q (j.rest y front q none) last)

  pub front_of : (all front : List X) (x : X) → all ≡ front ++ x ∷ [] → Within (names front) (names all)
  front_of all front x is = subst (λ (l : List X). Within (names front) (names l)) (sym is) (within_front front x)

  pub last_of : (all front : List X) (x : X) → all ≡ front ++ x ∷ [] → Within (names (x ∷ [])) (names all)
  last_of all front x is = subst (λ (l : List X). Within (names (x ∷ [])) (names l)) (sym is) (within_last front x)

-- the last folder was given back, and then those before it
pub dropped_last : (all front : List Location) (s : Location) (d b e : Disk) → all ≡ front ++ s ∷ [] → Uses [] (folders_among (s ∷ [])) d b → Uses [] (folders_among front) b e → Uses [] (folders_among all) d e
dropped_last all front s d b e is =
    uses_then [] (folders_among (s ∷ [])) [] (folders_among front) [] (folders_among all) d b e (within_same []) (last_of folders_among folders_joined all front s is) (within_same []) (front_of folders_among folders_joined all front s is)

-- or those before it, and then the last
pub closed_last : (all front : List Location) (s : Location) (d b e : Disk) → all ≡ front ++ s ∷ [] → Uses [] (folders_among front) d b → Uses [] (folders_among (s ∷ [])) b e → Uses [] (folders_among all) d e
closed_last all front s d b e is =
    uses_then [] (folders_among front) [] (folders_among (s ∷ [])) [] (folders_among all) d b e (within_same []) (front_of folders_among folders_joined all front s is) (within_same []) (last_of folders_among folders_joined all front s is)

-- the last file, and then those before it
pub ended_last : (all front : List (Option Held)) (o : Option Held) (d b e : Disk) → all ≡ front ++ o ∷ [] → Uses (names_among (o ∷ [])) [] d b → Uses (names_among front) [] b e → Uses (names_among all) [] d e
ended_last all front o d b e is =
    uses_then (names_among (o ∷ [])) [] (names_among front) [] (names_among all) [] d b e (last_of names_among views_joined all front o is) (within_same []) (front_of names_among views_joined all front o is) (within_same [])

-- the first folder was used, once more under its store's name, and then the rest
pub used_next : (names rest : List Location) (first store : Location) (d b c e : Disk) → names ≡ first ∷ rest → store ≡ first → Uses [] (folders_among (first ∷ [])) d b → Uses [] (folders_among (store ∷ [])) b c → Uses [] (folders_among rest) c e → Uses [] (folders_among names) d e
used_next names rest first store d b c e is at u v w =
    let all = folders_among names in
    let one : Within (folders_among (first ∷ [])) all = subst (λ (l : List Location). Within (folders_among (first ∷ [])) (folders_among l)) (sym is) (folders_joined.first first rest) in
    let more : Within (folders_among rest) all = subst (λ (l : List Location). Within (folders_among rest) (folders_among l)) (sym is) (folders_joined.rest first rest) in
    let same : Within (folders_among (store ∷ [])) all = subst (λ (s : Location). Within (folders_among (s ∷ [])) all) (sym at) one in
    let kept = uses_twice [] all d b c (uses_within [] (folders_among (first ∷ [])) [] all d b (within_same []) one u) (uses_within [] (folders_among (store ∷ [])) [] all b c (within_same []) same v) in
    uses_twice [] all d c e kept (uses_within [] (folders_among rest) [] all c e (within_same []) more w)

-- the first file, and then the rest
pub file_next : (names rest : List (List ℕ)) (first name : List ℕ) (d b e : Disk) → names ≡ first ∷ rest → name ≡ first → Uses (name ∷ []) [] d b → Uses rest [] b e → Uses names [] d e
file_next names rest first name d b e is at =
    let one : Within (name ∷ []) (first ∷ rest) = subst (λ (q : List ℕ). Within (q ∷ []) (first ∷ rest)) (sym at) (within_first first rest) in
    uses_then (name ∷ []) [] rest [] names [] d b e (subst (λ (l : List (List ℕ)). Within (name ∷ []) l) (sym is) one) (within_same []) (subst (λ (l : List (List ℕ)). Within rest l) (sym is) (within_rest first rest)) (within_same [])

-- ---- one that is appended

-- each name of the new ones is one of the old, or one of these
abbrev pub AllAmong : {X Y : Type 0} → (List X → List (List ℕ)) → (Y → X) → List Y → List (List ℕ) → List Y → Type 0
AllAmong names of old others new = (q : List ℕ) → IsNoneOf q (names (map of old)) → IsNoneOf q others → IsNoneOf q (names (map of new))

pub joined_next : {X Y : Type 0} (names : List X → List (List ℕ)) (j : AreJoined names) (of : Y → X) (old mid new : List Y) (y : Y) (first rest all : List (List ℕ)) → Within first all → Within rest all → Within (names (of y ∷ [])) first → mid ≡ old ++ y ∷ []
    → AllAmong names of mid rest new → AllAmong names of old all new
joined_next {X} {Y} names j of old mid new y first rest all fs rs one same next = λ q a b.
    let both = none_of_more names j (map of old) (of y) q a (one q (fs q b)) in
    let so : IsNoneOf q (names (map of mid)) = subst (λ (l : List Y). IsNoneOf q (names (map of l))) (sym same) (subst (λ (l : List X). IsNoneOf q (names l)) (sym (map-append of old (y ∷ []))) both) in
    next q so (rs q b)

module _ {S : Type 0} (location : S → Location) where
  pub known_more : (counts : Map ℕ) (old new : List S) (s : S) → new ≡ old ++ s ∷ [] → All (IsKnown counts) (map location old) → IsKnown counts (location s) → All (IsKnown counts) (map location new)
  known_more counts old new s is known one =
      let both = All-append (IsKnown counts) (map location old) (location s ∷ []) known (All-cons (IsKnown counts) (location s) [] one (All-nil (IsKnown counts))) in
      subst (λ (l : List S). All (IsKnown counts) (map location l)) (sym is) (subst (λ (l : List Location). All (IsKnown counts) l) (sym (map-append location old (s ∷ []))) both)

  -- each folder of the new stores is one of the old, or one of these
  pub among_next : (old mid new : List S) (s : S) (first : Location) (rest names : List Location) → names ≡ first ∷ rest → location s ≡ first → mid ≡ old ++ s ∷ []
      → AllAmong folders_among location mid (folders_among rest) new → AllAmong folders_among location old (folders_among names) new
  among_next old mid new s first rest names is at same =
      let one : Within (folders_among (location s ∷ [])) (folders_among (first ∷ [])) = subst (λ (f : Location). Within (folders_among (location s ∷ [])) (folders_among (f ∷ []))) at (within_same (folders_among (location s ∷ []))) in
      joined_next folders_among folders_joined location old mid new s (folders_among (first ∷ [])) (folders_among rest) (folders_among names)
      (subst (λ (l : List Location). Within (folders_among (first ∷ [])) (folders_among l)) (sym is) (folders_joined.first first rest))
      (subst (λ (l : List Location). Within (folders_among rest) (folders_among l)) (sym is) (folders_joined.rest first rest)) one same

pub all_more : {X : Type 0} (P : X → Type 0) (old new : List X) (x : X) → new ≡ old ++ x ∷ [] → All P old → P x → All P new
all_more P old new x is all one = subst (λ l. All P l) (sym is) (All-append P old (x ∷ []) all (All-cons P x [] one (All-nil P)))
