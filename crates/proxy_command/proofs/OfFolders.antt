-- Chains of groups of folders, as they stand for chains of stores of any kind.
use Rattle.std.proofs.Common.{◌≡◌, ◌∙◌, ◌++◌, ◌+◌, ◌≤◌, ℕ, false, true, List, [], ◌∷◌, All, length, map, IsSome, IsTrue, refl, sym, ap, subst, slice_index_or, arith}
use Rattle.std.proofs.lemmas.Bool.{false≢true, true≢false}
use Rattle.std.proofs.lemmas.List.{append_assoc, length-append, length-map, map-append}
use Rattle.std.proofs.lemmas.List.Elements.{All-cons, All-head, All-nil, All-tail}
use Rattle.command_groups.proofs.Decoded.{places_same}
use Rattle.command_groups.proofs.Flat.{all_parts, places_more}
use Rattle.command_groups.specs.Groups.{AreGroups, stores_of}
use Rattle.command_groups.specs.Opened.{IsFresh, locations_in}
use Rattle.command_steps.proofs.Given.{all_later}
use Rattle.command_steps.proofs.InTurn.{all_last}
use Rattle.command_steps.proofs.Used.{all_more}
use Rattle.command_steps.specs.AnyStores.{IsKnown, location_in}
use Rattle.command_steps.specs.Stores.{are_folders, is_folder}
use Rattle.command_steps.specs.declared.any_store.AnyStore.{AnyStore}
use Rattle.command_words.specs.declared.command.Location.{Location}
use Rattle.command_words.specs.declared.command.Location.TheVariants as locations
use Rattle.dsy_base.specs.Maps.{Map}
use Rattle.proxy_command.specs.FolderChains.{AreFolderGroups, IsFolderChain, IsFolderGroup, KnowsChains, KnowsGroups, any_group, any_store, folder_location, folder_locations}
use Rattle.store_chain.proofs.Pairs.{cons_head, cons_tail}
use Rattle.store_chain.specs.Chains.{Chained}
use Rattle.store_group.specs.Groups.{Grouped, group_place}

-- ---- lists that hold the same

module _ {X Y : Type 0} (P : Y → Type 0) (f : X → Y) where
  -- what holds of all images
  pub all_images : (xs : List X) → All P (map f xs) → All (λ x. P (f x)) xs
  all_images [] all = All-nil (λ x. P (f x))
  all_images (x ∷ xs) all = All-cons (λ x. P (f x)) x xs (All-head P (f x) (map f xs) all) (all_images xs (All-tail P (f x) (map f xs) all))

  pub images_all : (xs : List X) → All (λ x. P (f x)) xs → All P (map f xs)
  images_all [] all = All-nil P
  images_all (x ∷ xs) all = All-cons P (f x) (map f xs) (All-head (λ x. P (f x)) x xs all) (images_all xs (All-tail (λ x. P (f x)) x xs all))

-- what holds of one list holds of another one that has the same images
pub all_across : {X Z Y : Type 0} (P : Y → Type 0) (f : X → Y) (h : Z → Y) (xs : List X) (zs : List Z) → map f xs ≡ map h zs → All (λ z. P (h z)) zs → All (λ x. P (f x)) xs
all_across P f h xs zs same all = all_images P f xs (subst (λ l. All P l) (sym same) (images_all P h zs all))

-- ---- folders among locations

pub folders_parts : (a b : List Location) → IsTrue (are_folders (a ++ b)) → IsTrue (are_folders a) × IsTrue (are_folders b)
folders_parts [] b all = (refl, all)
folders_parts (locations.Folder q ∷ a) b all = folders_parts a b all
folders_parts (locations.Http host port prefix ∷ a) b all = absurd (false≢true all)

-- folders before others, and others before any
pub folders_behind : (a b : List Location) → are_folders a ≡ true → are_folders (a ++ b) ≡ are_folders b
folders_behind [] b all = refl
folders_behind (locations.Folder q ∷ a) b all = folders_behind a b all
folders_behind (locations.Http host port prefix ∷ a) b all = absurd (false≢true all)

pub folders_not : (a b : List Location) → are_folders a ≡ false → are_folders (a ++ b) ≡ false
folders_not [] b none = absurd (true≢false none)
folders_not (locations.Folder q ∷ a) b none = folders_not a b none
folders_not (locations.Http host port prefix ∷ a) b none = refl

pub first_folder : (q : Location) (rest : List Location) → IsTrue (are_folders (q ∷ rest)) → IsTrue (is_folder q) × IsTrue (are_folders rest)
first_folder (locations.Folder name) rest all = (refl, all)
first_folder (locations.Http host port prefix) rest all = absurd (false≢true all)

-- ---- what was moved

-- the first was moved, and then those behind it. It is seen by f
pub moved_first : {X Y : Type 0} (f : X → Y) (old mid new : List X) (x : X) (y : Y) (from rest : List Y) → from ≡ y ∷ rest → mid ≡ old ++ x ∷ [] → f x ≡ y → map f new ≡ map f mid ++ rest → map f new ≡ map f old ++ from
moved_first f old mid new x y from rest is put same then =
    then ∙ ap (λ l. l ++ rest) (ap (map f) put ∙ map-append f old (x ∷ []) ∙ ap (λ z. map f old ++ z ∷ []) same) ∙ append_assoc (map f old) (y ∷ []) rest ∙ ap (λ l. map f old ++ l) (sym is)

-- ---- where folders lie

module _ {L : Type 0} (D K : Type 0) (place : L → List ℕ) where
  stores_lie : (xs : List L) → map (location_in place) (map (any_store {D = D} {K = K}) xs) ≡ map (folder_location place) xs
  stores_lie [] = refl
  stores_lie (x ∷ xs) = ap (λ l. folder_location place x ∷ l) (stores_lie xs)

  group_lies : (g : Grouped L) → locations_in place (any_group {D = D} {K = K} g) ≡ folder_locations place g
  group_lies g = stores_lie g.stores

  groups_lie : (gs : List (Grouped L)) → map (locations_in place) (map (any_group {D = D} {K = K}) gs) ≡ map (folder_locations place) gs
  groups_lie [] = refl
  groups_lie (g ∷ gs) = λ i. group_lies g i ∷ groups_lie gs i

-- ---- what can be given back

module _ (counts : Map ℕ) where
  known_both : (a b : List Location) → All (IsKnown counts) a → All (IsKnown counts) b → All (IsKnown counts) (a ++ b)
  known_both [] b first then = then
  known_both (q ∷ a) b first then = All-cons (IsKnown counts) q (a ++ b) (All-head (IsKnown counts) q a first) (known_both a b (All-tail (IsKnown counts) q a first) then)

  -- of one behind others
  pub known_more : {S : Type 0} (of : S → List Location) (xs : List S) (x : S) → All (IsKnown counts) (stores_of (map of xs)) → All (IsKnown counts) (of x) → All (IsKnown counts) (stores_of (map of (xs ++ x ∷ [])))
  known_more of xs x all one = subst (λ (l : List Location). All (IsKnown counts) l) (sym (places_more of (xs ++ x ∷ []) xs x refl)) (known_both (stores_of (map of xs)) (of x) all one)

module _ {L D K : Type 0} (place : L → List ℕ) where
  -- groups that were opened can be given back
  pub groups_known : (counts : Map ℕ) (retries : ℕ) (gs : List (Grouped (AnyStore L D K))) → AreFolderGroups place counts retries gs → All (IsKnown counts) (stores_of (map (locations_in place) gs))
  groups_known counts retries [] all = All-nil (IsKnown counts)
  groups_known counts retries (g ∷ gs) all =
      known_both counts (locations_in place g) (stores_of (map (locations_in place) gs)) (All-head (IsFolderGroup place counts retries) g gs all).known (groups_known counts retries gs (All-tail (IsFolderGroup place counts retries) g gs all))

  -- so it is over later counts
  module _ (old new : Map ℕ) (on : (q : List ℕ) → IsSome (old q) → IsSome (new q)) (retries : ℕ) where
    pub group_later : (g : Grouped (AnyStore L D K)) → IsFolderGroup place old retries g → IsFolderGroup place new retries g
    group_later g is = record { active = is.active; failed = is.failed; again = is.again; folders = is.folders; known = all_later old new on (locations_in place g) is.known }

    pub groups_later : (gs : List (Grouped (AnyStore L D K))) → AreFolderGroups place old retries gs → AreFolderGroups place new retries gs
    groups_later gs all = λ k g lt. group_later _ (all k g lt)

    pub chains_later : (cs : List (Chained (Grouped (AnyStore L D K)))) → All (IsFolderChain place old retries) cs → All (IsFolderChain place new retries) cs
    chains_later cs all = λ k c lt. record { groups = groups_later _ (all k c lt).groups; some = (all k c lt).some; few = (all k c lt).few }

  -- the first of groups, and those behind it
  pub first_ready : (counts : Map ℕ) (retries : ℕ) (all rest : List (Grouped (AnyStore L D K))) (g : Grouped (AnyStore L D K)) → all ≡ g ∷ rest → AreFolderGroups place counts retries all → IsFolderGroup place counts retries g × AreFolderGroups place counts retries rest
  first_ready counts retries all rest g is are =
      let h : AreFolderGroups place counts retries (g ∷ rest) = subst (λ (l : List (Grouped (AnyStore L D K))). AreFolderGroups place counts retries l) is are in
      (All-head (IsFolderGroup place counts retries) g rest h, All-tail (IsFolderGroup place counts retries) g rest h)

  pub chain_ready : (counts : Map ℕ) (retries : ℕ) (all rest : List (Chained (Grouped (AnyStore L D K)))) (c : Chained (Grouped (AnyStore L D K))) → all ≡ c ∷ rest → All (IsFolderChain place counts retries) all → IsFolderChain place counts retries c × All (IsFolderChain place counts retries) rest
  chain_ready counts retries all rest c is are =
      let h : All (IsFolderChain place counts retries) (c ∷ rest) = subst (λ (l : List (Chained (Grouped (AnyStore L D K)))). All (IsFolderChain place counts retries) l) is are in
      (All-head (IsFolderChain place counts retries) c rest h, All-tail (IsFolderChain place counts retries) c rest h)

  pub chains_given : (counts : Map ℕ) (retries : ℕ) (cs : List (Chained (Grouped (AnyStore L D K)))) → All (IsFolderChain place counts retries) cs → All (λ c. All (IsKnown counts) (stores_of (map (locations_in place) c.stores))) cs
  chains_given counts retries cs are = λ k c lt. groups_known counts retries (slice_index_or cs k c).stores (are k c lt).groups

  -- a group that was moved can be given back
  pub moved_known : (counts : Map ℕ) (f : Grouped L) (g : Grouped (AnyStore L D K)) → any_group f ≡ g → All (IsKnown counts) (locations_in place g) → All (IsKnown counts) (folder_locations place f)
  moved_known counts f g same known = subst (λ (l : List Location). All (IsKnown counts) l) (group_lies D K place f) (subst (λ (h : Grouped (AnyStore L D K)). All (IsKnown counts) (locations_in place h)) (sym same) known)

  -- and so can groups
  pub moved_all_known : (counts : Map ℕ) (fs : List (Grouped L)) (gs : List (Grouped (AnyStore L D K))) → map any_group fs ≡ gs → All (IsKnown counts) (stores_of (map (locations_in place) gs)) → KnowsGroups place counts fs
  moved_all_known counts fs gs same known =
      subst (λ (l : List (List Location)). All (IsKnown counts) (stores_of l)) (groups_lie D K place fs) (subst (λ (l : List (Grouped (AnyStore L D K))). All (IsKnown counts) (stores_of (map (locations_in place) l))) (sym same) known)

module _ {L : Type 0} (place : L → List ℕ) where
  -- folders that can be given back still can
  pub known_later : (old new : Map ℕ) → ((q : List ℕ) → IsSome (old q) → IsSome (new q)) → (cs : List (Chained (Grouped L))) → KnowsChains place old cs → KnowsChains place new cs
  known_later old new on cs all = λ k c lt. all_later old new on (stores_of (map (folder_locations place) (slice_index_or cs k c).stores)) (all k c lt)

  -- those of the last chain, and of those before it
  pub chains_last : (counts : Map ℕ) (all rest : List (Chained (Grouped L))) (x : Chained (Grouped L)) → all ≡ rest ++ x ∷ [] → KnowsChains place counts all → KnowsChains place counts rest × KnowsGroups place counts x.stores
  chains_last counts all rest x is known = all_last (λ (c : Chained (Grouped L)). KnowsGroups place counts c.stores) all rest x is known

  -- groups that were asked lie where they lay
  one_stands : (g h : Grouped L) → group_place place g ≡ group_place place h → folder_locations place g ≡ folder_locations place h
  one_stands g h same = at g.stores h.stores (places_same place g.stores h.stores (cons_tail g.retries h.retries _ _ same)) where
    at : (xs ys : List L) → map place xs ≡ map place ys → map (folder_location place) xs ≡ map (folder_location place) ys
    at [] [] same = refl
    at [] (y ∷ ys) same = absurd (cc)
    at (x ∷ xs) [] same = absurd (cc)
    at (x ∷ xs) (y ∷ ys) same =
        let here = cons_head (place x) (place y) (map place xs) (map place ys) same in
        let rest = at xs ys (cons_tail (place x) (place y) (map place xs) (map place ys) same) in
        λ i. locations.Folder (here i) ∷ rest i

  pub groups_stand : (gs hs : List (Grouped L)) → map (group_place place) gs ≡ map (group_place place) hs → map (folder_locations place) gs ≡ map (folder_locations place) hs
  groups_stand [] [] same = refl
  groups_stand [] (h ∷ hs) same = absurd (cc)
  groups_stand (g ∷ gs) [] same = absurd (cc)
  groups_stand (g ∷ gs) (h ∷ hs) same =
      let one = one_stands g h (cons_head (group_place place g) (group_place place h) (map (group_place place) gs) (map (group_place place) hs) same) in
      let others = groups_stand gs hs (cons_tail (group_place place g) (group_place place h) (map (group_place place) gs) (map (group_place place) hs) same) in
      λ i. one i ∷ others i

module _ {L : Type 0} (place : L → List ℕ) where
  -- one group more
  pub group_pushed : (counts : Map ℕ) (xs ys : List (Grouped L)) (x : Grouped L) → ys ≡ xs ++ x ∷ [] → KnowsGroups place counts xs → All (IsKnown counts) (folder_locations place x) → KnowsGroups place counts ys
  group_pushed counts xs ys x is all one = subst (λ (l : List (Grouped L)). KnowsGroups place counts l) (sym is) (known_more counts (folder_locations place) xs x all one)

  -- one chain more
  pub chains_more : (counts : Map ℕ) (xs ys : List (Chained (Grouped L))) (x : Chained (Grouped L)) → ys ≡ xs ++ x ∷ [] → KnowsChains place counts xs → KnowsGroups place counts x.stores → KnowsChains place counts ys
  chains_more counts xs ys x is all one = all_more (λ (c : Chained (Grouped L)). KnowsGroups place counts c.stores) xs ys x is all one

-- ---- chains that were opened for folders

module _ {L D K : Type 0} (place : L → List ℕ) (counts : Map ℕ) (retries : ℕ) (counted : AnyStore L D K → ℕ) where
  folder_groups : (gs : List (Grouped (AnyStore L D K))) → All (IsFresh counted retries) gs → IsTrue (are_folders (stores_of (map (locations_in place) gs))) → All (IsKnown counts) (stores_of (map (locations_in place) gs)) → AreFolderGroups place counts retries gs
  folder_groups [] fresh folders known = All-nil (IsFolderGroup place counts retries)
  folder_groups (g ∷ gs) fresh folders known =
      let first = All-head (IsFresh counted retries) g gs fresh in
      let rest = stores_of (map (locations_in place) gs) in
      let are = folders_parts (locations_in place g) rest folders in
      let can = all_parts (IsKnown counts) (locations_in place g) rest known in
      All-cons (IsFolderGroup place counts retries) g gs (record { active = first.active; failed = first.failed; again = first.retries; folders = are.0; known = can.0 })
      (folder_groups gs (All-tail (IsFresh counted retries) g gs fresh) are.1 can.1)

  few_groups : (groups : List (List Location)) → All (λ (g : List Location). 1 ≤ length g) groups → length groups ≤ length (stores_of groups)
  few_groups [] each = omega arith
  few_groups (g ∷ groups) each =
      let one = All-head (λ (g : List Location). 1 ≤ length g) g groups each in
      let rest = few_groups groups (All-tail (λ (g : List Location). 1 ≤ length g) g groups each) in
      let many : length (g ++ stores_of groups) ≡ length g + length (stores_of groups) = length-append g (stores_of groups) in
      omega (arith, one, rest, many)

  pub folder_chain : (groups : List (List Location)) → AreGroups groups retries → IsTrue (are_folders (stores_of groups)) → (c : Chained (Grouped (AnyStore L D K))) → map (locations_in place) c.stores ≡ groups → All (IsFresh counted retries) c.stores
      → All (IsKnown counts) (stores_of (map (locations_in place) c.stores)) → IsFolderChain place counts retries c
  folder_chain groups are folders c located fresh known =
      let size : length c.stores ≡ length groups = sym (length-map c.stores (locations_in place)) ∙ ap length located in
      let fits = few_groups groups are.each in
      record {
        groups = folder_groups c.stores fresh (subst (λ (l : List (List Location)). IsTrue (are_folders (stores_of l))) (sym located) folders) known;
        some = omega (arith, are.some, size);
        few = omega (arith, are.few, size, fits);
      }
