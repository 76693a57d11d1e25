-- The folder of a cache that an assembly was over: what it holds, what was added to it, and what it lacks.
use Rattle.std.proofs.Common.{◌≡◌, ◌≤◌, ◌⊎◌, ◌∙◌, ℕ, List, [], ◌∷◌, ◌++◌, map, Option, Some, None, IfSome, IsSome, is_some, true, IsTrue, refl, sym, ap, subst, inl, inr, arith}
use Rattle.std.proofs.lemmas.Bool.{true≢false}
use Rattle.std.specs.Option.{option_map}
use Rattle.std.specs.List.{Any}
use Rattle.std.specs.Map.{count_at}
use Rattle.cache_store.specs.Giving.{GiveOneSize, SomeGives}
use Rattle.cache_store.specs.Shelves.{Shelf, Shelved}
use Rattle.caibx_codec.specs.Listing.{Listing, id_of, kind_of, size_of}
use Rattle.chunk_sources.specs.Caches.{CacheLacks, HaveOneSize, IsListedAs, Stocked, TakesListed, cache_faults, cached_in, seen}
use Rattle.chunk_store.specs.Folders.{chunks}
use Rattle.chunk_store.specs.Giving.{GivesChunk}
use Rattle.chunk_store.specs.Members.{maps_of}
use Rattle.chunk_store.specs.declared.id.DigestKind.{DigestKind}
use Rattle.chunk_store.specs.declared.store.Store.{Ghosts as StoreWords}
use Rattle.command_steps.proofs.Numbers.{given_quiet, given_rose, rose_longer}
use Rattle.command_steps.specs.Cache.{CacheGiven, folders_with}
use Rattle.command_groups.specs.Groups.{member_files}
use Rattle.command_worlds.specs.Worlds.{DiskQuiet, FolderRose}
use Rattle.command_steps.proofs.Taken.{at_name_twice}
use Rattle.extract_command.specs.Extract.{CacheFilled, CacheGrows, CacheLacksEntry, ExtractStores, IsForCache, folder_of}
use Rattle.dir_store.specs.Names.{is_stranger}
use Rattle.dsy_base.proofs.Counts.{at_same}
use Rattle.dsy_base.specs.Counts.{Quiet, Rose}
use Rattle.dsy_base.specs.Disk.{Disk}
use Rattle.dsy_base.specs.Maps.{Map, at_name}
use Rattle.dsy_base.specs.declared.look.Look.{Ghosts as LookWords}
use Rattle.store_chain.specs.Giving.{SomeHolds}

-- the name that it was taken under
abbrev pub name_in : Option Shelf → Option (List ℕ)
name_in o = option_map (λ s. s.place) o

-- its files are told where folders are
abbrev pub IsTold : Option Shelf → Option (Map (Map (List ℕ))) → Type 0
IsTold o folders = IfSome o (λ s. (m : Map (Map (List ℕ))) → folders ≡ Some m → is_some s.files ≡ true)

-- ---- what it holds

-- over its files
pub cached_there : (o : Option Shelf) (cache : Option (List ℕ)) → name_in o ≡ cache → (folders : Option (Map (Map (List ℕ)))) → IsTold o folders
    → IfSome (folders_with o folders) (λ n. (cs : List (Map (List ℕ))) × (map n (folder_of cache) ≡ map Some cs) × (cached_in o ≡ Some (map chunks cs)))
cached_there None cache is folders told = over folders where
  over : (folders : Option (Map (Map (List ℕ)))) → IfSome folders (λ n. (cs : List (Map (List ℕ))) × (map n (folder_of cache) ≡ map Some cs) × (cached_in None ≡ Some (map chunks cs)))
  over None = tt
  over (Some m) = ([], subst (λ c. map m (folder_of c) ≡ map Some []) is refl, refl)
cached_there (Some s) cache is None told = tt
cached_there (Some s) cache is (Some m) told = subst (λ c. IfSome (folders_with (Some s) (Some m)) (λ n. (cs : List (Map (List ℕ))) × (map n (folder_of c) ≡ map Some cs) × (cached_in (Some s) ≡ Some (map chunks cs)))) is (over s.files refl (told m refl)) where
  over : (o : Option (Map (List ℕ))) → s.files ≡ o → is_some s.files ≡ true → (cs : List (Map (List ℕ))) × (map (at_name m s.place s.files) (s.place ∷ []) ≡ map Some cs) × (cached_in (Some s) ≡ Some (map chunks cs))
  over None is told = absurd (true≢false (sym told ∙ ap is_some is))
  over (Some f) is told = (f ∷ [], ap (λ x. x ∷ []) (at_same m s.place s.files ∙ is), ap (option_map (λ m. chunks m ∷ [])) is)

-- of one size, where it has to be
pub one_size : (o : Option Shelf) (cache : Option (List ℕ)) (l : Listing) (cached maps : List (Map (List ℕ))) → name_in o ≡ cache
    → (IsSome cache → GiveOneSize (IsListedAs l) (kind_of l) (cached ++ maps)) → HaveOneSize l o cached maps
one_size None cache l cached maps is one = λ some. absurd (true≢false (sym some))
one_size (Some s) cache l cached maps is one = λ some. one (subst (λ (c : Option (List ℕ)). IsSome c) is refl)

-- ---- what it lacks

pub cache_lacking : (d e : Disk) (e0 e1 : Option Shelf) (cache : Option (List ℕ)) (l : Listing) (folders : Option (Map (Map (List ℕ)))) → name_in e1 ≡ cache → e.folders ≡ folders_with e1 folders
    → IfSome e1 (λ t. Rose (cache_faults e0) t.faults → FolderRose d e t.place)
    → (k : ℕ) → CacheLacks (kind_of l) (id_of l k) (size_of l k) e0 e1 → CacheLacksEntry d e cache l k
cache_lacking d e e0 None cache l folders is now rose k lacks = subst (λ c. CacheLacksEntry d e c l k) is tt
cache_lacking d e e0 (Some t) cache l folders is now rose k lacks = subst (λ c. CacheLacksEntry d e c l k) is
    (subst (λ o. IfSome o (λ n. IfSome (n t.place) Gone)) (sym now) (over folders)) where
      Gone : Map (List ℕ) → Type 0
      Gone g = GivesChunk (kind_of l) (id_of l k) (size_of l k) (chunks g (id_of l k)) → FolderRose d e t.place

      gone : (o : Option (Map (List ℕ))) → t.files ≡ o → IfSome o Gone
      gone None is = tt
      gone (Some g) is = λ gives.
          let told : cached_in (Some t) ≡ Some (chunks g ∷ []) = ap (option_map (λ m. chunks m ∷ [])) is in
          let some : SomeGives (kind_of l) (id_of l k) (size_of l k) (chunks g ∷ []) = (0, chunks g, omega arith, refl, gives) in
          rose (lacks (chunks g ∷ []) told some)

      over : (folders : Option (Map (Map (List ℕ)))) → IfSome (folders_with (Some t) folders) (λ n. IfSome (n t.place) Gone)
      over None = tt
      over (Some m) = subst (λ o. IfSome o Gone) (sym (at_same m t.place t.files)) (gone t.files refl)

-- ---- what it has counted

module _ (d e b c : Disk) (le : (q : List ℕ) → count_at d.folder_counts q ≤ count_at b.folder_counts q) (on : (q : List ℕ) → count_at c.folder_counts q ≤ count_at e.folder_counts q) where
  -- calls on it have failed, where it counted a fault
  pub cache_rose : (old : ℕ) (o : Option Shelf) → old ≡ 0 → CacheGiven o b c → IfSome o (λ t. Rose old t.faults → FolderRose d e t.place)
  cache_rose old None none given = tt
  cache_rose old (Some t) none given = λ rose. rose_longer (count_at d.folder_counts t.place) (count_at c.folder_counts t.place) (count_at e.folder_counts t.place) (on t.place)
      (given_rose (count_at d.folder_counts t.place) (count_at b.folder_counts t.place) (count_at c.folder_counts t.place) t.faults (le t.place) given.1.folder_counts.added (subst (λ (n : ℕ). Rose n t.faults) none rose))

  -- and none where no call has failed
  pub cache_quiet : (old : ℕ) (o : Option Shelf) → old ≡ 0 → CacheGiven o b c → DiskQuiet d e → Quiet old (cache_faults o)
  cache_quiet old None none given quiet = record { same = omega arith; below = omega arith }
  cache_quiet old (Some t) none given quiet =
      let more = on t.place in
      let q = quiet.folders t.place in
      let now : Quiet (count_at d.folder_counts t.place) (count_at c.folder_counts t.place) = record { same = omega (arith, more, q.same); below = omega (arith, more, q.below) } in
      subst (λ (n : ℕ). Quiet n t.faults) (sym none) (given_quiet (count_at d.folder_counts t.place) (count_at b.folder_counts t.place) (count_at c.folder_counts t.place) t.faults (le t.place) given.1.folder_counts.added now)

-- a fresh one has counted none
pub fresh_faults : {F : Type 0} (look : LookWords F) (kind : DigestKind) (o : Option (Shelved F)) → IfSome o (λ s. (look.faults s.folder ≡ 0) × (s.kind ≡ kind)) → cache_faults (seen look o) ≡ 0
fresh_faults look kind None fresh = refl
fresh_faults look kind (Some s) fresh = fresh.0

-- ---- what is seen of it

-- its digest names chunks as it did
pub same_kind : {F : Type 0} (look : LookWords F) (kind : DigestKind) (o : Option (Shelved F)) → IfSome o (λ s. (look.faults s.folder ≡ 0) × (s.kind ≡ kind)) → IfSome (seen look o) (λ s. s.kind ≡ kind)
same_kind look kind None fresh = tt
same_kind look kind (Some s) fresh = fresh.1

pub same_names : {F : Type 0} (look : LookWords F) (o : Option (Shelved F)) → name_in (seen look o) ≡ option_map (λ s. look.place s.folder) o
same_names look None = refl
same_names look (Some s) = refl

-- its files are told where its type tells
pub told_files : {F : Type 0} (look : LookWords F) → ((f : F) → is_some (look.files f) ≡ look.tells) → (folders : Option (Map (Map (List ℕ)))) → (IsTrue (is_some folders) → IsTrue look.tells)
    → (o : Option (Shelved F)) → IsTold (seen look o) folders
told_files look told folders all None = tt
told_files look told folders all (Some s) = λ m is. told s.folder ∙ all (subst (λ (y : Option (Map (Map (List ℕ)))). IsTrue (is_some y)) (sym is) refl)

-- its name is known still
pub known_still : (o : Option (List ℕ)) (m n : Map ℕ) → ((q : List ℕ) → IsSome (m q) → IsSome (n q)) → IfSome o (λ q. IsSome (m q)) → IfSome o (λ q. IsSome (n q))
known_still None m n on known = tt
known_still (Some q) m n on known = on q known

-- its folder isn't among the folders while it is taken
pub taken_gone : (o : Option (List ℕ)) (old new : Option (Map (Map (List ℕ)))) → IfSome o (λ q. new ≡ option_map (λ m. at_name m q None) old) → IfSome o (λ q. IfSome new (λ m. m q ≡ None))
taken_gone None old new is = tt
taken_gone (Some q) old new is = subst (λ (f : Option (Map (Map (List ℕ)))). IfSome f (λ m. m q ≡ None)) (sym is) (at old) where
  at : (f : Option (Map (Map (List ℕ)))) → IfSome (option_map (λ m. at_name m q None) f) (λ m. m q ≡ None)
  at None = tt
  at (Some m) = at_same m q None

-- so it is with the name that is seen of it
pub gone_seen : (o : Option Shelf) (cache : Option (List ℕ)) (folders : Option (Map (Map (List ℕ)))) → name_in o ≡ cache → IfSome cache (λ q. IfSome folders (λ m. m q ≡ None)) → IfSome o (λ s. IfSome folders (λ m. m s.place ≡ None))
gone_seen None cache folders is gone = tt
gone_seen (Some s) cache folders is gone = subst (λ (c : Option (List ℕ)). IfSome c (λ q. IfSome folders (λ m. m q ≡ None))) (sym is) gone

-- the name of a cache to which chunks were added
pub name_after : (Takes : List ℕ → List ℕ → Type 0) (e0 e1 : Option Shelf) (cache : Option (List ℕ)) → Stocked Takes e0 e1 → name_in e0 ≡ cache → name_in e1 ≡ cache
name_after Takes None None cache stocked is = is
name_after Takes None (Some t) cache stocked is = absurd stocked
name_after Takes (Some s) None cache stocked is = absurd stocked
name_after Takes (Some s) (Some t) cache stocked is = ap Some stocked.place ∙ is

-- ---- what was added to it

module _ (stores : ExtractStores) (l : Listing) (c : List ℕ) where
  abbrev Filled : Option (Map (Map (List ℕ))) → Option (Map (Map (List ℕ))) → Type 0
  Filled y z = (is_some z ≡ is_some y) × IfSome y (λ m. IfSome z (λ n. (f : Map (List ℕ)) × (m c ≡ Some f) × (g : Map (List ℕ)) × (n ≡ at_name m c (Some g)) × CacheGrows l m stores f g))

  filled_at : (m : Map (Map (List ℕ))) (x y : Option (Map (List ℕ))) (f g : Map (List ℕ)) → x ≡ Some f → y ≡ Some g → CacheGrows l (at_name m c x) stores f g
      → Filled (Some (at_name m c x)) (Some (at_name m c y))
  filled_at m x y f g is now grows = (refl, (f, at_same m c x ∙ is, g, ap (at_name m c) now ∙ sym (at_name_twice m c x (Some g)), grows))

-- what these stores hold is in the folders
abbrev pub AreOfFolders : {S : Type 0} → StoreWords S → List S → ExtractStores → Map (Map (List ℕ)) → Type 0
AreOfFolders store xs stores n = (fs : List (Map (List ℕ))) → maps_of (member_files stores.sure n) stores.groups ≡ Some fs → (id b : List ℕ) → SomeHolds store.members xs id b → Any (λ m. m id ≡ Some b) (map chunks fs)

module _ {S : Type 0} (store : StoreWords S) (xs : List S) (l : Listing) (n : Map (Map (List ℕ))) (stores : ExtractStores) (held : AreOfFolders store xs stores n) where
  for_cache : (q b : List ℕ) → TakesListed store l xs q b → IsForCache l n stores q b
  for_cache q b h = (h.0, h.1, h.2.0, h.2.1, λ fs told. held fs told (id_of l h.0) b h.2.2)

  grows : (s t : Shelf) (f g : Map (List ℕ)) → s.files ≡ Some f → t.files ≡ Some g → Stocked (TakesListed store l xs) (Some s) (Some t) → CacheGrows l n stores f g
  grows s t f g is now stocked = record {
    held = λ q. elim (at q) [ inl same ↦ inl same | inr new ↦ inr (new.0, new.1, for_cache q new.0 new.2) ];
    strangers = subst (λ o. IfSome o (λ n. (q : List ℕ) → IsTrue (is_stranger q) → n q ≡ f q)) now
        (subst (λ o. IfSome o (λ m. IfSome t.files (λ n. (q : List ℕ) → IsTrue (is_stranger q) → n q ≡ m q))) is stocked.strangers);
  } where
    at : (q : List ℕ) → (chunks g q ≡ chunks f q) ⊎ ((b : List ℕ) × (chunks g q ≡ Some b) × TakesListed store l xs q b)
    at = subst (λ o. IfSome o (λ n. (q : List ℕ) → (chunks n q ≡ chunks f q) ⊎ ((b : List ℕ) × (chunks n q ≡ Some b) × TakesListed store l xs q b))) now
        (subst (λ o. IfSome o (λ m. IfSome t.files (λ n. (q : List ℕ) → (chunks n q ≡ chunks m q) ⊎ ((b : List ℕ) × (chunks n q ≡ Some b) × TakesListed store l xs q b)))) is stocked.chunks)

pub cache_filled : {S : Type 0} (store : StoreWords S) (xs : List S) (stores : ExtractStores) (l : Listing) (e0 e1 : Option Shelf) (cache : Option (List ℕ)) (folders : Option (Map (Map (List ℕ)))) (d e : Disk)
    → name_in e0 ≡ cache → d.folders ≡ folders_with e0 folders → e.folders ≡ folders_with e1 folders → IsTold e0 folders → Stocked (TakesListed store l xs) e0 e1
    → IfSome d.folders (AreOfFolders store xs stores)
    → CacheFilled stores cache l d e
cache_filled {S} store xs stores l None None cache folders d e is was now told stocked there = subst (λ c. CacheFilled stores c l d e) is (now ∙ sym was)
cache_filled {S} store xs stores l None (Some t) cache folders d e is was now told stocked there = absurd stocked
cache_filled {S} store xs stores l (Some s) None cache folders d e is was now told stocked there = absurd stocked
cache_filled {S} store xs stores l (Some s) (Some t) cache folders d e is was now told stocked there =
    subst (λ c. CacheFilled stores c l d e) is (subst (λ y. Filled stores l s.place y e.folders) (sym was) (subst (λ z. Filled stores l s.place (folders_with (Some s) folders) z) (sym now)
    (over folders told (subst (λ y. IfSome y There) was there)))) where
      There : Map (Map (List ℕ)) → Type 0
      There m = AreOfFolders store xs stores m

      over : (folders : Option (Map (Map (List ℕ)))) → IsTold (Some s) folders → IfSome (folders_with (Some s) folders) There → Filled stores l s.place (folders_with (Some s) folders) (folders_with (Some t) folders)
      over None told there = (refl, tt)
      over (Some m) told there = at s.files t.files refl refl (told m refl) where
        at : (x y : Option (Map (List ℕ))) → s.files ≡ x → t.files ≡ y → is_some s.files ≡ true → Filled stores l s.place (folders_with (Some s) (Some m)) (folders_with (Some t) (Some m))
        at None y x_is y_is some = absurd (true≢false (sym some ∙ ap is_some x_is))
        at (Some f) None x_is y_is some = absurd (true≢false (sym some ∙ sym stocked.told ∙ ap is_some y_is))
        at (Some f) (Some g) x_is y_is some =
            subst (λ (p : List ℕ). Filled stores l s.place (Some (at_name m s.place s.files)) (Some (at_name m p t.files))) (sym stocked.place)
            (filled_at stores l s.place m s.files t.files f g x_is y_is (grows store xs l (at_name m s.place s.files) stores there s t f g x_is y_is stocked))
