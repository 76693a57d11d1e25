-- What `cache` answers and leaves where nothing fails.
use Rattle.std.proofs.Common.{Bool, ap, arith, zero, suc, ◌⊎◌, ◌≡◌, ◌∙◌, ℕ, ◌<◌, List, [], ◌∷◌, map, Option, Some, IfSome, IsSomeAnd, IsTrue, refl, subst, sym, inl, inr, Result, Ok, Err}
use Rattle.std.proofs.lemmas.Option.{same_Some}
use Rattle.std.specs.List.{Any, Contains}
use Rattle.std.specs.Option.{option_map}
use Rattle.cache_store.specs.Giving.{GiveOneSize, SomeGives}
use Rattle.caibx_codec.specs.Listing.{Listing, count_of, id_of, kind_of, size_of}
use Rattle.chunk_store.proofs.Members.{any_cons}
use Rattle.chunk_store.specs.Folders.{chunks}
use Rattle.chunk_store.specs.Giving.{GivesChunk, IsChunk}
use Rattle.chunk_store.specs.declared.id.ChunkId.{ChunkId}
use Rattle.chunk_store.specs.declared.id.DigestKind.{DigestKind}
use Rattle.command_outcome.specs.declared.outcome.Outcome.{Outcome}
use Rattle.command_outcome.specs.declared.outcome.Outcome.TheVariants as ends
use Rattle.command_steps.specs.Cache.{CacheOpened}
use Rattle.command_indexes.proofs.Spelled.{not_spelled_done, not_spelled_file, spells_file}
use Rattle.command_indexes.specs.Places.{are_files, is_file}
use Rattle.command_indexes.specs.Spelled.{NotSpelled, IndexSpells}
use Rattle.command_steps.specs.InputFiles.{IsListed}
use Rattle.command_steps.specs.Sources.{OnStorage, storage_of}
use Rattle.command_steps.specs.Stores.{are_folders}
use Rattle.command_words.specs.declared.command.Location.{Location}
use Rattle.command_worlds.specs.Steps.{◌>>=◌, outcome_of}
use Rattle.command_worlds.specs.Worlds.{DiskQuiet, OnDisk, World}
use Rattle.desync_cli.proofs.Cached.{any_first, any_later, over_all}
use Rattle.command_groups.specs.Groups.{first_store, group_files, stores_of}
use Rattle.desync_cli.proofs.Grouped.{AreTelling, tells_first}
use Rattle.desync_cli.proofs.Readings.{EndsSo, IsAt, IsQuiet, at_first, both_files, cache_so, file_unrisen, index_there, index_unread, some_not, stores_so}
use Rattle.desync_cli.specs.Contents.{Contents, Ending, HasContents, folder_at, folders_at, with_folder}
use Rattle.desync_cli.specs.Exact.{Caches, FillsInOrder, GainsListed, GiveOneKind, IsFirstLacking, IsListedAmong, NamesLacking, firsts_of}
use Rattle.dsy_base.specs.Maps.{Map, at_name}
use Rattle.store_chain.specs.declared.refused.Refused.{Refused}
use Rattle.store_chain.specs.declared.refused.Refused.TheVariants as refused
use Rattle.cache_command.specs.Caching.{AddsListed, AllFilled, CacheEnds, EndsFilling, Evidence, FilledBetween, FillsEach, IndexFilled, IndexesFilled, IsCached, IsNotHad, NotFilled, of_command, outcome_of_fill}
use Rattle.cache_fill.specs.Filling.{FillsBy, IsFirstLost, IsGivenBy, ListsSize}
use Rattle.cache_fill.specs.declared.fill.FillFault.{FillFault}
use Rattle.cache_fill.specs.declared.fill.FillFault.TheVariants as fills

-- where no count has risen between two worlds, none has from one between to the last
pub still_quiet : (x : Contents) (w u v : World) → IsAt x w u → IsQuiet w v → DiskQuiet u.disk v.disk
still_quiet x w u v at quiet = record {
  files = λ q. let last = quiet.disk.files q in let first = at.files q in record { same = omega (arith, last.same, first); below = omega (arith, last.below) };
  folders = λ q. let last = quiet.disk.folders q in let first = at.folders q in record { same = omega (arith, last.same, first); below = omega (arith, last.below) };
}

any_weaker : {X : Type 0} (P Q : X → Type 0) → ((x : X) → P x → Q x) → (xs : List X) → Any P xs → Any Q xs
any_weaker P Q on xs (k, x, lt, is, p) = (k, x, lt, is, on x p)

among_first : (q : List ℕ) (indexes : List (List ℕ)) → Contains (q ∷ indexes) q
among_first q indexes = (0, omega arith, refl)

among_later : (q p : List ℕ) (indexes : List (List ℕ)) → Contains indexes p → Contains (q ∷ indexes) p
among_later q p indexes (k, lt, is) = (suc k, omega (arith, lt), is)

-- an operand among names of files is one
pub file_among : (names : List (List ℕ)) → IsTrue (are_files names) → (q : List ℕ) → Contains names q → IsTrue (is_file q)
file_among [] files q (k, lt, is) = absurd (omega (arith, lt))
file_among (p ∷ names) files q (zero, lt, is) = subst (λ (n : List ℕ). IsTrue (is_file n)) is (both_files (is_file p) (are_files names) files).0
file_among (p ∷ names) files q (suc k, lt, is) = file_among names (both_files (is_file p) (are_files names) files).1 q (k, omega (arith, lt), is)

-- ---- what a cache gives that has gained chunks

module _ (Listed : DigestKind → List ℕ → ℕ → Type 0) (stores : List (Map (List ℕ))) (f g : Map (List ℕ)) (gains : GainsListed Listed stores f g) where
  -- it gave before, or a store gives
  gave : (kind : DigestKind) (id : List ℕ) (n : ℕ) → GivesChunk kind id n (chunks g id) → GivesChunk kind id n (chunks f id) ⊎ SomeGives kind id n stores
  gave kind id n (b, held, is) = elim (gains.held id) [
    | inl same ↦ inl (b, sym same ∙ held, is)
    | inr (c, new, listed, some) ↦
        let same : c ≡ b = same_Some _ _ (sym new ∙ held) in
        inr (any_weaker (λ m. m id ≡ Some c) (λ m. GivesChunk kind id n (m id)) (λ m there. (c, there, subst (IsChunk kind id n) (sym same) is)) stores some)
  ]

  all_gave : (kind : DigestKind) (id : List ℕ) (n : ℕ) → SomeGives kind id n (chunks g ∷ stores) → SomeGives kind id n (chunks f ∷ stores)
  all_gave kind id n some = elim (any_cons (λ m. GivesChunk kind id n (m id)) (chunks g) stores some) [
    | inl here ↦ elim (gave kind id n here) [ inl before ↦ any_first (λ m. GivesChunk kind id n (m id)) (chunks f) stores before | inr store ↦ any_later (λ m. GivesChunk kind id n (m id)) (chunks f) stores store ]
    | inr later ↦ any_later (λ m. GivesChunk kind id n (m id)) (chunks f) stores later
  ]

  module _ (sizes : (kind : DigestKind) → GiveOneSize (Listed kind) kind (chunks f ∷ stores)) (kinds : GiveOneKind Listed (chunks f ∷ stores)) where
    -- it gives still
    gives : (kind : DigestKind) (id : List ℕ) (n : ℕ) → Listed kind id n → GivesChunk kind id n (chunks f id) → GivesChunk kind id n (chunks g id)
    gives kind id n listed was = elim (gains.held id) [
      | inl same ↦ (was.0, same ∙ was.1, was.2)
      | inr (c, new, (other, m, also, is), some) ↦
          let here : SomeGives kind id n (chunks f ∷ stores) = any_first (λ y. GivesChunk kind id n (y id)) (chunks f) stores was in
          let there : SomeGives other id m (chunks f ∷ stores) = any_later (λ y. GivesChunk other id m (y id)) (chunks f) stores (any_weaker (λ y. y id ≡ Some c) (λ y. GivesChunk other id m (y id)) (λ y holds. (c, holds, is)) stores some) in
          let alike : other ≡ kind = kinds id other kind m n also listed there here in
          let same : m ≡ n = sizes kind id m n (subst (λ (k : DigestKind). Listed k id m) alike also) listed (subst (λ (k : DigestKind). SomeGives k id m (chunks f ∷ stores)) alike there) here in
          (c, new, subst (λ (k : ℕ). IsChunk kind id k c) same (subst (λ (k : DigestKind). IsChunk k id m c) alike is))
    ]

-- nothing is gained
gains_none : (Listed : DigestKind → List ℕ → ℕ → Type 0) (stores : List (Map (List ℕ))) (f : Map (List ℕ)) → GainsListed Listed stores f f
gains_none Listed stores f = record { held = λ id. inl refl; strangers = λ q is. refl }

module _ (over : Evidence) (fs : List (Map (List ℕ))) (holds : over.holds fs) (Listed : DigestKind → List ℕ → ℕ → Type 0) (l : Listing) (among : (id : List ℕ) (n : ℕ) → ListsSize l id n → Listed (kind_of l) id n) where
  gains_on : (f z g : Map (List ℕ)) → GainsListed Listed (map chunks fs) f z → AddsListed over l (Some z) (Some g) → GainsListed Listed (map chunks fs) f g
  gains_on f z g before added = record { held = held; strangers = λ q is. added.strangers q is ∙ before.strangers q is } where
    held : (id : List ℕ) → (chunks g id ≡ chunks f id) ⊎ ((b : List ℕ) × (chunks g id ≡ Some b) × ((kind : DigestKind) × (n : ℕ) × Listed kind id n × IsChunk kind id n b) × Any (λ m. m id ≡ Some b) (map chunks fs))
    held id = elim (added.chunks_are id) [
      | inl same ↦ elim (before.held id) [ inl was ↦ inl (same ∙ was) | inr (b, is, listed, some) ↦ inr (b, same ∙ is, listed, some) ]
      | inr (b, is, ((n, lists, chunk), some)) ↦ inr (b, is, (kind_of l, n, among id n lists, chunk), some fs holds)
    ]

-- ---- the indexes in order

-- want of memory, or not
pub is_memory : (o : Outcome) → (o ≡ ends.Memory) ⊎ (o ≡ ends.Memory → ⊥)
is_memory ends.Memory = inl refl
is_memory other = inr (λ same. absurd (cc))

fault_not_done : (fault : FillFault) → outcome_of_fill fault ≡ ends.Done → ⊥
fault_not_done (fills.Missing k id) same = absurd (cc)
fault_not_done (fills.Damaged k id s y) same = absurd (cc)
fault_not_done (fills.StoreFault s) same = absurd (cc)
fault_not_done fills.CacheFault same = absurd (cc)
fault_not_done fills.Memory same = absurd (cc)

module _ (x : Contents) (w u v : World) (at : IsAt x w u) (quiet : IsQuiet w v) (sure : Bool) (groups : List (List Location)) (retries : ℕ) (fs : List (Map (List ℕ))) (are : map (group_files sure x.folders) groups ≡ map Some fs) (cache : List ℕ) (indexes_all : List (List ℕ)) (files : IsTrue (are_files indexes_all)) (f : Map (List ℕ)) where
  abbrev over : Evidence
  over = of_command sure retries (storage_of u) (storage_of v) groups cache

  abbrev Listed : DigestKind → List ℕ → ℕ → Type 0
  Listed = IsListedAmong x.files indexes_all

  abbrev Gains : Map (List ℕ) → Type 0
  Gains g = GainsListed Listed (map chunks fs) f g

  abbrev IsSome_of : List (List ℕ) → Type 0
  IsSome_of indexes = (p : List ℕ) → Contains indexes p → Contains indexes_all p

  holding : over.holds fs
  holding = subst (λ y. IsSomeAnd y (λ n. map (group_files sure n) groups ≡ map Some fs)) (sym at.has.folders) are

  file_here : (q : List ℕ) (indexes : List (List ℕ)) → IsSome_of (q ∷ indexes) → IsTrue (is_file q)
  file_here q indexes some = file_among indexes_all files q (some q (among_first q indexes))

  listed_here : (q : List ℕ) (l : Listing) → IsTrue (is_file q) → IndexSpells (storage_of u) (storage_of v) q l → IsListed x.files q l
  listed_here q l file h = subst (λ y. IfSome y (λ m. IsListed m q l)) at.has.files (spells_file q (storage_of u) (storage_of v) l file h)

  among : (q : List ℕ) (indexes : List (List ℕ)) (l : Listing) → IsSome_of (q ∷ indexes) → IsListed x.files q l → (id : List ℕ) (n : ℕ) → ListsSize l id n → Listed (kind_of l) id n
  among q indexes l some is id n lists = record { index = q; named = some q (among_first q indexes); listing = l; listed = is; lists = (refl, lists) }

  gained : (q : List ℕ) (indexes : List (List ℕ)) (l : Listing) (r : Result Unit FillFault) → IsSome_of (q ∷ indexes) → IsListed x.files q l → (z : Map (List ℕ)) → Gains z → (y : Option (Map (List ℕ))) → IndexFilled over l (Some z) y r → (g : Map (List ℕ)) × (y ≡ Some g) × Gains g
  gained q indexes l r some is z before y filled =
      let g = some_not y filled.added.tells in
      (g.0, g.1, gains_on over fs holding Listed l (among q indexes l some is) f z g.0 before (subst (λ o. AddsListed over l (Some z) o) g.1 filled.added))

  all_grown : (indexes : List (List ℕ)) → IsSome_of indexes → (z : Map (List ℕ)) → Gains z → (y : Option (Map (List ℕ))) → AllFilled over (storage_of u) (storage_of v) indexes (Some z) y → (g : Map (List ℕ)) × (y ≡ Some g) × Gains g
  all_grown [] some z before y h = (z, h, before)
  all_grown (q ∷ indexes) some z before y (l, listed, c, filled, rest) =
      let g = gained q indexes l (Ok tt) some (listed_here q l (file_here q indexes some) listed) z before c filled in
      all_grown indexes (λ p there. some p (among_later q p indexes there)) g.0 g.2 y (subst (λ o. AllFilled over (storage_of u) (storage_of v) indexes o y) g.1 rest)

  some_grown : (indexes : List (List ℕ)) → IsSome_of indexes → (z : Map (List ℕ)) → Gains z → (y : Option (Map (List ℕ))) (o : Outcome) → NotFilled over (storage_of u) (storage_of v) indexes (Some z) y o → (g : Map (List ℕ)) × (y ≡ Some g) × Gains g
  some_grown [] some z before y o h = absurd h
  some_grown (q ∷ indexes) some z before y o (inl h) = (z, h.1, before)
  some_grown (q ∷ indexes) some z before y o (inr (l, listed, inl (fault, is, filled))) = gained q indexes l (Err fault) some (listed_here q l (file_here q indexes some) listed) z before y filled
  some_grown (q ∷ indexes) some z before y o (inr (l, listed, inr (c, filled, rest))) =
      let g = gained q indexes l (Ok tt) some (listed_here q l (file_here q indexes some) listed) z before c filled in
      some_grown indexes (λ p there. some p (among_later q p indexes there)) g.0 g.2 y o (subst (λ r. NotFilled over (storage_of u) (storage_of v) indexes r y o) g.1 rest)

  not_done : (indexes : List (List ℕ)) (z y : Option (Map (List ℕ))) (o : Outcome) → NotFilled over (storage_of u) (storage_of v) indexes z y o → o ≡ ends.Done → ⊥
  not_done [] z y o h same = h
  not_done (q ∷ indexes) z y o (inl h) same = not_spelled_done q (storage_of u) (storage_of v) (subst (NotSpelled (storage_of u) (storage_of v) q) same h.0)
  not_done (q ∷ indexes) z y o (inr (l, listed, inl (fault, is, filled))) same = fault_not_done fault (sym is ∙ same)
  not_done (q ∷ indexes) z y o (inr (l, listed, inr (c, filled, rest))) same = not_done indexes c y o rest same

  module _ (sizes : (kind : DigestKind) → GiveOneSize (Listed kind) kind (chunks f ∷ map chunks fs)) (kinds : GiveOneKind Listed (chunks f ∷ map chunks fs)) where
    abbrev Given : Listing → ℕ → Type 0
    Given l = IsGivenBy l (chunks f) (map chunks fs)

    module _ (l : Listing) (lists : (id : List ℕ) (n : ℕ) → ListsSize l id n → Listed (kind_of l) id n) (z : Map (List ℕ)) (before : Gains z) where
      given_first : (i : ℕ) → IsGivenBy l (chunks z) (map chunks fs) i → Given l i
      given_first i (inl here) = gave Listed (map chunks fs) f z before (kind_of l) (id_of l i) (size_of l i) here
      given_first i (inr store) = inr store

      given_still : (i : ℕ) → i < count_of l → Given l i → IsGivenBy l (chunks z) (map chunks fs) i
      given_still i lt (inl here) = inl (gives Listed (map chunks fs) f z before sizes kinds (kind_of l) (id_of l i) (size_of l i) (lists (id_of l i) (size_of l i) (i, lt, refl, refl)) here)
      given_still i lt (inr store) = inr store

      one_here : GiveOneSize (ListsSize l) (kind_of l) (chunks z ∷ map chunks fs)
      one_here id n m a b c d = sizes (kind_of l) id n m (lists id n a) (lists id m b) (all_gave Listed (map chunks fs) f z before (kind_of l) id n c) (all_gave Listed (map chunks fs) f z before (kind_of l) id m d)

      lacking : (k n : ℕ) (id : ChunkId) (r : Refused) (y : Option (Map (List ℕ))) → IsFirstLost l (chunks z) (map chunks fs) k → k ≡ n → n < count_of l → IsNotHad over l y n id r → IsFirstLacking (first_store groups) l (Given l) (map chunks fs) k id r
      lacking k n id r y lost same listed had =
          let here : k < count_of l = subst (λ (j : ℕ). j < count_of l) (sym same) listed in
          let so : IsNotHad over l y k id r = subst (λ (j : ℕ). IsNotHad over l y j id r) (sym same) had in
          record {
            listed = here;
            least = (λ i lt. given_first i (lost.1 i lt), λ p. lost.0 (given_still k here p));
            id_is = so.id_is;
            lacks = so.lacks fs holding;
          }

      ended_by : (fault : FillFault) (y : Option (Map (List ℕ))) → FillsBy l (chunks z) (map chunks fs) (Err fault) → EndsFilling over l fault (Some z) y → (outcome_of_fill fault ≡ ends.Memory) ⊎ NamesLacking (first_store groups) l (Given l) (map chunks fs) (outcome_of_fill fault)
      ended_by (fills.Missing k id) y by (inl none) = absurd (cc)
      ended_by (fills.Missing k id) y by (inr s) = inr (lacking k s.entry id refused.Missing y by s.tells.0 s.listed s.tells.1)
      ended_by (fills.Damaged k id n c) y by (inl none) = absurd (cc)
      ended_by (fills.Damaged k id n c) y by (inr s) = inr (lacking k s.entry id (refused.Damaged n c) y by s.tells.0 s.listed s.tells.1)
      ended_by (fills.StoreFault n) y by h = absurd by
      ended_by fills.CacheFault y by h = absurd by
      ended_by fills.Memory y by h = inl refl

    exactly : (l : Listing) (lists : (id : List ℕ) (n : ℕ) → ListsSize l id n → Listed (kind_of l) id n) (z : Map (List ℕ)) → Gains z → (y : Option (Map (List ℕ))) (r : Result Unit FillFault) → IndexFilled over l (Some z) y r → FillsBy l (chunks z) (map chunks fs) r
    exactly l lists z before y r filled = filled.exactly fs holding (still_quiet x w u v at quiet) (one_here l lists z before)

    -- the rest of them
    abbrev Rest : List (List ℕ) → Listing → Ending
    Rest indexes l x o y = NamesLacking (first_store groups) l (Given l) (map chunks fs) o ⊎ (((i : ℕ) → i < count_of l → Given l i) × FillsInOrder (first_store groups) (chunks f) (map chunks fs) indexes x o y)

    all_given : (q : List ℕ) (indexes : List (List ℕ)) (l : Listing) (some : IsSome_of (q ∷ indexes)) (is : IsListed x.files q l) (z : Map (List ℕ)) → Gains z → (c : Option (Map (List ℕ))) → IndexFilled over l (Some z) c (Ok tt) → (i : ℕ) → i < count_of l → Given l i
    all_given q indexes l some is z before c filled i lt = given_first l (among q indexes l some is) z before i (exactly l (among q indexes l some is) z before c (Ok tt) filled i lt)

    all_ordered : (indexes : List (List ℕ)) → IsSome_of indexes → (z : Map (List ℕ)) → Gains z → (y : Option (Map (List ℕ))) → AllFilled over (storage_of u) (storage_of v) indexes (Some z) y → FillsInOrder (first_store groups) (chunks f) (map chunks fs) indexes x ends.Done x
    all_ordered [] some z before y h = (refl, refl)
    all_ordered (q ∷ indexes) some z before y (l, listed, c, filled, rest) =
        let is = listed_here q l (file_here q indexes some) listed in
        let g = gained q indexes l (Ok tt) some is z before c filled in
        index_there x q l (Rest indexes) ends.Done x is (inr (
          all_given q indexes l some is z before c filled,
          all_ordered indexes (λ p there. some p (among_later q p indexes there)) g.0 g.2 y (subst (λ o. AllFilled over (storage_of u) (storage_of v) indexes o y) g.1 rest),
        ))

    some_ordered : (indexes : List (List ℕ)) → IsSome_of indexes → (z : Map (List ℕ)) → Gains z → (y : Option (Map (List ℕ))) (o : Outcome) → NotFilled over (storage_of u) (storage_of v) indexes (Some z) y o → (o ≡ ends.Memory) ⊎ FillsInOrder (first_store groups) (chunks f) (map chunks fs) indexes x o x
    some_ordered [] some z before y o h = absurd h
    some_ordered (q ∷ indexes) some z before y o (inl h) = elim (index_unread x u.disk v.disk at.has.files (file_unrisen x w u v at quiet) q o (not_spelled_file q (storage_of u) (storage_of v) o (file_here q indexes some) h.0)) [ inl none ↦ inl none | inr so ↦ inr (so (Rest indexes)) ]
    some_ordered (q ∷ indexes) some z before y o (inr (l, listed, inl (fault, same, filled))) =
        let is = listed_here q l (file_here q indexes some) listed in
        let lists = among q indexes l some is in
        elim (ended_by l lists z before fault y (exactly l lists z before y (Err fault) filled) filled.order) [
          | inl none ↦ inl (same ∙ none)
          | inr names ↦ inr (index_there x q l (Rest indexes) o x is (inl (subst (NamesLacking (first_store groups) l (Given l) (map chunks fs)) (sym same) names)))
        ]
    some_ordered (q ∷ indexes) some z before y o (inr (l, listed, inr (c, filled, rest))) =
        let is = listed_here q l (file_here q indexes some) listed in
        let g = gained q indexes l (Ok tt) some is z before c filled in
        elim (some_ordered indexes (λ p there. some p (among_later q p indexes there)) g.0 g.2 y o (subst (λ r. NotFilled over (storage_of u) (storage_of v) indexes r y o) g.1 rest)) [
          | inl none ↦ inl none
          | inr so ↦ inr (index_there x q l (Rest indexes) o x is (inr (all_given q indexes l some is z before c filled, so)))
        ]

  module _ (there : x.folders cache ≡ Some f) (most : ℕ) where
    held_is : (o : Option (Map (List ℕ))) → IfSome u.disk.folders (λ m. m cache ≡ o) → o ≡ Some f
    held_is o was = let h : x.folders cache ≡ o = subst (λ y. IfSome y (λ m. m cache ≡ o)) at.has.folders was in sym h ∙ there

    filled_so : (r : Result Unit Outcome) → OnStorage (IndexesFilled sure groups retries cache most indexes_all) u r v → EndsSo x v (Caches (first_store groups) (map chunks fs) cache indexes_all f) (outcome_of r)
    filled_so r h = go r h.0.filled where
      b : FilledBetween sure groups retries cache most indexes_all (storage_of u) (storage_of v) r
      b = h.0

      was : b.held ≡ Some f
      was = held_is b.held b.was

      every : IsSome_of indexes_all
      every p here = here

      tells : (g : Map (List ℕ)) → b.now ≡ Some g → HasContents v (with_folder x cache g)
      tells g is = record {
        files = b.adds.files ∙ at.has.files;
        folders = b.back ∙ ap (option_map (λ m. at_name m cache b.now)) at.has.folders ∙ ap (λ o. Some (at_name x.folders cache o)) is;
        printed = ap (λ o. o.taken) h.1 ∙ at.has.printed;
      }

      is_cached : (g : Map (List ℕ)) → b.now ≡ Some g → AllFilled over (storage_of u) (storage_of v) indexes_all b.held b.now → IsCached (IsListed x.files) x.folders (at_name x.folders cache (Some g)) cache indexes_all
      is_cached g is filled = over_all over (storage_of u) (storage_of v) (IsListed x.files) cache indexes_all (Some x.folders) (Some (at_name x.folders cache (Some g))) b.held b.now (λ q has l. listed_here q l (file_among indexes_all files q has)) (f, there, was) (ap (λ o. Some (at_name x.folders cache o)) (sym is)) filled

      go : (r : Result Unit Outcome) → FillsEach over (storage_of u) (storage_of v) indexes_all b.held b.now r → EndsSo x v (Caches (first_store groups) (map chunks fs) cache indexes_all f) (outcome_of r)
      go (Ok _) filled =
          let from : AllFilled over (storage_of u) (storage_of v) indexes_all (Some f) b.now = subst (λ o. AllFilled over (storage_of u) (storage_of v) indexes_all o b.now) was filled in
          let g = all_grown indexes_all every f (gains_none Listed (map chunks fs) f) b.now from in
          inr (
            with_folder x cache g.0,
            tells g.0 g.1,
            λ sizes kinds. (
              all_ordered sizes kinds indexes_all every f (gains_none Listed (map chunks fs) f) b.now from,
              λ done. is_cached g.0 g.1 filled,
              (g.0, refl, g.2),
            ),
          )
      go (Err o) filled = elim (is_memory o) [
        | inl none ↦ inl none
        | inr other ↦
            let from : NotFilled over (storage_of u) (storage_of v) indexes_all (Some f) b.now o = subst (λ z. NotFilled over (storage_of u) (storage_of v) indexes_all z b.now o) was filled in
            let g = some_grown indexes_all every f (gains_none Listed (map chunks fs) f) b.now o from in
            inr (
              with_folder x cache g.0,
              tells g.0 g.1,
              λ sizes kinds. (
                elim (some_ordered sizes kinds indexes_all every f (gains_none Listed (map chunks fs) f) b.now o from) [ inl none ↦ absurd (other none) | inr so ↦ so ],
                λ done. absurd (not_done indexes_all (Some f) b.now o from done),
                (g.0, refl, g.2),
              ),
            )
      ]

module _ (x : Contents) (w v : World) (quiet : IsQuiet w v) where
  pub caches_so : (sure : Bool) (groups : List (List Location)) (retries : ℕ) → AreTelling sure groups → (cache : List ℕ) (most : ℕ) (indexes : List (List ℕ)) → IsTrue (are_folders (stores_of groups)) → IsTrue (are_files indexes) → HasContents w x → (r : Result Unit Outcome) → CacheEnds sure groups retries cache most indexes w r v
      → EndsSo x v (folders_at (stores_of groups) (λ fs. folder_at cache (Caches (first_store groups) (map chunks (firsts_of groups fs)) cache indexes))) (outcome_of r)
  caches_so sure groups retries telling cache most indexes all files has = stores_so x w v quiet (stores_of groups) all (λ fs. folder_at cache (Caches (first_store groups) (map chunks (firsts_of groups fs)) cache indexes))
      (λ _. OnDisk (CacheOpened (stores_of groups) (Some cache)) >>= (λ _. OnStorage (IndexesFilled sure groups retries cache most indexes)))
      (λ fs e at are. cache_so x w v quiet (stores_of groups) cache (Caches (first_store groups) (map chunks (firsts_of groups fs)) cache indexes) (λ _. OnStorage (IndexesFilled sure groups retries cache most indexes))
      (λ f u after there. filled_so x w u v after quiet sure groups retries (firsts_of groups fs) (tells_first sure x.folders groups fs telling are) cache indexes files f there most) e at)
      w (at_first x w has)
