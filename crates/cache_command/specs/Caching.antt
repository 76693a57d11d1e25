-- `cache -s STORE.. -e RETRIES -c CACHE INDEX..`, over groups of stores. A name is its bytes; files are a folder's,
-- where they are told.
use Rattle.std.specs.Prelude.{◌≡◌, ◌⊎◌, ◌&&◌, ℕ, ◌+◌, ◌<◌, ◌≤◌, List, [], ◌∷◌, length, map}
use Rattle.std.specs.Prelude.{Bool, max}
use Rattle.std.specs.Prelude.{Option, Some, IfSome, IfErr, IsSomeAnd, IsTrue, is_some, Result, Ok, Err, slice_index_or}
use Rattle.std.specs.List.{AllZip, Any}
use Rattle.std.specs.Option.{option_map}
use Rattle.cache_store.specs.Giving.{GiveOneSize, SomeGives}
use Rattle.caibx_codec.specs.Asks.{IsListedGet}
use Rattle.caibx_codec.specs.Listing.{Listing, count_of, id_of, kind_of, size_of}
use Rattle.chunk_store.specs.Asks.{Ask}
use Rattle.chunk_store.specs.Folders.{chunks}
use Rattle.chunk_store.specs.Giving.{IsChunk}
use Rattle.chunk_store.specs.declared.id.ChunkId.{ChunkId}
use Rattle.chunk_store.specs.declared.store.Store.{Ghosts as StoreWords}
use Rattle.command_groups.specs.Asking.{with_retries}
use Rattle.command_groups.specs.Groups.{first_store, group_files, stores_of}
use Rattle.command_groups.specs.Lacking.{HaveLackedIn}
use Rattle.command_groups.specs.Numbers.{numbered_by}
use Rattle.command_outcome.specs.declared.outcome.Outcome.{Outcome}
use Rattle.command_outcome.specs.declared.outcome.Outcome.TheVariants as ends
use Rattle.command_indexes.specs.Places.{are_files}
use Rattle.command_indexes.specs.Spelled.{AsksInTurn, NotSpelled, IndexSpells}
use Rattle.command_steps.specs.Asking.{AsksOnly, WorkersDialed}
use Rattle.command_steps.specs.Cache.{CacheOpened}
use Rattle.command_steps.specs.Dials.{Dials}
use Rattle.command_steps.specs.Sources.{OnStorage, SourcesOpened, Storage}
use Rattle.command_steps.specs.Stores.{are_folders}
use Rattle.command_worlds.specs.Steps.{◌>>=◌}
use Rattle.command_worlds.specs.Worlds.{Adds, DiskQuiet, FolderRose, OnDisk, Step, World}
use Rattle.command_words.specs.declared.command.Location.{Location}
use Rattle.dir_store.specs.Names.{is_stranger}
use Rattle.dsy_base.specs.Counts.{Quiet, Rose}
use Rattle.dsy_base.specs.Links.{Traffic}
use Rattle.dsy_base.specs.Maps.{Map, at_name}
use Rattle.image_store.specs.PutChunks.{HoldsNamed, IsListedId as IsAmong}
use Rattle.image_chop.specs.Chopping.{times_listed}
use Rattle.store_chain.specs.Faults.{EachQuiet}
use Rattle.store_chain.specs.Giving.{LacksAll}
use Rattle.store_chain.specs.Refusals.{Refuses}
use Rattle.store_chain.specs.declared.refused.Refused.{Refused}
use Rattle.store_chain.specs.declared.refused.Refused.TheVariants as refused
use Rattle.store_chain.specs.declared.query.Query.{Query}
use Rattle.chunk_dealing.specs.Dealing.{sum_to}
use Rattle.cache_fill.specs.Filling.{FillsBy, GivesEntry, HoldsEntry, ListsSize, entry_want, filled_to}
use Rattle.cache_fill.specs.declared.fill.FillFault.{FillFault}
use Rattle.cache_fill.specs.declared.fill.FillFault.TheVariants as faults

-- ---- what is known of the stores and of the cache

pub record Evidence : Type 1 where
  -- all groups of stores tell, and hold these files
  pub holds : List (Map (List ℕ)) → Type 0
  -- how a refusal that names a group is told
  pub told : Refused → Refused
  -- the stores have refused what is wanted, for this reason
  pub refused : Query → Refused → Type 0
  -- calls on the cache have failed; no call has
  pub cache_failed : Type 0
  pub unfailed : Type 0

-- over a command, from w to v, whose groups of stores and cache these are. Each call that fails is made e times more.
-- `sure` says whether folders never fail
abbrev pub of_command : (sure : Bool) → ℕ → Storage → Storage → List (List Location) → List ℕ → Evidence
of_command sure e w v groups cache = record {
  holds = λ fs. IsSomeAnd w.disk.folders (λ n. map (group_files sure n) groups ≡ map Some fs);
  told = numbered_by (first_store groups);
  refused = λ c r. HaveLackedIn e c w v groups r;
  cache_failed = FolderRose w.disk v.disk cache;
  unfailed = DiskQuiet w.disk v.disk;
}

-- over calls that led from the stores of all workers, `before`, to those `after`, and the count of the cache's faults
-- from m to n. The first worker's stores are first. Those of this worker refused a chunk, where some did
abbrev pub of_calls : {S : Type 0} → StoreWords S → List (List S) → List (List S) → ℕ → ℕ → ℕ → Evidence
of_calls {S} store before after worker m n = record {
  holds = λ fs. map store.folder (slice_index_or before 0 []) ≡ map Some fs;
  told = λ r. r;
  refused = λ c r. (asked : List S) × (length asked ≡ length (slice_index_or after worker []))
      × Refuses store.said store.faults store.may_lack_memory c asked (slice_index_or after worker []) r;
  cache_failed = Rose m n;
  unfailed = Quiet m n × AllZip (λ a b. EachQuiet (map store.faults a) (map store.faults b)) before after;
}

-- the first k listed chunks are among the files
abbrev pub HoldsFirst : Listing → ℕ → Option (Map (List ℕ)) → Type 0
HoldsFirst l k y = IfSome (option_map chunks y) (λ m. (i : ℕ) → i < k → HoldsEntry l i (m (id_of l i)))

-- the outcome where filling ended early
abbrev pub outcome_of_fill : FillFault → Outcome
outcome_of_fill (faults.Missing k id) = ends.Missing k id
outcome_of_fill (faults.Damaged k id s x) = ends.Damaged k id s x
outcome_of_fill (faults.StoreFault s) = ends.StoreFault s
outcome_of_fill faults.CacheFault = ends.CacheFault
outcome_of_fill faults.Memory = ends.Memory

-- the answer if filling by one index ended so
abbrev pub answer_of_fill : Result Unit FillFault → Result Unit Outcome
answer_of_fill (Ok u) = Ok u
answer_of_fill (Err fault) = Err (outcome_of_fill fault)

module _ (over : Evidence) where
  -- ---- filling the cache by one index, from files x to files y

  -- the bytes are listed under the id with their size; and where all stores are folders that tell,
  -- some store holds them
  abbrev pub IsHeldListed : Listing → List ℕ → List ℕ → Type 0
  IsHeldListed l q b = ((n : ℕ) × ListsSize l q n × IsChunk (kind_of l) q n b)
      × ((fs : List (Map (List ℕ))) → over.holds fs → Any (λ m. m q ≡ Some b) (map chunks fs))

  -- under each id stands what stood there, or such bytes; and each file that is neither a chunk's nor a temporary one
  -- stands as before
  pub record AddsListed (l : Listing) (x y : Option (Map (List ℕ))) : Type 0 where
    pub tells : is_some y ≡ is_some x
    pub chunks_are : IfSome x (λ f. IfSome y (λ g. (q : List ℕ) → (chunks g q ≡ chunks f q)
        ⊎ ((b : List ℕ) × (chunks g q ≡ Some b) × IsHeldListed l q b)))
    pub strangers : IfSome x (λ f. IfSome y (λ g. (q : List ℕ) → IsTrue (is_stranger q) → g q ≡ f q))

  -- the stores refused the chunk of entry k for this reason, and the cache doesn't give it, or failed
  pub record IsNotHad (l : Listing) (y : Option (Map (List ℕ))) (k : ℕ) (id : ChunkId) (r : Refused) : Type 0 where
    pub id_is : id.0 ≡ id_of l k
    pub cache : IfSome (option_map chunks y) (λ m. GivesEntry l k m → over.cache_failed)
    pub said : over.refused (entry_want l k id) r
    pub lacks : (fs : List (Map (List ℕ))) → over.holds fs
        → (by_group : Refused) × (r ≡ over.told by_group) × LacksAll (entry_want l k id) (map chunks fs) by_group

  -- what the answer says of the entry at which filling ended. Where the cache failed, the stores gave the chunk
  abbrev pub FillTells : Listing → Option (Map (List ℕ)) → ℕ → FillFault → Type 0
  FillTells l y k (faults.Missing e id) = (e ≡ k) × IsNotHad l y k id refused.Missing
  FillTells l y k (faults.Damaged e id s x) = (e ≡ k) × IsNotHad l y k id (refused.Damaged s x)
  FillTells l y k (faults.StoreFault s) = (id : ChunkId) × IsNotHad l y k id (refused.StoreFault s)
  FillTells l y k faults.CacheFault = over.cache_failed
      × ((fs : List (Map (List ℕ))) → over.holds fs → SomeGives (kind_of l) (id_of l k) (size_of l k) (map chunks fs))
  FillTells l y k faults.Memory = Unit {0}

  -- filling ended early at one of the entries, of which the answer tells: each before it is among the files then, and
  -- each id that none of those lists holds what it held
  pub record StopsFilling (l : Listing) (fault : FillFault) (x y : Option (Map (List ℕ))) : Type 0 where
    pub entry : ℕ
    pub listed : entry < count_of l
    pub holds : HoldsFirst l entry y
    pub others : IfSome x (λ f. IfSome y (λ g. (q : List ℕ) → (chunks g q ≡ chunks f q) ⊎ IsAmong l entry q))
    pub tells : FillTells l y entry fault

  -- so it is, or there was no memory to begin
  abbrev pub EndsFilling : Listing → FillFault → Option (Map (List ℕ)) → Option (Map (List ℕ)) → Type 0
  EndsFilling l fault x y = ((fault ≡ faults.Memory) × (y ≡ x)) ⊎ StopsFilling l fault x y

  -- what is answered where all stores are folders that tell, nothing has failed, and cache and stores give one size for
  -- each listed id
  abbrev pub FillExactly : Listing → Option (Map (List ℕ)) → Result Unit FillFault → Type 0
  FillExactly l x r = (fs : List (Map (List ℕ))) → over.holds fs → over.unfailed → IfSome (option_map chunks x) (λ m.
      GiveOneSize (ListsSize l) (kind_of l) (m ∷ map chunks fs) → FillsBy l m (map chunks fs) r)

  pub record IndexFilled (l : Listing) (x y : Option (Map (List ℕ))) (r : Result Unit FillFault) : Type 0 where
    pub added : AddsListed l x y
    pub holds : HoldsFirst l (filled_to l r) y
    pub exactly : FillExactly l x r
    pub order : IfErr r (λ fault. EndsFilling l fault x y)

  -- ---- and by each in order, from w to v

  module _ (w v : Storage) where
    abbrev pub AllFilled : List (List ℕ) → Option (Map (List ℕ)) → Option (Map (List ℕ)) → Type 0
    AllFilled [] x y = y ≡ x
    AllFilled (q ∷ indexes) x y = (l : Listing) × IndexSpells w v q l × (z : Option (Map (List ℕ)))
        × IndexFilled l x z (Ok tt) × AllFilled indexes z y

    -- the first index that wasn't obtained, or by which the cache couldn't be filled
    abbrev pub NotFilled : List (List ℕ) → Option (Map (List ℕ)) → Option (Map (List ℕ)) → Outcome → Type 0
    NotFilled [] x y o = ⊥
    NotFilled (q ∷ indexes) x y o = (NotSpelled w v q o × (y ≡ x)) ⊎ ((l : Listing) × IndexSpells w v q l
        × (((fault : FillFault) × (o ≡ outcome_of_fill fault) × IndexFilled l x y (Err fault))
        ⊎ ((z : Option (Map (List ℕ))) × IndexFilled l x z (Ok tt) × NotFilled indexes z y o)))

    abbrev pub FillsEach : List (List ℕ) → Option (Map (List ℕ)) → Option (Map (List ℕ)) → Result Unit Outcome → Type 0
    FillsEach indexes x y (Ok u) = AllFilled indexes x y
    FillsEach indexes x y (Err o) = NotFilled indexes x y o

-- ---- how often servers are asked

-- what the first of these operands spell, as far as they were read
abbrev pub FrontSpelled : Storage → Storage → List (List ℕ) → List Listing → Type 0
FrontSpelled w v indexes [] = Unit {0}
FrontSpelled w v [] (l ∷ ls) = ⊥
FrontSpelled w v (q ∷ indexes) (l ∷ ls) = IndexSpells w v q l × FrontSpelled w v indexes ls

-- how many entries list the id
abbrev pub listed_times : List Listing → List ℕ → ℕ
listed_times [] id = 0
listed_times (l ∷ ls) id = times_listed l (count_of l) id + listed_times ls id

-- the chunk of one of their entries is asked for
abbrev pub IsGetAmong : List Listing → Ask → Type 0
IsGetAmong [] a = ⊥
IsGetAmong (l ∷ ls) a = IsListedGet l a ⊎ IsGetAmong ls a

-- the URLs among the indexes were asked for in order. Up to `most` workers, or one, asked the servers of chunks. Each
-- has a share, and all of them together ask for the chunk of an id at most once for each entry that lists it: a worker
-- asked each server for it at most as often as its share says, and e times more where it failed, and never whether it
-- has one. Nothing was sent to a server of chunks but fronts of such requests
pub record GetsListed (w v : Storage) (e most : ℕ) (indexes : List (List ℕ)) (groups : List (List Location))
    : Type 0 where
  pub listings : List Listing
  pub read : FrontSpelled w v indexes listings
  -- what had ended when the indexes were obtained
  pub ended : Option (List Traffic)
  pub fetches : AsksInTurn indexes w.dial.ended ended
  pub workers : ℕ
  pub some : 1 ≤ workers
  pub few : workers ≤ max 1 most
  pub shares : ℕ → List ℕ → ℕ
  pub together : (id : List ℕ) → sum_to (λ n. shares n id) workers ≤ listed_times listings id
  pub gets : WorkersDialed
      (λ n. AsksOnly (with_retries e (shares n)) (with_retries e (λ id. 0)) (IsGetAmong listings)) workers
      (stores_of groups) ended v.dial.ended

-- ---- the command

-- the cache's folder was filled by each index, and given back with other files; no other folder has changed
pub record FilledBetween (sure : Bool) (groups : List (List Location)) (e : ℕ) (cache : List ℕ) (most : ℕ)
    (indexes : List (List ℕ)) (w v : Storage) (r : Result Unit Outcome) : Type 0 where
  pub held : Option (Map (List ℕ))
  pub was : IfSome w.disk.folders (λ m. m cache ≡ held)
  pub now : Option (Map (List ℕ))
  pub filled : FillsEach (of_command sure e w v groups cache) w v indexes held now r
  pub back : v.disk.folders ≡ option_map (λ m. at_name m cache now) w.disk.folders
  pub adds : Adds w.disk v.disk
  pub dials : Dials w.dial v.dial
  -- where all stores are folders, and all indexes files, no server was asked
  pub undialed : IsTrue (are_folders (stores_of groups) && are_files indexes) → v.dial ≡ w.dial
  pub asks : GetsListed w v e most indexes groups

abbrev pub IndexesFilled : Bool → List (List Location) → ℕ → List ℕ → ℕ → List (List ℕ) → Step Storage Unit
IndexesFilled sure groups e cache most indexes w r v = FilledBetween sure groups e cache most indexes w v r

-- while the cache is used its folder counts as there. Up to `most` workers ask the stores
abbrev pub CacheEnds : Bool → List (List Location) → ℕ → List ℕ → ℕ → List (List ℕ) → Step World Unit
CacheEnds sure groups e cache most indexes = do
  _ ← OnDisk (SourcesOpened (stores_of groups))
  _ ← OnDisk (CacheOpened (stores_of groups) (Some cache))
  OnStorage (IndexesFilled sure groups e cache most indexes)

-- the index lists the id, under which bytes of that digest stand, by the index's kind of digest
abbrev pub HoldsListed : Map (List ℕ) → List ℕ → Listing → Type 0
HoldsListed m q l = IsAmong l (count_of l) q × HoldsNamed (kind_of l) q (m q)

-- so it is with each id that these indexes list: by the first that lists it, or by a later one
abbrev pub HoldsInOrder : List Listing → Map (List ℕ) → Type 0
HoldsInOrder [] m = Unit {0}
HoldsInOrder (l ∷ ls) m = ((i : ℕ) → i < count_of l → Any (HoldsListed m (id_of l i)) (l ∷ ls)) × HoldsInOrder ls m

-- each INDEX spells an index by the relation that is given, and the cache's folder, which was there, holds bytes with
-- the digest of each chunk that it lists. Only a later INDEX that lists the id with the other kind of digest may have
-- put others there, which have that digest by its kind. No other folder has changed
pub record IsCached (Spelled : List ℕ → Listing → Type 0) (folders folders_after : Map (Map (List ℕ))) (cache : List ℕ)
    (indexes : List (List ℕ)) : Type 0 where
  pub listings : List Listing
  pub listed : AllZip Spelled indexes listings
  pub held : Map (List ℕ)
  pub folder_was : folders cache ≡ Some held
  pub now : Map (List ℕ)
  pub folder_is : folders_after ≡ at_name folders cache (Some now)
  pub holds : HoldsInOrder listings (chunks now)
