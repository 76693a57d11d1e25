-- `cat -s STORE.. -e N -o OFFSET -l LENGTH INDEX`. The range is the n bytes of the image from the offset `at` on.
use Rattle.std.specs.Prelude.{◌≡◌, ◌++◌, ℕ, ◌-◌, ◌≤◌, List, [], map, min, Bool, Option, Some, None}
use Rattle.std.specs.Prelude.{IfSome, Result, Ok, Err}
use Rattle.std.specs.List.{Any, count_by}
use Rattle.std.specs.Option.{option_map}
use Rattle.std.specs.Str.{bytes_eq}
use Rattle.caibx_codec.specs.Listing.{Listing, id_of, image_length, kind_of, size_of}
use Rattle.cat_command.specs.Putting.{IsText, bytes_before, chunk_at}
use Rattle.chunk_store.specs.Folders.{chunks}
use Rattle.chunk_store.specs.Giving.{IsChunk}
use Rattle.chunk_store.specs.Said.{Said}
use Rattle.chunk_store.specs.declared.id.ChunkId.{ChunkId}
use Rattle.command_outcome.specs.declared.outcome.Outcome.{Outcome}
use Rattle.command_outcome.specs.declared.outcome.Outcome.TheVariants as ends
use Rattle.command_groups.specs.Asking.{GroupsAsked}
use Rattle.command_groups.specs.Groups.{first_store, group_files, stores_of}
use Rattle.command_groups.specs.Lacking.{HaveLackedIn, LacksIn, group_said}
use Rattle.command_indexes.specs.Gets.{IndexGot}
use Rattle.command_steps.specs.Sources.{ConsultsStores, OnStorage, Storage, SourcesOpened, storage_of}
use Rattle.command_words.specs.declared.command.Location.{Location}
use Rattle.command_worlds.specs.Steps.{◌>>=◌}
use Rattle.command_worlds.specs.Worlds.{OnDisk, Step, World}
use Rattle.dsy_base.specs.Counts.{Rose}
use Rattle.dsy_base.specs.Maps.{Map}
use Rattle.image_reader.specs.Covered.{IsCovered, IsCoveredGet, want_of, wants_of}
use Rattle.image_reader.specs.Images.{IsRange, SomeGivesEntry, image_of_stores}
use Rattle.image_reader.specs.Keeping.{missed}
use Rattle.store_chain.specs.declared.refused.Refused.{Refused}
use Rattle.store_chain.specs.declared.refused.Refused.TheVariants as refused

-- how many bytes the range has: all from the offset on, or LENGTH of them where there are more. Past the end there are
-- none
abbrev pub range_size : Listing → ℕ → Option ℕ → ℕ
range_size l at None = image_length l - at
range_size l at (Some length) = min length (image_length l - at)

-- the chunks that are kept
abbrev pub kept_chunks : ℕ
kept_chunks = 8

-- how often the chunk of this id is asked for: once for each entry that the range covers and that lists the id, unless
-- the chunk is one of those that were used last
abbrev pub asked_times : Listing → ℕ → ℕ → List ℕ → ℕ
asked_times l at n id = count_by (λ w. bytes_eq w.id.0 id) (missed kept_chunks [] (wants_of l at n))

-- P holds of the files that the groups tell, if they all do. `sure` says whether folders never fail
abbrev pub IfFolders : (sure : Bool) → Storage → List (List Location) → (List (Map (List ℕ)) → Type 0) → Type 0
IfFolders sure w groups P =
    IfSome w.disk.folders (λ m. (fs : List (Map (List ℕ))) → map (group_files sure m) groups ≡ map Some fs → P fs)

-- a store has shown the chunk of entry i
abbrev pub HasShownEntry : Listing → ℕ → Said → Type 0
HasShownEntry l i s = (b : List ℕ) × s.shown (id_of l i) b × IsChunk (kind_of l) (id_of l i) (size_of l i) b

module _ (sure : Bool) (groups : List (List Location)) (retries : ℕ) (l : Listing) (at n : ℕ) (w v : World) where
  -- a store gave the chunk of entry i
  pub record IsGivenEntry (i : ℕ) : Type 0 where
    pub shown : Any (λ g. HasShownEntry l i (group_said (storage_of w) (storage_of v) g)) groups
    pub held : IfFolders sure (storage_of w) groups (λ fs. SomeGivesEntry l i (map chunks fs))

  -- the first m bytes of the range were put, whose chunks the stores gave. Where all groups tell, they are
  -- those of the image of the stores
  pub record PutsFirst (m : ℕ) : Type 0 where
    pub fits : m ≤ n
    pub text : List ℕ
    pub bytes : IsText l at m text
    pub exactly : IfFolders sure (storage_of w) groups (λ fs. IsRange l at m (image_of_stores l (map chunks fs)) text)
    pub taken : v.out.taken ≡ option_map (λ t. t ++ text) w.out.taken
    pub given : (i : ℕ) → IsCovered l at m i → IsGivenEntry i

  -- the bytes before those of entry k were put, whose chunk the stores lack, for this reason
  pub record PutsBefore (k : ℕ) (id : ChunkId) (r : Refused) : Type 0 where
    pub covered : IsCovered l at n k
    pub id_is : id ≡ (want_of l k).id
    pub puts : PutsFirst (bytes_before l at k)
    pub said : HaveLackedIn retries (chunk_at (kind_of l) l k) (storage_of w) (storage_of v) groups r
    pub lacks : IfFolders sure (storage_of w) groups (λ fs.
        LacksIn (first_store groups) (chunk_at (kind_of l) l k) (map chunks fs) r)

  -- how putting the range ends. Want of memory has failed no call on the output
  abbrev pub EndsRange : Result Unit Outcome → Type 0
  EndsRange (Ok u) = PutsFirst n
  EndsRange (Err (ends.Missing k id)) = PutsBefore k id refused.Missing
  EndsRange (Err (ends.Damaged k id s x)) = PutsBefore k id (refused.Damaged s x)
  EndsRange (Err (ends.StoreFault s)) = (k : ℕ) × (id : ChunkId) × PutsBefore k id (refused.StoreFault s)
  EndsRange (Err ends.OutFault) = Rose w.out.faults v.out.faults × ((m : ℕ) × PutsFirst m)
  EndsRange (Err ends.Memory) = ((m : ℕ) × PutsFirst m) × (v.out.faults ≡ w.out.faults)
  EndsRange (Err other) = ⊥

-- servers are asked only for chunks of covered entries, each `retries` times more where it failed. Those of groups of
-- one store are sent fronts of such requests alone
abbrev pub RangePut : Bool → List (List Location) → ℕ → Listing → ℕ → ℕ → Step World Unit
RangePut sure groups retries l at n w r v = EndsRange sure groups retries l at n w v r
    × ConsultsStores (stores_of groups) (storage_of w) (storage_of v)
    × GroupsAsked retries (asked_times l at n) (λ id. 0) (IsCoveredGet l at n) groups w.dial.ended v.dial.ended
    × (w.out.faults ≤ v.out.faults)

-- the stores are opened before any byte is put
abbrev pub PutFrom : Bool → List (List Location) → ℕ → Listing → ℕ → ℕ → Step World Unit
PutFrom sure groups retries l at n = do
  _ ← OnDisk (SourcesOpened (stores_of groups))
  RangePut sure groups retries l at n

-- the range from OFFSET on is put, LENGTH bytes of it where LENGTH is given
abbrev pub CatEnds : Bool → List (List Location) → ℕ → ℕ → Option ℕ → List ℕ → Step World Unit
CatEnds sure groups retries offset length index = do
  l ← OnStorage (IndexGot index)
  PutFrom sure groups retries l offset (range_size l offset length)
