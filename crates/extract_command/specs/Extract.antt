-- `extract [-k] -s STORE.. -e N -c FOLDER --seed INDEX.. INDEX OUT`. A name is its bytes.
use Rattle.std.specs.Prelude.{◌≡◌, ◌⊎◌, ◌++◌, codes, Bool, true, false, if◌then◌else◌, is_some, ℕ}
use Rattle.std.specs.Prelude.{◌+◌, ◌<◌, ◌≤◌}
use Rattle.std.specs.Prelude.{length, List, [], ◌∷◌, map, Option, Some, None, IfSome, IsSome, IsSomeAnd, IsTrue}
use Rattle.std.specs.Prelude.{Result, Ok, Err}
use Rattle.std.specs.List.{Any, slice_get}
use Rattle.std.specs.Map.{count_at}
use Rattle.std.specs.Option.{option_map, unwrap_or}
use Rattle.assembler.specs.Assemblies.{IsLeast, KeepsBase, KeepsTorn, RightAlike}
use Rattle.assembler.specs.Obtainable.{IsObtainableOrBase}
use Rattle.assembler.specs.declared.fault.ExtractFault.{ExtractFault}
use Rattle.assembler.specs.declared.fault.ExtractFault.TheVariants as faults
use Rattle.range_survey.specs.declared.report.Report.{Report}
use Rattle.cache_store.specs.Giving.{GiveOneSize, SomeGives}
use Rattle.caibx_codec.specs.Asks.{IsListedGet}
use Rattle.caibx_codec.specs.Listing.{Listing, count_of, id_of, kind_of, size_of, slice_of, start_of, image_length}
use Rattle.caibx_codec.specs.Right.{IsRight, IsRightAt}
use Rattle.chunk_sources.specs.Caches.{IsListedAs}
use Rattle.chunk_sources.specs.Losses.{chunk_of}
use Rattle.chunk_sources.specs.Wants.{IsAmong}
use Rattle.chunk_store.specs.Folders.{chunks}
use Rattle.chunk_store.specs.Giving.{GivesChunk, IsChunk}
use Rattle.chunk_store.specs.Digests.{digest_of}
use Rattle.chunk_store.specs.Members.{GroupsAgree, maps_of}
use Rattle.chunk_store.specs.declared.id.ChunkId.{ChunkId}
use Rattle.chunk_store.specs.declared.id.DigestKind.{DigestKind}
use Rattle.command_outcome.specs.declared.outcome.Outcome.{Outcome}
use Rattle.command_outcome.specs.declared.outcome.Outcome.TheVariants as ends
use Rattle.command_words.specs.declared.command.Location.{Location}
use Rattle.dir_store.specs.Names.{is_stranger}
use Rattle.extract_command.specs.declared.stores.Stores.{Stores}
use Rattle.dsy_base.specs.Bytes.{resized}
use Rattle.dsy_base.specs.Counts.{Quiet}
use Rattle.dsy_base.specs.Maps.{Map, at_name}
use Rattle.dsy_base.specs.declared.fault.IoFault.{IoFault}
use Rattle.dsy_base.specs.declared.fault.IoFault.TheVariants as io
use Rattle.command_groups.specs.Asking.{with_retries}
use Rattle.command_groups.specs.Groups.{first_store, group_files, member_files, stores_of}
use Rattle.command_groups.specs.Lacking.{HaveLackedIn, LacksIn}
use Rattle.command_steps.specs.Asking.{AsksFew, EachDialed, SendsFronts, WorkersDialed}
use Rattle.command_steps.specs.Cache.{CacheOpened}
use Rattle.command_indexes.specs.Gets.{IndexGot}
use Rattle.command_steps.specs.Seeds.{IndexesRead, image_name}
use Rattle.command_worlds.specs.Steps.{◌>>=◌}
use Rattle.command_steps.specs.Sources.{DialsStores, NotAsking, OnStorage, SourcesOpened, Storage, storage}
use Rattle.command_steps.specs.Uses.{Uses, folders_among}
use Rattle.command_worlds.specs.Worlds.{DiskQuiet, FileRose, FolderRose, OnDisk, Step, World}
use Rattle.dsy_base.specs.Disk.{Disk, OnFile}
use Rattle.extract_plan.specs.Deal.{Deal, IsPlan, first_of, of_want, want_id}
use Rattle.http_wire.specs.declared.reply.Method.TheVariants as method
use Rattle.image_workers.specs.Kits.{worker_asks}
use Rattle.store_chain.specs.declared.refused.Refused.{Refused}
use Rattle.store_chain.specs.declared.refused.Refused.TheVariants as refused

-- the file that becomes the image: its name, and whether it begins with no bytes, whatever stands under that name
pub record Into : Type 0 where
  pub name : List ℕ
  pub fresh : Bool

abbrev pub in_place : List ℕ → Into
in_place out = record { name = out; fresh = false }

-- what it begins with, which is nothing where it isn't there, and the base that the assembly begins with
abbrev pub old_of : Map (List ℕ) → Into → List ℕ
old_of files out = if out.fresh then [] else unwrap_or (files out.name) []

abbrev pub base_of : Map (List ℕ) → Into → Listing → List ℕ
base_of files out l = resized (old_of files out) (image_length l)

-- it alone has changed, and holds t
abbrev pub Leaves : Map (List ℕ) → Map (List ℕ) → Into → List ℕ → Type 0
Leaves before after out t = after ≡ at_name before out.name (Some t)

-- the stores of an extraction: what their words name, how often a call on one that fails is made again, and whether
-- those that are folders never fail
pub record ExtractStores : Type 0 where
  pub groups : List (List Location)
  pub retries : ℕ
  pub sure : Bool

-- the same of what the command's words name
abbrev pub extract_stores : (sure : Bool) → Stores → ExtractStores
extract_stores sure s = record { groups = s.groups; retries = s.retries; sure = sure }

-- the seeds of an extraction: the names of their images, and what their indexes list
pub record Seeds : Type 0 where
  pub images : List (List ℕ)
  pub listings : List Listing

-- the image of seed s is one of these files. An entry of the seed's index with this id and size lies inside it, and its
-- range has the id by this kind of digest, whatever the kind of the seed's index is
pub record SeedHas (kind : DigestKind) (files : Map (List ℕ)) (x : Seeds) (id : List ℕ) (size s : ℕ) : Type 0 where
  pub image : List ℕ
  pub named : slice_get x.images s ≡ Some image
  pub listing : Listing
  pub listed : slice_get x.listings s ≡ Some listing
  pub bytes : List ℕ
  pub there : files image ≡ Some bytes
  pub entry : ℕ
  pub inside : entry < count_of listing
  pub id_is : id_of listing entry ≡ id
  pub size_is : size_of listing entry ≡ size
  pub fits : start_of listing entry + size ≤ length bytes
  pub right : digest_of kind (slice_of listing bytes entry) ≡ id_of listing entry

-- entry i can be obtained: an alike one is right in the base, or a seed has its chunk in one of these files, or the
-- cache or a store gives it, which hold these maps
abbrev pub CanBeHad : Listing → List ℕ → Map (List ℕ) → Seeds → List (Map (List ℕ)) → ℕ → Type 0
CanBeHad l base files x maps i = RightAlike l base i
    ⊎ (((s : ℕ) × SeedHas (kind_of l) files x (id_of l i) (size_of l i) s)
    ⊎ SomeGives (kind_of l) (id_of l i) (size_of l i) maps)

-- so it is where the base and the images of seeds are of these files, and the folders of the cache and of the stores
-- hold these
abbrev pub HadFrom : Map (List ℕ) → Into → Listing → Seeds → List (Map (List ℕ)) → List (Map (List ℕ)) → ℕ → Type 0
HadFrom before out l x cached stores =
    CanBeHad l (base_of before out l) before x (map chunks cached ++ map chunks stores)

-- each entry that can be obtained is right in t, and each other has the base's bytes
abbrev pub AreFilled : Listing → (ℕ → Type 0) → List ℕ → List ℕ → Type 0
AreFilled l P base t =
    (i : ℕ) → i < count_of l → (P i → IsRightAt t l i) × ((P i → ⊥) → slice_of l t i ≡ slice_of l base i)

-- the file alone has changed. It holds t, in which each range is right or the base's, but for a list of entries that is
-- no longer than the number of calls on the file that failed
abbrev pub KeepsIn : Disk → Disk → Map (List ℕ) → Map (List ℕ) → Into → Listing → List ℕ → Type 0
KeepsIn d e before after out l t =
    Leaves before after out t
    × KeepsBase l (count_at d.file_counts out.name) (count_at e.file_counts out.name) (base_of before out l) t

-- it holds t, in which a write to a range failed before which all are right
abbrev pub IsTorn : Disk → Disk → Map (List ℕ) → Into → Listing → List ℕ → Type 0
IsTorn d e before out l t =
    KeepsTorn l (count_at d.file_counts out.name) (count_at e.file_counts out.name) (base_of before out l) t

-- no server was asked, and no folder has changed
abbrev pub NoneAsked : Storage → Storage → Type 0
NoneAsked w v = (v.dial ≡ w.dial) × (v.disk.folders ≡ w.disk.folders)

-- no connection to a server has ended, and no folder has changed
abbrev pub NoneReached : Storage → Storage → ExtractStores → Type 0
NoneReached w v stores = EachDialed (λ s ended. ended ≡ []) (stores_of stores.groups) w.dial.ended v.dial.ended
    × (v.disk.folders ≡ w.disk.folders)

-- what stands there where no entry is named: it wasn't taken, before which no source is asked; or it has what it began
-- with, or keeps the base and is so
abbrev pub StopsSomewhere : Storage → Storage → Map (List ℕ) → Map (List ℕ) → Into → Listing → (List ℕ → Type 0)
    → Type 0
StopsSomewhere w v before after out l P = ((after ≡ before) × NoneAsked w v)
    ⊎ (Leaves before after out (old_of before out) ⊎ ((t : List ℕ) × KeepsIn w.disk v.disk before after out l t × P t))

-- afterwards the folder of the cache doesn't give the chunk of entry k, unless calls on it have failed
abbrev pub CacheLacksEntry : Disk → Disk → Option (List ℕ) → Listing → ℕ → Type 0
CacheLacksEntry d e None l k = Unit {0}
CacheLacksEntry d e (Some c) l k = IfSome e.folders (λ n. IfSome (n c) (λ g.
    GivesChunk (kind_of l) (id_of l k) (size_of l k) (chunks g (id_of l k)) → FolderRose d e c))

-- so it is where each group tells, over these folders
abbrev pub WhereFolders : Map (Map (List ℕ)) → ExtractStores → (List (Map (List ℕ)) → Type 0) → Type 0
WhereFolders n stores P =
    (fs : List (Map (List ℕ))) → map (group_files stores.sure n) stores.groups ≡ map Some fs → P fs

-- so it is where all members of the groups tell, over these folders: these are the files of all of them
abbrev pub WhereMembers : Map (Map (List ℕ)) → ExtractStores → (List (Map (List ℕ)) → Type 0) → Type 0
WhereMembers n stores P =
    (fs : List (Map (List ℕ))) → maps_of (member_files stores.sure n) stores.groups ≡ Some fs → P fs

-- where stores are folders, each entry can be obtained, or has the base's bytes in t, unless a write to it failed;
-- whatever else fails
abbrev pub OnlyHad : Disk → Disk → Map (List ℕ) → Map (Map (List ℕ)) → List (Map (List ℕ)) → ExtractStores → Into
    → Listing → Seeds → List ℕ → Type 0
OnlyHad d e before n cs stores out l x t = WhereMembers n stores (λ fs.
    IsObtainableOrBase l (HadFrom before out l x cs fs) (count_at d.file_counts out.name)
    (count_at e.file_counts out.name) (base_of before out l) t)

-- the chunk of entry k can't be obtained from the stores, for this reason; an alike entry that is right in the base
-- couldn't be read, and no seed that has the chunk; and the cache doesn't give it. n are the folders
pub record IsLacking (w v : Storage) (before : Map (List ℕ)) (n : Map (Map (List ℕ))) (cache : Option (List ℕ))
    (out : Into) (l : Listing) (x : Seeds) (stores : ExtractStores) (k : ℕ) (id : ChunkId) (r : Refused) : Type 0 where
  pub listed : k < count_of l
  pub id_is : id.0 ≡ id_of l k
  pub said : HaveLackedIn stores.retries (chunk_of (kind_of l) id (size_of l k)) w v stores.groups r
  pub lacks : WhereFolders n stores (λ fs.
      LacksIn (first_store stores.groups) (chunk_of (kind_of l) id (size_of l k)) (map chunks fs) r)
  pub copies : RightAlike l (base_of before out l) k → FileRose w.disk v.disk out.name
  pub seeds : (s : ℕ) (h : SeedHas (kind_of l) before x (id_of l k) (size_of l k) s) → FileRose w.disk v.disk h.image
  pub uncached : CacheLacksEntry w.disk v.disk cache l k

-- the name of the cache's folder, where there is a cache
abbrev pub folder_of : Option (List ℕ) → List (List ℕ)
folder_of None = []
folder_of (Some name) = name ∷ []

-- with those of the stores of groups
abbrev pub folders_reached : Option (List ℕ) → List (List Location) → List (List ℕ)
folders_reached cache groups = folder_of cache ++ folders_among (stores_of groups)

-- so it is where files and folders are told; these are the folders, and the files of the cache's
abbrev pub Told : Disk → Disk → Option (List ℕ)
    → (Map (List ℕ) → Map (List ℕ) → Map (Map (List ℕ)) → List (Map (List ℕ)) → Type 0) → Type 0
Told d e cache P = IfSome d.files (λ b. IfSome d.folders (λ n. IfSome e.files (λ a. (cs : List (Map (List ℕ)))
    × (map n (folder_of cache) ≡ map Some cs) × P b a n cs)))

-- over these folders, if one member of a group gives a listed chunk, all members of that group do
abbrev pub AgreeOnListed : Map (Map (List ℕ)) → ExtractStores → Listing → Type 0
AgreeOnListed n stores l = (id : List ℕ) (size : ℕ) → IsListedAs l id size
    → GroupsAgree (λ f. GivesChunk (kind_of l) id size (chunks f id)) (map (member_files stores.sure n) stores.groups)

-- nothing fails, and the stores of each group agree. Where there is a cache, the folders also have, of each id that the
-- index lists with several sizes, chunks of one size alone
pub record Undisturbed (d e : Disk) (n : Map (Map (List ℕ))) (stores : ExtractStores) (cache : Option (List ℕ))
    (l : Listing) (cs fs : List (Map (List ℕ))) : Type 0 where
  pub quiet : DiskQuiet d e
  pub agree : AgreeOnListed n stores l
  pub one_size : IsSome cache → GiveOneSize (IsListedAs l) (kind_of l) (map chunks cs ++ map chunks fs)

-- entry k is named, for this reason, each before it is right, and what isn't the base's can be obtained. Where stores
-- are folders, undisturbed, k is the least that can't be obtained, and each that can be obtained was made right
abbrev pub StopsLacking : Storage → Storage → ExtractStores → Option (List ℕ) → Into → Listing → Seeds → ℕ → ChunkId
    → Refused → Type 0
StopsLacking w v stores cache out l x k id r = Told w.disk v.disk cache (λ b a n cs.
    ((t : List ℕ) × KeepsIn w.disk v.disk b a out l t × ((i : ℕ) → i < k → IsRightAt t l i)
    × OnlyHad w.disk v.disk b n cs stores out l x t
    × WhereMembers n stores (λ fs. Undisturbed w.disk v.disk n stores cache l cs fs
    → AreFilled l (HadFrom b out l x cs fs) (base_of b out l) t))
    × IsLacking w v b n cache out l x stores k id r
    × WhereMembers n stores (λ fs. Undisturbed w.disk v.disk n stores cache l cs fs
    → IsLeast (HadFrom b out l x cs fs) k))

-- the first store that failed is named, where no store gave the chunk of some entry
abbrev pub StopsFailed : Storage → Storage → ExtractStores → Listing → ℕ → Type 0
StopsFailed w v stores l s = (k : ℕ) × (id : ChunkId) × (k < count_of l) × (id.0 ≡ id_of l k)
    × HaveLackedIn stores.retries (chunk_of (kind_of l) id (size_of l k)) w v stores.groups (refused.StoreFault s)

-- the file became the image of the index, with chunks from the seeds, the cache and the stores, or why not. Where
-- stores are folders, it does so only where each entry can be obtained, and undisturbed exactly there; else the first
-- that can't be obtained is named. A store that failed is named only where some entry can't be obtained from the seeds
-- or the cache either
abbrev pub Assembled : Storage → Storage → ExtractStores → Option (List ℕ) → Into → Listing → Seeds
    → Result Unit Outcome → Type 0
Assembled w v stores cache out l x (Ok u) = Told w.disk v.disk cache (λ b a n cs.
    ((t : List ℕ) × KeepsIn w.disk v.disk b a out l t × IsRight t l)
    × WhereMembers n stores (λ fs. (i : ℕ) → i < count_of l → HadFrom b out l x cs fs i))
Assembled w v stores cache out l x (Err (ends.Missing k id)) = StopsLacking w v stores cache out l x k id
    refused.Missing
Assembled w v stores cache out l x (Err (ends.Damaged k id store shows)) = StopsLacking w v stores cache out l x k id
    (refused.Damaged store shows)
Assembled w v stores cache out l x (Err (ends.StoreFault s)) = StopsFailed w v stores l s
    × Told w.disk v.disk cache (λ b a n cs. ((t : List ℕ) × KeepsIn w.disk v.disk b a out l t
    × OnlyHad w.disk v.disk b n cs stores out l x t)
    × (k : ℕ) × (id : ChunkId) × IsLacking w v b n cache out l x stores k id (refused.StoreFault s))
Assembled w v stores cache out l x (Err ends.TargetFault) = FileRose w.disk v.disk out.name
    × Told w.disk v.disk cache (λ b a n cs. StopsSomewhere w v b a out l
    (λ t. OnlyHad w.disk v.disk b n cs stores out l x t
    × (IsTorn w.disk v.disk b out l t ⊎ ((t ≡ base_of b out l) × NoneReached w v stores))))
Assembled w v stores cache out l x (Err ends.Memory) =
    Told w.disk v.disk cache (λ b a n cs. StopsSomewhere w v b a out l (OnlyHad w.disk v.disk b n cs stores out l x))
Assembled w v stores cache out l x (Err other) = ⊥

-- OUT holds afterwards the image that INDEX, which spells an index by the relation that is given, lists
pub record IsExtracted (Spelled : List ℕ → Listing → Type 0) (after : Map (List ℕ)) (index out : List ℕ) : Type 0 where
  pub listing : Listing
  pub listed : Spelled index listing
  pub image : List ℕ
  pub holds : after out ≡ Some image
  pub right : IsRight image listing

-- the answer of an assembly, and that where OUT can't be taken
abbrev pub answer_of_assembly : Result Report ExtractFault → Result Unit Outcome
answer_of_assembly (Ok r) = Ok tt
answer_of_assembly (Err (faults.Missing k id)) = Err (ends.Missing k id)
answer_of_assembly (Err (faults.Damaged k id store shows)) = Err (ends.Damaged k id store shows)
answer_of_assembly (Err (faults.StoreFault store)) = Err (ends.StoreFault store)
answer_of_assembly (Err faults.TargetFault) = Err ends.TargetFault
answer_of_assembly (Err faults.Memory) = Err ends.Memory

-- the answer if OUT can't be taken
abbrev pub answer_of_taking : IoFault → Result Unit Outcome
answer_of_taking io.Failed = Err ends.TargetFault
answer_of_taking io.Memory = Err ends.Memory

-- ---- what is added to the cache

-- the bytes are the chunk of an entry; where stores are folders of these, one of them holds it
abbrev pub IsForCache : Listing → Map (Map (List ℕ)) → ExtractStores → List ℕ → List ℕ → Type 0
IsForCache l n stores id b = (i : ℕ) × (i < count_of l) × (id ≡ id_of l i)
    × IsChunk (kind_of l) (id_of l i) (size_of l i) b
    × WhereMembers n stores (λ fs. Any (λ m. m (id_of l i) ≡ Some b) (map chunks fs))

-- chunks were added to a folder: under each id it holds what it held, or such bytes. Each file that is neither a
-- chunk's nor a temporary one stands as before
pub record CacheGrows (l : Listing) (n : Map (Map (List ℕ))) (stores : ExtractStores) (old new : Map (List ℕ))
    : Type 0 where
  pub held : (id : List ℕ) → (chunks new id ≡ chunks old id)
      ⊎ ((b : List ℕ) × (chunks new id ≡ Some b) × IsForCache l n stores id b)
  pub strangers : (q : List ℕ) → IsTrue (is_stranger q) → new q ≡ old q

-- no folder but the cache's has changed, and that one so
abbrev pub CacheFilled : ExtractStores → Option (List ℕ) → Listing → Disk → Disk → Type 0
CacheFilled stores None l d e = e.folders ≡ d.folders
CacheFilled stores (Some c) l d e = (is_some e.folders ≡ is_some d.folders) × IfSome d.folders (λ m.
    IfSome e.folders (λ n. (f : Map (List ℕ)) × (m c ≡ Some f) × (g : Map (List ℕ)) × (n ≡ at_name m c (Some g))
    × CacheGrows l m stores f g))

-- a disk whose files were written, and the cache's folder. No number falls
pub record FillsCache (stores : ExtractStores) (cache : Option (List ℕ)) (l : Listing) (d e : Disk) : Type 0 where
  pub folders : CacheFilled stores cache l d e
  pub counts : (q : List ℕ) → count_at d.file_counts q ≤ count_at e.file_counts q
  pub folder_counts : (q : List ℕ) → count_at d.folder_counts q ≤ count_at e.folder_counts q

-- ---- how often servers are asked for chunks

-- no call on the file has failed
abbrev pub FileQuiet : Disk → Disk → List ℕ → Type 0
FileQuiet d e q = Quiet (count_at d.file_counts q) (count_at e.file_counts q)

-- the types that never fail: that of OUT, and that of the cache's folder
pub record NeverFail : Type 0 where
  pub out : Bool
  pub cache : Bool

abbrev pub never_fail : Bool → Bool → NeverFail
never_fail out cache = record { out = out; cache = cache }

-- each of this many workers knows of a fault: there is one, or the type never fails
abbrev pub AllKnow : ℕ → Bool → Type 0
AllKnow workers never_fails = (workers ≡ 1) ⊎ IsTrue never_fails

-- the index lists the id with no other size
abbrev pub IsOnlySize : Listing → List ℕ → ℕ → Type 0
IsOnlySize l id size = (n : ℕ) → IsListedAs l id n → n ≡ size

-- the cache's folder gives the chunk, no call on it failed, and the index lists the id with no other size
pub record CacheSpares (d e : Disk) (cache : List ℕ) (l : Listing) (id : List ℕ) (size : ℕ) : Type 0 where
  pub gives : IsSomeAnd d.folders (λ m. IsSomeAnd (m cache) (λ f. GivesChunk (kind_of l) id size (chunks f id)))
  pub quiet : Quiet (count_at d.folder_counts cache) (count_at e.folder_counts cache)
  pub one_size : IsOnlySize l id size

-- want w of the plan is got without the stores: an entry of it is right in the base, no call on OUT failed, and all
-- workers know of such faults; or a seed has its chunk, and no call on the seed's image failed; or the cache gives it,
-- as it was before, and all workers know of faults of the cache
abbrev pub IsSparedOnDisk : NeverFail → ℕ → Disk → Disk → Map (List ℕ) → Option (List ℕ) → Into → Listing → Seeds
    → Deal → ℕ → Type 0
IsSparedOnDisk sure workers d e before cache out l x p w =
    (((j : ℕ) × IsAmong (of_want p w) j × IsRightAt (base_of before out l) l j) × FileQuiet d e out.name
    × AllKnow workers sure.out)
    ⊎ (((s : ℕ) × (h : SeedHas (kind_of l) before x (want_id l p w) (size_of l (first_of p w)) s)
    × FileQuiet d e h.image)
    ⊎ (IsSomeAnd cache (λ c. CacheSpares d e c l (want_id l p w) (size_of l (first_of p w)))
    × AllKnow workers sure.cache))

-- each worker asks each server for the chunk of an id at most once for each want of that id that it is dealt and that
-- isn't spared, and the first worker once more for each want of that id that isn't spared; each time as often again as
-- there are retries. A server is sent nothing but fronts of requests for chunks that the index lists. All workers know
-- of a fault of OUT, or of the cache, where there is one worker, or where no call on it ever fails, as `sure` says
pub record GetsWants (sure : NeverFail) (w v : Storage) (stores : ExtractStores) (cache : Option (List ℕ)) (out : Into)
    (l : Listing) (x : Seeds) : Type 0 where
  pub workers : ℕ
  pub plan : Deal
  pub planned : IsPlan l workers plan
  pub gets : (spared : ℕ → Bool) → ((i : ℕ) → i < plan.wants → spared i ≡ true → IsSomeAnd w.disk.files
      (λ b. IsSparedOnDisk sure workers w.disk v.disk b cache out l x plan i)) →
      WorkersDialed (λ k. AsksFew method.Get (with_retries stores.retries (worker_asks l plan spared k))) workers
      (stores_of stores.groups) w.dial.ended v.dial.ended
  pub sends : WorkersDialed (λ k. SendsFronts (IsListedGet l)) workers (stores_of stores.groups) w.dial.ended
      v.dial.ended

-- ---- making the image

-- the file's name has a number, unless there was no memory to take it
abbrev pub IsCounted : List ℕ → Disk → Result Unit Outcome → Disk → Type 0
IsCounted name d r e = IsSome (e.file_counts name) ⊎ ((r ≡ Err ends.Memory) × (e.files ≡ d.files))

-- files tell afterwards where they told before. The file, the images of seeds, the cache's folder and those of stores
-- alone were used
abbrev pub ImageMade : NeverFail → ExtractStores → Option (List ℕ) → Into → Listing → Seeds → Step Storage Unit
ImageMade sure stores cache out l x w r v = Assembled w v stores cache out l x r
    × FillsCache stores cache l w.disk v.disk
    × (is_some v.disk.files ≡ is_some w.disk.files) × DialsStores (stores_of stores.groups) w.dial v.dial
    × IsCounted out.name w.disk r v.disk
    × GetsWants sure w v stores cache out l x
    × Uses (out.name ∷ x.images) (folders_reached cache stores.groups) w.disk v.disk

-- ---- by way of a temporary file

-- the temporary file beside OUT
abbrev pub temporary_out : List ℕ → List ℕ
temporary_out out = out ++ codes ".tmp-desync"

abbrev pub beside : List ℕ → Into
beside out = record { name = temporary_out out; fresh = true }

-- the file isn't there any more; where it still is, removing it failed, or its name had no number, since it was never
-- taken. Nothing else has changed
abbrev pub Cleared : List ℕ → Disk → Disk → Type 0
Cleared name d e = ((e.files ≡ option_map (λ m. at_name m name None) d.files)
    ⊎ ((e.files ≡ d.files)
    × (IfSome d.files (λ m. m name ≡ None) ⊎ (FileRose d e name ⊎ (d.file_counts name ≡ None)))))
    × OnFile d e name

-- the step, after whose refusal the file of this name is cleared
abbrev pub Clearing : List ℕ → Step Storage Unit → Step Storage Unit
Clearing name step w (Ok u) v = step w (Ok u) v
Clearing name step w (Err o) v = (c : Disk) × step w (Err o) (storage c v.dial) × Cleared name c v.disk

-- so it is with the refusal of a step that answered so
abbrev pub ClearedAfter : List ℕ → Disk → Result Unit Outcome → Result Unit Outcome → Disk → Type 0
ClearedAfter name d (Ok u) (Ok v) e = e ≡ d
ClearedAfter name d (Ok u) (Err o) e = ⊥
ClearedAfter name d (Err p) (Ok v) e = ⊥
ClearedAfter name d (Err p) (Err o) e = (o ≡ p) × Cleared name d e

-- it isn't there. Want of memory is free, since the outcome keeps the name
abbrev pub IsNoFile : List ℕ → Outcome → Type 0
IsNoFile q (ends.NoFile name) = name ≡ q
IsNoFile q ends.Memory = Unit {0}
IsNoFile q other = ⊥

-- the temporary file became OUT
abbrev pub NotRenamed : List ℕ → List ℕ → Disk → Outcome → Disk → Type 0
NotRenamed from to d (ends.NoFile name) e = (name ≡ from) × IfSome d.files (λ m. m from ≡ None)
NotRenamed from to d (ends.FileFault name) e = (name ≡ to) × FileRose d e to
NotRenamed from to d ends.Memory e = Unit {0}
NotRenamed from to d other e = ⊥

abbrev pub Renamed : List ℕ → List ℕ → Step Disk Unit
Renamed from to d (Ok u) e =
    (e.files ≡ option_map (λ m. at_name (at_name m to (m from)) from None) d.files) × OnFile d e to
Renamed from to d (Err o) e = NotRenamed from to d o e × (e.files ≡ d.files) × OnFile d e to

-- OUT becomes the image: it is made it in its place; or the temporary file is, and takes OUT's name
abbrev pub OutMade : NeverFail → Bool → ExtractStores → Option (List ℕ) → List ℕ → Listing → Seeds → Step World Unit
OutMade sure true stores cache out l x = OnStorage (ImageMade sure stores cache (in_place out) l x)
OutMade sure false stores cache out l x = do
  _ ← OnStorage (Clearing (temporary_out out) (ImageMade sure stores cache (beside out) l x))
  OnStorage (Clearing (temporary_out out) (NotAsking (Renamed (temporary_out out) out)))

-- while the cache is used its folder counts as there. `sure` says whether calls on OUT, or on the cache, never fail
abbrev pub ExtractEnds : NeverFail → ExtractStores → Option (List ℕ) → List (List ℕ) → Bool → List ℕ → List ℕ
    → Step World Unit
ExtractEnds sure stores cache seeds in_place index out = do
  l ← OnStorage (IndexGot index)
  ls ← OnDisk (IndexesRead seeds)
  _ ← OnDisk (SourcesOpened (stores_of stores.groups))
  _ ← OnDisk (CacheOpened (stores_of stores.groups) cache)
  OutMade sure in_place stores cache out l (record { images = map image_name seeds; listings = ls })
