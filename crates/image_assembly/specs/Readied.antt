-- What stands once an assembly is prepared.
use Rattle.std.specs.Prelude.{◌≡◌, ◌⊎◌, ℕ, ◌<◌, ◌≤◌, List, [], length, replicate, Bool, false, IfSome, Option}
use Rattle.std.specs.Prelude.{Some, is_some, vec_capacity, vec_len}
use Rattle.std.specs.Global.{Vec}
use Rattle.std.specs.List.{All}
use Rattle.assembler.specs.Begun.{HasBegun}
use Rattle.assembler.specs.declared.fault.ExtractFault.{ExtractFault}
use Rattle.assembler.specs.declared.fault.ExtractFault.TheVariants as faults
use Rattle.cache_store.specs.Shelves.{Shelf}
use Rattle.chunk_store.specs.Members.{maps_of}
use Rattle.image_assembly.specs.declared.fault.PrepareFault.{PrepareFault}
use Rattle.image_assembly.specs.declared.fault.PrepareFault.TheVariants as refusals
use Rattle.caibx_codec.specs.Listing.{IsListedSize, Listing, count_of, image_length, kind_of, size_of}
use Rattle.chunk_sources.specs.Wants.{Task}
use Rattle.chunk_sources.specs.declared.kit.Kit.{Kit}
use Rattle.chunk_store.specs.declared.id.DigestKind.{DigestKind}
use Rattle.chunk_store.specs.declared.store.Store.{Ghosts as StoreWords}
use Rattle.dsy_base.specs.Bytes.{Held, resized}
use Rattle.dsy_base.specs.Maps.{Map}
use Rattle.dsy_base.specs.declared.view.View.{Ghosts as ViewWords}
use Rattle.extract_plan.specs.Deal.{IsPlan, shards_of}
use Rattle.extract_plan.specs.Places.{PlacesKnown}
use Rattle.image_workers.specs.Beside.{PermitsKit}
use Rattle.image_workers.specs.Kits.{MayFillFrom}
use Rattle.image_workers.specs.Lanes.{AreFirst}
use Rattle.image_workers.specs.Shared.{NamesShelf, all_stores, door_shelf, pairs_of}
use Rattle.owned_shards.specs.Wholes.{MayFillAll, Whole, base_told}
use Rattle.range_ledger.specs.Runs.{Run}

-- the run is over this index, cut for this many workers, and over a target that holds this once it has the image's
-- length
pub record IsRunFor (r : Run) (l : Listing) (workers : ℕ) (told : Bool) (old : Held) : Type 0 where
  pub listing : r.listing ≡ l
  pub shards : r.shards ≡ shards_of workers (count_of l)
  pub base : IfSome old.bytes (λ o. r.base ≡ resized o (image_length l))
  pub tells : r.tells ≡ told

-- what the run permits with several kits and this cache, of which a type names the kind, what its folder held, and what
-- may be added: an entry may be filled that can be obtained with one of them, and no other where all of them tell
pub record Permits {S V : Type 0} (store : StoreWords S) (view : ViewWords V) (r : Run) (t : Task)
    (kits : List (Kit S V)) (kind : DigestKind) (first : Option (Map (List ℕ))) (taken : List ℕ) (failed : ℕ)
    (pairs : Option (List (List ℕ × ℕ))) (maps : Option (List (Map (List ℕ)))) (cache : Option Shelf) : Type 0 where
  pub digest : kind ≡ kind_of t.listing
  pub shelf : IfSome cache (NamesShelf kind first taken failed)
  pub listed : pairs ≡ Some (pairs_of t.listing)
  pub stores : maps ≡ maps_of store.members (all_stores kits)
  pub each : All (PermitsKit store view r t (door_shelf kind first pairs maps 0 cache)) kits
  pub had : MayFillFrom store view t r.may (base_told r) cache kits

-- this much room is that of the largest chunk of an index
pub record IsRoomOf (l : Listing) (room : ℕ) : Type 0 where
  pub enough : (i : ℕ) → i < count_of l → size_of l i ≤ room
  pub exactly : IsListedSize l room

-- what contracts see of an assembly that is prepared: what is to be made right by which plan, the target in shards with
-- what became of each entry, and the kits
pub record Readied (S V : Type 0) : Type 0 where
  pub task : Task
  pub whole : Whole
  pub kits : List (Kit S V)

-- all of it as one value
abbrev pub readied : {S V : Type 0} → Task → Whole → List (Kit S V) → Readied S V
readied task whole kits = record { task = task; whole = whole; kits = kits }

-- what it keeps: with one kit the run permits all, the plan is that of the run's index for as many workers as there are
-- kits, no want is marked as tried, the places and each kit are of this index, the survey is over, and no failed call
-- was forgotten
pub record IsReadied {S V : Type 0} (store : StoreWords S) (view : ViewWords V) (r : Run) (told : Bool)
    (tried : List Bool) (x : Readied S V) : Type 0 where
  pub listing : x.task.listing ≡ r.listing
  pub one : length x.kits ≡ 1 → MayFillAll r
  pub shards : r.shards ≡ shards_of (length x.kits) (count_of r.listing)
  pub base : IfSome x.whole.held.bytes (λ t. r.base ≡ t)
  pub tells : told ≡ r.tells
  pub shown : is_some x.whole.held.bytes ≡ told
  pub rises : x.whole.faults_before ≤ x.whole.faults
  pub first : AreFirst r x.whole.fates
  pub some : 0 < length x.kits
  pub plan : IsPlan x.task.listing (length x.kits) x.task.plan
  pub fresh : tried ≡ replicate x.task.plan.wants false
  pub places : All (λ k. PlacesKnown x.task.listing x.task.plan x.task.places (length k.seeds.items)) x.kits
  pub kind : All (λ k. k.chain.kind ≡ kind_of x.task.listing) x.kits
  pub room : All (λ k. IsRoomOf x.task.listing (length k.buffer.items)) x.kits

-- this is room for that many workers of the run: for the locks, for the lanes, and for what each knows
pub record AreRoomsFor {A B C : Type 0} (r : Run) (workers : ℕ) (for_locks : Vec A) (for_lanes : Vec B)
    (for_known : Vec (Vec C)) : Type 0 where
  pub none : (for_locks.items ≡ []) × (for_lanes.items ≡ [])
  pub locks : r.shards ≤ vec_capacity for_locks
  pub lanes : workers ≤ vec_capacity for_lanes
  pub size : vec_len for_known ≡ workers
  pub known : All (λ v. (v.items ≡ []) × (count_of r.listing ≤ vec_capacity v)) for_known.items

-- it holds for each target of which these shards were made: for what it held, and how often it had failed
abbrev pub OfTarget : Listing → Whole → (Held → ℕ → Type 0) → Type 0
OfTarget l x So = (old : Held) (f : ℕ) → HasBegun l old f x → So old f

-- the same with this many kits: with more than one, for how often it had failed at most before it was split
abbrev pub OfTargetWith : ℕ → Listing → Whole → (Held → ℕ → Type 0) → Type 0
OfTargetWith kits l x So = OfTarget l x (λ old f. (kits ≡ 1) ⊎ (f ≤ x.faults_before) → So old f)

-- the answer of an assembly that couldn't be prepared
abbrev pub unprepared : PrepareFault → ExtractFault
unprepared refusals.TargetFault = faults.TargetFault
unprepared refusals.Memory = faults.Memory
