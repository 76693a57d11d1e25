-- An assembly over kits that were lent to it, from the disk that stood before them to the one after all was given back.
use Rattle.std.proofs.Common.{◌≡◌, ◌∙◌, ◌++◌, ℕ, suc, ◌+◌, ◌<◌, ◌≤◌, List, [], ◌∷◌, All, Bool, length, drop, map, slice_index, slice_index_or, IsTrue, is_some, Option, Some, None, IfSome, IsSomeAnd, Result, refl, sym, ap, subst, arith}
use Rattle.std.proofs.lemmas.List.{length-map}
use Rattle.std.proofs.lemmas.List.Elements.{All-cons}
use Rattle.std.specs.List.{fold}
use Rattle.std.specs.Map.{count_at}
use Rattle.std.specs.Option.{option_map}
use Rattle.assembler.specs.Assemblies.{IsObtainable}
use Rattle.assembler.specs.Obtainable.{OnlyObtainable}
use Rattle.assembler.specs.OneKit.{Lent, lent}
use Rattle.assembler.specs.declared.fault.ExtractFault.{ExtractFault}
use Rattle.cache_store.specs.Shelves.{Shelf}
use Rattle.caibx_codec.specs.Asks.{IsListedGet}
use Rattle.caibx_codec.specs.Listing.{Listing, image_length, size_of, kind_of}
use Rattle.chunk_sources.specs.Caches.{CacheGives, HaveOneSize, cache_faults, cached_in, IsListedAs}
use Rattle.chunk_sources.specs.Sources as origins
use Rattle.chunk_sources.specs.Sources.{SourcesQuiet}
use Rattle.chunk_sources.specs.Wants.{Task}
use Rattle.chunk_sources.specs.declared.kit.Kit.{Kit}
use Rattle.chunk_store.specs.Folders.{chunks}
use Rattle.chunk_store.specs.Giving.{GivesChunk}
use Rattle.chunk_store.specs.Members.{GroupsAgree, maps_of, told_together}
use Rattle.chunk_store.specs.declared.store.Store.{Ghosts as StoreWords}
use Rattle.command_steps.proofs.Cached.{given_adds, given_folders}
use Rattle.command_steps.proofs.Dialed.{dials_none, dials_twice}
use Rattle.command_groups.proofs.Given.{group_given_earlier, group_given_longer}
use Rattle.command_groups.proofs.Quiet.{folders_quiet, members_all_begin}
use Rattle.command_groups.proofs.Seen.{groups_hold, groups_tell, chunks_agree}
use Rattle.command_groups.proofs.Stand.{found_after, fresh_counts, fresh_first, groups_stand_still}
use Rattle.command_groups.proofs.Standing.{GroupStands, all_groups_stand}
use Rattle.command_groups.proofs.Words.{group_words}
use Rattle.command_groups.specs.Asking.{with_retries}
use Rattle.command_groups.specs.Groups.{group_files, stores_of, member_files}
use Rattle.command_groups.specs.Numbers.{answer_of_stores}
use Rattle.command_groups.specs.Opened.{IsGroupGiven, files_in, locations_in, told_files, with_group}
use Rattle.command_steps.proofs.Lent.{each_quiet, store_rose}
use Rattle.command_steps.proofs.Numbers.{given_quiet, given_rose, rose_longer, rose_not_quiet}
use Rattle.command_steps.specs.AnyStores.{source_faults}
use Rattle.command_steps.specs.Asking.{AsksFew, EachDialed, SendsFronts, WorkersDialed}
use Rattle.command_steps.specs.Seeds.{name_at}
use Rattle.command_steps.specs.Cache.{CacheGiven, folders_with, with_cache}
use Rattle.command_steps.specs.Seeds.{label_in}
use Rattle.command_steps.specs.Sources.{Consults, Storage, location_files, storage}
use Rattle.command_steps.specs.declared.any_store.AnyStore.{AnyStore}
use Rattle.command_words.specs.declared.command.Location.{Location}
use Rattle.command_worlds.specs.Worlds.{Adds, DiskQuiet, FileRose, FolderRose, Reads, Writes}
use Rattle.dsy_base.specs.Bytes.{Held, resized}
use Rattle.dsy_base.specs.Counts.{Quiet, Rose, raised}
use Rattle.dsy_base.specs.Disk.{Disk, GivesFile, OnFile}
use Rattle.dsy_base.specs.Links.{DialState, Traffic}
use Rattle.dsy_base.specs.Maps.{Map, at_name}
use Rattle.dsy_base.specs.declared.look.Look.{Ghosts as LookWords}
use Rattle.dsy_base.specs.declared.view.View.{Ghosts as ViewWords}
use Rattle.extract_command.proofs.Asked.{kit_gets, kit_sends, kit_tries}
use Rattle.extract_command.proofs.Assembled.{ExcusesAs, assembled, facts_of, given_excuses, had_of, obtainable_of}
use Rattle.extract_command.proofs.First.{only_told}
use Rattle.extract_command.proofs.Had.{kit_had, kits_alike, kits_tell, kit_known, kit_members}
use Rattle.extract_command.proofs.LentKits.{IsKitAdded, all_given_back, given_nothing, kits_added, nothing_twice, workers_dialed}
use Rattle.extract_command.proofs.Lost.{lacks_told, others_at, store_told, target_as}
use Rattle.extract_command.proofs.Plans.{seed_index_by}
use Rattle.extract_command.proofs.Seeded.{label_of, labels_are, same_labels, zeros}
use Rattle.extract_command.proofs.Shelved.{IsTold, cache_lacking, cache_quiet, cache_rose, cached_there, name_after, name_in, one_size}
use Rattle.extract_command.proofs.Spared.{cache_gives}
use Rattle.extract_command.proofs.Tasks.{task}
use Rattle.extract_command.proofs.Unused.{none_reached}
use Rattle.extract_command.proofs.Wrote.{wrote_back, wrote_on}
use Rattle.extract_command.specs.Extract.{Assembled, CacheSpares, CanBeHad, ExtractStores, GetsWants, Into, Seeds, Undisturbed, answer_of_assembly, extract_stores, folder_of, never_fail, old_of}
use Rattle.extract_command.specs.Kits.{AreGivenBack, AreOpened, IsKitOpened}
use Rattle.extract_command.specs.declared.stores.Stores.{Stores}
use Rattle.extract_plan.specs.Deal.{Deal, IsPlan, first_of, want_id}
use Rattle.extract_plan.specs.Places.{IsSeedIndex, Placed}
use Rattle.extract_plan.specs.Seeds.{faults_in, seed_held}
use Rattle.extract_plan.specs.declared.seed.Seed.{Seed}
use Rattle.http_wire.specs.declared.reply.Method.TheVariants as method
use Rattle.http_read.specs.Asks.{Server}
use Rattle.image_workers.specs.Kits.{AreKitsAlike, IsAssembledBy, KitUsed, NoneUsed, SomeKitHas, at_kit, worker_asks}
use Rattle.image_workers.specs.Shared.{all_stores}
use Rattle.range_ledger.specs.Fills.{WhereTold}
use Rattle.range_survey.specs.Excuses.{Excuses}
use Rattle.range_survey.specs.declared.report.Report.{Report}
use Rattle.store_group.specs.Groups.{Grouped}

-- the numbers of files and folders rise over the steps
record Numbers (d b b2 m bc b3 b4 e : Disk) : Type 0 where
  to_kits : (q : List ℕ) → count_at d.file_counts q ≤ count_at b2.file_counts q
  to_closed : (q : List ℕ) → count_at d.file_counts q ≤ count_at b3.file_counts q
  to_given : (q : List ℕ) → count_at d.file_counts q ≤ count_at b4.file_counts q
  from_opened : (q : List ℕ) → count_at b.file_counts q ≤ count_at e.file_counts q
  from_kits : (q : List ℕ) → count_at m.file_counts q ≤ count_at e.file_counts q
  last : (q : List ℕ) → count_at b4.file_counts q ≤ count_at e.file_counts q
  reached : (q : List ℕ) → count_at d.folder_counts q ≤ count_at m.folder_counts q
  to_cached : (q : List ℕ) → count_at d.folder_counts q ≤ count_at bc.folder_counts q
  from_cached : (q : List ℕ) → count_at bc.folder_counts q ≤ count_at e.folder_counts q
  from_closed : (q : List ℕ) → count_at b3.folder_counts q ≤ count_at e.folder_counts q

numbers : (d c b b2 m bc b3 b4 e : Disk) → Reads d c → Reads c b → Writes b b2 → Reads b2 m → Adds m bc → Reads bc b3 → Reads b3 b4 → Writes b4 e → Numbers d b b2 m bc b3 b4 e
numbers d c b b2 m bc b3 b4 e r1 r2 w1 r3 a r4 r5 w2 = record {
  to_kits = λ q. omega (arith, r1.counts q, r2.counts q, w1.counts q);
  to_closed = λ q. omega (arith, r1.counts q, r2.counts q, w1.counts q, r3.counts q, a.counts q, r4.counts q);
  to_given = λ q. omega (arith, r1.counts q, r2.counts q, w1.counts q, r3.counts q, a.counts q, r4.counts q, r5.counts q);
  from_opened = λ q. omega (arith, w1.counts q, r3.counts q, a.counts q, r4.counts q, r5.counts q, w2.counts q);
  from_kits = λ q. omega (arith, a.counts q, r4.counts q, r5.counts q, w2.counts q);
  last = w2.counts;
  reached = λ q. omega (arith, r1.folder_counts q, r2.folder_counts q, w1.folder_counts q, r3.folder_counts q);
  to_cached = λ q. omega (arith, r1.folder_counts q, r2.folder_counts q, w1.folder_counts q, r3.folder_counts q, a.folder_counts q);
  from_cached = λ q. omega (arith, r4.folder_counts q, r5.folder_counts q, w2.folder_counts q);
  from_closed = λ q. omega (arith, r5.folder_counts q, w2.folder_counts q);
}

-- what the seeds have counted was added, also by a later disk
added_longer : {V : Type 0} (held : V → Held) (faults : V → ℕ) (b c e : Map ℕ) → ((q : List ℕ) → count_at c q ≤ count_at e q) → (xs : List (Seed V)) → All (λ s. raised (count_at b (label_in held s)) (faults_in faults s) ≤ count_at c (label_in held s)) xs
    → All (λ s. raised (count_at b (label_in held s)) (faults_in faults s) ≤ count_at e (label_in held s)) xs
added_longer held faults b c e le xs added = λ n s lt. let here = added n s lt in omega (arith, here, le (label_in held (slice_index_or xs n s)))

first_less : {X : Type 0} (x : X) (xs : List X) → 0 < length (x ∷ xs)
first_less x xs = omega arith

there : {X Y : Type 0} (xs : List X) (ys : List Y) → length ys ≡ length xs → (n : ℕ) → n < length ys → n < length xs
there xs ys many n lt = omega (arith, lt, many)

not_quiet : (d e : Disk) → DiskQuiet d e → (q : List ℕ) → FileRose d e q → ⊥
not_quiet d e quiet q rise = rose_not_quiet (count_at d.file_counts q) (count_at d.file_counts q) (count_at e.file_counts q) (omega arith) rise (quiet.files q)

-- the data and the facts of it
pub record IsRun {L V D : Type 0} (K : Type 0) (look : LookWords L) (view : ViewWords V) (state : D → DialState) (never cache_never : Bool) (d' : Disk) (e0 : Option Shelf) (k0 : DialState) (e : Disk) (k1 : DialState) (names : Stores) (images : List (List ℕ))
    (cache : Option (List ℕ)) (out : Into) (l : Listing) (places : Placed) (r : Result Report ExtractFault) : Type 0 where
  pub b0 : Disk
  pub b : Disk
  pub b2 : Disk
  pub read : Reads d' b0
  pub opened : Reads b0 b
  pub t0 : Option (List ℕ)
  pub f0 : ℕ
  pub fresh : f0 ≡ 0
  pub bytes : IfSome b.files (λ m. t0 ≡ Some (old_of m out))
  pub took : b2.files ≡ option_map (λ m. at_name m out.name None) b.files
  pub taken : OnFile b b2 out.name
  pub k : Kit (Grouped (AnyStore L D K)) V
  pub more : List (Kit (Grouped (AnyStore L D K)) V)
  pub all : AreOpened look view state (with_cache e0 d') b names images (k ∷ more)
  pub deal : Deal
  pub planned : IsPlan l (length (k ∷ more)) deal
  pub t1 : Option (List ℕ)
  pub f1 : ℕ
  pub e1 : Option Shelf
  pub j : Kit (Grouped (AnyStore L D K)) V
  pub rest : List (Kit (Grouped (AnyStore L D K)) V)
  pub told : is_some t0 ≡ is_some t1
  pub made : IsAssembledBy (group_words look state) view (task l deal places) never cache_never t0 t1 (lent f0 (k ∷ more) e0) (lent f1 (j ∷ rest) e1) r
  pub first : Storage
  pub kits : AreGivenBack look view state rest (storage b2 k0) first
  pub bc : Disk
  pub b3 : Disk
  pub b4 : Disk
  pub shelf : CacheGiven e1 first.disk bc
  pub stores : Consults (storage bc first.dial) (storage b3 k1)
  pub given : All (IsGroupGiven look.place look.faults state (storage bc first.dial) (storage b3 k1)) j.chain.stores
  pub ended : k1.ended ≡ fold (with_group state) first.dial.ended j.chain.stores
  pub seeds : Reads b3 b4
  pub added : All (λ s. raised (count_at b3.file_counts (label_in view.held s)) (faults_in view.faults s) ≤ count_at b4.file_counts (label_in view.held s)) j.seeds.items
  pub put : GivesFile b4 e out.name f1
  pub put_files : e.files ≡ option_map (λ m. at_name m out.name t1) b4.files
  pub named : name_in e0 ≡ cache
  pub sound : cache_faults e0 ≡ 0
  pub shelf_told : IsTold e0 d'.folders
  pub tells : (m : Map (List ℕ)) → d'.files ≡ Some m → IsTrue view.tells

module _ {L V D K : Type 0} (look : LookWords L) (view : ViewWords V) (state : D → DialState) (never cache_never : Bool) (d' : Disk) (e0 : Option Shelf) (k0 : DialState) (e : Disk) (k1 : DialState) (names : Stores) (images : List (List ℕ))
    (cache : Option (List ℕ)) (out : Into) (l : Listing) (places : Placed) (r : Result Report ExtractFault) (x : IsRun K look view state never cache_never d' e0 k0 e k1 names images cache out l places r) where
  abbrev d : Disk
  d = with_cache e0 d'

  abbrev w : Storage
  w = storage d k0

  abbrev v : Storage
  v = storage e k1

  abbrev sure : Bool
  sure = look.never_fails

  abbrev sources : ExtractStores
  sources = extract_stores sure names

  abbrev words : StoreWords (Grouped (AnyStore L D K))
  words = group_words look state

  abbrev t : Task
  t = task l x.deal places

  abbrev before : Lent (Grouped (AnyStore L D K)) V
  before = lent x.f0 (x.k ∷ x.more) e0

  abbrev after : Lent (Grouped (AnyStore L D K)) V
  after = lent x.f1 (x.j ∷ x.rest) x.e1

  abbrev W2 : Storage
  W2 = storage x.b2 k0

  kits_back : Consults W2 x.first
  kits_back = all_given_back look view state x.rest W2 x.first x.kits

  gave : Adds x.first.disk x.bc
  gave = given_adds x.e1 x.first.disk x.bc x.shelf

  put_back : Writes x.b4 e
  put_back = wrote_back x.b4 e out.name x.f1 x.put

  taken_back : Writes x.b x.b2
  taken_back = wrote_on x.b x.b2 out.name x.taken

  n : Numbers d' x.b x.b2 x.first.disk x.bc x.b3 x.b4 e
  n = numbers d' x.b0 x.b x.b2 x.first.disk x.bc x.b3 x.b4 e x.read x.opened taken_back kits_back.disk gave x.stores.disk x.seeds put_back

  shelf_now : e.folders ≡ folders_with x.e1 d'.folders
  shelf_now = put_back.folders ∙ x.seeds.folders ∙ x.stores.disk.folders ∙ given_folders x.e1 x.first.disk x.bc x.shelf ∙ ap (folders_with x.e1) (kits_back.disk.folders ∙ taken_back.folders ∙ x.opened.folders ∙ x.read.folders)

  left : e.files ≡ option_map (λ m. at_name m out.name x.t1) (option_map (λ m. at_name m out.name None) d'.files)
  left = x.put_files ∙ ap (option_map (λ m. at_name m out.name x.t1)) (x.seeds.files ∙ x.stores.disk.files ∙ gave.files ∙ kits_back.disk.files ∙ x.took ∙ ap (option_map (λ m. at_name m out.name None)) (x.opened.files ∙ x.read.files))

  took_bytes : IfSome d'.files (λ m. x.t0 ≡ Some (old_of m out))
  took_bytes = subst (λ f. IfSome f (λ m. x.t0 ≡ Some (old_of m out))) (x.opened.files ∙ x.read.files) x.bytes

  rose : Rose x.f0 x.f1 → FileRose d e out.name
  rose y = given_rose (count_at d'.file_counts out.name) (count_at x.b4.file_counts out.name) (count_at e.file_counts out.name) x.f1 (n.to_given out.name) x.put.counts.added (subst (λ (m : ℕ). Rose m x.f1) x.fresh y)

  excused : ExcusesAs x.f0 x.f1 (count_at d'.file_counts out.name) (count_at e.file_counts out.name)
  excused xs y = given_excuses xs (count_at d'.file_counts out.name) (count_at x.b4.file_counts out.name) (count_at e.file_counts out.name) x.f1 (n.to_given out.name) x.put.counts.added (subst (λ (m : ℕ). Excuses xs m x.f1) x.fresh y)

  later : (q : List ℕ) → FileRose d x.b q → FileRose d e q
  later q = rose_longer (count_at d'.file_counts q) (count_at x.b.file_counts q) (count_at e.file_counts q) (n.from_opened q)

  quiet_opened : DiskQuiet d e → (q : List ℕ) → FileRose d x.b q → ⊥
  quiet_opened quiet q rise = not_quiet d e quiet q (later q rise)

  name_now : name_in x.e1 ≡ cache
  name_now = name_after _ e0 x.e1 cache x.made.stocked x.named

  shelf_rose : IfSome x.e1 (λ s. Rose (cache_faults e0) s.faults → FolderRose d e s.place)
  shelf_rose = cache_rose d e x.first.disk x.bc n.reached n.from_cached (cache_faults e0) x.e1 x.sound x.shelf

  there_before : IfSome d.folders (λ m. (cs : List (Map (List ℕ))) × (map m (folder_of cache) ≡ map Some cs) × (cached_in e0 ≡ Some (map chunks cs)))
  there_before = cached_there e0 cache x.named d'.folders x.shelf_told

  seeds_added : All (λ s. raised (count_at x.b3.file_counts (label_in view.held s)) (faults_in view.faults s) ≤ count_at e.file_counts (label_in view.held s)) x.j.seeds.items
  seeds_added = added_longer view.held view.faults x.b3.file_counts x.b4.file_counts e.file_counts n.last x.j.seeds.items x.added

  -- ---- how often servers were asked

  added_all : All (IsKitAdded look view state d e) (x.j ∷ x.rest)
  added_all = All-cons (IsKitAdded look view state d e) x.j x.rest (record { counts = x.b3.file_counts; le = n.to_closed; added = seeds_added })
      (kits_added look view state d e x.rest W2 x.first n.to_kits n.from_kits x.kits)

  each_there : (i : ℕ) → i < length (x.j ∷ x.rest) → i < length (x.k ∷ x.more)
  each_there = there (x.k ∷ x.more) (x.j ∷ x.rest) x.made.kits

  all_many : 1 + length x.rest ≡ length (x.k ∷ x.more)
  all_many = let many : length (x.j ∷ x.rest) ≡ length (x.k ∷ x.more) = x.made.kits in omega (arith, many)

  abbrev Asked : (ℕ → Server → List Traffic → Type 0) → Type 0
  Asked P = (i : ℕ) (q : Kit (Grouped (AnyStore L D K)) V) → i < length (x.j ∷ x.rest) → (a c : Option (List Traffic)) → c ≡ fold (with_group state) a (slice_index_or (x.j ∷ x.rest) i q).chain.stores → EachDialed (P i) (stores_of names.groups) a c

  all_dialed : (P : ℕ → Server → List Traffic → Type 0) → Asked P → WorkersDialed P (length (x.k ∷ x.more)) (stores_of names.groups) k0.ended k1.ended
  all_dialed P asked = subst (λ (m : ℕ). WorkersDialed P m (stores_of names.groups) k0.ended k1.ended) all_many
      (workers_dialed look view state P (stores_of names.groups) 1 x.rest W2 x.first k1.ended x.kits (λ i q lt a c is.
      let next : suc i ≡ 1 + i = omega arith in subst (λ (m : ℕ). EachDialed (P m) (stores_of names.groups) a c) next (asked (suc i) q (omega (arith, lt)) a c is))
      (k1.ended, asked 0 x.j (first_less x.j x.rest) x.first.dial.ended k1.ended x.ended, refl))

  module _ (p : Deal) (ls : List Listing) (plan : IsPlan l 1 p) (is : IsSeedIndex l p ls places) where
    abbrev z : Seeds
    z = record { images = images; listings = ls }

    is_here : IsSeedIndex l x.deal ls places
    is_here = seed_index_by l (length (x.k ∷ x.more)) p x.deal plan x.planned ls places is

    gives : (w : ℕ) → IsSomeAnd cache (λ c. CacheSpares d e c l (want_id l x.deal w) (size_of l (first_of x.deal w))) → CacheGives words l (all_stores (x.k ∷ x.more)) (want_id l x.deal w) (size_of l (first_of x.deal w)) e0 x.e1
    gives w = cache_gives words (all_stores (x.k ∷ x.more)) d e l (want_id l x.deal w) (size_of l (first_of x.deal w)) e0 x.e1 cache name_now there_before shelf_rose

    pub run_asks : GetsWants (never_fail never cache_never) w v sources cache out l z
    run_asks = record {
      workers = length (x.k ∷ x.more);
      plan = x.deal;
      planned = x.planned;
      gets = λ spared are. all_dialed (λ i. AsksFew method.Get (with_retries names.retries (worker_asks l x.deal spared i))) (λ i q lt.
          kit_gets look view state t d x.b e names never cache_never x.t0 i x.k q before after z (x.all i x.k (each_there i lt)) (x.made.each i x.k q (each_there i lt)) (added_all i q lt) (length (x.k ∷ x.more)) x.planned out is_here later took_bytes rose cache gives spared are);
      sends = all_dialed (λ i. SendsFronts (IsListedGet l)) (λ i q lt. kit_sends look view state t d x.b e names never cache_never x.t0 i x.k q before after images (x.all i x.k (each_there i lt)) (x.made.each i x.k q (each_there i lt)));
    }

    -- ---- what was assembled

    abbrev from : origins.Sources (Grouped (AnyStore L D K)) V
    from = at_kit before 0 x.k

    abbrev to : origins.Sources (Grouped (AnyStore L D K)) V
    to = at_kit after 0 x.j

    abbrev was : List (Grouped (AnyStore L D K))
    was = x.k.chain.stores

    abbrev now : List (Grouped (AnyStore L D K))
    now = x.j.chain.stores

    abbrev views : List (Option Held)
    views = map (seed_held view.held) x.k.seeds.items

    abbrev labels : List (List ℕ)
    labels = map label_of views

    abbrev location : Grouped (AnyStore L D K) → List Location
    location = locations_in look.place

    abbrev files : Grouped (AnyStore L D K) → Option (Map (List ℕ))
    files = told_files sure look.files

    one : IsKitOpened look view state d x.b names images x.k
    one = x.all 0 x.k (first_less x.k x.more)

    used : KitUsed words view t never cache_never x.t0 before 0 from to r
    used = x.made.each 0 x.k x.j (first_less x.k x.more)

    fresh_seeds : map (faults_in view.faults) x.k.seeds.items ≡ map {B = ℕ} (λ q. 0) labels
    fresh_seeds = one.unfailed ∙ sym (zeros view.held x.k.seeds.items)

    labelled : map (label_in view.held) x.j.seeds.items ≡ labels
    labelled = same_labels view.held x.k.seeds.items x.j.seeds.items used.seeds.held ∙ labels_are view.held x.k.seeds.items

    rises : (i : ℕ) → Rose (slice_index (map (faults_in view.faults) x.k.seeds.items) i) (slice_index (map (faults_in view.faults) x.j.seeds.items) i) → FileRose d e (name_at labels i)
    rises = store_rose (faults_in view.faults) (label_in view.held) d'.file_counts x.b3.file_counts e.file_counts n.to_closed x.k.seeds.items x.j.seeds.items labels fresh_seeds labelled seeds_added

    given_stores : All (IsGroupGiven look.place look.faults state w v) now
    given_stores i g lt = group_given_longer look.place look.faults state w (storage x.b3 k1) v n.from_closed (dials_twice k0 x.first.dial k1 kits_back.dial x.stores.dial) (dials_none k1) (slice_index_or now i g)
        (group_given_earlier look.place look.faults state w (storage x.bc x.first.dial) (storage x.b3 k1) n.to_cached kits_back.dial x.stores.dial (slice_index_or now i g) (x.given i g lt))

    located : (ys : List (Grouped (AnyStore L D K))) → map words.place ys ≡ map words.place was → map location ys ≡ names.groups
    located ys placed = groups_stand_still look.place was ys placed ∙ one.located

    now_at : map location now ≡ names.groups
    now_at = located now used.stores.places

    tries : All (λ g. g.retries ≡ names.retries) now
    tries = kit_tries look view state t d x.b e names never cache_never x.t0 0 x.k x.j before after images one used

    found_now : IfSome d.folders (λ m. map (files_in look.files) now ≡ map (map (location_files m)) names.groups)
    found_now = found_after look.files d.folders was now names.groups used.stores.folders one.found

    stand : All (GroupStands location words.said words.faults names.retries w v) now
    stand = all_groups_stand sure look.files look.place look.faults state names.retries w v now names.groups now_at found_now tries given_stores

    -- what the groups tell
    told : IfSome d.folders (λ m. map files was ≡ map (group_files sure m) names.groups)
    told = groups_tell sure look.files d.folders was names.groups (fresh_first (source_faults look.faults state) names.retries was one.fresh) one.found

    told_at : (m : Map (Map (List ℕ))) → d.folders ≡ Some m → map files was ≡ map (group_files sure m) names.groups
    told_at m at = subst (λ o. IfSome o (λ m. map files was ≡ map (group_files sure m) names.groups)) at told

    many : length was ≡ length names.groups
    many = sym (length-map was location) ∙ ap length one.located

    none_failed : map (λ g. g.failed) was ≡ map (λ q. 0) names.groups
    none_failed = fresh_counts (source_faults look.faults state) names.retries was names.groups many one.fresh

    rest_nothing : x.rest ≡ x.more → All (λ q. (a c : Option (List Traffic)) → c ≡ fold (with_group state) a q.chain.stores → EachDialed (λ s ended. ended ≡ []) (stores_of names.groups) a c) x.rest
    rest_nothing same = subst (λ (qs : List (Kit (Grouped (AnyStore L D K)) V)). All (λ q. (a c : Option (List Traffic)) → c ≡ fold (with_group state) a q.chain.stores → EachDialed (λ s ended. ended ≡ []) (stores_of names.groups) a c) qs) (sym same)
        (λ i q lt a c is. let here = x.all (suc i) q (omega (arith, lt)) in none_reached look.place state (slice_index_or x.more i q).chain.stores (slice_index_or x.more i q).chain.stores names.groups a c here.unused refl here.located is)

    unreached : (x.j ∷ x.rest ≡ x.k ∷ x.more) → EachDialed (λ s ended. ended ≡ []) (stores_of names.groups) k0.ended k1.ended
    unreached same =
        let heads : now ≡ was = ap (λ (qs : List (Kit (Grouped (AnyStore L D K)) V)). (slice_index_or qs 0 x.k).chain.stores) same in
        let tails : x.rest ≡ x.more = ap (drop 1) same in
        nothing_twice (stores_of names.groups) k0.ended x.first.dial.ended k1.ended (given_nothing look view state (stores_of names.groups) x.rest W2 x.first (rest_nothing tails) x.kits)
        (none_reached look.place state was now names.groups x.first.dial.ended k1.ended one.unused heads now_at x.ended)

    -- what is told, and what is quiet
    abbrev IsShown : List (Map (List ℕ)) → List (Map (List ℕ)) → Type 0
    IsShown cached maps = (m : Map (Map (List ℕ))) × (d.folders ≡ Some m) × (fs : List (Map (List ℕ))) × (maps_of (member_files sure m) names.groups ≡ Some fs) × (maps ≡ map chunks fs) × IsTrue view.tells × (cached_in e0 ≡ Some cached)

    abbrev IsStill : List (Map (List ℕ)) → List (Map (List ℕ)) → Type 0
    IsStill cached maps = AreKitsAlike words view t (x.k ∷ x.more) × SourcesQuiet words view (kind_of l) (IsListedAs l) from to cached maps × HaveOneSize l e0 cached maps

    only : (m : Map (List ℕ)) → d'.files ≡ Some m → (cached maps : List (Map (List ℕ))) → IsShown cached maps
        → WhereTold x.t0 x.t1 (λ o y. OnlyObtainable l (CanBeHad l (resized o (image_length l)) m z (cached ++ maps)) x.f0 x.f1 r o y)
    only m told cached maps (ns, at, fs, at_fs, are, tells, shelved) = only_told l (SomeKitHas words view t (x.k ∷ x.more) cached) (λ y i. CanBeHad l (resized y (image_length l)) m z (cached ++ maps) i) x.f0 x.f1 r x.t0 x.t1
        (λ y i lt has. subst (λ (q : List (Map (List ℕ))). CanBeHad l (resized y (image_length l)) m z (cached ++ q) i) (sym are) (kit_had look view state d x.b names z ns at fs at_fs m told t (x.k ∷ x.more) x.all is_here cached y i lt has))
        (x.made.had (kits_tell look view state d x.b names z ns at fs at_fs t (x.k ∷ x.more) x.all tells) cached shelved)

    each_inside : All (λ g. g.active < length g.stores) now
    each_inside i g lt = (x.given i g lt).active

    quiet : (m : Map (List ℕ)) → d'.files ≡ Some m → (ns : Map (Map (List ℕ))) → d.folders ≡ Some ns → (fs : List (Map (List ℕ))) → maps_of (member_files sure ns) names.groups ≡ Some fs → (cs : List (Map (List ℕ)))
        → cached_in e0 ≡ Some (map chunks cs) → Undisturbed d e ns sources cache l cs fs → IsStill (map chunks cs) (map chunks fs)
    quiet m told ns at fs at_fs cs shelved still = (
      kits_alike look view state d x.b names z ns at fs at_fs m told t (quiet_opened still.quiet) (x.k ∷ x.more) x.all,
      record {
        target = subst (λ (q : ℕ). Quiet q x.f1) (sym x.fresh) (given_quiet (count_at d'.file_counts out.name) (count_at x.b4.file_counts out.name) (count_at e.file_counts out.name) x.f1 (n.to_given out.name) x.put.counts.added (still.quiet.files out.name));
        telling = λ some. x.tells m told;
        seeds = each_quiet (faults_in view.faults) (label_in view.held) d'.file_counts x.b3.file_counts e.file_counts n.to_closed x.k.seeds.items x.j.seeds.items labels fresh_seeds seeds_added still.quiet.files;
        told_cache = shelved;
        cache = cache_quiet d e x.first.disk x.bc n.reached n.from_cached (cache_faults e0) x.e1 x.sound x.shelf still.quiet;
        told = kit_members look view state d x.b names z ns at fs at_fs x.k one;
        agree = λ id size listed. subst (GroupsAgree (λ m. GivesChunk (kind_of l) id size (m id))) (sym (kit_known look view state d x.b names z ns at fs at_fs x.k one))
            (chunks_agree (λ m. GivesChunk (kind_of l) id size (m id)) sure ns names.groups (still.agree id size listed));
        stores = folders_quiet sure look.files look.place look.faults state w v names.groups was now none_failed
            (members_all_begin sure look.files look.place look.faults state w v (map chunks fs) now (ap told_together used.stores.members ∙ kit_members look view state d x.b names z ns at fs at_fs x.k one) each_inside)
            given_stores still.quiet.folders;
      },
      one_size e0 cache l (map chunks cs) (map chunks fs) x.named still.one_size,
    )

    pub run_assembled : Assembled w v sources cache out l z (answer_of_stores names.groups (answer_of_assembly r))
    run_assembled = assembled w v sources cache out l z r
        (facts_of w v sources cache out l z (λ maps base. IsObtainable t base views maps)
        (λ m told maps base i lt. had_of d x.b t z views one.viewed is_here m told base maps i lt)
        (λ m told still maps base i lt. obtainable_of d x.b t z views one.viewed is_here m told base maps i lt (quiet_opened still))
        r (λ cs. cached_in e0 ≡ Some (map chunks cs)) x.t0 x.t1 (NoneUsed before after) x.f0 x.f1 IsShown IsStill there_before took_bytes x.told left excused
        (λ none. (unreached none.0, shelf_now ∙ ap (λ s. folders_with s d'.folders) none.1)) x.made.bytes
        (λ m is_told ns y. lacks_told words location view t w v sources cache out z x.t0 from to used.stores located stand ns
        (λ fs at. groups_hold sure look.files was fs (told_at ns y ∙ at)) rose m
        (others_at words location view t w v sources cache out z x.t0 from to x.b m is_told one.viewed is_here later rises (cache_lacking d e e0 x.e1 cache l d'.folders name_now shelf_now shelf_rose)) (Rose x.f0 x.f1) r (x.made.lost x.k x.j))
        only (λ cached maps q. x.made.exactly q.0 x.k x.j cached maps q.1 q.2) (λ cached maps q. x.made.after q.0 x.k x.j cached maps q.1 q.2)
        (λ m told ns at fs at_fs cs shelved. (ns, at, fs, at_fs, refl, x.tells m told, shelved)) quiet)
        (target_as _ (Rose x.f0 x.f1) (FileRose d e out.name) rose r (x.made.lost x.k x.j))
        (store_told words location view t w v sources cache out z x.t0 from to used.stores located stand (Rose x.f0 x.f1) r (x.made.lost x.k x.j))
