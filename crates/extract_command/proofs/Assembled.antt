-- What an assembly over taken files and folders makes of the answer.
use Rattle.std.proofs.Common.{ap, arith, slice_index, slice_index_or, ◌⊎◌, true, is_some, unwrap_or, ◌≡◌, ℕ, ◌+◌, ◌<◌, ◌≤◌, ◌-◌, List, ◌++◌, append-nil, length, map, replicate, take, Option, Some, None, IfSome, IfErr, refl, subst, ◌∙◌, sym, inl, inr, [], length-append, Result, Ok, Err}
use Rattle.assembler.specs.Assemblies.{After, Assembles, IsObtainable, KeepsBase, KeepsTorn, RightAlike, Verdict}
use Rattle.assembler.specs.Obtainable.{IsObtainableOrBase, OnlyObtainable}
use Rattle.assembler.specs.Passes.{want_at}
use Rattle.assembler.specs.declared.fault.ExtractFault.{ExtractFault}
use Rattle.assembler.specs.declared.fault.ExtractFault.TheVariants as faults
use Rattle.chunk_store.specs.Members.{maps_of}
use Rattle.range_survey.specs.declared.report.Report.{Report}
use Rattle.caibx_codec.specs.Listing.{Listing, count_of, id_of, image_length, kind_of, size_of, slice_of}
use Rattle.chunk_sources.specs.Losses.{chunk_of}
use Rattle.chunk_sources.specs.Wants.{Task}
use Rattle.chunk_store.specs.Folders.{chunks}
use Rattle.chunk_store.specs.declared.id.ChunkId.{ChunkId}
use Rattle.dsy_base.specs.Bytes.{Held, resized}
use Rattle.dsy_base.specs.Counts.{raised}
use Rattle.dsy_base.specs.Disk.{Disk}
use Rattle.dsy_base.specs.Maps.{Map, at_name}
use Rattle.dsy_base.specs.declared.fault.IoFault.{IoFault}
use Rattle.dsy_base.specs.declared.fault.IoFault.TheVariants as io
use Rattle.extract_plan.specs.Places.{IsSeedIndex, places_at}
use Rattle.extract_plan.specs.declared.seed.SeedPlace.{SeedPlace}
use Rattle.std.proofs.lemmas.List.{length-replicate, length-take, take_all}
use Rattle.std.proofs.lemmas.Bool.{cases_lt}
use Rattle.std.specs.List.{AllZip}
use Rattle.range_ledger.specs.Fills.{WhereTold}
use Rattle.range_survey.specs.Excuses.{Excuses}
use Rattle.std.specs.Map.{count_at}
use Rattle.std.specs.Option.{option_map}
use Rattle.store_chain.specs.Giving.{LacksAll}
use Rattle.store_chain.specs.declared.query.Query.{Query}
use Rattle.store_chain.specs.declared.refused.Refused.{Refused}
use Rattle.store_chain.specs.declared.refused.Refused.TheVariants as refused
use Rattle.extract_command.proofs.Seeded.{given_had, had_given}
use Rattle.command_groups.proofs.Lacked.{have_lacked_in, lacks_numbered}
use Rattle.command_groups.specs.Groups.{first_store, member_files}
use Rattle.command_groups.specs.Lacking.{GroupsLack}
use Rattle.command_groups.specs.Numbers.{answer_of_stores, refused_of_stores}
use Rattle.command_steps.proofs.Taken.{at_name_twice}
use Rattle.command_steps.specs.Sources.{Storage}
use Rattle.extract_command.specs.Extract.{Assembled, CacheLacksEntry, CanBeHad, ExtractStores, Into, IsLacking, IsTorn, Leaves, NoneAsked, NoneReached, OnlyHad, SeedHas, Seeds, StopsFailed, StopsSomewhere, Told, Undisturbed, WhereFolders, WhereMembers, answer_of_assembly, answer_of_taking, base_of, folder_of, old_of}
use Rattle.command_steps.specs.Seeds.{IsViewed}
use Rattle.command_worlds.specs.Worlds.{DiskQuiet, FileRose}

over_told : {X Y Z : Type 0} (x : Option X) (y : Option Y) (z : Option Z) (P : X → Y → Z → Type 0) → ((a : X) (b : Y) (c : Z) → x ≡ Some a → y ≡ Some b → z ≡ Some c → P a b c) → IfSome x (λ a. IfSome y (λ b. IfSome z (λ c. P a b c)))
over_told None y z P f = tt
over_told (Some a) None z P f = tt
over_told (Some a) (Some b) None P f = tt
over_told (Some a) (Some b) (Some c) P f = f a b c refl refl refl

-- ---- what can be obtained

module _ (d b : Disk) (t : Task) (x : Seeds) (views : List (Option Held)) (zip : AllZip (IsViewed d b) x.images views) (is : IsSeedIndex t.listing t.plan x.listings t.places)
    (m : Map (List ℕ)) (told : d.files ≡ Some m) (base : List ℕ) (maps : List (Map (List ℕ))) (i : ℕ) (listed : i < count_of t.listing) where
  abbrev chunk_places : List SeedPlace
  chunk_places = places_at t.places (want_at t.plan i)

  pub had_of : IsObtainable t base views maps i → CanBeHad t.listing base m x maps i
  had_of (inl right) = inl right
  had_of (inr (inl seed)) = inr (inl (given_had d b m told x views zip (kind_of t.listing) (id_of t.listing i) (size_of t.listing i) chunk_places (is.places i listed) seed))
  had_of (inr (inr store)) = inr (inr store)

  pub obtainable_of : ((n : List ℕ) → FileRose d b n → ⊥) → CanBeHad t.listing base m x maps i → IsObtainable t base views maps i
  obtainable_of none (inl right) = inl right
  obtainable_of none (inr (inl seed)) = inr (inl (had_given d b m told x views zip (kind_of t.listing) (id_of t.listing i) (size_of t.listing i) chunk_places (is.places i listed) none seed.0 seed.1))
  obtainable_of none (inr (inr store)) = inr (inr store)

-- ---- the same over other facts

-- the lost entry where one is named
abbrev pub LostAs : (ℕ → ChunkId → Refused → Type 0) → ExtractFault → Type 0
LostAs P (faults.Missing k id) = P k id refused.Missing
LostAs P (faults.Damaged k id s x) = P k id (refused.Damaged s x)
LostAs P (faults.StoreFault s) = (k : ℕ) × (id : ChunkId) × P k id (refused.StoreFault s)
LostAs P other = Unit {0}

or_as : {A P Q : Type 0} → (P → Q) → A ⊎ P → A ⊎ Q
or_as f (inl a) = inl a
or_as f (inr p) = inr (f p)

-- what is excused over one count is excused over the other
abbrev pub ExcusesAs : ℕ → ℕ → ℕ → ℕ → Type 0
ExcusesAs a b c d = (xs : List ℕ) → Excuses xs a b → Excuses xs c d

-- what is excused over the faults of what was given back is excused over the number of its name
pub given_excuses : (xs : List ℕ) (a b c n : ℕ) → a ≤ b → c ≡ raised b n → Excuses xs 0 n → Excuses xs a c
given_excuses xs a b c n le is (inl few) = elim (cases_lt (length xs + a) (c + 1)) [
  | inl below ↦ inl (omega arith)
  | inr at_least ↦ inr (omega arith)
]
given_excuses xs a b c n le is (inr full) = inr (omega arith)

keeps_as : (l : Listing) (a b c d : ℕ) (base t : List ℕ) → ExcusesAs a b c d → KeepsBase l a b base t → KeepsBase l c d base t
keeps_as l a b c d base t f h = record { failed = h.failed; excused = f h.failed h.excused; size = h.size; each = h.each; kept = h.kept }

torn_as : (l : Listing) (a b c d : ℕ) (base t : List ℕ) → ExcusesAs a b c d → KeepsTorn l a b base t → KeepsTorn l c d base t
unfolding keeps_as
torn_as l a b c d base t f h = record {
  keeps = keeps_as l a b c d base t f h.keeps;
  entry = h.entry;
  listed = h.listed;
  wrong = h.wrong;
  before = h.before;
  torn = h.torn;
  inside = h.inside;
  alike = h.alike;
  is_torn = h.is_torn;
}

assembles_as : (l : Listing) (U W : Type 0) (a b c d : ℕ) (r : Result Report ExtractFault) (o t : List ℕ) → (U → W) → ExcusesAs a b c d → Assembles l U a b r o t → Assembles l W c d r o t
assembles_as l U W a b c d (Ok r) o t g f h = (h.0, keeps_as l a b c d (resized o (image_length l)) t f h.1)
assembles_as l U W a b c d (Err (faults.Missing k id)) o t g f h = (keeps_as l a b c d (resized o (image_length l)) t f h.0, h.1)
assembles_as l U W a b c d (Err (faults.Damaged k id s x)) o t g f h = (keeps_as l a b c d (resized o (image_length l)) t f h.0, h.1)
assembles_as l U W a b c d (Err (faults.StoreFault s)) o t g f h = keeps_as l a b c d (resized o (image_length l)) t f h
assembles_as l U W a b c d (Err faults.TargetFault) o t g f (inl h) = inl (g h.0, h.1)
assembles_as l U W a b c d (Err faults.TargetFault) o t g f (inr h) = inr (torn_as l a b c d (resized o (image_length l)) t f h)
assembles_as l U W a b c d (Err faults.Memory) o t g f h = or_as (keeps_as l a b c d (resized o (image_length l)) t f) h

verdict_as : (l : Listing) (P Q : ℕ → Type 0) → ((i : ℕ) → i < count_of l → P i → Q i) → ((i : ℕ) → i < count_of l → Q i → P i) → (r : Result Report ExtractFault) → IfErr r (LostAs (λ k id y. k < count_of l)) → Verdict l P r → Verdict l Q r
verdict_as l P Q to from (Ok r) lt h = λ i less. to i less (h i less)
verdict_as l P Q to from (Err (faults.Missing k id)) lt h = (λ i less. to i (omega (arith, less, lt)) (h.0 i less), λ q. h.1 (from k lt q))
verdict_as l P Q to from (Err (faults.Damaged k id s x)) lt h = (λ i less. to i (omega (arith, less, lt)) (h.0 i less), λ q. h.1 (from k lt q))
verdict_as l P Q to from (Err (faults.StoreFault s)) lt h = h
verdict_as l P Q to from (Err faults.TargetFault) lt h = h
verdict_as l P Q to from (Err faults.Memory) lt h = tt

after_as : (l : Listing) (P Q : ℕ → Type 0) (base t : List ℕ) → ((i : ℕ) → i < count_of l → P i → Q i) → ((i : ℕ) → i < count_of l → Q i → P i) → (r : Result Report ExtractFault) → After l P base t r → After l Q base t r
after_as l P Q base t to from (Ok r) h = λ i lt. (λ q. (h i lt).0 (from i lt q), λ no. (h i lt).1 (λ p. no (to i lt p)))
after_as l P Q base t to from (Err (faults.Missing k id)) h = λ i lt. (λ q. (h i lt).0 (from i lt q), λ no. (h i lt).1 (λ p. no (to i lt p)))
after_as l P Q base t to from (Err (faults.Damaged k id s x)) h = λ i lt. (λ q. (h i lt).0 (from i lt q), λ no. (h i lt).1 (λ p. no (to i lt p)))
after_as l P Q base t to from (Err (faults.StoreFault s)) h = λ i lt. (λ q. (h i lt).0 (from i lt q), λ no. (h i lt).1 (λ p. no (to i lt p)))
after_as l P Q base t to from (Err faults.TargetFault) h = λ i lt. (λ q. (h i lt).0 (from i lt q), λ no. (h i lt).1 (λ p. no (to i lt p)))
after_as l P Q base t to from (Err faults.Memory) h = tt

-- what is made right can be obtained
pub only_as : (l : Listing) (P Q : ℕ → Type 0) (a b c d : ℕ) → ((i : ℕ) → i < count_of l → P i → Q i) → ExcusesAs a b c d → (r : Result Report ExtractFault) (o t : List ℕ)
    → OnlyObtainable l P a b r o t → OnlyObtainable l Q c d r o t
only_as l P Q a b c d to f (Ok r) o t h = λ i lt. to i lt (h i lt)
only_as l P Q a b c d to f (Err e) o t (inl same) = inl same
only_as l P Q a b c d to f (Err e) o t (inr some) = inr (record {
  failed = some.failed;
  excused = f some.failed some.excused;
  each = λ i lt. elim (some.each i lt) [
    | inl has ↦ inl (to i lt has)
    | inr kept ↦ inr kept
  ];
})

length_resized : (o : List ℕ) (n : ℕ) → length (resized o n) ≡ n
length_resized o n = rw (length-append, length-take, length-replicate) (omega arith)

-- bytes of that length are their own base
resized_same : (o : List ℕ) (n : ℕ) → length o ≡ n → resized o n ≡ o
resized_same o n size =
    let none : n - length o ≡ 0 = omega (arith, size) in
    let all : take n o ≡ o = take_all n o (omega (arith, size)) in
    ap (λ k. take n o ++ replicate k 0) none ∙ append-nil (take n o) ∙ all

-- fewer entries are excused too
none_excused : (xs : List ℕ) (old new : ℕ) → Excuses xs old new → Excuses [] old new
none_excused xs old new (inl few) = inl (omega (arith, few))
none_excused xs old new (inr full) = inr full

-- where the base is kept its length is that of the image
only_base : (l : Listing) (P : ℕ → Type 0) (old new : ℕ) (e : ExtractFault) (o t : List ℕ) → KeepsBase l old new (resized o (image_length l)) t → OnlyObtainable l P old new (Err e) o t
    → IsObtainableOrBase l P old new (resized o (image_length l)) t
only_base l P old new e o t keeps (inl same) =
    let long : length o ≡ image_length l = ap (λ (y : List ℕ). length y) (sym same) ∙ keeps.size in
    record {
      failed = [];
      excused = none_excused keeps.failed old new keeps.excused;
      each = λ i lt. inr (inl (ap (λ (y : List ℕ). slice_of l y i) (same ∙ sym (resized_same o (image_length l) long))));
    }
only_base l P old new e o t keeps (inr some) = some

-- where another fact holds of it
lost_on : (P R : ℕ → ChunkId → Refused → Type 0) → ((k : ℕ) (id : ChunkId) (y : Refused) → P k id y → R k id y) → (r : Result Report ExtractFault) → IfErr r (LostAs P) → IfErr r (LostAs R)
lost_on P R f (Ok r) p = tt
lost_on P R f (Err (faults.Missing k id)) p = f k id refused.Missing p
lost_on P R f (Err (faults.Damaged k id s x)) p = f k id (refused.Damaged s x) p
lost_on P R f (Err (faults.StoreFault s)) p = (p.0, p.1, f p.0 p.1 (refused.StoreFault s) p.2)
lost_on P R f (Err faults.TargetFault) p = tt
lost_on P R f (Err faults.Memory) p = tt

-- ---- what is known of an assembly that ended so

-- the store where one is named
abbrev pub StoreAs : (ℕ → Type 0) → ExtractFault → Type 0
StoreAs P (faults.StoreFault s) = P s
StoreAs P other = Unit {0}

-- that the target failed, where it is named
abbrev pub TargetAs : Type 0 → ExtractFault → Type 0
TargetAs P faults.TargetFault = P
TargetAs P other = Unit {0}

module _ (w v : Storage) (stores : ExtractStores) (cache : Option (List ℕ)) (out : Into) (l : Listing) (x : Seeds) where
  abbrev d : Disk
  d = w.disk

  abbrev e : Disk
  e = v.disk

  -- the numbers of the file's name
  abbrev before_it : ℕ
  before_it = count_at d.file_counts out.name

  abbrev after_it : ℕ
  after_it = count_at e.file_counts out.name

  somewhere : (b a : Map (List ℕ)) (P : List ℕ → Type 0) (t : List ℕ) → Leaves b a out t → (KeepsBase l before_it after_it (base_of b out l) t → P t)
      → (t ≡ old_of b out) ⊎ KeepsBase l before_it after_it (base_of b out l) t → StopsSomewhere w v b a out l P
  somewhere b a P t leaves only (inl same) = inr (inl (subst (λ (s : List ℕ). Leaves b a out s) same leaves))
  somewhere b a P t leaves only (inr keeps) = inr (inr (t, (leaves, keeps), only keeps))

  -- the base is kept where nothing was written
  base_kept : (b : Map (List ℕ)) (t : List ℕ) → FileRose d e out.name → t ≡ base_of b out l → KeepsBase l before_it after_it (base_of b out l) t
  base_kept b t rose same = record {
    failed = [];
    excused = elim rose [ inl more ↦ inl (omega (arith, more)) | inr full ↦ inr full ];
    size = ap (λ (y : List ℕ). length y) same ∙ length_resized (old_of b out) (image_length l);
    each = λ i lt. inr (inl (ap (λ (y : List ℕ). slice_of l y i) same));
    kept = λ i lt right. inl (ap (λ (y : List ℕ). slice_of l y i) same);
  }

  torn_there : (b a : Map (List ℕ)) (P : List ℕ → Type 0) (t : List ℕ) → Leaves b a out t → (KeepsBase l before_it after_it (base_of b out l) t → P t) → FileRose d e out.name
      → (NoneReached w v stores × ((t ≡ old_of b out) ⊎ (t ≡ base_of b out l))) ⊎ KeepsTorn l before_it after_it (base_of b out l) t
      → StopsSomewhere w v b a out l (λ t. P t × (IsTorn d e b out l t ⊎ ((t ≡ base_of b out l) × NoneReached w v stores)))
  torn_there b a P t leaves only rose (inl (none, inl same)) = inr (inl (subst (λ (s : List ℕ). Leaves b a out s) same leaves))
  torn_there b a P t leaves only rose (inl (none, inr same)) =
      let keeps = base_kept b t rose same in
      inr (inr (t, (leaves, keeps), (only keeps, inr (same, none))))
  torn_there b a P t leaves only rose (inr torn) = inr (inr (t, (leaves, torn.keeps), (only torn.keeps, inl torn)))

  -- where OUT wasn't taken all is as it was
  pub same_before : (C : List (Map (List ℕ)) → Type 0) → IfSome d.folders (λ n. (cs : List (Map (List ℕ))) × (map n (folder_of cache) ≡ map Some cs) × C cs) → e.files ≡ d.files → NoneAsked w v → Told d e cache (λ b a n cs. (a ≡ b) × NoneAsked w v)
  same_before C cached same unasked = over_told d.files d.folders e.files _ (λ b n a is y z.
      let g : (cs : List (Map (List ℕ))) × (map n (folder_of cache) ≡ map Some cs) × C cs = subst (λ o. IfSome o (λ n. (cs : List (Map (List ℕ))) × (map n (folder_of cache) ≡ map Some cs) × C cs)) y cached in
      let kept : Some a ≡ Some b = sym z ∙ same ∙ is in
      let as_before : a ≡ b = cc in
      (g.0, g.1, (as_before, unasked)))

  told_as : (P : Map (List ℕ) → Map (List ℕ) → Map (Map (List ℕ)) → List (Map (List ℕ)) → List ℕ → Type 0)
      → Told d e cache (λ b a n cs. (a ≡ b) × NoneAsked w v) → Told d e cache (λ b a n cs. StopsSomewhere w v b a out l (P b a n cs))
  told_as P h = over d.files d.folders e.files h where
    over : (x : Option (Map (List ℕ))) (y : Option (Map (Map (List ℕ)))) (z : Option (Map (List ℕ)))
        → IfSome x (λ b. IfSome y (λ n. IfSome z (λ a. (cs : List (Map (List ℕ))) × (map n (folder_of cache) ≡ map Some cs) × ((a ≡ b) × NoneAsked w v))))
        → IfSome x (λ b. IfSome y (λ n. IfSome z (λ a. (cs : List (Map (List ℕ))) × (map n (folder_of cache) ≡ map Some cs) × StopsSomewhere w v b a out l (P b a n cs))))
    over None y z h = tt
    over (Some b) None z h = tt
    over (Some b) (Some n) None h = tt
    over (Some b) (Some n) (Some a) h = (h.0, h.1, inl h.2)

  pub stopped_before : (C : List (Map (List ℕ)) → Type 0) → IfSome d.folders (λ n. (cs : List (Map (List ℕ))) × (map n (folder_of cache) ≡ map Some cs) × C cs) → e.files ≡ d.files → NoneAsked w v → Told d e cache (λ b a n cs. StopsSomewhere w v b a out l (OnlyHad d e b n cs stores out l x))
  stopped_before C cached same unasked = told_as (λ b a n cs. OnlyHad d e b n cs stores out l x) (same_before C cached same unasked)

  pub not_taken_as : (fault : IoFault) → Told d e cache (λ b a n cs. (a ≡ b) × NoneAsked w v) → (fault ≡ io.Failed → FileRose d e out.name) → Assembled w v stores cache out l x (answer_of_taking fault)
  not_taken_as io.Failed before rose = (rose refl, told_as (λ b a n cs t. OnlyHad d e b n cs stores out l x t × (IsTorn d e b out l t ⊎ ((t ≡ base_of b out l) × NoneReached w v stores))) before)
  not_taken_as io.Memory before rose = told_as (λ b a n cs. OnlyHad d e b n cs stores out l x) before

  -- the same as `IsLacking`, over the bytes that OUT had, and for a group
  abbrev pub LackingOver : Map (Map (List ℕ)) → List ℕ → ℕ → ChunkId → Refused → Type 0
  LackingOver n o k id r = (k < count_of l) × (id.0 ≡ id_of l k) × GroupsLack stores.retries (chunk_of (kind_of l) id (size_of l k)) w v stores.groups r
      × WhereFolders n stores (λ fs. LacksAll (chunk_of (kind_of l) id (size_of l k)) (map chunks fs) r)
      × (RightAlike l (resized o (image_length l)) k → FileRose d e out.name)

  -- a seed that has the chunk of entry k has failed, and the cache doesn't give it
  abbrev pub OthersLack : Map (List ℕ) → ℕ → ChunkId → Refused → Type 0
  OthersLack b k id r = ((s : ℕ) (h : SeedHas (kind_of l) b x (id_of l k) (size_of l k) s) → FileRose d e h.image) × CacheLacksEntry d e cache l k

  -- both
  abbrev pub AllLack : Map (List ℕ) → Map (Map (List ℕ)) → List ℕ → ℕ → ChunkId → Refused → Type 0
  AllLack b n o k id r = LackingOver n o k id r × OthersLack b k id r

  -- the chunk of an entry is lacked for this reason, told by the number of a store: of the first one of a group that failed, and of the one that gave something else
  abbrev IsLackingFor : Map (List ℕ) → Map (Map (List ℕ)) → ℕ → ChunkId → Refused → Type 0
  IsLackingFor b n k id by_group = IsLacking w v b n cache out l x stores k id (refused_of_stores stores.groups by_group)

  -- where all is told
  pub record Facts (r : Result Report ExtractFault) (b : Map (List ℕ)) (n : Map (Map (List ℕ))) (a : Map (List ℕ)) : Type 0 where
    pub cs : List (Map (List ℕ))
    pub cached : map n (folder_of cache) ≡ map Some cs
    pub t : List ℕ
    pub leaves : Leaves b a out t
    pub assembles : Assembles l (NoneReached w v stores) before_it after_it r (old_of b out) t
    pub lacks : IfErr r (LostAs (IsLackingFor b n))
    pub only : WhereMembers n stores (λ fs. OnlyObtainable l (CanBeHad l (base_of b out l) b x (map chunks cs ++ map chunks fs)) before_it after_it r (old_of b out) t)
    pub verdict : WhereMembers n stores (λ fs. Undisturbed d e n stores cache l cs fs → Verdict l (CanBeHad l (base_of b out l) b x (map chunks cs ++ map chunks fs)) r)
    pub settled : WhereMembers n stores (λ fs. Undisturbed d e n stores cache l cs fs → After l (CanBeHad l (base_of b out l) b x (map chunks cs ++ map chunks fs)) (base_of b out l) t r)

  abbrev AllFacts : Result Report ExtractFault → Type 0
  AllFacts r = (b : Map (List ℕ)) (n : Map (Map (List ℕ))) (a : Map (List ℕ)) → d.files ≡ Some b → d.folders ≡ Some n → e.files ≡ Some a → Facts r b n a

  told : (r : Result Report ExtractFault) (P : Map (List ℕ) → Map (List ℕ) → Map (Map (List ℕ)) → List (Map (List ℕ)) → Type 0) → AllFacts r → ((b : Map (List ℕ)) (n : Map (Map (List ℕ))) (a : Map (List ℕ)) (f : Facts r b n a) → P b a n f.cs) → Told d e cache P
  told r P facts p = over_told d.files d.folders e.files _ (λ b n a x y z. let f = facts b n a x y z in (f.cs, f.cached, p b n a f))

  -- what a refusal tells of each entry
  only_had : (why : ExtractFault) (b : Map (List ℕ)) (n : Map (Map (List ℕ))) (a : Map (List ℕ)) (f : Facts (Err why) b n a) → KeepsBase l before_it after_it (base_of b out l) f.t → OnlyHad d e b n f.cs stores out l x f.t
  only_had why b n a f keeps = λ fs there. only_base l (CanBeHad l (base_of b out l) b x (map chunks f.cs ++ map chunks fs)) before_it after_it why (old_of b out) f.t keeps (f.only fs there)

  pub assembled : (r : Result Report ExtractFault) → AllFacts r → IfErr r (TargetAs (FileRose d e out.name)) → IfErr r (StoreAs (λ s. StopsFailed w v stores l (first_store stores.groups s)))
      → Assembled w v stores cache out l x (answer_of_stores stores.groups (answer_of_assembly r))
  assembled (Ok r) facts target store = told _ _ facts (λ b n a f. ((f.t, (f.leaves, f.assembles.1), f.assembles.0), f.only))
  assembled (Err (faults.Missing k id)) facts target store = told _ _ facts (λ b n a f. ((f.t, (f.leaves, f.assembles.0), f.assembles.1, only_had (faults.Missing k id) b n a f f.assembles.0, f.settled), f.lacks, f.verdict))
  assembled (Err (faults.Damaged k id s y)) facts target store = told _ _ facts (λ b n a f. ((f.t, (f.leaves, f.assembles.0), f.assembles.1, only_had (faults.Damaged k id s y) b n a f f.assembles.0, f.settled), f.lacks, f.verdict))
  assembled (Err (faults.StoreFault s)) facts target store = (store, told _ _ facts (λ b n a f. ((f.t, (f.leaves, f.assembles), only_had (faults.StoreFault s) b n a f f.assembles), f.lacks.0, f.lacks.1, f.lacks.2)))
  assembled (Err faults.TargetFault) facts target store = (target, told _ _ facts (λ b n a f. torn_there b a (OnlyHad d e b n f.cs stores out l x) f.t f.leaves (only_had faults.TargetFault b n a f) target f.assembles))
  assembled (Err faults.Memory) facts target store = told _ _ facts (λ b n a f. somewhere b a (OnlyHad d e b n f.cs stores out l x) f.t f.leaves (only_had faults.Memory b n a f) f.assembles)

  lacking : (b : Map (List ℕ)) (n : Map (Map (List ℕ))) (k : ℕ) (id : ChunkId) (by_group : Refused) → AllLack b n (old_of b out) k id by_group → IsLackingFor b n k id by_group
  lacking b n k id by_group h =
      let c = chunk_of (kind_of l) id (size_of l k) in
      record {
        listed = h.0.0;
        id_is = h.0.1;
        said = have_lacked_in stores.retries c w v stores.groups by_group h.0.2;
        lacks = λ fs told. lacks_numbered stores.groups c (map chunks fs) by_group (h.0.3 fs told);
        copies = h.0.4;
        seeds = h.1.0;
        uncached = h.1.1;
      }

  module _ (P : List (Map (List ℕ)) → List ℕ → ℕ → Type 0) (had : (b : Map (List ℕ)) → d.files ≡ Some b → (maps : List (Map (List ℕ))) (base : List ℕ) (i : ℕ) → i < count_of l → P maps base i → CanBeHad l base b x maps i)
      (back : (b : Map (List ℕ)) → d.files ≡ Some b → DiskQuiet d e → (maps : List (Map (List ℕ))) (base : List ℕ) (i : ℕ) → i < count_of l → CanBeHad l base b x maps i → P maps base i) where
    pub facts_of : (r : Result Report ExtractFault) (C : List (Map (List ℕ)) → Type 0) (t0 t1 : Option (List ℕ)) (U : Type 0) (f0 f1 : ℕ) (M N : List (Map (List ℕ)) → List (Map (List ℕ)) → Type 0)
        → IfSome d.folders (λ n. (cs : List (Map (List ℕ))) × (map n (folder_of cache) ≡ map Some cs) × C cs)
        → IfSome d.files (λ m. t0 ≡ Some (old_of m out)) → is_some t0 ≡ is_some t1
        → e.files ≡ option_map (λ m. at_name m out.name t1) (option_map (λ m. at_name m out.name None) d.files)
        → ExcusesAs f0 f1 before_it after_it
        → (U → NoneReached w v stores) → WhereTold t0 t1 (Assembles l U f0 f1 r)
        → ((b : Map (List ℕ)) → d.files ≡ Some b → (n : Map (Map (List ℕ))) → d.folders ≡ Some n → IfSome t0 (λ o. IfErr r (LostAs (AllLack b n o))))
        → ((b : Map (List ℕ)) → d.files ≡ Some b → (cached maps : List (Map (List ℕ))) → M cached maps → WhereTold t0 t1 (λ o t. OnlyObtainable l (CanBeHad l (resized o (image_length l)) b x (cached ++ maps)) f0 f1 r o t))
        → ((cached maps : List (Map (List ℕ))) → N cached maps → IfSome t0 (λ o. Verdict l (P (cached ++ maps) (resized o (image_length l))) r))
        → ((cached maps : List (Map (List ℕ))) → N cached maps → WhereTold t0 t1 (λ o t. After l (P (cached ++ maps) (resized o (image_length l))) (resized o (image_length l)) t r))
        → ((b : Map (List ℕ)) → d.files ≡ Some b → (n : Map (Map (List ℕ))) → d.folders ≡ Some n → (fs : List (Map (List ℕ))) → maps_of (member_files stores.sure n) stores.groups ≡ Some fs → (cs : List (Map (List ℕ))) → C cs → M (map chunks cs) (map chunks fs))
        → ((b : Map (List ℕ)) → d.files ≡ Some b → (n : Map (Map (List ℕ))) → d.folders ≡ Some n → (fs : List (Map (List ℕ))) → maps_of (member_files stores.sure n) stores.groups ≡ Some fs → (cs : List (Map (List ℕ))) → C cs → Undisturbed d e n stores cache l cs fs → N (map chunks cs) (map chunks fs)) → AllFacts r
    facts_of r C t0 t1 U f0 f1 M N cached took told left excused none bytes lacks only exactly after shown quiet b n a is y z =
        let g : (cs : List (Map (List ℕ))) × (map n (folder_of cache) ≡ map Some cs) × C cs = subst (λ o. IfSome o (λ n. (cs : List (Map (List ℕ))) × (map n (folder_of cache) ≡ map Some cs) × C cs)) y cached in
        let o : t0 ≡ Some (old_of b out) = subst (λ o. IfSome o (λ m. t0 ≡ Some (old_of m out))) is took in
        let lf : e.files ≡ option_map (λ m. at_name m out.name t1) (option_map (λ m. at_name m out.name None) (Some b)) =
        subst (λ s. e.files ≡ option_map (λ m. at_name m out.name t1) (option_map (λ m. at_name m out.name None) s)) is left in
        go (old_of b out) t0 t1 o (subst (λ s. is_some s ≡ is_some t1) o told) (sym z ∙ lf) g.0 g.1 bytes (lacks b is n y) (λ fs there. only b is (map chunks g.0) (map chunks fs) (shown b is n y fs there g.0 g.2)) (λ fs there k. exactly (map chunks g.0) (map chunks fs) (quiet b is n y fs there g.0 g.2 k))
        (λ fs there k. after (map chunks g.0) (map chunks fs) (quiet b is n y fs there g.0 g.2 k)) refl where
          go : (old : List ℕ) (s0 s1 : Option (List ℕ)) → s0 ≡ Some old → true ≡ is_some s1 → Some a ≡ Some (at_name (at_name b out.name None) out.name s1)
              → (cs : List (Map (List ℕ))) → map n (folder_of cache) ≡ map Some cs → WhereTold s0 s1 (Assembles l U f0 f1 r) → IfSome s0 (λ o. IfErr r (LostAs (AllLack b n o)))
              → WhereMembers n stores (λ fs. WhereTold s0 s1 (λ o t. OnlyObtainable l (CanBeHad l (resized o (image_length l)) b x (map chunks cs ++ map chunks fs)) f0 f1 r o t))
              → WhereMembers n stores (λ fs. Undisturbed d e n stores cache l cs fs → IfSome s0 (λ o. Verdict l (P (map chunks cs ++ map chunks fs) (resized o (image_length l))) r))
              → WhereMembers n stores (λ fs. Undisturbed d e n stores cache l cs fs → WhereTold s0 s1 (λ o t. After l (P (map chunks cs ++ map chunks fs) (resized o (image_length l))) (resized o (image_length l)) t r))
              → old ≡ old_of b out → Facts r b n a
          go old None s1 same is_told are cs shelf bs ls only verdict settled at = absurd (cc)
          go old (Some o) None same is_told are cs shelf bs ls only verdict settled at = absurd (cc)
          go old (Some o) (Some t) same is_told are cs shelf bs ls only verdict settled at =
              let was : o ≡ old_of b out = cc in
              over o was bs ls only verdict settled where
                over : (p : List ℕ) → p ≡ old_of b out → Assembles l U f0 f1 r p t → IfErr r (LostAs (AllLack b n p))
                    → WhereMembers n stores (λ fs. OnlyObtainable l (CanBeHad l (resized p (image_length l)) b x (map chunks cs ++ map chunks fs)) f0 f1 r p t)
                    → WhereMembers n stores (λ fs. Undisturbed d e n stores cache l cs fs → Verdict l (P (map chunks cs ++ map chunks fs) (resized p (image_length l))) r)
                    → WhereMembers n stores (λ fs. Undisturbed d e n stores cache l cs fs → After l (P (map chunks cs ++ map chunks fs) (resized p (image_length l))) (resized p (image_length l)) t r) → Facts r b n a
                over p was bs ls only verdict settled =
                    record {
                      cs = cs;
                      cached = shelf;
                      t = t;
                      leaves = ap (λ o. unwrap_or o a) are ∙ at_name_twice b out.name None (Some t);
                      assembles = subst (λ (q : List ℕ). Assembles l (NoneReached w v stores) before_it after_it r q t) was (assembles_as l U (NoneReached w v stores) f0 f1 before_it after_it r p t none excused bs);
                      lacks = lost_on (AllLack b n (old_of b out)) (IsLackingFor b n) (lacking b n) r (subst (λ (q : List ℕ). IfErr r (LostAs (AllLack b n q))) was ls);
                      only = λ fs there.
                          let maps = map chunks cs ++ map chunks fs in
                          subst (λ (q : List ℕ). OnlyObtainable l (CanBeHad l (resized q (image_length l)) b x maps) before_it after_it r q t) was
                          (only_as l (CanBeHad l (resized p (image_length l)) b x maps) (CanBeHad l (resized p (image_length l)) b x maps) f0 f1 before_it after_it (λ i lt h. h) excused r p t
                          (only fs there));
                      verdict = λ fs there k.
                          let maps = map chunks cs ++ map chunks fs in
                          subst (λ (q : List ℕ). Verdict l (CanBeHad l (resized q (image_length l)) b x maps) r) was
                          (verdict_as l (P maps (resized p (image_length l))) (CanBeHad l (resized p (image_length l)) b x maps) (had b is maps (resized p (image_length l)))
                          (back b is k.quiet maps (resized p (image_length l))) r (lost_on (AllLack b n p) (λ i id y. i < count_of l) (λ i id y h. h.0.0) r ls) (verdict fs there k));
                      settled = λ fs there k.
                          let maps = map chunks cs ++ map chunks fs in
                          subst (λ (q : List ℕ). After l (CanBeHad l (resized q (image_length l)) b x maps) (resized q (image_length l)) t r) was
                          (after_as l (P maps (resized p (image_length l))) (CanBeHad l (resized p (image_length l)) b x maps) (resized p (image_length l)) t (had b is maps (resized p (image_length l)))
                          (back b is k.quiet maps (resized p (image_length l))) r (settled fs there k));
                    }
