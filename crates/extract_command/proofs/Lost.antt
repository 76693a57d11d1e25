-- The entry, the store or the target that an assembly over lent folders names.
use Rattle.std.proofs.Common.{ap, refl, All, arith, ◌≤◌, ◌≡◌, ℕ, suc, List, [], ◌∷◌, length, map, slice_index, Option, Some, None, IfSome, IfErr, subst, ◌∙◌, sym, inl, inr, Result, Ok, Err}
use Rattle.std.proofs.lemmas.List.Elements.{All-cons, All-nil}
use Rattle.std.specs.List.{AllZip}
use Rattle.assembler.specs.Assemblies.{IsUnobtained, RightAlike}
use Rattle.assembler.specs.Faults.{fault_of}
use Rattle.assembler.specs.Losses.{lost_want}
use Rattle.assembler.specs.Passes.{EndsBy, want_at}
use Rattle.assembler.specs.declared.fault.ExtractFault.{ExtractFault}
use Rattle.assembler.specs.declared.fault.ExtractFault.TheVariants as faults
use Rattle.assembler.specs.declared.fault.Lost.{Lost}
use Rattle.range_survey.specs.declared.report.Report.{Report}
use Rattle.caibx_codec.specs.Asks.{IsListedGet}
use Rattle.caibx_codec.specs.Listing.{Listing, id_of, image_length, kind_of, size_of}
use Rattle.chunk_sources.specs.Caches.{CacheLacks}
use Rattle.chunk_sources.specs.Sources as origins
use Rattle.chunk_sources.specs.Sources.{SeedsFailed, counts_of, views_of}
use Rattle.chunk_sources.specs.Wants.{Task}
use Rattle.chunk_store.specs.Folders.{chunks}
use Rattle.chunk_store.proofs.Said.{keeps_on}
use Rattle.chunk_store.specs.Said.{KeepsOf, Said}
use Rattle.chunk_store.specs.declared.store.Giver.{Giver}
use Rattle.chunk_store.specs.declared.id.ChunkId.{ChunkId}
use Rattle.chunk_store.specs.declared.store.Store.{Ghosts as StoreWords}
use Rattle.chunk_store.specs.declared.shows.Shows.{Shows}
use Rattle.command_words.specs.declared.command.Location.{Location}
use Rattle.command_groups.proofs.Lacked.{groups_lack}
use Rattle.command_groups.proofs.Standing.{GroupStands}
use Rattle.command_groups.specs.Groups.{first_store, group_files}
use Rattle.command_groups.specs.Lacking.{GroupRose, GroupsLack, group_said}
use Rattle.command_steps.proofs.Numbers.{rose_longer}
use Rattle.command_steps.specs.Seeds.{name_at}
use Rattle.command_steps.specs.Seeds.{IsViewed}
use Rattle.command_steps.specs.Sources.{Storage}
use Rattle.command_worlds.specs.Worlds.{FileRose}
use Rattle.extract_command.proofs.Assembled.{AllLack, LackingOver, LostAs, OthersLack, StoreAs, TargetAs}
use Rattle.command_steps.proofs.Lacked.{same_length}
use Rattle.extract_command.proofs.Seeded.{had_failed, label_of}
use Rattle.extract_command.specs.Extract.{CacheLacksEntry, ExtractStores, Into, Seeds, StopsFailed}
use Rattle.dsy_base.specs.Bytes.{Held, resized}
use Rattle.dsy_base.specs.Counts.{Rose}
use Rattle.dsy_base.specs.Disk.{Disk}
use Rattle.dsy_base.specs.Maps.{Map}
use Rattle.dsy_base.specs.declared.view.View.{Ghosts as ViewWords}
use Rattle.extract_plan.specs.Places.{IsSeedIndex, places_at}
use Rattle.store_chain.proofs.Pairs.{cons_head, cons_tail}
use Rattle.store_chain.specs.Chains.{KeepsStores}
use Rattle.store_chain.specs.Faults.{NoneFalls}
use Rattle.store_chain.specs.declared.refused.Refused.{Refused}
use Rattle.store_chain.specs.declared.refused.Refused.TheVariants as refused

-- ---- which entry, store or target is named

abbrev lost : ℕ → ChunkId → Refused → Lost
lost k id r = record { entry = k; id = id; refused = r }

module _ (P : Lost → Type 0) (F : Type 0) where
  of_missing : (k n : ℕ) (id i : ChunkId) (r : Refused) → faults.Missing k id ≡ fault_of n i r → P (lost n i r) → P (lost k id refused.Missing)
  of_missing k n id i refused.Missing is p =
      let at : n ≡ k = cc in
      let named : i ≡ id = cc in
      subst (λ (m : ℕ). P (lost m id refused.Missing)) at (subst (λ (q : ChunkId). P (lost n q refused.Missing)) named p)
  of_missing k n id i (refused.Damaged s x) is p = absurd (cc)
  of_missing k n id i (refused.StoreFault s) is p = absurd (cc)
  of_missing k n id i refused.Memory is p = absurd (cc)

  of_damaged : (k n : ℕ) (id i : ChunkId) (s : Giver) (x : Shows) (r : Refused) → faults.Damaged k id s x ≡ fault_of n i r → P (lost n i r) → P (lost k id (refused.Damaged s x))
  of_damaged k n id i s x refused.Missing is p = absurd (cc)
  of_damaged k n id i s x (refused.Damaged u y) is p =
      let at : n ≡ k = cc in
      let named : i ≡ id = cc in
      let store : u ≡ s = cc in
      let shown : y ≡ x = cc in
      subst (λ (m : ℕ). P (lost m id (refused.Damaged s x))) at (subst (λ (q : ChunkId). P (lost n q (refused.Damaged s x))) named
      (subst (λ (v : Giver). P (lost n i (refused.Damaged v x))) store (subst (λ (z : Shows). P (lost n i (refused.Damaged u z))) shown p)))
  of_damaged k n id i s x (refused.StoreFault u) is p = absurd (cc)
  of_damaged k n id i s x refused.Memory is p = absurd (cc)

  of_store : (s n : ℕ) (i : ChunkId) (r : Refused) → faults.StoreFault s ≡ fault_of n i r → r ≡ refused.StoreFault s
  of_store s n i refused.Missing is = absurd (cc)
  of_store s n i (refused.Damaged u y) is = absurd (cc)
  of_store s n i (refused.StoreFault u) is = let same : u ≡ s = cc in ap refused.StoreFault same
  of_store s n i refused.Memory is = absurd (cc)

  of_target : (n : ℕ) (i : ChunkId) (r : Refused) → faults.TargetFault ≡ fault_of n i r → ⊥
  of_target n i refused.Missing is = absurd (cc)
  of_target n i (refused.Damaged u y) is = absurd (cc)
  of_target n i (refused.StoreFault u) is = absurd (cc)
  of_target n i refused.Memory is = absurd (cc)

  -- the lost entry that is named
  lost_as : (Q : ℕ → ChunkId → Refused → Type 0) → ((x : Lost) → P x → Q x.entry x.id x.refused) → (r : Result Report ExtractFault) → EndsBy P F r → IfErr r (LostAs Q)
  lost_as Q f (Ok r) h = tt
  lost_as Q f (Err (faults.Missing k id)) (inl h) = f (lost k id refused.Missing) (of_missing k h.0.entry id h.0.id h.0.refused h.1 h.2)
  lost_as Q f (Err (faults.Missing k id)) (inr (inl h)) = let no : faults.Missing k id ≡ faults.TargetFault = h.0 in absurd (cc)
  lost_as Q f (Err (faults.Missing k id)) (inr (inr h)) = absurd (cc)
  lost_as Q f (Err (faults.Damaged k id s x)) (inl h) = f (lost k id (refused.Damaged s x)) (of_damaged k h.0.entry id h.0.id s x h.0.refused h.1 h.2)
  lost_as Q f (Err (faults.Damaged k id s x)) (inr (inl h)) = let no : faults.Damaged k id s x ≡ faults.TargetFault = h.0 in absurd (cc)
  lost_as Q f (Err (faults.Damaged k id s x)) (inr (inr h)) = absurd (cc)
  lost_as Q f (Err (faults.StoreFault s)) (inl h) = (h.0.entry, h.0.id, subst (λ (r : Refused). Q h.0.entry h.0.id r) (of_store s h.0.entry h.0.id h.0.refused h.1) (f h.0 h.2))
  lost_as Q f (Err (faults.StoreFault s)) (inr (inl h)) = let no : faults.StoreFault s ≡ faults.TargetFault = h.0 in absurd (cc)
  lost_as Q f (Err (faults.StoreFault s)) (inr (inr h)) = absurd (cc)
  lost_as Q f (Err faults.TargetFault) h = tt
  lost_as Q f (Err faults.Memory) h = tt

  -- the store that is named
  store_as : (Q : ℕ → Type 0) → ((x : Lost) (s : ℕ) → x.refused ≡ refused.StoreFault s → P x → Q s) → (r : Result Report ExtractFault) → EndsBy P F r → IfErr r (StoreAs Q)
  store_as Q f (Ok r) h = tt
  store_as Q f (Err (faults.Missing k id)) h = tt
  store_as Q f (Err (faults.Damaged k id s x)) h = tt
  store_as Q f (Err (faults.StoreFault s)) (inl h) = f h.0 s (of_store s h.0.entry h.0.id h.0.refused h.1) h.2
  store_as Q f (Err (faults.StoreFault s)) (inr (inl h)) = let no : faults.StoreFault s ≡ faults.TargetFault = h.0 in absurd (cc)
  store_as Q f (Err (faults.StoreFault s)) (inr (inr h)) = absurd (cc)
  store_as Q f (Err faults.TargetFault) h = tt
  store_as Q f (Err faults.Memory) h = tt

  -- the target where it is named
  pub target_as : (Q : Type 0) → (F → Q) → (r : Result Report ExtractFault) → EndsBy P F r → IfErr r (TargetAs Q)
  target_as Q f (Ok r) h = tt
  target_as Q f (Err (faults.Missing k id)) h = tt
  target_as Q f (Err (faults.Damaged k id s x)) h = tt
  target_as Q f (Err (faults.StoreFault s)) h = tt
  target_as Q f (Err faults.TargetFault) (inl h) = absurd (of_target h.0.entry h.0.id h.0.refused h.1)
  target_as Q f (Err faults.TargetFault) (inr (inl h)) = f h.1
  target_as Q f (Err faults.TargetFault) (inr (inr h)) = absurd (cc)
  target_as Q f (Err faults.Memory) h = tt

-- ---- the stores that lack the chunk of an entry

-- groups that stand so later stood so before
module _ {S : Type 0} (location : S → List Location) (said : S → Said) (counted : S → ℕ) (retries : ℕ) (w v : Storage) where
  abbrev Standing : S → Type 0
  Standing = GroupStands location said counted retries w v

  stood : (a b : List S) → map location b ≡ map location a → AllZip (λ x y. (q : List ℕ) → KeepsOf (said x) (said y) q) a b → NoneFalls (map counted a) (map counted b) → All Standing b → All Standing a
  stood [] b same says le stand = All-nil Standing
  stood (x ∷ a) [] same says le stand = absurd (cc)
  stood (x ∷ a) (y ∷ b) same says le stand =
      let here = cons_head (location y) (location x) (map location b) (map location a) same in
      let rest = cons_tail (location y) (location x) (map location b) (map location a) same in
      let more : counted x ≤ counted y = le 0 in
      let last = stand 0 y (omega arith) in
      All-cons Standing x a
      (record {
        says = λ id. keeps_on (said x) (said y) (group_said w v (location x)) id (says.0 id) (subst (λ q. KeepsOf (said y) (group_said w v q) id) here (last.says id));
        rises = λ rose. subst (GroupRose retries w v) here (last.rises (rose_longer 0 (counted x) (counted y) more rose));
      })
      (stood a b rest says.1 (λ k. le (suc k)) (λ j q lt. stand (suc j) q (omega (arith, lt))))

-- ---- what a lost entry tells

module _ {S V : Type 0} (store : StoreWords S) (location : S → List Location) (view : ViewWords V) (t : Task) (w v : Storage) (stores : ExtractStores) (cache : Option (List ℕ)) (out : Into) (seeds : Seeds) (t0 : Option (List ℕ)) (a b : origins.Sources S V) where
  abbrev d : Disk
  d = w.disk

  abbrev e : Disk
  e = v.disk

  abbrev l : Listing
  l = t.listing

  abbrev views : List (Option Held)
  views = views_of view a.seeds

  abbrev old_counts : List ℕ
  old_counts = counts_of view a.seeds

  abbrev new_counts : List ℕ
  new_counts = counts_of view b.seeds

  abbrev IsLostHere : Lost → Type 0
  IsLostHere u = IsUnobtained store view t t0 a b u

  -- the seeds that have its chunk have failed, and the cache doesn't give it
  module _ (mid : Disk) (files : Map (List ℕ)) (told : d.files ≡ Some files) (zip : AllZip (IsViewed d mid) seeds.images views) (is : IsSeedIndex l t.plan seeds.listings t.places) (later : (q : List ℕ) → FileRose d mid q → FileRose d e q)
      (rises : (n : ℕ) → Rose (slice_index old_counts n) (slice_index new_counts n) → FileRose d e (name_at (map label_of views) n))
      (gone : (n : ℕ) → CacheLacks (kind_of l) (id_of l n) (size_of l n) a.cache b.cache → CacheLacksEntry d e cache l n) where
    pub others_at : (u : Lost) → IsLostHere u → OthersLack w v stores cache out l seeds files u.entry u.id u.refused
    others_at u h = (
      had_failed d mid files told seeds views zip (kind_of l) (id_of l u.entry) (size_of l u.entry) (places_at t.places (want_at t.plan u.entry)) (is.places u.entry h.listed) e later old_counts new_counts rises
          (subst (λ (id : List ℕ). SeedsFailed views (places_at t.places (want_at t.plan u.entry)) id old_counts new_counts) h.id_is h.seeds),
      gone u.entry h.cache,
    )

  -- over groups that were given back: these stand so
  module _ (kept : KeepsStores store (IsListedGet l) a.chain.stores b.chain.stores) (located : (ys : List S) → map store.place ys ≡ map store.place a.chain.stores → map location ys ≡ stores.groups) (stand : All (GroupStands location store.said store.faults stores.retries w v) b.chain.stores) where
    -- how the groups stood when the entry's chunk was asked for
    record StoodAt (u : Lost) (h : IsLostHere u) : Type 0 where
      many : length h.stores.before ≡ length h.stores.after
      at : map location h.stores.after ≡ stores.groups
      all : All (GroupStands location store.said store.faults stores.retries w v) h.stores.after

    stood_at : (u : Lost) (h : IsLostHere u) → StoodAt u h
    stood_at u h =
        let r = h.stores in
        let placed : map store.place r.after ≡ map store.place a.chain.stores = sym r.since.places ∙ kept.places in
        let here : map location r.after ≡ stores.groups = located r.after placed in
        record {
          many = same_length store.place r.before r.after (r.until.places ∙ sym placed);
          at = here;
          all = stood location store.said store.faults stores.retries w v r.after b.chain.stores (located b.chain.stores kept.places ∙ sym here) r.since.says r.since.never_fall stand;
        }

    module _ (n : Map (Map (List ℕ))) (held : (fs : List (Map (List ℕ))) → map (group_files stores.sure n) stores.groups ≡ map Some fs → map store.holds a.chain.stores ≡ map Some (map chunks fs)) (rose : Rose a.faults b.faults → FileRose d e out.name) where
      lacks_over : (o : List ℕ) (u : Lost) (h : IsLostHere u) → (RightAlike l (resized o (image_length l)) u.entry → Rose a.faults b.faults) → LackingOver w v stores cache out l seeds n o u.entry u.id u.refused
      lacks_over o u h copies =
          let s = stood_at u h in (
            h.listed,
            h.id_is,
            groups_lack location store.said store.faults stores.retries w v stores.groups store.may_lack_memory (lost_want l u) u.refused h.stores.before h.stores.after s.many s.at s.all h.stores.refused.told,
            λ fs told. h.stores.refused.lacks (map chunks fs) (h.stores.until.held ∙ held fs told),
            λ r. rose (copies r),
          )

      module _ (files : Map (List ℕ)) (others : (u : Lost) → IsLostHere u → OthersLack w v stores cache out l seeds files u.entry u.id u.refused) where
        pub lacks_told : (F : Type 0) (r : Result Report ExtractFault) → EndsBy IsLostHere F r → IfSome t0 (λ o. IfErr r (LostAs (AllLack w v stores cache out l seeds files n o)))
        lacks_told F r h = go t0 (λ u z. z.copies) where
          go : (s : Option (List ℕ)) → ((u : Lost) → IsLostHere u → IfSome s (λ o. RightAlike l (resized o (image_length l)) u.entry → Rose a.faults b.faults)) → IfSome s (λ o. IfErr r (LostAs (AllLack w v stores cache out l seeds files n o)))
          go None copies = tt
          go (Some o) copies = lost_as IsLostHere F (AllLack w v stores cache out l seeds files n o) (λ u z. (lacks_over o u z (copies u z), others u z)) r h

    stopped_at : (u : Lost) (s : ℕ) → u.refused ≡ refused.StoreFault s → IsLostHere u → StopsFailed w v stores l (first_store stores.groups s)
    stopped_at u s is h =
        let r = stood_at u h in
        let said = groups_lack location store.said store.faults stores.retries w v stores.groups store.may_lack_memory (lost_want l u) u.refused h.stores.before h.stores.after r.many r.at r.all h.stores.refused.told in
        (u.entry, u.id, h.listed, h.id_is, (refused.StoreFault s, refl, subst (λ (r : Refused). GroupsLack stores.retries (lost_want l u) w v stores.groups r) is said))

    pub store_told : (F : Type 0) (r : Result Report ExtractFault) → EndsBy IsLostHere F r → IfErr r (StoreAs (λ s. StopsFailed w v stores l (first_store stores.groups s)))
    store_told F r h = store_as IsLostHere F (λ s. StopsFailed w v stores l (first_store stores.groups s)) stopped_at r h
