-- Chains that were opened of the same groups hold alike.
use Rattle.std.proofs.Common.{◌≡◌, ◌∙◌, ℕ, Bool, List, All, map, is_some, Option, Some, IfSome, IsSome, IsTrue, sym, subst, ap, slice_index_or}
use Rattle.std.proofs.lemmas.List.Elements.{All-cons}
use Rattle.command_groups.proofs.LentChains.{chains_later}
use Rattle.command_groups.specs.Chains.{CanGiveChain, IsChainOpened, chain_groups}
use Rattle.cache_command.specs.Filling.{JustOpened}
use Rattle.cache_store.specs.Shelves.{Shelf}
use Rattle.command_groups.proofs.Alike.{hold_alike, members_alike}
use Rattle.command_groups.proofs.Stand.{fresh_first}
use Rattle.command_groups.proofs.Words.{group_words}
use Rattle.command_groups.specs.Groups.{stores_of}
use Rattle.command_groups.specs.Opened.{AreUnused, IsFresh, files_in, locations_in}
use Rattle.command_steps.proofs.Given.{all_later}
use Rattle.command_steps.specs.AnyStores.{IsKnown, source_faults}
use Rattle.command_steps.specs.Cache.{with_cache}
use Rattle.command_steps.specs.Sources.{location_files}
use Rattle.command_steps.specs.declared.any_store.AnyStore.{AnyStore}
use Rattle.command_words.specs.declared.command.Location.{Location}
use Rattle.command_worlds.specs.Worlds.{Reads}
use Rattle.dsy_base.specs.Disk.{Disk}
use Rattle.dsy_base.specs.Links.{DialState}
use Rattle.dsy_base.specs.Maps.{Map}
use Rattle.dsy_base.specs.declared.look.Look.{Ghosts as LookWords}
use Rattle.store_chain.specs.Chains.{Chained}
use Rattle.store_group.specs.Groups.{Grouped}

module _ {L D K : Type 0} (look : LookWords L) (state : D → DialState) where
  -- the groups of the first worker were opened, those of the further ones, and the folder of the cache was taken
  pub just_reached : (tells : Bool) → ((l : L) → is_some (look.files l) ≡ look.tells) → (IsTrue look.tells → IsTrue tells) → (d a b m : Disk) (s t : Shelf) (cache : List ℕ) (names : List (List Location)) (again : ℕ) (first : Chained (Grouped (AnyStore L D K))) (xs : List (Grouped (AnyStore L D K))) (more cs : List (Chained (Grouped (AnyStore L D K))))
      → s ≡ t → first.stores ≡ xs → more ≡ cs → is_some a.folders ≡ tells → Reads d a → Reads a b → Reads b (with_cache (Some t) m) → map (locations_in look.place) xs ≡ names
      → IfSome d.folders (λ x. map (files_in look.files) xs ≡ map (map (location_files x)) names) → All (IsFresh (source_faults look.faults state) again) xs → All (AreUnused state) xs → All (IsKnown a.folder_counts) (stores_of names) → All (IsChainOpened look state a b names again) cs
      → t.place ≡ cache → IsSome (m.folder_counts cache) → t.faults ≡ 0 → JustOpened look state again (group_words look state) m cache s first more
  just_reached tells told seen d a b m s t cache names again first xs more cs shelf_is stores_are more_are tells_are opened_read further_read taken_read at_names found fresh unused known opened named cache_known unfailed =
      let located : chain_groups look first ≡ names = ap (map (locations_in look.place)) stores_are ∙ at_names in
      let opened_all : All (IsChainOpened look state a b names again) more = subst (λ l. All (IsChainOpened look state a b names again) l) (sym more_are) opened in
      let known_then : All (IsKnown m.folder_counts) (stores_of names) = all_later a.folder_counts m.folder_counts (λ q is. taken_read.folder_known q (further_read.folder_known q is)) (stores_of names) known in
      let given_first : CanGiveChain look m first = subst (λ (l : List (List Location)). All (IsKnown m.folder_counts) (stores_of l)) (sym located) known_then in
      let given_more : All (CanGiveChain look m) more = chains_later look b (with_cache (Some t) m) taken_read more (λ n c lt. (opened_all n c lt).given) in
      let found_at : (x : Chained (Grouped (AnyStore L D K))) (o : Option (Map (Map (List ℕ)))) → (with_cache (Some t) m).folders ≡ o → IfSome o (λ y. map (files_in look.files) x.stores ≡ map (map (location_files y)) names) → chain_groups look x ≡ names → IfSome (with_cache (Some s) m).folders (λ y. map (files_in look.files) x.stores ≡ map (map (location_files y)) (chain_groups look x)) =
      λ x o is h at. subst (λ z. IfSome (with_cache (Some z) m).folders (λ y. map (files_in look.files) x.stores ≡ map (map (location_files y)) (chain_groups look x))) (sym shelf_is)
      (subst (λ (l : List (List Location)). IfSome (with_cache (Some t) m).folders (λ y. map (files_in look.files) x.stores ≡ map (map (location_files y)) l)) (sym at)
      (subst (λ f. IfSome f (λ y. map (files_in look.files) x.stores ≡ map (map (location_files y)) names)) (sym is) h)) in
      let found_here : IfSome a.folders (λ x. map (files_in look.files) first.stores ≡ map (map (location_files x)) names) =
      subst (λ l. IfSome a.folders (λ x. map (files_in look.files) l ≡ map (map (location_files x)) names)) (sym stores_are)
      (subst (λ o. IfSome o (λ x. map (files_in look.files) xs ≡ map (map (location_files x)) names)) (sym opened_read.folders) found) in
      let found_first : IfSome d.folders (λ x. map (files_in look.files) first.stores ≡ map (map (location_files x)) names) =
      subst (λ l. IfSome d.folders (λ x. map (files_in look.files) l ≡ map (map (location_files x)) names)) (sym stores_are) found in
      let unused_first : All (AreUnused state) first.stores = subst (λ l. All (AreUnused state) l) (sym stores_are) unused in
      let fresh_here : All (IsFresh (source_faults look.faults state) again) first.stores = subst (λ l. All (IsFresh (source_faults look.faults state) again) l) (sym stores_are) fresh in
      record {
        unused = All-cons (λ c. All (AreUnused state) c.stores) first more unused_first (λ n c lt. (opened_all n c lt).unused);
        fresh = All-cons (λ c. All (IsFresh (source_faults look.faults state) again) c.stores) first more fresh_here (λ n c lt. (opened_all n c lt).fresh);
        given = All-cons (CanGiveChain look m) first more given_first given_more;
        located = λ n c lt. (opened_all n c lt).located ∙ sym located;
        alike = record {
          held = λ n c lt. let is = opened_all n c lt in
              hold_alike look.files look.place look.never_fails tells look.tells told seen a.folders tells_are names (slice_index_or more n c).stores first.stores is.located located is.found found_here
              (fresh_first (source_faults look.faults state) again (slice_index_or more n c).stores is.fresh) (fresh_first (source_faults look.faults state) again first.stores fresh_here);
          members = λ n c lt. let is = opened_all n c lt in
              members_alike look.files look.place look.never_fails tells look.tells told seen a.folders tells_are names (slice_index_or more n c).stores first.stores is.located located is.found found_here
              (fresh_first (source_faults look.faults state) again (slice_index_or more n c).stores is.fresh) (fresh_first (source_faults look.faults state) again first.stores fresh_here);
        };
        found = All-cons (λ c. IfSome (with_cache (Some s) m).folders (λ y. map (files_in look.files) c.stores ≡ map (map (location_files y)) (chain_groups look c))) first more
            (found_at first d.folders (taken_read.folders ∙ further_read.folders ∙ opened_read.folders) found_first located)
            (λ n c lt. let is = opened_all n c lt in found_at (slice_index_or more n c) a.folders (taken_read.folders ∙ further_read.folders) is.found is.located);
        cache_named = ap (λ (x : Shelf). x.place) shelf_is ∙ named;
        cache_known = cache_known;
        cache_fresh = ap (λ (x : Shelf). x.faults) shelf_is ∙ unfailed;
      }
