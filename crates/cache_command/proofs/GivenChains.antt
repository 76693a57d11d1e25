-- The chains of all workers when they are given back.
use Rattle.std.proofs.Common.{◌≡◌, ◌∙◌, ℕ, zero, suc, ◌+◌, ◌-◌, ◌<◌, ◌≤◌, List, [], ◌∷◌, ap, All, length, map, Option, refl, sym, subst, arith, slice_index_or}
use Rattle.std.proofs.lemmas.List.{get_or-map}
use Rattle.std.proofs.lemmas.List.Elements.{AllZip-get_or, length_all_zip}
use Rattle.std.specs.List.{AllZip, fold, insert, remove}
use Rattle.command_groups.proofs.LentChains.{chains_consult}
use Rattle.cache_command.specs.Caching.{IsGetAmong}
use Rattle.command_groups.specs.Chains.{IsChainGiven, chain_groups}
use Rattle.cache_command.specs.Filling.{AsksListings, each_stores}
use Rattle.caibx_codec.specs.Listing.{Listing}
use Rattle.chunk_store.specs.declared.store.Store.{Ghosts as StoreWords}
use Rattle.command_groups.proofs.Asked.{groups_asked, groups_turn_dialed}
use Rattle.chunk_dealing.proofs.Owners.{number_at}
use Rattle.chunk_dealing.specs.Dealing.{ByNumber}
use Rattle.command_groups.proofs.Given.{group_given_earlier, group_given_longer}
use Rattle.command_groups.proofs.Stand.{fresh_tries, groups_stand_still, groups_try_still}
use Rattle.command_groups.proofs.Words.{group_words}
use Rattle.command_groups.specs.Asking.{GroupsAsked, with_retries}
use Rattle.command_groups.specs.Groups.{stores_of}
use Rattle.command_groups.specs.Opened.{AreUnused, IsFresh, IsGroupGiven, files_in, with_group}
use Rattle.command_steps.proofs.Asking.{none_more}
use Rattle.command_steps.proofs.Consulted.{consults_twice}
use Rattle.command_steps.specs.AnyStores.{source_faults}
use Rattle.command_steps.specs.Asking.{AsksOnly, WorkersDialed}
use Rattle.command_steps.specs.Sources.{ConsultsStores, Storage}
use Rattle.command_steps.specs.Turns.{GivenInTurn}
use Rattle.command_steps.specs.declared.any_store.AnyStore.{AnyStore}
use Rattle.command_words.specs.declared.command.Location.{Location}
use Rattle.dsy_base.specs.Links.{DialState, Traffic}
use Rattle.dsy_base.specs.declared.look.Look.{Ghosts as LookWords}
use Rattle.store_chain.specs.Chains.{Chained}
use Rattle.store_group.specs.Groups.{Grouped}

-- what holds of the stores of chains, one after the other, holds of them all
pub zip_stores : {S : Type 0} (R : List S → List S → Type 0) (cs ds : List (Chained S)) → length cs ≡ length ds → ((n : ℕ) (x : Chained S) → n < length cs → R (slice_index_or cs n x).stores (slice_index_or ds n x).stores) → AllZip R (each_stores cs) (each_stores ds)
zip_stores R [] [] many each = tt
zip_stores R [] (d ∷ ds) many each = absurd (omega (arith, many))
zip_stores R (c ∷ cs) [] many each = absurd (omega (arith, many))
zip_stores R (c ∷ cs) (d ∷ ds) many each = (each 0 c (omega arith), zip_stores R cs ds (omega (arith, many)) (λ n x less. each (suc n) x (omega (arith, less))))

module _ {L D K : Type 0} (look : LookWords L) (state : D → DialState) where
  abbrev Words : StoreWords (Grouped (AnyStore L D K))
  Words = group_words look state

  abbrev AllFresh : ℕ → Chained (Grouped (AnyStore L D K)) → Type 0
  AllFresh again c = All (IsFresh (source_faults look.faults state) again) c.stores

  -- a chain stands where it stood
  pub chain_stands : (ls : List Listing) (c d : Chained (Grouped (AnyStore L D K))) → AsksListings Words ls c d → chain_groups look d ≡ chain_groups look c
  chain_stands ls c d h = groups_stand_still look.place c.stores d.stores h.keeps.places

  pub chains_stand : (ls : List Listing) (names : List (List Location)) (cs ds : List (Chained (Grouped (AnyStore L D K)))) → AllZip (AsksListings Words ls) cs ds → All (λ c. chain_groups look c ≡ names) cs → All (λ d. chain_groups look d ≡ names) ds
  chains_stand ls names cs ds zip at = λ n d lt.
      let inside : n < length cs = omega (arith, lt, length_all_zip (AsksListings Words ls) cs ds zip) in
      chain_stands ls (slice_index_or cs n d) (slice_index_or ds n d) (AllZip-get_or (AsksListings Words ls) cs ds n d d zip inside) ∙ at n d inside

  -- its calls are made as often again
  pub chain_tries : (ls : List Listing) (again : ℕ) (c d : Chained (Grouped (AnyStore L D K))) → AsksListings Words ls c d → AllFresh again c → All (λ g. g.retries ≡ again) d.stores
  chain_tries ls again c d h fresh = groups_try_still look.place again c.stores d.stores h.keeps.places (fresh_tries (source_faults look.faults state) again c.stores fresh)

  -- its folders hold what they held
  pub chain_files : (ls : List Listing) (c d : Chained (Grouped (AnyStore L D K))) → AsksListings Words ls c d → map (files_in look.files) d.stores ≡ map (files_in look.files) c.stores
  chain_files ls c d h = h.keeps.folders

  abbrev Few : (List ℕ → ℕ) → Chained (Grouped (AnyStore L D K)) → Chained (Grouped (AnyStore L D K)) → Type 0
  Few times c d = AllZip (λ a b. (q : List ℕ) → Words.asked b q ≤ Words.asked a q + times q) c.stores d.stores

  -- the connections of one
  pub chain_dialed : (ls : List Listing) (times : List ℕ → ℕ) (names : List (List Location)) (again : ℕ) (c d : Chained (Grouped (AnyStore L D K))) (old new : Option (List Traffic)) → AsksListings Words ls c d → Few times c d → All (AreUnused state) c.stores → AllFresh again c → chain_groups look c ≡ names → new ≡ fold (with_group state) old d.stores
      → GroupsAsked again times (λ id. 0) (IsGetAmong ls) names old new
  chain_dialed ls times names again c d old new h few unused fresh at ended =
      let stands = chain_stands ls c d h in
      groups_asked look.place state again times (λ id. 0) (IsGetAmong ls) c.stores d.stores names old new unused (chain_tries ls again c d h fresh) stands
      few (none_more Words.queried c.stores d.stores h.heads) h.keeps.sends (stands ∙ at) ended

  -- those of all: the further workers', and then the first one's
  pub all_dialed : (ls : List Listing) (shares : ℕ → List ℕ → ℕ) (names : List (List Location)) (again : ℕ) (c d : Chained (Grouped (AnyStore L D K))) (cs ds : List (Chained (Grouped (AnyStore L D K)))) (w u : Storage) (new : Option (List Traffic)) → AsksListings Words ls c d → AllZip (AsksListings Words ls) cs ds → ByNumber (λ k. Few (shares k)) 0 (c ∷ cs) (d ∷ ds)
      → All (λ x. All (AreUnused state) x.stores) (c ∷ cs) → All (AllFresh again) (c ∷ cs) → chain_groups look c ≡ names → All (λ x. chain_groups look x ≡ names) cs → GivenInTurn (IsChainGiven look state) ds w u → new ≡ fold (with_group state) u.dial.ended d.stores
      → WorkersDialed (λ n. AsksOnly (with_retries again (shares n)) (with_retries again (λ id. 0)) (IsGetAmong ls)) (1 + length ds) (stores_of names) w.dial.ended new
  all_dialed ls shares names again c d cs ds w u new h zip few unused fresh at all turn ended =
      groups_turn_dialed (IsChainGiven look state) (λ n. AsksOnly (with_retries again (shares n)) (with_retries again (λ id. 0)) (IsGetAmong ls)) (stores_of names) 1 ds w u new turn
      (λ i x lt a b is.
      let inside : i < length cs = omega (arith, lt, length_all_zip (AsksListings Words ls) cs ds zip) in
      chain_dialed ls (shares (1 + i)) names again (slice_index_or cs i x) (slice_index_or ds i x) a.dial.ended b.dial.ended (AllZip-get_or (AsksListings Words ls) cs ds i x x zip inside) (number_at (λ k. Few (shares k)) 1 cs ds i x x few.1 inside)
      (unused (suc i) x (omega (arith, inside))) (fresh (suc i) x (omega (arith, inside))) (all i x inside) is.ended)
      (new, chain_dialed ls (shares 0) names again c d u.dial.ended new h few.0 (unused 0 c (omega arith)) (fresh 0 c (omega arith)) at ended, refl)

  -- ---- they were consulted

  pub all_consulted : (names : List (List Location)) (ds : List (Chained (Grouped (AnyStore L D K)))) (w u v : Storage) → All (λ x. chain_groups look x ≡ names) ds → GivenInTurn (IsChainGiven look state) ds w u → ConsultsStores (stores_of names) u v → ConsultsStores (stores_of names) w v
  all_consulted names ds w u v all turn last =
      let before = chains_consult look state names ds w u all turn in
      (consults_twice w u v before.0 last.0, λ t. last.1 t ∙ before.1 t)

  pub all_given : (names : List (List Location)) (ds : List (Chained (Grouped (AnyStore L D K)))) (xs : List (Grouped (AnyStore L D K))) (w u v : Storage) → All (λ x. chain_groups look x ≡ names) ds → GivenInTurn (IsChainGiven look state) ds w u → ConsultsStores (stores_of names) u v
      → All (IsGroupGiven look.place look.faults state u v) xs → All (IsGroupGiven look.place look.faults state w v) xs
  all_given names ds xs w u v all turn last given =
      let before = chains_consult look state names ds w u all turn in
      λ n g lt. group_given_earlier look.place look.faults state w u v before.0.disk.folder_counts before.0.dial last.0.dial (slice_index_or xs n g) (given n g lt)

  -- what one of them has counted was given back
  pub chain_given : (names : List (List Location)) (ds : List (Chained (Grouped (AnyStore L D K)))) (w u : Storage) → All (λ x. chain_groups look x ≡ names) ds → GivenInTurn (IsChainGiven look state) ds w u → (n : ℕ) (x : Chained (Grouped (AnyStore L D K))) → n < length ds
      → All (IsGroupGiven look.place look.faults state w u) (slice_index_or ds n x).stores
  chain_given names [] w u all turn n x less = absurd (omega (arith, less))
  chain_given names (d ∷ ds) w u all turn zero x less =
      let rest = chains_consult look state names ds w turn.0 (λ m y lt. all (suc m) y (omega (arith, lt))) turn.1 in
      λ m g lt. group_given_earlier look.place look.faults state w turn.0 u rest.0.disk.folder_counts rest.0.dial turn.2.consults.0.dial (slice_index_or d.stores m g) (turn.2.groups m g lt)
  chain_given names (d ∷ ds) w u all turn (suc n) x less =
      let before = chain_given names ds w turn.0 (λ m y lt. all (suc m) y (omega (arith, lt))) turn.1 n x (omega (arith, less)) in
      let rest = chains_consult look state names ds w turn.0 (λ m y lt. all (suc m) y (omega (arith, lt))) turn.1 in
      λ m g lt. group_given_longer look.place look.faults state w turn.0 u turn.2.consults.0.disk.folder_counts rest.0.dial turn.2.consults.0.dial (slice_index_or (slice_index_or ds n x).stores m g) (before m g lt)

  -- also once the first worker's were given back
  pub chain_given_then : (names : List (List Location)) (ds : List (Chained (Grouped (AnyStore L D K)))) (w u v : Storage) → All (λ x. chain_groups look x ≡ names) ds → GivenInTurn (IsChainGiven look state) ds w u → ConsultsStores (stores_of names) u v → (n : ℕ) (x : Chained (Grouped (AnyStore L D K))) → n < length ds
      → All (IsGroupGiven look.place look.faults state w v) (slice_index_or ds n x).stores
  chain_given_then names ds w u v all turn last n x less =
      let one = chain_given names ds w u all turn n x less in
      let before = chains_consult look state names ds w u all turn in
      λ m g lt. group_given_longer look.place look.faults state w u v last.0.disk.folder_counts before.0.dial last.0.dial (slice_index_or (slice_index_or ds n x).stores m g) (one m g lt)
