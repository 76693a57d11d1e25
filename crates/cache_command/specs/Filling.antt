-- A cache that is filled, and the chains of stores of its workers: when they may be asked, and for what they were.
use Rattle.std.specs.Prelude.{◌≡◌, ℕ, ◌+◌, ◌≤◌, List, ◌∷◌, map, Some, IfSome, IsSome, IsTrue}
use Rattle.std.specs.List.{All, AllZip}
use Rattle.cache_command.specs.Caching.{IsGetAmong, listed_times}
use Rattle.cache_store.specs.Shelves.{Shelf}
use Rattle.caibx_codec.specs.Listing.{Listing}
use Rattle.chunk_store.specs.declared.store.Store.{Ghosts as StoreWords}
use Rattle.command_groups.specs.Opened.{AreUnused, IsFresh, files_in}
use Rattle.command_indexes.specs.Places.{are_files}
use Rattle.command_indexes.specs.Spelled.{AsksInTurn}
use Rattle.command_steps.specs.AnyStores.{source_faults}
use Rattle.command_steps.specs.Cache.{with_cache}
use Rattle.command_groups.specs.Chains.{CanGiveChain, chain_groups}
use Rattle.command_steps.specs.Dials.{Dials}
use Rattle.command_steps.specs.Sources.{Storage, location_files}
use Rattle.command_steps.specs.declared.any_store.AnyStore.{AnyStore}
use Rattle.command_worlds.specs.Worlds.{Reads}
use Rattle.dsy_base.specs.Disk.{Disk}
use Rattle.dsy_base.specs.Links.{DialState}
use Rattle.dsy_base.specs.declared.look.Look.{Ghosts as LookWords}
use Rattle.store_chain.specs.Chains.{Chained, KeepsStores}
use Rattle.store_group.specs.Groups.{Grouped}

-- the stores of each chain
abbrev pub each_stores : {S : Type 0} → List (Chained S) → List (List S)
each_stores cs = map (λ c. c.stores) cs

module _ {S : Type 0} (store : StoreWords S) where
  -- the further workers' stores hold what the first worker's hold
  pub record HoldAlike (first : Chained S) (further : List (Chained S)) : Type 0 where
    pub held : All (λ c. map store.holds c.stores ≡ map store.holds first.stores) further
    pub members : All (λ c. map store.members c.stores ≡ map store.members first.stores) further

  -- each store of a chain was asked for the chunk of an id at most once for each entry that lists it, and never whether
  -- it has one, and nothing else was sent to it but fronts of such requests
  pub record AsksListings (ls : List Listing) (c d : Chained S) : Type 0 where
    pub gets : AllZip (λ a b. (id : List ℕ) → store.asked b id ≤ store.asked a id + listed_times ls id)
        c.stores d.stores
    pub heads : map store.queried d.stores ≡ map store.queried c.stores
    pub keeps : KeepsStores store (IsGetAmong ls) c.stores d.stores

-- a cache's folder was taken, and the groups of stores were opened for the first worker and the further ones: nothing
-- was asked and nothing has failed yet, and all of it can be given back
pub record JustOpened {L D K : Type 0} (look : LookWords L) (state : D → DialState) (retries : ℕ)
    (store : StoreWords (Grouped (AnyStore L D K))) (d : Disk) (cache : List ℕ) (s : Shelf)
    (first : Chained (Grouped (AnyStore L D K))) (further : List (Chained (Grouped (AnyStore L D K)))) : Type 0 where
  pub unused : All (λ c. All (AreUnused state) c.stores) (first ∷ further)
  pub fresh : All (λ c. All (IsFresh (source_faults look.faults state) retries) c.stores) (first ∷ further)
  pub given : All (CanGiveChain look d) (first ∷ further)
  pub located : All (λ c. chain_groups look c ≡ chain_groups look first) further
  pub alike : HoldAlike store first further
  pub found : All (λ c. IfSome (with_cache (Some s) d).folders (λ m.
      map (files_in look.files) c.stores ≡ map (map (location_files m)) (chain_groups look c))) (first ∷ further)
  pub cache_named : s.place ≡ cache
  pub cache_known : IsSome (d.folder_counts cache)
  pub cache_fresh : s.faults ≡ 0

-- indexes were obtained in order, as far as they were wanted: where all are files no server was asked for one, and else
-- each server on one connection at most
pub record AreHad (indexes : List (List ℕ)) (w v : Storage) : Type 0 where
  pub reads : Reads w.disk v.disk
  pub dials : Dials w.dial v.dial
  pub undialed : IsTrue (are_files indexes) → v.dial ≡ w.dial
  pub asks : AsksInTurn indexes w.dial.ended v.dial.ended
