-- A cache that was taken, and chains of stores that were opened for the workers of a server: when they may be asked and
-- given back, and what serving leaves of them.
use Rattle.std.specs.Prelude.{◌≡◌, ℕ, ◌≤◌, Bool, false, List, [], ◌∷◌, All, length, map, max, Option, Some, IfSome}
use Rattle.std.specs.Prelude.{IsSome, IsTrue}
use Rattle.std.specs.List.{AllZip}
use Rattle.cache_store.specs.Shelves.{Shelf, Shelved}
use Rattle.chunk_proxy.specs.Leaving.{AsksForChunks}
use Rattle.chunk_proxy.specs.States.{is_sure}
use Rattle.chunk_store.specs.declared.id.DigestKind.{DigestKind}
use Rattle.chunk_store.specs.declared.store.Store.{Ghosts as StoreWords}
use Rattle.command_groups.specs.Chains.{CanGiveChain, IsChainOpened, chain_groups}
use Rattle.command_groups.specs.Opened.{AreUnused, IsFresh, files_in}
use Rattle.command_steps.specs.AnyStores.{source_faults}
use Rattle.command_steps.specs.Cache.{with_cache}
use Rattle.command_steps.specs.Sources.{location_files}
use Rattle.command_steps.specs.declared.any_store.AnyStore.{AnyStore}
use Rattle.command_words.specs.declared.command.Location.{Location}
use Rattle.dsy_base.specs.Disk.{Disk}
use Rattle.dsy_base.specs.Links.{DialState}
use Rattle.dsy_base.specs.Maps.{Map}
use Rattle.dsy_base.specs.declared.look.Look.{Ghosts as LookWords}
use Rattle.locked_proxy.specs.Chains.{IsChainOf, chain_places, maps_told}
use Rattle.locked_shelf.specs.Keepings.{KeepsOpening}
use Rattle.proxy_command.specs.ProxyServing.{Surely, group_chunks}
use Rattle.store_chain.specs.Chains.{Chained}
use Rattle.store_group.specs.Groups.{Grouped}

-- what the stores of the first chain hold, where they tell it
abbrev pub chain_chunks : {S : Type 0} → (S → Option (Map (List ℕ))) → List (Chained S) → List (Option (Map (List ℕ)))
chain_chunks holds [] = []
chain_chunks holds (c ∷ more) = map holds c.stores

-- the files of the folders of its groups, where they are told
abbrev pub chain_files : {L D K : Type 0} → (L → Option (Map (List ℕ))) → List (Chained (Grouped (AnyStore L D K)))
    → List (List (Option (Map (List ℕ))))
chain_files files [] = []
chain_files files (c ∷ more) = map (files_in files) c.stores

-- what the types of a cache's folder and of stores tell
abbrev pub sure_by_types : {S : Type 0} → Bool → StoreWords S → List (Option (Map (List ℕ))) → Surely
sure_by_types never_fails store holds = record {
  stores = store.never_fails;
  replies = is_sure never_fails store holds;
}

-- the chains name their chunks by this digest, and have the same stores
abbrev pub AreLent : {S : Type 0} → StoreWords S → DigestKind → List (Chained S) → Type 0
AreLent store kind chains =
    All (IsChainOf store kind (maps_told store.holds chains) (Some (chain_places store.place chains))) chains

-- a chain was opened for each of up to `most` workers, or for one
pub record AreWorkers {L D K : Type 0} (look : LookWords L) (state : D → DialState) (d e : Disk)
    (groups : List (List Location)) (retries : ℕ) (kind : DigestKind) (most : ℕ)
    (chains : List (Chained (Grouped (AnyStore L D K)))) : Type 0 where
  pub opened : All (IsChainOpened look state d e groups retries) chains
  pub kinds : All (λ c. c.kind ≡ kind) chains
  pub some : 1 ≤ length chains
  pub few : length chains ≤ max 1 most

-- a cache's folder was taken, and chains were opened: nothing was asked and nothing has failed yet, and all of it can
-- be given back
pub record HasReached {L D K : Type 0} (look : LookWords L) (state : D → DialState)
    (store : StoreWords (Grouped (AnyStore L D K))) (groups : List (List Location)) (retries : ℕ) (cache : List ℕ)
    (kind : DigestKind) (most : ℕ) (d : Disk) (s : Shelf) (chains : List (Chained (Grouped (AnyStore L D K))))
    : Type 0 where
  pub named : s.place ≡ cache
  pub known : IsSome (d.folder_counts cache)
  pub digest : s.kind ≡ kind
  pub some : 1 ≤ length chains
  pub few : length chains ≤ max 1 most
  pub lent : AreLent store kind chains
  pub holds : IfSome (with_cache (Some s) d).folders
      (λ m. chain_chunks store.holds chains ≡ group_chunks false look.never_fails m groups)
  pub alike : All (λ c. map (files_in look.files) c.stores ≡ chain_files look.files chains) chains
  pub found : IfSome (with_cache (Some s) d).folders
      (λ m. chain_files look.files chains ≡ map (map (location_files m)) groups)
  pub located : All (λ c. chain_groups look c ≡ groups) chains
  pub given : All (CanGiveChain look d) chains
  pub fresh : All (λ c. All (IsFresh (source_faults look.faults state) retries) c.stores) chains
  pub unused : All (λ c. All (AreUnused state) c.stores) chains

-- the cache s was served from, and is t, and the chains were asked, and lie where they lay. One after the other it is
-- known how
pub record IsProxied {F S : Type 0} (files : F → Option (Map (List ℕ))) (place : F → List ℕ) (store : StoreWords S)
    (in_turn : Bool) (s t : Shelved F) (before after : List (Chained S)) : Type 0 where
  pub named : place t.folder ≡ place s.folder
  pub kept : IfSome (files s.folder) (λ first. KeepsOpening s.kind first (files t.folder))
  pub places : All (λ c. map store.place c.stores ≡ chain_places store.place before) after
  pub asks : IsTrue in_turn → AllZip (λ b c. AsksForChunks store b.stores c.stores) before after
