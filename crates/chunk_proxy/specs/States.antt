-- What a cache before stores answers from.
use Rattle.std.specs.Prelude.{ℕ, List, [], ◌∷◌, length, map, nat_le, not, ◌&&◌, ◌||◌, Bool, true, false}
use Rattle.std.specs.Prelude.{Option, Some, None}
use Rattle.std.specs.Option.{option_map}
use Rattle.cache_store.specs.Through.{Behind}
use Rattle.chunk_server.specs.Shelves.{AreTemporariesApart}
use Rattle.chunk_store.specs.declared.id.DigestKind.{DigestKind}
use Rattle.chunk_store.specs.declared.store.Store.{Ghosts as StoreWords}
use Rattle.dsy_base.specs.Maps.{Map}
use Rattle.http_serve.specs.Steps.{ServedState}

-- the files of the cache's folder, and how often the stores were asked for a chunk
pub record ProxyFiles : Type 0 where
  pub cache : Map (List ℕ)
  pub asks : ℕ

-- what stays as it is while it answers: the digest that names the chunks, the name that the cache's folder was taken
-- under, and what each of the stores holds, where it tells that
pub record ProxySetting : Type 0 where
  pub kind : DigestKind
  pub place : List ℕ
  pub holds : List (Option (Map (List ℕ)))

-- the caches differ in temporary files alone
abbrev pub AreCachesAlike : ProxyFiles → ProxyFiles → Type 0
AreCachesAlike f g = AreTemporariesApart f.cache g.cache

-- what is held by those that tell it
abbrev pub told_of : List (Option (Map (List ℕ))) → List (Map (List ℕ))
told_of [] = []
told_of (None ∷ more) = told_of more
told_of (Some m ∷ more) = m ∷ told_of more

-- neither the folder nor a store ever fails, each store tells what it holds, and none that gives a chunk is passed for
-- want of memory: they may have none only where there is one store
abbrev pub is_sure : {S : Type 0} → Bool → StoreWords S → List (Option (Map (List ℕ))) → Bool
is_sure never_fails store holds =
    never_fails && (store.tells && (store.never_fails && (not store.may_lack_memory || nat_le (length holds) 1)))

-- the files and the asks, where they are told
abbrev pub told_files : Bool → Option (Map (List ℕ)) → ℕ → Option ProxyFiles
told_files true files asks = option_map (λ m. record { cache = m; asks = asks }) files
told_files false files asks = None

-- a cache before stores as it is served from: told where all tell and none fails. No fault is counted
abbrev pub proxy_state : {F S : Type 0} → (F → Option (Map (List ℕ))) → Bool → StoreWords S → Behind F S
    → ServedState ProxyFiles
proxy_state files never_fails store b = record {
  files = told_files (is_sure never_fails store (map store.holds b.chain.stores)) (files b.shelf.folder) b.chain.asks;
  faults = 0;
}

-- what the stores hold, where they tell it
abbrev pub maps_in : {F S : Type 0} → StoreWords S → Behind F S → List (Map (List ℕ))
maps_in store b = told_of (map store.holds b.chain.stores)
