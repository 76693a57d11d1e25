-- The steps of a server of a cache, one after the other.
use Rattle.std.proofs.Common.{◌≡◌, ◌==◌, ◌⊎◌, ℕ, List, Some, Result, Ok, Err, refl, inl, inr}
use Rattle.chunk_store.specs.declared.id.DigestKind.{DigestKind}
use Rattle.command_groups.specs.Groups.{stores_of}
use Rattle.command_outcome.specs.declared.outcome.Outcome.{Outcome}
use Rattle.command_steps.specs.Cache.{CacheOpened}
use Rattle.command_steps.specs.Sources.{SourcesOpened, storage}
use Rattle.command_words.specs.declared.command.Location.{Location}
use Rattle.command_worlds.specs.Worlds.{world}
use Rattle.dsy_base.specs.Disk.{Disk, Output}
use Rattle.dsy_base.specs.Links.{DialState}
use Rattle.proxy_command.specs.ProxyServing.{LookTypes, ProxyServed, ProxyServerEnds}
use Rattle.server_commands.specs.Serving.{Heard}

module _ (looks : LookTypes) (h : Heard) (groups : List (List Location)) (again : ℕ) (cache : List ℕ) (kind : DigestKind) (workers : ℕ) (p : Output) where
  pub proxy_ends : (k j : DialState) (b c d e : Disk) (r : Result Unit Outcome) → SourcesOpened (stores_of groups) b (Ok tt) c → CacheOpened (stores_of groups) (Some cache) c (Ok tt) d
      → ProxyServed looks h groups again cache kind (workers == 1) (storage d k) r (storage e j) → ProxyServerEnds looks h groups again cache kind workers (world b k p) r (world e j p)
  proxy_ends k j b c d e (Ok u) opened taken served =
      record { disk = c; dial = k; out = p; gave = tt; did = (opened, refl, refl); then = record { disk = d; dial = k; out = p; gave = tt; did = (taken, refl, refl); then = (served, refl) } }
  proxy_ends k j b c d e (Err o) opened taken served =
      inr (record { disk = c; dial = k; out = p; gave = tt; did = (opened, refl, refl); then = inr (record { disk = d; dial = k; out = p; gave = tt; did = (taken, refl, refl); then = (served, refl) }) })

  -- the stores weren't opened, or then the folder of the cache wasn't reached
  pub none_heard : (k : DialState) (b e : Disk) (o : Outcome) → h.new ≡ h.old → SourcesOpened (stores_of groups) b (Err o) e ⊎ ((m : Disk) × SourcesOpened (stores_of groups) b (Ok tt) m × CacheOpened (stores_of groups) (Some cache) m (Err o) e)
      → ProxyServerEnds looks h groups again cache kind workers (world b k p) (Err o) (world e k p)
  none_heard k b e o unheard (inl none) = inl ((none, unheard), refl, refl)
  none_heard k b e o unheard (inr (m, opened, none)) = inr (record { disk = m; dial = k; out = p; gave = tt; did = (opened, refl, refl); then = inl ((none, unheard), refl, refl) })
