use Rattle.std.proofs.Common.{None, Some}
use Rattle.chunk_store.specs.Kinds.{kind_number}
use Rattle.locked_proxy.specs.Chains.{maps_told, chain_places}
use Rattle.locked_proxy.proofs.serve_cache.serve_cache.Given as goal

-- the cache as it was handed in, and the digest that names its chunks
abbrev pub ghosts-serve_named-N-FolderName : goal.ghosts-serve_named-N-FolderName
ghosts-serve_named-N-FolderName g a = record {
  opening = g.F.Look.files a.cache.folder;
  place = g.F.Look.place a.cache.folder;
  faults = g.F.Look.faults a.cache.folder;
  kind = kind_number a.cache.kind;
  pairs = None;
  stores = None;
}

-- the stores as the first chain has them
abbrev pub ghosts-serve_named-P-ProxyName : goal.ghosts-serve_named-P-ProxyName
ghosts-serve_named-P-ProxyName g a = record {
  maps = maps_told g.S.Store.holds a.chains.items;
  places = Some (chain_places g.S.Store.place a.chains.items);
}
