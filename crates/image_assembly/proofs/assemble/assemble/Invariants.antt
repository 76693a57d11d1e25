use Rattle.std.proofs.Common.{ℕ, List, [], Option, Some, None, vec_len}
use Rattle.cache_store.specs.Shelves.{Shelf}
use Rattle.chunk_sources.specs.Caches.{cache_faults, cached_in, seen}
use Rattle.chunk_store.specs.Members.{maps_of}
use Rattle.dsy_base.specs.Maps.{Map}
use Rattle.image_workers.specs.Shared.{all_stores, pairs_of}
use Rattle.caibx_codec.specs.Listing.{image_length, kind_of}
use Rattle.chunk_store.specs.Kinds.{kind_number}
use Rattle.dsy_base.specs.Bytes.{resized}
use Rattle.image_assembly.proofs.Picking.{picked}
use Rattle.image_assembly.proofs.Planned.{plan_of}
use Rattle.image_assembly.proofs.assemble.assemble.Given as goal

-- the base of a target with these bytes; none where they aren't told
unfoldable pub base_of : Option (List ℕ) → ℕ → List ℕ
base_of None n = []
base_of (Some y) n = resized y n

-- the run is over this index and this target, and what may be filled is as the target, the cache and the kits tell
abbrev pub ghosts-assemble_named-R-RunName : goal.ghosts-assemble_named-R-RunName
ghosts-assemble_named-R-RunName g a = record {
  run = picked g.S.Store g.V.View g.T.View.tells (record { listing = a.index.now; plan = plan_of a.index.now (vec_len a.kits); places = a.places.now }) (base_of (g.T.View.held a.target).bytes (image_length a.index.now))
      (cached_in (seen g.F.Look a.cache)) a.kits.items;
}

abbrev pub files_of : Option Shelf → Option (Map (List ℕ))
files_of None = None
files_of (Some s) = s.files

abbrev pub place_of : Option Shelf → List ℕ
place_of None = []
place_of (Some s) = s.place

-- the folder of the cache as it is handed in. What the index lists may be added, if a store of some kit holds it
abbrev pub ghosts-assemble_named-N-FolderName : goal.ghosts-assemble_named-N-FolderName
ghosts-assemble_named-N-FolderName g a = record {
  opening = files_of (seen g.F.Look a.cache);
  place = place_of (seen g.F.Look a.cache);
  faults = cache_faults (seen g.F.Look a.cache);
  kind = kind_number (kind_of a.index.now);
  pairs = Some (pairs_of a.index.now);
  stores = maps_of g.S.Store.members (all_stores a.kits.items);
}
