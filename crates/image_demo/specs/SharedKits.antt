-- The kits of the workers that extract an image in memory: all of one store and one seed.
use Rattle.std.specs.Prelude.{◌≡◌, [], ◌∷◌, Some}
use Rattle.chunk_sources.specs.declared.kit.Kit.{Kit}
use Rattle.chunk_store.specs.declared.id.DigestKind.{DigestKind}

-- a kit that has this store alone, which was not asked yet, and a seed with this view alone. It names chunks by this
-- digest
pub record IsKitOf {S V : Type 0} (kind : DigestKind) (store : S) (view : V) (k : Kit S V) : Type 0 where
  pub chain : k.chain ≡ record { stores = store ∷ []; asks = 0; kind = kind }
  pub seeds : k.seeds.items ≡ record { view = Some view } ∷ []
