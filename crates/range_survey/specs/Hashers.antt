-- What a hasher of either kind of digest was fed.
use Rattle.std.specs.Prelude.{ℕ, List}
use Rattle.chunk_store.specs.declared.id.DigestKind.{DigestKind}
use Rattle.chunk_store.specs.declared.id.DigestKind.TheVariants as kinds
use Rattle.range_survey.specs.declared.kind_hasher.KindHasher.{KindHasher}
use Rattle.range_survey.specs.declared.kind_hasher.KindHasher.TheVariants as hashers
use Rattle.sha2.specs.Hashers.{Holds256, Holds512_256}

-- the hasher is of this kind, and was fed these bytes
abbrev pub HoldsBytes : DigestKind → KindHasher → List ℕ → Type 0
HoldsBytes kinds.Sha512T256 (hashers.Sha512T256 h) fed = Holds512_256 h fed
HoldsBytes kinds.Sha256 (hashers.Sha256 h) fed = Holds256 h fed
HoldsBytes kinds.Sha512T256 (hashers.Sha256 h) fed = ⊥
HoldsBytes kinds.Sha256 (hashers.Sha512T256 h) fed = ⊥
