-- Digests of chunks, SHA-512/256 or SHA-256 of FIPS 180-4.
use Rattle.std.specs.Prelude.{◌≡◌, ℕ, List, length}
use Rattle.hex.specs.Hex.{IsBytes}
use Rattle.sha2.specs.Sha256.{sha256}
use Rattle.sha2.specs.Sha512.{sha512_256}
use Rattle.chunk_store.specs.declared.id.DigestKind.{DigestKind}
use Rattle.chunk_store.specs.declared.id.DigestKind.TheVariants as kinds

-- the digest of the bytes
abbrev pub digest_of : DigestKind → List ℕ → List ℕ
digest_of kinds.Sha512T256 bytes = sha512_256 bytes
digest_of kinds.Sha256 bytes = sha256 bytes

-- an id: 32 bytes
pub record IsId (id : List ℕ) : Type 0 where
  pub bytes : IsBytes id
  pub size : length id ≡ 32
