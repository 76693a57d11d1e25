-- What is asked of stores, and what bytes show that aren't it.
use Rattle.std.specs.Prelude.{◌≡◌, ◌≢◌, ℕ, ◌<◌, ◌≤◌, List, length, take, Option, IfSome, IsSomeAnd, unwrap_or}
use Rattle.chunk_store.specs.Digests.{digest_of}
use Rattle.chunk_store.specs.declared.id.ChunkId.{ChunkId}
use Rattle.chunk_store.specs.declared.id.DigestKind.{DigestKind}
use Rattle.chunk_store.specs.declared.shows.Shows.{Shows}
use Rattle.chunk_store.specs.declared.shows.Shows.TheVariants as shows
use Rattle.store_chain.specs.declared.query.Query.{Query}

-- the chunk of this id, of this size where one is given, into this much room. If a size is given only that much is lent
abbrev pub query_of : DigestKind → ChunkId → Option ℕ → ℕ → Query
query_of kind id size room = record { kind = kind; id = id; size = size; lent = unwrap_or size room }

-- the bytes are what is wanted
pub record IsWanted (w : Query) (b : List ℕ) : Type 0 where
  pub named : digest_of w.kind b ≡ w.id.0
  pub sized : IfSome w.size (λ n. length b ≡ n)
  pub fits : length b ≤ w.lent

-- the first n bytes of a buffer are what is wanted
pub record FillsQuery (w : Query) (n : ℕ) (out : List ℕ) : Type 0 where
  pub inside : n ≤ length out
  pub wanted : IsWanted w (take n out)

-- what bytes show that aren't what is wanted: more bytes than were lent, or else another digest, or else another length
abbrev pub ShowsElse : Query → List ℕ → Shows → Type 0
ShowsElse w b shows.Longer = w.lent < length b
ShowsElse w b (shows.Digest x) = (length b ≤ w.lent) × (x.0 ≡ digest_of w.kind b) × (x.0 ≢ w.id.0)
ShowsElse w b (shows.Length n) =
    (length b ≤ w.lent) × (digest_of w.kind b ≡ w.id.0) × (n ≡ length b) × IsSomeAnd w.size (λ k. n ≢ k)
