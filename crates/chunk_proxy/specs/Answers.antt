-- How a request is answered from a cache and from what stores hold, and what it leaves. Statuses are those of RFC 9110,
-- section 15; when each comes is this project's own.
use Rattle.std.specs.Prelude.{◌≡◌, ℕ, ◌⊎◌, List, [], ◌∷◌, Option, Some, None}
use Rattle.chunk_server.specs.Answers.{Answer, bare, chunk_held, with_chunk, with_length}
use Rattle.chunk_server.specs.Shelves.{GivesLength, RepliesChunk}
use Rattle.chunk_store.specs.Folders.{chunks}
use Rattle.chunk_store.specs.Paths.{path_of}
use Rattle.chunk_store.specs.declared.id.DigestKind.{DigestKind}
use Rattle.dsy_base.specs.Counts.{raised}
use Rattle.dsy_base.specs.Folders.{put_in}
use Rattle.dsy_base.specs.Maps.{Map}
use Rattle.http_serve.specs.Steps.{AnswersOrFails, RunsShort, ServedState}
use Rattle.http_wire.specs.declared.request.Act.{Act}
use Rattle.http_wire.specs.declared.request.Act.TheVariants as act
use Rattle.chunk_proxy.specs.States.{AreCachesAlike, ProxyFiles}

-- the first of two chunks that is there
abbrev pub given_or : Option (List ℕ) → Option (List ℕ) → Option (List ℕ)
given_or None other = other
given_or (Some b) other = Some b

-- the chunk that the cache holds: bytes of the digest, at most 64 MiB
abbrev pub given_by_cache : DigestKind → ProxyFiles → List ℕ → Option (List ℕ)
given_by_cache kind f id = chunk_held kind id (chunks f.cache id)

-- the chunk as the first store has it that holds such bytes
unfoldable pub given_by_stores : DigestKind → List (Map (List ℕ)) → List ℕ → Option (List ℕ)
given_by_stores kind [] id = None
given_by_stores kind (m ∷ ms) id = given_or (chunk_held kind id (m id)) (given_by_stores kind ms id)

-- the chunk that is given
abbrev pub chunk_given : DigestKind → List (Map (List ℕ)) → ProxyFiles → List ℕ → Option (List ℕ)
chunk_given kind maps f id = given_or (given_by_cache kind f id) (given_by_stores kind maps id)

-- the answer
unfoldable pub proxy_answer : DigestKind → List (Map (List ℕ)) → ProxyFiles → Act → Answer
proxy_answer kind maps f (act.Get id) = with_chunk (chunk_given kind maps f id.0)
proxy_answer kind maps f (act.Head id) = with_length (chunk_given kind maps f id.0)
proxy_answer kind maps f (act.Put id) = bare 404
proxy_answer kind maps f act.Lost = bare 404
proxy_answer kind maps f (act.Refuse status) = bare status

-- the cache once the stores gave this
abbrev pub filled : Map (List ℕ) → List ℕ → Option (List ℕ) → Map (List ℕ)
filled cache id None = cache
filled cache id (Some b) = put_in cache (path_of id) b

-- what is left by a request for a chunk, where the cache holds the first of these, and the stores the second: where the
-- cache holds none, the stores are asked once, and what they give is put into the cache
abbrev pub sought : Option (List ℕ) → Option (List ℕ) → ProxyFiles → List ℕ → ProxyFiles
sought (Some b) other f id = f
sought None other f id = record { cache = filled f.cache id other; asks = raised f.asks 1 }

-- what a request leaves
unfoldable pub proxy_after : DigestKind → List (Map (List ℕ)) → ProxyFiles → Act → ProxyFiles
proxy_after kind maps f (act.Get id) = sought (given_by_cache kind f id.0) (given_by_stores kind maps id.0) f id.0
proxy_after kind maps f (act.Head id) = sought (given_by_cache kind f id.0) (given_by_stores kind maps id.0) f id.0
proxy_after kind maps f (act.Put id) = f
proxy_after kind maps f act.Lost = f
proxy_after kind maps f (act.Refuse status) = f

-- ---- over any cache and stores

-- the request was answered so
abbrev pub AnswersThrough : DigestKind → List (Map (List ℕ)) → ServedState ProxyFiles → Act → Answer
    → ServedState ProxyFiles → Type 0
AnswersThrough kind maps old a r new =
    AnswersOrFails (λ f. proxy_answer kind maps f a) (λ f. proxy_after kind maps f a) AreCachesAlike old r new

-- there was no memory: all is as before the step, or as after it
abbrev pub LacksThrough : DigestKind → List (Map (List ℕ)) → ServedState ProxyFiles → Act → ServedState ProxyFiles
    → Type 0
LacksThrough kind maps old a new = RunsShort (λ f. proxy_after kind maps f a) AreCachesAlike old new

-- what may be answered
abbrev pub IsProxyAnswer : DigestKind → Act → Answer → Type 0
IsProxyAnswer kind (act.Get id) r = RepliesChunk kind id.0 r ⊎ ((r ≡ bare 404) ⊎ (r ≡ bare 500))
IsProxyAnswer kind (act.Head id) r = GivesLength r ⊎ ((r ≡ bare 404) ⊎ (r ≡ bare 500))
IsProxyAnswer kind (act.Put id) r = r ≡ bare 404
IsProxyAnswer kind act.Lost r = r ≡ bare 404
IsProxyAnswer kind (act.Refuse status) r = r ≡ bare status
