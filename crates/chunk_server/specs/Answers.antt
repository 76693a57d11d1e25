-- How a request is answered against the files of a folder of chunks, and which files it leaves. Statuses are those of
-- RFC 9110, section 15; when each comes is this project's own.
use Rattle.std.specs.Prelude.{ℕ, List, [], length, nat_le, if◌then◌else◌, ◌&&◌, Option, Some, None}
use Rattle.std.specs.Str.{bytes_eq}
use Rattle.caibx_fields.specs.Limits.{size_limit}
use Rattle.chunk_store.specs.Folders.{chunks}
use Rattle.chunk_store.specs.Digests.{digest_of}
use Rattle.chunk_store.specs.Paths.{path_of}
use Rattle.chunk_store.specs.declared.id.DigestKind.{DigestKind}
use Rattle.dsy_base.specs.Folders.{put_in}
use Rattle.dsy_base.specs.Maps.{Map}
pub use Rattle.http_serve.specs.Answers.{Answer, bare}
use Rattle.http_wire.specs.declared.request.Act.{Act}
use Rattle.http_wire.specs.declared.request.Act.TheVariants as act

-- the chunk, where bytes are held under its id that have its digest and aren't too many
abbrev pub chunk_held : DigestKind → List ℕ → Option (List ℕ) → Option (List ℕ)
chunk_held kind id None = None
chunk_held kind id (Some b) =
    if bytes_eq (digest_of kind b) id && nat_le (length b) size_limit then Some b else None

-- with the chunk, or with its length alone (RFC 9110, section 9.3.2)
abbrev pub with_chunk : Option (List ℕ) → Answer
with_chunk None = bare 404
with_chunk (Some b) = record { status = 200; size = length b; body = b }

abbrev pub with_length : Option (List ℕ) → Answer
with_length None = bare 404
with_length (Some b) = record { status = 200; size = length b; body = [] }

-- the answer against these files
unfoldable pub answer_to : DigestKind → Map (List ℕ) → Act → List ℕ → Answer
answer_to kind files (act.Get id) body = with_chunk (chunk_held kind id.0 (chunks files id.0))
answer_to kind files (act.Head id) body = with_length (chunk_held kind id.0 (chunks files id.0))
answer_to kind files (act.Put id) body = bare (if bytes_eq (digest_of kind body) id.0 then 200 else 400)
answer_to kind files act.Lost body = bare 404
answer_to kind files (act.Refuse status) body = bare status

-- and the files that it leaves: a PUT of bytes of the name puts them under it
unfoldable pub files_after : DigestKind → Map (List ℕ) → Act → List ℕ → Map (List ℕ)
files_after kind files (act.Get id) body = files
files_after kind files (act.Head id) body = files
files_after kind files (act.Put id) body =
    if bytes_eq (digest_of kind body) id.0 then put_in files (path_of id.0) body else files
files_after kind files act.Lost body = files
files_after kind files (act.Refuse status) body = files
