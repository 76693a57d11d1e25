-- Reading the body of a message byte by byte, up to the first fault (RFC 9112, sections 6.3, 7.1 and 8). The limits are
-- this project's own.
use Rattle.std.specs.Prelude.{ℕ, ◌+◌, ◌-◌, List, [], ◌∷◌, ◌++◌, length, Result, Ok, Err, nat_lt, nat_le, ◌==◌}
use Rattle.std.specs.Prelude.{if◌then◌else◌, Bool, true, false, Option, Some, None}
use Rattle.http_frames.specs.declared.fault.WireFault.{WireFault}
use Rattle.http_frames.specs.declared.fault.WireFault.TheVariants as faults
use Rattle.http_frames.specs.declared.body.BodyKind.{BodyKind}
use Rattle.http_frames.specs.declared.body.BodyKind.TheVariants as kind
use Rattle.http_frames.specs.declared.progress.Next.{Next}
use Rattle.http_frames.specs.declared.progress.Next.TheVariants as next
use Rattle.http_frames.specs.SizeLine.{size_in}

-- what follows, unless there was a fault
infixl 10 ◌>>=◌
abbrev pub ◌>>=◌ : {A B : Type 0} → Result A WireFault → (A → Result B WireFault) → Result B WireFault
(Ok x) >>= f = f x
(Err e) >>= f = Err e

-- the most bytes of a size line, and of all lines after the last chunk, each with its end
abbrev pub line_limit : ℕ
line_limit = 256

abbrev pub trailer_limit : ℕ
trailer_limit = 16384

-- what was read: what comes next, the bytes missing of the length or of the open chunk, the unfinished size line, the
-- count of trailer bytes, and the body so far
pub record Reading : Type 0 where
  pub next : Next
  pub left : ℕ
  pub line : List ℕ
  pub trailer : ℕ
  pub body : List ℕ

-- a byte of a body by length, or of a chunk, and what comes after the last one
unfoldable pub counted : Next → Next → ℕ → Reading → ℕ → Result Reading WireFault
counted this after room r b =
    if nat_lt room (length r.body + r.left) then Err faults.BodyTooLong
    else Ok (record r { next = if nat_le r.left 1 then after else this; left = r.left - 1; body = r.body ++ b ∷ [] })

-- a byte of a body up to the end of the connection
unfoldable pub appended : ℕ → Reading → ℕ → Result Reading WireFault
appended room r b =
    if nat_le room (length r.body) then Err faults.BodyTooLong else Ok (record r { body = r.body ++ b ∷ [] })

-- a whole size line that tells this size
unfoldable pub sized : ℕ → Reading → Option ℕ → Result Reading WireFault
sized room r None = Err faults.BadChunk
sized room r (Some n) =
    if n == 0 then Ok (record r { next = next.Trailer; line = [] })
    else if nat_lt room (length r.body + n) then Err faults.BodyTooLong
    else Ok (record r { next = next.Chunk; left = n; line = [] })

-- a byte of a size line
unfoldable pub in_line : ℕ → Reading → ℕ → Result Reading WireFault
in_line room r b =
    if b == 10 then sized room r (size_in (r.line ++ b ∷ []))
    else if nat_le line_limit (length r.line + 1) then Err faults.BadChunk
    else Ok (record r { line = r.line ++ b ∷ [] })

-- this byte and no other
unfoldable pub expected : ℕ → Next → Reading → ℕ → Result Reading WireFault
expected wanted after r b = if b == wanted then Ok (record r { next = after }) else Err faults.BadChunk

-- a byte of the trailer that doesn't end it
unfoldable pub trailed : Next → Reading → Result Reading WireFault
trailed after r =
    if nat_le trailer_limit (r.trailer + 1) then Err faults.BadChunk
    else Ok (record r { next = after; trailer = r.trailer + 1 })

-- the body is whole
abbrev pub over : Reading → Reading
over r = record r { next = next.Whole }

-- one byte more, by what comes next
unfoldable pub push_at : Next → ℕ → Reading → ℕ → Result Reading WireFault
push_at next.Whole room r b = Ok r
push_at next.ToEnd room r b = appended room r b
push_at next.Length room r b = counted next.Length next.Whole room r b
push_at next.Chunk room r b = counted next.Chunk next.ChunkCr room r b
push_at next.SizeLine room r b = in_line room r b
push_at next.ChunkCr room r b = expected 13 next.ChunkLf r b
push_at next.ChunkLf room r b = expected 10 next.SizeLine r b
push_at next.Trailer room r b =
    if b == 10 then Ok (over r) else trailed (if b == 13 then next.TrailerCr else next.TrailerLine) r
push_at next.TrailerCr room r b = if b == 10 then Ok (over r) else trailed next.TrailerLine r
push_at next.TrailerLine room r b = trailed (if b == 10 then next.Trailer else next.TrailerLine) r

-- one byte more, where the body has this room
abbrev pub push_to_body : ℕ → Reading → ℕ → Result Reading WireFault
push_to_body room r b = push_at r.next room r b

-- more bytes
unfoldable pub reads_body : ℕ → Reading → List ℕ → Result Reading WireFault
reads_body room r [] = Ok r
reads_body room r (b ∷ bs) = push_to_body room r b >>= λ s. reads_body room s bs

-- what comes first, and how many bytes are missing
abbrev pub first_next : BodyKind → Next
first_next kind.None = next.Whole
first_next (kind.Length n) = if n == 0 then next.Whole else next.Length
first_next kind.Chunked = next.SizeLine
first_next kind.ToEnd = next.ToEnd

abbrev pub missing_bytes : BodyKind → ℕ
missing_bytes (kind.Length n) = n
missing_bytes _ = 0

-- before the first byte
unfoldable pub body_start : BodyKind → Reading
body_start k = record { next = first_next k; left = missing_bytes k; line = []; trailer = 0; body = [] }

-- whether the body is whole
abbrev pub is_whole : Next → Bool
is_whole next.Whole = true
is_whole _ = false

-- whether it is, where the bytes end
abbrev pub may_end : Next → Bool
may_end next.Whole = true
may_end next.ToEnd = true
may_end _ = false

-- the body that all of the bytes are, or its first fault
unfoldable pub body_in : ℕ → BodyKind → List ℕ → Result (List ℕ) WireFault
body_in room k b = do
  r ← reads_body room (body_start k) b
  if may_end r.next then Ok r.body else Err faults.CutShort
