-- How many bytes of a body may still come before it is whole or has a fault. Each chunk of one byte or more has a size
-- line and a line end, so the bound goes by the room that is left.
use Rattle.std.specs.Prelude.{ℕ, ◌+◌, ◌-◌, ◌*◌, length}
use Rattle.http_frames.specs.Body.{trailer_limit}
use Rattle.http_frames.specs.Seen.{ReaderKept}
use Rattle.http_frames.specs.declared.progress.Next.{Next}
use Rattle.http_frames.specs.declared.progress.Next.TheVariants as next

-- by what comes next, where the body has this room
unfoldable pub ahead_at : Next → ℕ → ReaderKept → ℕ
ahead_at next.Whole room h = 0
ahead_at next.ToEnd room h = room - h.filled
ahead_at next.Length room h = h.left
ahead_at next.Chunk room h = 1000 * (room - h.filled) + 16999
ahead_at next.SizeLine room h = 1000 * (room - h.filled) + (17000 + (300 - length h.line))
ahead_at next.ChunkCr room h = 1000 * (room - h.filled) + 17302
ahead_at next.ChunkLf room h = 1000 * (room - h.filled) + 17301
ahead_at next.Trailer room h = trailer_limit - h.trailer
ahead_at next.TrailerCr room h = trailer_limit - h.trailer
ahead_at next.TrailerLine room h = trailer_limit - h.trailer

-- how many bytes may come before the body is whole or has a fault
abbrev pub ahead : ℕ → ReaderKept → ℕ
ahead room h = ahead_at h.next room h
