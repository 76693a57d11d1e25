-- What contracts see of a reader of a body.
use Rattle.std.specs.Prelude.{ℕ, ◌<◌, List, take, Option, Some, None, Result, Ok, Err}
use Rattle.http_frames.specs.declared.fault.WireFault.{WireFault}
use Rattle.http_frames.specs.declared.progress.Next.{Next}
use Rattle.http_frames.specs.declared.progress.Next.TheVariants as next
use Rattle.http_frames.specs.declared.progress.Progress.TheInside.{Inside}
use Rattle.http_frames.specs.Body.{Reading}

-- a reader keeps all but the body, of which it knows how much is filled in
pub record ReaderKept : Type 0 where
  pub next : Next
  pub left : ℕ
  pub line : List ℕ
  pub trailer : ℕ
  pub filled : ℕ

-- what contracts see of a reader without a fault
abbrev pub kept_of : Inside → ReaderKept
kept_of p = record { next = p.next; left = p.left; line = take p.used p.line; trailer = p.trailer; filled = p.filled }

-- where the bytes that are missing are counted, there are some
abbrev pub Misses : Next → ℕ → Type 0
Misses next.Length n = 0 < n
Misses next.Chunk n = 0 < n
Misses _ n = Unit {0}

-- a size line has room for one byte more, and a byte that is counted is missing
pub record HasRoomForByte (p : Inside) : Type 0 where
  pub line : p.used < 256
  pub left : Misses p.next p.left

-- what was read, with the body so far
abbrev pub with_body : ReaderKept → List ℕ → Reading
with_body h body = record { next = h.next; left = h.left; line = h.line; trailer = h.trailer; body = body }

-- what was read, by the reader and the slice that it fills
abbrev pub reading_seen : ReaderKept → List ℕ → Reading
reading_seen h out = with_body h (take h.filled out)

-- a byte comes next that isn't one of the body
abbrev pub IsBetween : Next → Type 0
IsBetween next.Whole = ⊥
IsBetween next.ToEnd = ⊥
IsBetween next.Length = ⊥
IsBetween next.Chunk = ⊥
IsBetween _ = Unit {0}

-- a reader that has met a fault is that fault
abbrev pub standing : Option WireFault → ReaderKept → Result ReaderKept WireFault
standing None h = Ok h
standing (Some f) h = Err f
