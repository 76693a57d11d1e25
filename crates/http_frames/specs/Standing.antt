-- What a reader and its slice stand for.
use Rattle.std.specs.Prelude.{◌≡◌, ℕ, ◌+◌, ◌-◌, ◌<◌, ◌≤◌, List, ◌++◌, take, length, nat_le}
use Rattle.std.specs.Prelude.{if◌then◌else◌, Result, Ok, Err}
use Rattle.http_frames.specs.declared.fault.WireFault.{WireFault}
use Rattle.http_frames.specs.declared.fault.WireFault.TheVariants as faults
use Rattle.http_frames.specs.declared.progress.Next.{Next}
use Rattle.http_frames.specs.declared.body.BodyKind.{BodyKind}
use Rattle.http_frames.specs.Body.{Reading, reads_body, body_start, body_in}
use Rattle.http_frames.specs.Seen.{ReaderKept, reading_seen}

-- a step over this many of the first bytes, or the fault of them all
abbrev pub StepsOverFront : ℕ → Reading → List ℕ → Result ℕ WireFault → Reading → Type 0
StepsOverFront room r bytes (Ok n) s = reads_body room r (take n bytes) ≡ Ok s
StepsOverFront room r bytes (Err f) s = reads_body room r bytes ≡ Err f

-- the same of bytes that are counted, after the last of which comes `after`, without recursion
abbrev pub TakesCounted : ℕ → Next → Reading → List ℕ → Result ℕ WireFault → Reading → Type 0
TakesCounted room after r bytes (Ok n) s =
    (n ≤ r.left) × (length r.body + r.left ≤ room)
    × (s ≡ record r {
      next = if nat_le r.left n then after else r.next;
      left = r.left - n;
      body = r.body ++ take n bytes;
    })
TakesCounted room after r bytes (Err f) s = (room < length r.body + r.left) × (f ≡ faults.BodyTooLong)

-- all of the bytes are read
abbrev pub BodyGoes : {A : Type 0} → Result Reading WireFault → Result A WireFault → Reading → Type 0
BodyGoes read (Ok x) new = read ≡ Ok new
BodyGoes read (Err f) new = read ≡ Err f

-- these bytes are read without a fault, and lead to the reader and the slice
pub record StandsFor (k : BodyKind) (b : List ℕ) (h : ReaderKept) (out : List ℕ) : Type 0 where
  pub inside : h.filled ≤ length out
  pub reads : reads_body (length out) (body_start k) b ≡ Ok (reading_seen h out)

-- a reader that was fed these bytes in all, and had met no fault before the last
abbrev pub FeedAnswers : {A : Type 0} → BodyKind → List ℕ → Result A WireFault → Result ReaderKept WireFault → List ℕ
    → Type 0
FeedAnswers k b (Ok x) (Ok h) out = StandsFor k b h out
FeedAnswers k b (Ok x) (Err e) out = ⊥
FeedAnswers k b (Err f) (Ok h) out = ⊥
FeedAnswers k b (Err f) (Err e) out = (reads_body (length out) (body_start k) b ≡ Err f) × (e ≡ f)

-- the bytes end
abbrev pub BodyEnds : BodyKind → List ℕ → List ℕ → Result ℕ WireFault → Type 0
BodyEnds k b out (Ok n) = body_in (length out) k b ≡ Ok (take n out)
BodyEnds k b out (Err f) = body_in (length out) k b ≡ Err f
