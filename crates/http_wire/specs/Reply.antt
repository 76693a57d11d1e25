-- What the head of a reply says: its status, and which body follows (RFC 9112, sections 4 and 6.1 to 6.3). The limits,
-- and that no coding but `chunked` is taken, are this project's own.
use Rattle.std.specs.Prelude.{ℕ, ◌≤◌, List, [], ◌∷◌, length, Result, Ok, Err, nat_lt, nat_le, ◌==◌}
use Rattle.std.specs.Prelude.{if◌then◌else◌, Bool, true, ◌&&◌, ◌||◌, Option, Some, None, codes}
use Rattle.std.specs.List.{list_all}
use Rattle.std.specs.Char.{is_ascii_digit}
use Rattle.std.specs.Str.{str_eq_ignore_ascii_case}
use Rattle.std.specs.Str.Parse.{digits_value}
use Rattle.httparse.specs.Grammar.{ResponseHead, ReadsResponse}
use Rattle.http_frames.specs.declared.fault.WireFault.{WireFault}
use Rattle.http_frames.specs.declared.fault.WireFault.TheVariants as faults
use Rattle.http_frames.specs.declared.body.BodyKind.{BodyKind}
use Rattle.http_frames.specs.declared.body.BodyKind.TheVariants as kind
use Rattle.http_wire.specs.declared.framing.Coding.{Coding}
use Rattle.http_wire.specs.declared.framing.Coding.TheVariants as coding
use Rattle.http_wire.specs.declared.framing.ContentLength.{ContentLength}
use Rattle.http_wire.specs.declared.framing.ContentLength.TheVariants as told
use Rattle.http_wire.specs.declared.framing.Framing.{Framing}
use Rattle.http_wire.specs.declared.reply.Method.{Method}
use Rattle.http_wire.specs.declared.reply.Method.TheVariants as method
use Rattle.http_wire.specs.declared.reply.ReplyHead.{ReplyHead}

-- the most header lines of a head, and the most digits of a Content-Length
abbrev pub field_limit : ℕ
field_limit = 64

abbrev pub digit_limit : ℕ
digit_limit = 18

-- a head that is right: httparse reads all bytes as one, with room for this many lines
pub record IsReplyHead (head : List ℕ) (h : ResponseHead) : Type 0 where
  pub reads : ReadsResponse head h []
  pub few : length h.fields ≤ field_limit

-- the number that 1 to 18 digits write
unfoldable pub length_read : List ℕ → Option ℕ
length_read v =
    if nat_lt 0 (length v) && nat_le (length v) digit_limit && list_all is_ascii_digit v
    then Some (digits_value 10 v) else None

-- one value of Content-Length more: all must tell one number
abbrev pub agreed : ContentLength → Option ℕ → ContentLength
agreed t None = told.Wrong
agreed told.Absent (Some n) = told.Number n
agreed (told.Number m) (Some n) = if m == n then told.Number m else told.Wrong
agreed told.Wrong (Some n) = told.Wrong

-- one value of Transfer-Encoding more: there must be one, `chunked`
abbrev pub coded : Coding → List ℕ → Coding
coded coding.Absent v = if str_eq_ignore_ascii_case v (codes "chunked") then coding.Chunked else coding.Other
coded _ v = coding.Other

-- one line more
unfoldable pub note : Framing → List ℕ × List ℕ → Framing
note f line =
    if str_eq_ignore_ascii_case line.0 (codes "transfer-encoding") then record f { coding = coded f.coding line.1 }
    else if str_eq_ignore_ascii_case line.0 (codes "content-length")
    then record f { told = agreed f.told (length_read line.1) }
    else f

-- more lines, as names and values
unfoldable pub notes : Framing → List (List ℕ × List ℕ) → Framing
notes f [] = f
notes f (line ∷ lines) = notes (note f line) lines

-- before the first line
abbrev pub unframed : Framing
unframed = record { coding = coding.Absent; told = told.Absent }

-- the body by the values of Content-Length alone
abbrev pub by_length : ContentLength → Result BodyKind WireFault
by_length told.Absent = Ok kind.ToEnd
by_length (told.Number n) = Ok (kind.Length n)
by_length told.Wrong = Err faults.Framing

-- and with those of Transfer-Encoding, which come first (rule 3)
abbrev pub by_coding : Coding → ContentLength → Result BodyKind WireFault
by_coding coding.Absent t = by_length t
by_coding coding.Chunked t = Ok kind.Chunked
by_coding coding.Other t = Err faults.Framing

-- replies that have no body, whatever their lines say (section 6.3, rule 1)
abbrev pub has_no_body : Method → ℕ → Bool
has_no_body method.Head status = true
has_no_body _ status = nat_lt status 200 || status == 204 || status == 304

-- the body that follows a head of this status with these lines
unfoldable pub body_of : Method → ℕ → List (List ℕ × List ℕ) → Result BodyKind WireFault
body_of m status lines =
    if has_no_body m status then Ok kind.None
    else by_coding (notes unframed lines).coding (notes unframed lines).told

-- the status with the body, or the fault
abbrev pub replied : ℕ → Result BodyKind WireFault → Result ReplyHead WireFault
replied status (Ok k) = Ok (record { status = status; body = k })
replied status (Err f) = Err f

-- what the head of a reply with these lines says
abbrev pub reply_of : Method → ℕ → List (List ℕ × List ℕ) → Result ReplyHead WireFault
reply_of m status lines = replied status (body_of m status lines)
