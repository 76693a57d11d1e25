-- What the head of a request says, whatever its target names (RFC 9112, sections 3, 6.1, 6.2 and 9.6; RFC 9110,
-- sections 7.6.1 and 9.1). The limits, the methods, and the order in which a request is judged are this project's own.
use Rattle.std.specs.Prelude.{ℕ, ◌≤◌, List, [], length, map, Result, Ok, Err, nat_lt, ◌==◌}
use Rattle.std.specs.Prelude.{if◌then◌else◌, Bool, ◌&&◌, ◌||◌, Option, Some, None, codes, is_err}
use Rattle.std.specs.List.{list_any, slice_split}
use Rattle.std.specs.Str.{bytes_eq, str_eq_ignore_ascii_case}
use Rattle.httparse.specs.Grammar.{RequestHead, ReadsRequest, trim_ows}
use Rattle.httparse.specs.Spans.{name_and_value}
use Rattle.http_wire.specs.Reply.{field_limit, notes, unframed}
use Rattle.http_wire.specs.declared.framing.Coding.{Coding}
use Rattle.http_wire.specs.declared.framing.Coding.TheVariants as coding
use Rattle.http_wire.specs.declared.framing.ContentLength.{ContentLength}
use Rattle.http_wire.specs.declared.framing.ContentLength.TheVariants as told
use Rattle.http_wire.specs.declared.framing.Framing.{Framing}
use Rattle.http_wire.specs.declared.reply.Method.{Method}
use Rattle.http_wire.specs.declared.reply.Method.TheVariants as method

-- a head that is right: httparse reads all bytes as one, with room for this many lines
pub record IsRequest (head : List ℕ) (h : RequestHead) : Type 0 where
  pub reads : ReadsRequest head h []
  pub few : length h.fields ≤ field_limit

-- what follows, unless the request is refused with a status
infixl 10 ◌>>=◌
abbrev pub ◌>>=◌ : {A B : Type 0} → Result A ℕ → (A → Result B ℕ) → Result B ℕ
(Ok x) >>= f = f x
(Err status) >>= f = Err status

-- the method of this name, in just these letters (RFC 9110, section 9.1)
abbrev pub method_of : List ℕ → Option Method
method_of name =
    if bytes_eq name (codes "GET") then Some method.Get
    else if bytes_eq name (codes "HEAD") then Some method.Head
    else if bytes_eq name (codes "PUT") then Some method.Put
    else None

-- a method that is taken
abbrev pub allowed : Bool → Option Method → Result Method ℕ
allowed writable None = Err 405
allowed writable (Some method.Put) = if writable then Ok method.Put else Err 405
allowed writable (Some m) = Ok m

-- no Transfer-Encoding is taken (RFC 9112, section 6.1)
abbrev pub uncoded : Coding → Result Unit ℕ
uncoded coding.Absent = Ok tt
uncoded coding.Chunked = Err 411
uncoded coding.Other = Err 411

-- a PUT tells the length of its body, and the others have none (RFC 9112, sections 6.2 and 6.3)
abbrev pub judged_length : ℕ → Method → ContentLength → Result Unit ℕ
judged_length limit m told.Wrong = Err 400
judged_length limit method.Put told.Absent = Err 411
judged_length limit method.Put (told.Number n) = if nat_lt limit n then Err 413 else Ok tt
judged_length limit m told.Absent = Ok tt
judged_length limit m (told.Number n) = if n == 0 then Ok tt else Err 400

-- the method, or the status of the refusal: of the first that holds
unfoldable pub judged_method : ℕ → Bool → Option Method → Framing → Result Method ℕ
judged_method limit writable name f = do
  m ← allowed writable name
  _ ← uncoded f.coding
  _ ← judged_length limit m f.told
  Ok m

-- the length of the body that follows: what a PUT tells
abbrev pub body_told : Option Method → ContentLength → ℕ
body_told (Some method.Put) (told.Number n) = n
body_told _ _ = 0

-- one of the words between commas is `close` (RFC 9110, section 7.6.1)
unfoldable pub has_close : List ℕ → Bool
has_close value =
    list_any (λ word. str_eq_ignore_ascii_case (trim_ows word) (codes "close")) (slice_split (λ b. b == 44) value)

-- the line asks that the connection be closed (RFC 9112, section 9.6)
abbrev pub asks_close : List ℕ × List ℕ → Bool
asks_close line = str_eq_ignore_ascii_case line.0 (codes "connection") && has_close line.1

-- what a head says: the method, or the status of the refusal; the target; whether the connection is to be closed; and
-- how many bytes follow
pub record JudgedHead : Type 0 where
  pub method : Result Method ℕ
  pub target : List ℕ
  pub close : Bool
  pub body : ℕ

-- a head with this method, target, version and lines, where a body may have this many bytes
unfoldable pub judged_head : ℕ → Bool → Option Method → List ℕ → ℕ → List (List ℕ × List ℕ) → JudgedHead
judged_head limit writable name target minor lines = record {
  method = judged_method limit writable name (notes unframed lines);
  target = target;
  close = is_err (judged_method limit writable name (notes unframed lines))
      || (minor == 0 || list_any asks_close lines);
  body = body_told name (notes unframed lines).told;
}

-- this head
abbrev pub head_of : ℕ → Bool → RequestHead → JudgedHead
head_of limit writable h =
    judged_head limit writable (method_of h.method) h.target h.minor (map name_and_value h.fields)
