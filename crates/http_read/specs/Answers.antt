-- What the answers of a connection say, where it tells what was received.
use Rattle.std.specs.Prelude.{ℕ, ◌<◌, ◌≤◌, List, length, take, Option, IfSome, Bool, true, false, Result, Ok, Err}
use Rattle.dsy_base.specs.Links.{Traffic}
use Rattle.http_read.specs.Replies.{SaysBody, SaysLonger, SaysStatus}
use Rattle.http_read.specs.declared.exchange.Got.{Got}
use Rattle.http_read.specs.declared.exchange.Got.TheVariants as got
use Rattle.http_read.specs.declared.fault.BadReply.TheVariants as bad
use Rattle.http_read.specs.declared.fault.Unanswered.{Unanswered}
use Rattle.http_read.specs.declared.fault.Unanswered.TheVariants as unanswered
use Rattle.http_read.specs.declared.fault.Unread.{Unread}
use Rattle.http_read.specs.declared.fault.Unread.TheVariants as unread
use Rattle.http_frames.specs.declared.fault.WireFault.{WireFault}
use Rattle.http_frames.specs.declared.fault.WireFault.TheVariants as faults
use Rattle.http_wire.specs.declared.reply.Method.TheVariants as method

-- what a body is that was read, or its first fault
abbrev pub got_fault : WireFault → Result Got Unanswered
got_fault faults.BodyTooLong = Ok got.Longer
got_fault f = Err (unanswered.Bad (bad.Wire f))

-- what a body that was read, or not, is of the chunk
abbrev pub got_of : Result ℕ Unread → Result Got Unanswered
got_of (Ok n) = Ok (got.Chunk n)
got_of (Err (unread.Wire f)) = got_fault f
got_of (Err unread.Failed) = Err unanswered.Failed

-- what is answered to a GET
abbrev pub AnswersGet : Got → List ℕ → Option Traffic → Type 0
AnswersGet (got.Chunk n) out traffic = (n ≤ length out) × IfSome traffic (λ t. SaysBody t (take n out))
AnswersGet got.Missing out traffic = IfSome traffic (λ t. SaysStatus method.Get t 404)
AnswersGet got.Longer out traffic = IfSome traffic (λ t. SaysLonger t (length out))

-- to a HEAD
abbrev pub AnswersHead : Bool → Option Traffic → Type 0
AnswersHead true traffic = IfSome traffic (λ t. SaysStatus method.Head t 200)
AnswersHead false traffic = IfSome traffic (λ t. SaysStatus method.Head t 404)

-- to a PUT
abbrev pub AnswersPut : Option Traffic → Type 0
AnswersPut traffic = IfSome traffic (λ t. (code : ℕ) × (200 ≤ code) × (code < 300) × SaysStatus method.Put t code)
