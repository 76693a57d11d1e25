-- What the head of a request to a server of chunks asks for.
use Rattle.std.specs.Prelude.{ℕ, List, Result, Ok, Err, Bool, true, false, Option, Some, None}
use Rattle.caibx_fields.specs.Limits.{size_limit}
use Rattle.httparse.specs.Grammar.{RequestHead}
use Rattle.http_wire.specs.Judging.{JudgedHead, head_of}
use Rattle.http_wire.specs.Target.{id_in}
use Rattle.http_wire.specs.declared.reply.Method.{Method}
use Rattle.http_wire.specs.declared.reply.Method.TheVariants as method
use Rattle.http_wire.specs.declared.request.Act.{Act}
use Rattle.http_wire.specs.declared.request.Act.TheVariants as act
use Rattle.http_wire.specs.declared.request.Request.{Request}

-- what is asked for
abbrev pub act_of : Result Method ℕ → Option (List ℕ) → Act
act_of (Err status) id = act.Refuse status
act_of (Ok m) None = act.Lost
act_of (Ok method.Get) (Some id) = act.Get (record { 0 = id })
act_of (Ok method.Head) (Some id) = act.Head (record { 0 = id })
act_of (Ok method.Put) (Some id) = act.Put (record { 0 = id })

-- a request that isn't taken
abbrev pub is_refusal : Act → Bool
is_refusal (act.Refuse status) = true
is_refusal _ = false

-- what is asked for by a head that says this
abbrev pub request_from : JudgedHead → Request
request_from h = record { act = act_of h.method (id_in h.target); close = h.close; body = h.body }

-- what this head asks for
abbrev pub request_of : Bool → RequestHead → Request
request_of writable h = request_from (head_of size_limit writable h)

-- where there is no head that is right
abbrev pub bad_request : Request
bad_request = record { act = act.Refuse 400; close = true; body = 0 }
