-- What the head of a request to a server of indexes asks for.
use Rattle.std.specs.Prelude.{ℕ, List, Result, Ok, Err, Bool, true, false, Option, Some, None}
use Rattle.caibx_fields.specs.Limits.{file_limit}
use Rattle.httparse.specs.Grammar.{RequestHead}
use Rattle.http_wire.specs.Judging.{JudgedHead, head_of}
use Rattle.http_wire.specs.IndexTarget.{name_in_target}
use Rattle.http_wire.specs.declared.reply.Method.{Method}
use Rattle.http_wire.specs.declared.reply.Method.TheVariants as method
use Rattle.http_wire.specs.declared.index_request.IndexAct.{IndexAct}
use Rattle.http_wire.specs.declared.index_request.IndexAct.TheVariants as act
use Rattle.http_wire.specs.declared.index_request.IndexRequest.{IndexRequest}

-- what is asked for
abbrev pub index_act_of : Result Method ℕ → Option (List ℕ) → IndexAct
index_act_of (Err status) name = act.Refuse status
index_act_of (Ok m) None = act.Lost
index_act_of (Ok method.Get) (Some name) = act.Get name
index_act_of (Ok method.Head) (Some name) = act.Head name
index_act_of (Ok method.Put) (Some name) = act.Put name

-- a request that isn't taken
abbrev pub is_refused : IndexAct → Bool
is_refused (act.Refuse status) = true
is_refused _ = false

-- what is asked for by a head that says this
abbrev pub index_request_from : JudgedHead → IndexRequest
index_request_from h = record { act = index_act_of h.method (name_in_target h.target); close = h.close; body = h.body }

-- what this head asks for
abbrev pub index_request_of : Bool → RequestHead → IndexRequest
index_request_of writable h = index_request_from (head_of file_limit writable h)

-- where there is no head that is right
abbrev pub bad_index_request : IndexRequest
bad_index_request = record { act = act.Refuse 400; close = true; body = 0 }
