-- What was read of the head of a request.
use Rattle.http_wire.specs.Judging.{JudgedHead}
use Rattle.http_wire.specs.declared.judging.Judged.{Judged}

-- its fields, with the bytes of the target
abbrev pub head_in : Judged → JudgedHead
head_in j = record { method = j.method; target = j.target.now; close = j.close; body = j.body }
