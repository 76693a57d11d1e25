-- What was received.
use Rattle.http_serve.specs.Protocols.{Asked}
use Rattle.http_serve.specs.declared.receiving.Received.{Received}

-- as a request with its body
abbrev pub asked_of : {R : Type 0} → Received R → Asked R
asked_of r = record { request = r.request; body = r.body.items }
