use Rattle.std.proofs.Common.{Err, ap, subst, sym}
use Rattle.index_server.proofs.FetchedIndex.{none, whole}
use Rattle.index_server.specs.Fetching.{Fetched}
use Rattle.index_server.specs.Finding.{HasReadIndex}
use Rattle.index_server.specs.declared.fetch_index.FetchFault.{FetchFault}
use Rattle.index_server.proofs.fetch_index.fetch_index.Goals as goal

pub returns-in-Ok : goal.returns-in-Ok
returns-in-Ok g c = record {
  ends = whole c.args.host.now c.args.port c.args.path.now (g.D.Dial.state c.args.dial.now) (g.D.Dial.state c.fetch.new.dial)
      _ c.in-Ok.field-0 (λ b. HasReadIndex c.fetch.new.taker.fault c.fetch.new.taker.reader b) c.read_fetched.result
      c.read_fetched.ensures.only c.read_fetched.ensures.value c.fetch.ensures.calls c.in-Ok.ensures.ok c.in-Ok.ensures.faults;
}

pub returns-in-Err : goal.returns-in-Err
returns-in-Err g c =
    let old = g.D.Dial.state c.args.dial.now in
    let new = g.D.Dial.state c.fetch.new.dial in
    let ends = none c.args.host.now c.args.port c.args.path.now old new
    _ c.in-Err.unfetched c.fetch.ensures.calls c.in-Err.ensures.err (λ is. c.in-Err.ensures.lacking (ap Err is)) c.in-Err.ensures.faults in
    let P : FetchFault → Type 0 = λ f. Fetched c.args.host.now c.args.port c.args.path.now old (Err f) new in
    record { ends = subst P (sym c.fetch_fault.ensures) ends }
