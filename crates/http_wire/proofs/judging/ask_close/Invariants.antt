use Rattle.std.proofs.Common.{◌≡◌, map, drop}
use Rattle.std.specs.List.{list_any}
use Rattle.httparse.specs.Spans.{header_bytes}
use Rattle.http_wire.specs.Judging.{asks_close}
use Rattle.http_wire.proofs.judging.ask_close.Given as goal

-- no line so far asks for it
abbrev pub invariant-loop-line : goal.invariant-loop-line
invariant-loop-line l =
    list_any asks_close (map (header_bytes l.head) l.lines)
    ≡ list_any asks_close (map (header_bytes l.head) (drop l.line-index l.lines))
