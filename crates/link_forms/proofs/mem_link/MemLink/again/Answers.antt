use Rattle.std.specs.Prelude.{[]}
use Rattle.link_forms.proofs.Pieces.{copied_bytes}
use Rattle.link_forms.proofs.mem_link.MemLink.again.Goals as goal

pub returns-clause-same : goal.returns-clause-same
returns-clause-same c =
    let same = copied_bytes c.args.self.now.pieces.items c.in_ok-clone.field-0.items c.in_ok-clone.ensures.cases.0 in
    let none = c.new.ensures.items in
    λ i. record { received = []; coming = same i; sent = none i }
