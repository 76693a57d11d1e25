use Rattle.std.proofs.Common.{codes, ◌++◌, ◌∙◌, ap, append_assoc, arith}
use Rattle.std.specs.Fmt.{decimal}
use Rattle.hex.specs.Hex.{encode_lower}
use Rattle.command_outcome.proofs.Added.{adds_then, adds_within}
use Rattle.command_outcome.proofs.error_line.add_damaged.Goals as goal

pub returns : goal.returns
returns c =
    let id = encode_lower c.args.id.now.0 in
    let entry = decimal c.args.entry in
    let store = decimal c.args.store in
    let told = codes " is damaged in store " in
    adds_within (codes "chunk " ++ (id ++ (codes " of entry " ++ (entry ++ (told ++ store))))) 181
    (adds_then c.in_ok-add_chunk.field-0 c.in_ok-add_chunk.was c.add_chunk.ensures c.add_number.ensures.adds)
    (ap (λ y. codes "chunk " ++ y) (append_assoc id (codes " of entry " ++ (entry ++ told)) store ∙ ap (λ y. id ++ (codes " of entry " ++ y)) (append_assoc entry told store)))
    (omega arith)
