use Rattle.std.proofs.Common.{◌≡◌, ◌∷◌, ◌-◌, List, false, take, ap, sym, subst, ◌∙◌}
use Rattle.image_reader.proofs.Got.{lacks_take, take_again}
use Rattle.image_reader.specs.Keeping.{Kept, has_want}
use Rattle.image_reader.specs.declared.want.Want.{Want}
use Rattle.image_reader.proofs.reading.read_missed.Goals as goal

pub add-requires-clause-missed : goal.add-requires-clause-missed
add-requires-clause-missed g c =
    let k = c.args.kept.now in
    let P : Kept → Type 0 = λ x. has_want x.wants c.args.want.now ≡ false in
    subst P (sym c.make_room.ensures) (lacks_take (k.keep - 1) k.wants c.args.want.now c.requires.missed)

pub returns-in-Ok-clause-changed : goal.returns-in-Ok-clause-changed
returns-in-Ok-clause-changed g c =
    let k = c.args.kept.now in
    let w = c.args.want.now in
    let P : Kept → Type 0 = λ x. c.add.new.self ≡ record x { wants = take x.keep (w ∷ x.wants) } in
    let again = λ (ws : List Want). record k { wants = ws } in
    subst P c.make_room.ensures c.in-Ok.ensures.ok ∙ ap again (take_again k.keep w k.wants)
