use Rattle.std.proofs.Common.{◌≡◌, OnOk, refl, subst}
use Rattle.image_slices.proofs.consumer.take_slices.Goals as goal

pub take_entries-taken-requires-clause-alike : goal.take_entries-taken-requires-clause-alike
take_entries-taken-requires-clause-alike g c = λ lifetimes bounds. record {
  image = g.C.EntryConsumer.image c.args.taker;
  size = c.requires.size;
  alike = c.requires.alike;
  trusted = λ a is. is;
}

pub returns-clause-on : goal.returns-clause-on
returns-clause-on g c = (c.take_entries-taken.ensures.on (record { index = c.args.index; largest = c.args.largest; taker = c.args.taker }) (refl, refl, λ first was. was)).2

pub returns-clause-image : goal.returns-clause-image
returns-clause-image g c = (c.take_entries-taken.ensures.on (record { index = c.args.index; largest = c.args.largest; taker = c.args.taker }) (refl, refl, λ first was. was)).1

pub returns-clause-going : goal.returns-clause-going
returns-clause-going g c =
    let end = c.take_entries-taken.new.consumer in
    let same = (c.take_entries-taken.ensures.on (record { index = c.args.index; largest = c.args.largest; taker = c.args.taker }) (refl, refl, λ first was. was)).0 in
    subst (λ l. OnOk c.take_entries-taken.result (g.C.EntryConsumer.can_go_on l end.taker)) same c.take_entries-taken.ensures.going
