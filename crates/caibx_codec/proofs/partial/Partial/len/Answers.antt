use Rattle.std.proofs.Common.{◌≡◌, length, rules, refl, sym, ◌∙◌}
use Rattle.std.proofs.lemmas.List.{length-map}
use Rattle.caibx_codec.specs.Seen.{pair, read_of}
use Rattle.caibx_codec.proofs.Answered.{length_is}
use Rattle.caibx_codec.proofs.partial.Partial.len.Goals as goal

pub returns : goal.returns
returns c =
    let items : c.len.result ≡ length c.self.inside.entries.items = search rules in
    length_is _ (read_of c.self.inside) c.self.view_is c.place.result c.len.result _ c.requires c.place.ensures (items ∙ sym (length-map c.self.inside.entries.items pair)) refl
