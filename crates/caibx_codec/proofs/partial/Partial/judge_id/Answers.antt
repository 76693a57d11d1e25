use Rattle.std.proofs.Common.{◌≡◌, ap, ◌∙◌, ◌∷◌, ◌++◌, []}
use Rattle.std.proofs.lemmas.List.{map_push}
use Rattle.caibx_codec.specs.Seen.{pair, pairs, read_of}
use Rattle.caibx_codec.proofs.Fields.{id_passes}
use Rattle.caibx_codec.proofs.partial.Partial.judge_id.Goals as goal

pub returns : goal.returns
returns c =
    let es = c.self.inside.entries.items in
    let more : pairs c.push.new.self.items ≡ pairs es ++ (c.self.inside.fields.end, c.copy_from_slice.new.self) ∷ [] = ap pairs c.in_ok-push.ensures.items ∙ map_push pair es _ in
    id_passes _ (read_of c.self.inside) c.self.view_is c.args.bytes.now (ap (λ r. r.fields.next) c.self.view_is ∙ c.requires.next) _ (more ∙ ap (λ id. pairs es ++ (c.self.inside.fields.end, id) ∷ []) c.copy_from_slice.ensures.after)
