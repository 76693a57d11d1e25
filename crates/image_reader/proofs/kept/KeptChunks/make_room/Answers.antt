use Rattle.std.proofs.Common.{◌≡◌, ◌-◌, length, take, arith, ap, subst, ◌∙◌}
use Rattle.std.specs.Map.{keys_of}
use Rattle.image_reader.proofs.Entries.{keys_take, seen, seen_with}
use Rattle.image_reader.specs.Keeping.{Kept}
use Rattle.image_reader.proofs.kept.KeptChunks.make_room.Goals as goal

pub returns : goal.returns
returns c =
    let i = c.self.inside in
    let full : length i.chunks.entries ≡ i.chunks.cap = omega (arith, c.get.ensures.value, c.cap.ensures, c.len.ensures.len, c.len.ensures.valid.1) in
    let P : Kept → Type 0 = λ k. seen i.kind c.pop_lru-oldest.new.self ≡ record k { wants = take (k.keep - 1) k.wants } in
    subst P c.self.view_is (seen_with i.kind i.chunks.cap c.pop_lru-oldest.new.self (take (length i.chunks.entries - 1) i.chunks.entries) _ c.pop_lru-oldest.ensures.entries (keys_take (length i.chunks.entries - 1) i.chunks.entries ∙ ap (λ n. take (n - 1) (keys_of i.chunks.entries)) full))
