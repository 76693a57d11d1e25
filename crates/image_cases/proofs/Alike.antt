-- Views that all hold the same are of one image.
use Rattle.std.proofs.Common.{◌≡◌, List, map, All, sym, ◌∙◌}
use Rattle.std.proofs.lemmas.List.Elements.{All-map}
use Rattle.buzhash_cut.specs.Image.{AreOfOneImage}
use Rattle.dsy_base.specs.Bytes.{Held}

pub alike_all : {V : Type 0} (H : V → Held) (vs : List V) (h : Held) → All (λ v. ((H v).size ≡ h.size) × ((H v).bytes ≡ h.bytes)) vs → AreOfOneImage (map H vs)
alike_all H vs h all i d lt j e within =
    let each = All-map (λ (k : Held). (k.size ≡ h.size) × (k.bytes ≡ h.bytes)) H vs all in
    let one = each i d lt in
    let other = each j e within in
    (other.0 ∙ sym one.0, other.1 ∙ sym one.1)
