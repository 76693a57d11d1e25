-- Views of the same bytes are alike.
use Rattle.std.proofs.Common.{◌≡◌, ℕ, Vec, Global, get_or, List, map, All, length, vec_len, Some, arith, sym, ◌∙◌, ap}
use Rattle.std.proofs.lemmas.List.Elements.{All-map}
use Rattle.dsy_base.specs.Bytes.{Held}
use Rattle.image_slices.specs.Consumers.{IsAlike}
use Rattle.slice_cases.specs.declared.gate.GatedView.{GatedView}

abbrev pub held : GatedView → Held
held v = record { bytes = Some v.view.bytes.items; size = vec_len v.view.bytes; name = v.view.name }

-- lists of equal elements are equally long
same_length : (a b : Vec ℕ Global) → a.items ≡ b.items → vec_len a ≡ vec_len b
same_length a b is = let n = ap length is in grind arith

pub all_alike : (first : GatedView) (b : List ℕ) (others : List GatedView) → first.view.bytes.items ≡ b → All (λ v. v.view.bytes.items ≡ b) others → All (IsAlike (held first)) (map held others)
all_alike first b others is same = All-map (IsAlike (held first)) held others (λ k d lt.
    let each = same k d lt ∙ sym is in (same_length (get_or others k d).view.bytes first.view.bytes each, ap Some each))
