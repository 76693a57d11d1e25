-- The JSON text of the figures.
use Rattle.std.proofs.Common.{◌≡◌, ℕ, List, [], ◌∷◌, ◌++◌, Option, Some, None, false, refl, ap, ◌∙◌, append_assoc}
use Rattle.serde_json.specs.Data.{Data}
use Rattle.serde_json.specs.Written.{compact_text, has_float}
use Rattle.serde_json.proofs.OnLiterals.{serde_json_on_literals}
use Rattle.caibx_codec.specs.Listing.{Listing}
use Rattle.verify_tool.specs.Figures.{index_figures, data_of}
use Rattle.verify_tool.specs.Texts.{text_of_info}
use Rattle.verify_tool.specs.declared.info.Figures.{Figures}

pub no_float : (f : Figures) (in_store : Option ℕ) → has_float (data_of f in_store) ≡ false
no_float f None = refl
no_float f (Some n) = refl

pub text_is : (l : Listing) (in_store : Option ℕ) → compact_text (data_of (index_figures l) in_store) ++ 10 ∷ [] ≡ text_of_info l in_store
unfolding serde_json_on_literals text_of_info
text_is l None = simp append_assoc refl
text_is l (Some n) = simp append_assoc refl

-- the line is the text of the object and a line feed
pub line_is : (l : Listing) (in_store : Option ℕ) (f : Figures) (d : Data) (text line : List ℕ) → f ≡ index_figures l → d ≡ data_of f in_store → (has_float d ≡ false → text ≡ compact_text d) → line ≡ text ++ 10 ∷ [] → line ≡ text_of_info l in_store
line_is l in_store f d text line figures built printed ended =
    let whole : d ≡ data_of (index_figures l) in_store = built ∙ ap (λ x. data_of x in_store) figures in
    let none : has_float d ≡ false = ap has_float whole ∙ no_float (index_figures l) in_store in
    ended ∙ ap (λ t. t ++ 10 ∷ []) (printed none ∙ ap compact_text whole) ∙ text_is l in_store
