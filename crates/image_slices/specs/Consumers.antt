-- What a consumer and the views that read ahead of it have in common.
use Rattle.std.specs.Prelude.{◌≡◌, ℕ, ◌≤◌, All, List, slice_index}
use Rattle.caibx_codec.specs.Listing.{Listing, image_length}
use Rattle.dsy_base.specs.Bytes.{Held}
use Rattle.image_slices.specs.Ahead.{IsAhead, TellsSlice}
use Rattle.image_slices.specs.declared.ahead.Ahead.{Ahead}

-- what a view holds is the image that another one holds
abbrev pub IsAlike : Held → Held → Type 0
IsAlike h k = (k.size ≡ h.size) × (k.bytes ≡ h.bytes)

-- all views hold one image, as long as the index lists, and what is right for it may be used
pub record ReadsOneImage (l : Listing) (views : List Held) (Accepts : Ahead → Type 0) : Type 0 where
  pub image : Held
  pub size : image_length l ≡ image.size
  pub alike : All (IsAlike image) views
  pub trusted : (a : Ahead) → IsAhead l (TellsSlice l image.bytes) a → Accepts a

-- no count of the list has fallen
pub record NoFaultCountFalls (old new : List ℕ) : Type 0 where
  pub never_falls : (i : ℕ) → slice_index old i ≤ slice_index new i
