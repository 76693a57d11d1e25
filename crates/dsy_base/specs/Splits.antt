-- How a target is split at cuts, and joined again. Offsets are bytes from 0, ends are exclusive.
use Rattle.std.specs.Prelude.{◌≡◌, ℕ, ◌-◌, ◌<◌, ◌≤◌, Bool, List, [], ◌∷◌, slice_range, Option, Some, None, unwrap_or}
use Rattle.std.specs.Prelude.{if◌then◌else◌}
use Rattle.std.specs.List.{flat_map}
use Rattle.std.specs.Option.{option_map}
use Rattle.dsy_base.specs.Bytes.{Held}
use Rattle.dsy_base.specs.Counts.{Rose}
use Rattle.dsy_base.specs.declared.fault.SplitFault.{SplitFault}
use Rattle.dsy_base.specs.declared.fault.SplitFault.TheVariants as faults

-- what is left of a target beside its parts
pub record Left : Type 0 where
  pub size : ℕ
  pub name : List ℕ
  pub faults : ℕ

-- how the count of a target that isn't split goes: it rises where a call failed, and stays where there was no memory
pub record CountsRefused (old new : ℕ) (fault : SplitFault) : Type 0 where
  pub never_falls : old ≤ new
  pub cause : fault ≡ faults.Failed → Rose old new
  pub unfailed : fault ≡ faults.Memory → new ≡ old

-- the cuts rise strictly from above `from`, and the last is the size
abbrev pub IsCuts : ℕ → List ℕ → ℕ → Type 0
IsCuts from [] size = from ≡ size
IsCuts from (c ∷ cs) size = (from < c) × IsCuts c cs size

-- the bytes that a part holds, where it tells them, and their number
abbrev pub extent : Held → Option (List ℕ) × ℕ
extent h = (h.bytes, h.size)

-- the extent of the bytes from offset `from` up to `to`
abbrev pub extent_at : Option (List ℕ) → ℕ → ℕ → Option (List ℕ) × ℕ
extent_at t from to = (option_map (λ b. slice_range b from to) t, to - from)

-- the extents between the cuts
abbrev pub extents : Option (List ℕ) → ℕ → List ℕ → List (Option (List ℕ) × ℕ)
extents t from [] = []
extents t from (c ∷ cs) = extent_at t from c ∷ extents t c cs

-- the bytes of parts, one after the other
abbrev pub joined : {X : Type 0} → (X → Held) → List X → List ℕ
joined held parts = flat_map (λ p. unwrap_or (held p).bytes []) parts

-- what a target holds that was joined from these bytes
abbrev pub held_joined : Left → Bool → List ℕ → Held
held_joined l tells b = record { bytes = if tells then Some b else None; size = l.size; name = l.name }
