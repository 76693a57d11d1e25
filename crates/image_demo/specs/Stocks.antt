-- What a store holds that was empty before the chunks of an image were put into it.
use Rattle.std.specs.Prelude.{◌≡◌, ◌⊎◌, ◌<◌, ℕ, List, Option, Some, None, Result, Err}
use Rattle.assembler.specs.declared.fault.ExtractFault.{ExtractFault}
use Rattle.assembler.specs.declared.fault.ExtractFault.TheVariants as faults
use Rattle.caibx_codec.specs.Listing.{Listing, count_of, id_of}
use Rattle.dsy_base.specs.Maps.{Map}
use Rattle.image_demo.specs.declared.fault.DemoFault.{DemoFault}
use Rattle.image_demo.specs.declared.fault.DemoFault.TheVariants as demo
use Rattle.image_store.specs.PutChunks.{HoldsAll, IsStored}

-- under each listed id bytes of that digest, and under each id nothing or a slice of the image t
pub record IsStocked (l : Listing) (t : List ℕ) (held : Option (Map (List ℕ))) : Type 0 where
  pub map : Map (List ℕ)
  pub told : held ≡ Some map
  pub all : HoldsAll l (count_of l) map
  pub each : (q : List ℕ) → (map q ≡ None) ⊎ IsStored l t (count_of l) q (map q)

-- what an assembly refuses for is an entry with its id, where it names one
abbrev pub IsNamed : {A : Type 0} → Listing → Result A ExtractFault → Type 0
IsNamed l (Err (faults.Missing k id)) = (k < count_of l) × (id.0 ≡ id_of l k)
IsNamed l (Err (faults.Damaged k id store shows)) = (k < count_of l) × (id.0 ≡ id_of l k)
IsNamed l other = Unit {0}

-- what it then tells: nothing fails, so a chunk that no source gives shows two unequal pieces of bytes
abbrev pub demo_fault : ExtractFault → DemoFault
demo_fault (faults.Missing k id) = demo.Mismatch k id
demo_fault (faults.Damaged k id store shows) = demo.Mismatch k id
demo_fault other = demo.Memory
