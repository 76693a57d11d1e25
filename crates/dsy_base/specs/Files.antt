-- What opening a name may answer.
use Rattle.std.specs.Prelude.{◌≡◌, Option, Some, None, Result, Ok, Err}
use Rattle.dsy_base.specs.declared.fault.OpenFault.{OpenFault}
use Rattle.dsy_base.specs.declared.fault.OpenFault.TheVariants as opens

-- where `there` stands under the name: an object that holds it, or Absent exactly where there is nothing
abbrev pub OpenGives : {X V : Type 0} → Option X → (V → X → Type 0) → Result V OpenFault → Type 0
OpenGives {X} there P (Ok v) = (x : X) × (there ≡ Some x) × P v x
OpenGives there P (Err opens.Absent) = there ≡ None
OpenGives there P (Err opens.Failed) = Unit {0}
OpenGives there P (Err opens.Memory) = Unit {0}

-- a call on what stands under the name, which gives nothing: Absent exactly where there is nothing
abbrev pub FoundThere : {X V : Type 0} → Option X → Result V OpenFault → Type 0
FoundThere there result = OpenGives there (λ _ _. Unit {0}) result
