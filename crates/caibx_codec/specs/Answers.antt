-- What calls that read an index may answer.
use Rattle.std.specs.Prelude.{◌≡◌, ℕ, List, Result, Ok, Err, Some, None, drop}
use Rattle.caibx_fields.specs.declared.fault.IndexFault.{IndexFault}
use Rattle.caibx_codec.specs.declared.reading.ReadFault.{ReadFault}
use Rattle.caibx_codec.specs.declared.reading.ReadFault.TheVariants as errors
use Rattle.caibx_codec.specs.declared.reading.ViewFault.{ViewFault}
use Rattle.caibx_codec.specs.declared.reading.ViewFault.TheVariants as viewed
use Rattle.caibx_codec.specs.Listing.{Listing}
use Rattle.caibx_codec.specs.Spelling.{IsIndexFile}
use Rattle.caibx_codec.specs.Reading.{Read, reads_index, first_fault, index_in}

-- a step of reading that leads to `read` stopped for this reason
abbrev pub ReadStops : ReadFault → Result Read IndexFault → Type 0
ReadStops (errors.Bad f) read = read ≡ Err f
ReadStops errors.Memory read = Unit {0}
ReadStops errors.Over read = ⊥

-- such a step was made and left `new`, or stopped
abbrev pub ReadGoes : {A : Type 0} → Result Read IndexFault → Result A ReadFault → Read → Type 0
ReadGoes read (Ok x) new = read ≡ Ok new
ReadGoes read (Err e) new = ReadStops e read

-- a step took some of these bytes, from the first on, and left `new`, or stopped
abbrev pub ReadsSome : Read → List ℕ → Result ℕ ReadFault → Read → Type 0
ReadsSome old bytes (Ok n) new = reads_index old bytes ≡ reads_index new (drop n bytes)
ReadsSome old bytes (Err e) new = ReadStops e (reads_index old bytes)

-- a reader was fed these bytes in all, and had not refused before the last
abbrev pub Judges : {A : Type 0} → List ℕ → Result A ReadFault → Type 0
Judges bytes (Ok x) = first_fault bytes ≡ None
Judges bytes (Err (errors.Bad f)) = first_fault bytes ≡ Some f
Judges bytes (Err errors.Memory) = Unit {0}
Judges bytes (Err errors.Over) = ⊥

-- a reader was fed these bytes in all without a refusal
abbrev pub ReadEnds : List ℕ → Result Listing ReadFault → Type 0
ReadEnds bytes (Ok i) = index_in bytes ≡ Ok i
ReadEnds bytes (Err (errors.Bad f)) = index_in bytes ≡ Err f
ReadEnds bytes (Err errors.Memory) = ⊥
ReadEnds bytes (Err errors.Over) = ⊥

-- its answer is right
abbrev pub FindsIndex : List ℕ → Result Listing ReadFault → Type 0
FindsIndex bytes (Ok i) = IsIndexFile bytes i
FindsIndex bytes (Err (errors.Bad f)) = (l : Listing) → IsIndexFile bytes l → ⊥
FindsIndex bytes (Err errors.Memory) = Unit {0}
FindsIndex bytes (Err errors.Over) = Unit {0}

-- a fault of the bytes that were read so far
abbrev pub ShowsBy : List ℕ → ViewFault → Type 0
ShowsBy bytes (viewed.Bad f) = first_fault bytes ≡ Some f
ShowsBy bytes viewed.Memory = Unit {0}
ShowsBy bytes viewed.Failed = Unit {0}

-- bytes of a view were read, up to and with these
abbrev pub ShowsFault : {A : Type 0} → List ℕ → Result A ViewFault → Type 0
ShowsFault bytes (Ok x) = first_fault bytes ≡ None
ShowsFault bytes (Err e) = ShowsBy bytes e

-- a fault of all bytes
abbrev pub StopsBy : List ℕ → ViewFault → Type 0
StopsBy bytes (viewed.Bad f) = index_in bytes ≡ Err f
StopsBy bytes viewed.Memory = Unit {0}
StopsBy bytes viewed.Failed = Unit {0}

-- a front of the bytes was read
abbrev pub StopsIn : {A : Type 0} → List ℕ → Result A ViewFault → Type 0
StopsIn bytes (Ok x) = Unit {0}
StopsIn bytes (Err e) = StopsBy bytes e

-- a view with these bytes was read: its first fault, and that the answer is right
abbrev pub FirstIn : List ℕ → Result Listing ViewFault → Type 0
FirstIn bytes (Ok i) = index_in bytes ≡ Ok i
FirstIn bytes (Err e) = StopsBy bytes e

-- an index whose file the bytes are; or `Bad` only if they are the file of none; or `Failed`, or `Memory`
abbrev pub ReadsIndex : List ℕ → Result Listing ViewFault → Type 0
ReadsIndex bytes (Ok i) = IsIndexFile bytes i
ReadsIndex bytes (Err (viewed.Bad f)) = (l : Listing) → IsIndexFile bytes l → ⊥
ReadsIndex bytes (Err viewed.Memory) = Unit {0}
ReadsIndex bytes (Err viewed.Failed) = Unit {0}
