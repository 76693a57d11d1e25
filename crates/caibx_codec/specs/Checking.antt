-- What is known of bytes that are checked, of whose items only the number is kept.
use Rattle.std.specs.Prelude.{◌≡◌, ℕ, ◌<◌, List, [], ◌++◌, length, Result, Ok, Err}
use Rattle.caibx_fields.specs.declared.fault.IndexFault.{IndexFault}
use Rattle.caibx_fields.specs.Fields.{need}
use Rattle.caibx_codec.specs.Listing.{Listing}
use Rattle.caibx_codec.specs.Spelling.{IsIndexFile}
use Rattle.caibx_codec.specs.Reading.{reads_index, index_start, index_in}
use Rattle.caibx_codec.specs.declared.check.Front.{Front}

-- the bytes were judged without a fault as far as `left`
pub record IsJudgedTo (bytes left : List ℕ) (front : Front) : Type 0 where
  pub entries : List (ℕ × List ℕ)
  pub counted : front.count ≡ length entries
  pub reads : reads_index index_start bytes
      ≡ reads_index (record { fields = front.fields; entries = entries; part = [] }) left

-- and one field more, or it is the first fault
abbrev pub PassesField : Front → List ℕ → Result Front IndexFault → Type 0
PassesField front field (Ok next) =
    (bytes left : List ℕ) → IsJudgedTo bytes (field ++ left) front → IsJudgedTo bytes left next
PassesField front field (Err f) =
    (bytes left : List ℕ) → IsJudgedTo bytes (field ++ left) front → reads_index index_start bytes ≡ Err f

-- this is what so many bytes are, where the last of them are no whole field
abbrev pub EndsFront : {A : Type 0} → Front → ℕ → Result A IndexFault → Type 0
EndsFront front size (Ok x) = (bytes left : List ℕ) → IsJudgedTo bytes left front → length bytes ≡ size
    → length left < need front.fields.next → (l : Listing) × (index_in bytes ≡ Ok l)
EndsFront front size (Err f) = (bytes left : List ℕ) → IsJudgedTo bytes left front → length bytes ≡ size
    → length left < need front.fields.next → index_in bytes ≡ Err f

-- the bytes are the file of an index; or of none, and this is their first fault
abbrev pub IsChecked : {A : Type 0} → List ℕ → Result A IndexFault → Type 0
IsChecked bytes (Ok x) = (l : Listing) × IsIndexFile bytes l × (index_in bytes ≡ Ok l)
IsChecked bytes (Err f) = ((l : Listing) → IsIndexFile bytes l → ⊥) × (index_in bytes ≡ Err f)
