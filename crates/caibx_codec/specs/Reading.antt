-- Reading an index file byte by byte, with the first fault that is met: each field is judged as soon as its bytes are
-- there, in the order of the file.
use Rattle.std.specs.Prelude.{ℕ, ◌+◌, List, [], ◌∷◌, ◌++◌, length, Result, Ok, Err, nat_lt, if◌then◌else◌}
use Rattle.std.specs.Prelude.{Bool, true, false, Option, Some, None}
use Rattle.std.specs.Int.{w64, from_le_bytes}
use Rattle.caibx_fields.specs.declared.fault.IndexFault.{IndexFault}
use Rattle.caibx_fields.specs.declared.fault.IndexFault.TheVariants as faults
use Rattle.caibx_fields.specs.declared.field.Field.{Field}
use Rattle.caibx_fields.specs.declared.field.Field.TheVariants as field
use Rattle.caibx_fields.specs.declared.field.Fields.{Fields}
use Rattle.caibx_fields.specs.Fields.{need, to, unread_fields, word_at}
use Rattle.caibx_codec.specs.Listing.{Listing}

infixl 10 ◌>>=◌
abbrev pub ◌>>=◌ : {A B : Type 0} → Result A IndexFault → (A → Result B IndexFault) → Result B IndexFault
(Ok x) >>= f = f x
(Err e) >>= f = Err e

-- what was read: the fields, the items, and the bytes of the next field that are there
pub record Read : Type 0 where
  pub fields : Fields
  pub entries : List (ℕ × List ℕ)
  pub part : List ℕ

-- all bytes of this field
unfoldable pub judge_at : Field → Read → List ℕ → Result Read IndexFault
judge_at field.Id r b =
    Ok (record { fields = to r.fields field.End; entries = r.entries ++ (r.fields.end, b) ∷ []; part = [] })
judge_at field.Nothing r b = Err faults.Trailing
judge_at f r b = do
  s ← word_at f r.fields (length r.entries) (from_le_bytes w64 b)
  Ok (record { fields = s; entries = r.entries; part = [] })

abbrev pub judge : Read → List ℕ → Result Read IndexFault
judge r b = judge_at r.fields.next r b

-- one byte more
unfoldable pub push_to_index : Read → ℕ → Result Read IndexFault
push_to_index r b =
    if nat_lt (length r.part + 1) (need r.fields.next) then Ok (record r { part = r.part ++ b ∷ [] })
    else judge r (r.part ++ b ∷ [])

-- more bytes
unfoldable pub reads_index : Read → List ℕ → Result Read IndexFault
reads_index r [] = Ok r
reads_index r (b ∷ bs) = push_to_index r b >>= λ s. reads_index s bs

-- before the first byte
unfoldable pub index_start : Read
index_start = record { fields = unread_fields; entries = []; part = [] }

-- what the fields and the items say
abbrev pub listing : Fields → List (ℕ × List ℕ) → Listing
listing s es = record { flags = s.flags; least = s.min; average = s.avg; greatest = s.max; entries = es }

abbrev pub listing_read : Read → Listing
listing_read r = listing r.fields r.entries

-- whether the marker was read
abbrev pub is_read_whole : Field → Bool
is_read_whole field.Nothing = true
is_read_whole _ = false

-- the fault of a reading, if there is one
abbrev pub fault_in_read : Result Read IndexFault → Option IndexFault
fault_in_read (Ok r) = None
fault_in_read (Err f) = Some f

-- the fault of the first field that stands whole in the bytes and is wrong
unfoldable pub first_fault : List ℕ → Option IndexFault
first_fault b = fault_in_read (reads_index index_start b)

-- what all of the bytes are
unfoldable pub index_in : List ℕ → Result Listing IndexFault
index_in b = do
  r ← reads_index index_start b
  if is_read_whole r.fields.next then Ok (listing_read r) else Err (faults.Truncated (length b))
