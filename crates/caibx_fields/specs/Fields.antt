-- The fields of an index file: how many bytes each has, where it begins, and how its word is judged.
use Rattle.std.specs.Prelude.{ℕ, ◌+◌, ◌-◌, ◌*◌, Result, Ok, Err, nat_lt, nat_le, ◌==◌, if◌then◌else◌}
use Rattle.caibx_fields.specs.declared.fault.IndexFault.{IndexFault}
use Rattle.caibx_fields.specs.declared.fault.IndexFault.TheVariants as faults
use Rattle.caibx_fields.specs.declared.field.Field.{Field}
use Rattle.caibx_fields.specs.declared.field.Field.TheVariants as field
use Rattle.caibx_fields.specs.declared.field.Fields.{Fields}
use Rattle.caibx_fields.specs.Limits.{size_limit, item_limit}

-- the number of bytes of a field
abbrev pub need : Field → ℕ
need field.Id = 32
need field.Nothing = 1
need _ = 8

-- where it begins in the file, after n items
abbrev pub place_of : Field → ℕ → ℕ
place_of field.HeadSize n = 0
place_of field.HeadType n = 8
place_of field.Flags n = 16
place_of field.Min n = 24
place_of field.Avg n = 32
place_of field.Max n = 40
place_of field.TableSize n = 48
place_of field.TableType n = 56
place_of field.End n = 64 + 40 * n
place_of field.Id n = 72 + 40 * n
place_of field.Zero n = 72 + 40 * n
place_of field.Offset n = 80 + 40 * n
place_of field.Size n = 88 + 40 * n
place_of field.Marker n = 96 + 40 * n
place_of field.Nothing n = 104 + 40 * n

-- before the first byte
abbrev pub unread_fields : Fields
unread_fields =
    record { next = field.HeadSize; flags = 0; min = 0; avg = 0; max = 0; end = 0; offset = 0; size = 0 }

-- another field comes next
abbrev pub to : Fields → Field → Fields
to s f = record s { next = f }

-- an item's first word, after k items: where its chunk ends, or 0 where the tail begins
unfoldable pub end_judged : Fields → ℕ → ℕ → Result Fields IndexFault
end_judged s k w =
    if w == 0 then Ok (to s field.Zero)
    else if nat_le item_limit k then Err faults.Items
    else if nat_le w s.end then Err (faults.Order k)
    else if nat_lt s.max (w - s.end) then Err (faults.TooLarge k (w - s.end))
    else Ok (record s { next = field.Id; end = w })

-- the word of this field, after k items
unfoldable pub word_at : Field → Fields → ℕ → ℕ → Result Fields IndexFault
word_at field.HeadSize s k w = if w == 48 then Ok (to s field.HeadType) else Err faults.Head
word_at field.HeadType s k w = if w == 0x96824d9c7b129ff9 then Ok (to s field.Flags) else Err faults.Head
word_at field.Flags s k w = Ok (record s { next = field.Min; flags = w })
word_at field.Min s k w = Ok (record s { next = field.Avg; min = w })
word_at field.Avg s k w = Ok (record s { next = field.Max; avg = w })
word_at field.Max s k w =
    if nat_lt size_limit w then Err (faults.MaxSize w) else Ok (record s { next = field.TableSize; max = w })
word_at field.TableSize s k w = if w == 0xffffffffffffffff then Ok (to s field.TableType) else Err faults.Table
word_at field.TableType s k w = if w == 0xe75b9e112f17417d then Ok (to s field.End) else Err faults.Table
word_at field.End s k w = end_judged s k w
word_at field.Zero s k w = if w == 0 then Ok (to s field.Offset) else Err faults.Tail
word_at field.Offset s k w = Ok (record s { next = field.Size; offset = w })
word_at field.Size s k w = Ok (record s { next = field.Marker; size = w })
word_at field.Marker s k w = if w == 0x4b4f050e5549ecd1 then Ok (to s field.Nothing) else Err faults.Tail
word_at _ s k w = Err faults.Trailing
