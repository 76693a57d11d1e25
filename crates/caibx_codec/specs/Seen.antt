-- What contracts see of an index and of a front of its file.
use Rattle.std.specs.Prelude.{ℕ, ◌<◌, List, map, take}
use Rattle.caibx_codec.specs.declared.index.Entry.{Entry}
use Rattle.caibx_codec.specs.declared.index.Index.TheInside.{Inside}
use Rattle.caibx_codec.specs.declared.partial.Partial.TheInside as partial
use Rattle.caibx_fields.specs.Fields.{need}
use Rattle.caibx_codec.specs.Listing.{Listing}
use Rattle.caibx_codec.specs.Reading.{Read}

-- the end and the id of an entry
abbrev pub pair : Entry → ℕ × List ℕ
pair e = (e.end, e.id.0)

-- those of several entries
abbrev pub pairs : List Entry → List (ℕ × List ℕ)
pairs es = map pair es

-- what contracts see of an index
abbrev pub listing_seen : Inside → Listing
listing_seen i =
    record { flags = i.flags; least = i.min; average = i.avg; greatest = i.max; entries = pairs i.entries.items }

-- what contracts see of a reader without a fault
abbrev pub read_of : partial.Inside → Read
read_of p = record { fields = p.fields; entries = pairs p.entries.items; part = take p.filled p.part }

-- less than the next field is there
abbrev pub HasRoomForField : partial.Inside → Type 0
HasRoomForField p = p.filled < need p.fields.next
