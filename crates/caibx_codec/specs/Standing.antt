-- What a reader that has met no fault stands for.
use Rattle.std.specs.Prelude.{◌≡◌, ℕ, ◌+◌, ◌^◌, ◌<◌, ◌≤◌, List, [], ◌∷◌, ◌++◌, length, take, slice_index, Ok}
use Rattle.caibx_fields.specs.declared.field.Field.{Field}
use Rattle.caibx_fields.specs.declared.field.Field.TheVariants as field
use Rattle.caibx_fields.specs.declared.field.Fields.{Fields}
use Rattle.caibx_fields.specs.Limits.{item_limit, file_limit}
use Rattle.caibx_fields.specs.Words.{words}
use Rattle.caibx_fields.specs.Fields.{need}
use Rattle.caibx_codec.specs.Listing.{IsValid}
use Rattle.caibx_codec.specs.Spelling.{items, front_words, tail_words}
use Rattle.caibx_codec.specs.Reading.{Read, reads_index, index_start, listing}

-- the first n of the words before the items; all of them; the items, with the first n words of the tail
abbrev pub head_part : Fields → ℕ → List ℕ
head_part s n = words (take n (front_words (listing s [])))

-- all of the words before the items
abbrev pub front : Fields → List ℕ
front s = words (front_words (listing s []))

-- the front and the items, with the first n words of the tail
abbrev pub tail_part : Fields → List (ℕ × List ℕ) → ℕ → List ℕ
tail_part s es n = (front s ++ items es) ++ words (take n (tail_words s.offset s.size))

-- the bytes before the field
unfoldable pub before : Field → Fields → List (ℕ × List ℕ) → List ℕ
before field.HeadSize s es = head_part s 0
before field.HeadType s es = head_part s 1
before field.Flags s es = head_part s 2
before field.Min s es = head_part s 3
before field.Avg s es = head_part s 4
before field.Max s es = head_part s 5
before field.TableSize s es = head_part s 6
before field.TableType s es = head_part s 7
before field.End s es = front s ++ items es
before field.Id s es = (front s ++ items es) ++ words (s.end ∷ [])
before field.Zero s es = tail_part s es 1
before field.Offset s es = tail_part s es 2
before field.Size s es = tail_part s es 3
before field.Marker s es = tail_part s es 4
before field.Nothing s es = tail_part s es 5

-- all bytes that were read
unfoldable pub bytes_of : Read → List ℕ
bytes_of r = before r.fields.next r.fields r.entries ++ r.part

-- where the last of the items ends, of which the first begins at `from`
abbrev pub last_end : ℕ → List (ℕ × List ℕ) → ℕ
last_end from [] = from
last_end from (e ∷ es) = last_end e.0 es

-- what is known of the end that was read last
unfoldable pub EndFits : Field → Fields → List (ℕ × List ℕ) → Type 0
EndFits field.HeadSize s es = (es ≡ []) × (s.end ≡ 0)
EndFits field.HeadType s es = (es ≡ []) × (s.end ≡ 0)
EndFits field.Flags s es = (es ≡ []) × (s.end ≡ 0)
EndFits field.Min s es = (es ≡ []) × (s.end ≡ 0)
EndFits field.Avg s es = (es ≡ []) × (s.end ≡ 0)
EndFits field.Max s es = (es ≡ []) × (s.end ≡ 0)
EndFits field.TableSize s es = (es ≡ []) × (s.end ≡ 0)
EndFits field.TableType s es = (es ≡ []) × (s.end ≡ 0)
EndFits field.Id s es = (last_end 0 es < s.end) × (s.end ≤ last_end 0 es + s.max) × (length es < item_limit)
EndFits _ s es = s.end ≡ last_end 0 es

-- what was read before this field is valid
pub record IsSound (f : Field) (s : Fields) (es : List (ℕ × List ℕ)) : Type 0 where
  pub valid : IsValid (listing s es)
  pub end : EndFits f s es
  pub offset : s.offset < 2 ^ 64
  pub size : s.size < 2 ^ 64

-- and less than the next field is there
pub record IsGood (r : Read) : Type 0 where
  pub sound : IsSound r.fields.next r.fields r.entries
  pub bytes : (i : ℕ) → slice_index r.part i < 256
  pub part : length r.part < need r.fields.next

-- reading the bytes leads here
pub record IsReached (r : Read) : Type 0 where
  pub reads : reads_index index_start (bytes_of r) ≡ Ok r
  pub good : IsGood r

-- and the bytes are these
pub record IsReachedBy (r : Read) (bytes : List ℕ) : Type 0 where
  pub stands : IsReached r
  pub is : bytes_of r ≡ bytes
  pub size : length bytes ≤ file_limit
