-- What is printed of an index. A line ends with a line feed, ids are 64 digits in lower case, numbers are decimal.
use Rattle.std.specs.Prelude.{ℕ, List, [], ◌∷◌, ◌++◌, map, codes, decimal, Option, Some, None}
use Rattle.std.specs.List.{concat, flat_map}
use Rattle.std.specs.Set.{distinct_count}
use Rattle.std.specs.Str.{bytes_eq}
use Rattle.hex.specs.Hex.{encode_lower}
use Rattle.caibx_codec.specs.Listing.{Listing, count_of, image_length}

-- the line of an entry: its id
abbrev pub id_line : ℕ × List ℕ → List ℕ
id_line e = encode_lower e.1 ++ 10 ∷ []

-- the lines of all entries, in their order
abbrev pub text_of_chunks : Listing → List ℕ
text_of_chunks l = flat_map id_line l.entries

-- the ids of the entries, in their order
abbrev pub ids_of : Listing → List (List ℕ)
ids_of l = map (λ e. e.1) l.entries

-- how many ids are listed, each counted once
abbrev pub unique_count : Listing → ℕ
unique_count l = distinct_count bytes_eq (ids_of l)

-- the member on a store, where one was asked
abbrev pub in_store_text : Option ℕ → List ℕ
in_store_text None = []
in_store_text (Some n) = codes ",\"in-store\":" ++ decimal n

-- one line of JSON (RFC 8259): an object of numbers
unfoldable pub text_of_info : Listing → Option ℕ → List ℕ
text_of_info l in_store = concat (
    codes "{\"chunk-size-avg\":" ∷ decimal l.average
    ∷ codes ",\"chunk-size-max\":" ∷ decimal l.greatest
    ∷ codes ",\"chunk-size-min\":" ∷ decimal l.least
    ∷ in_store_text in_store
    ∷ codes ",\"size\":" ∷ decimal (image_length l)
    ∷ codes ",\"total\":" ∷ decimal (count_of l)
    ∷ codes ",\"unique\":" ∷ decimal (unique_count l)
    ∷ codes "}" ∷ (10 ∷ []) ∷ [])
