-- The figures of an index as JSON data.
use Rattle.std.specs.Prelude.{ℕ, codes, Option, Some, None}
use Rattle.serde_json.specs.Data.{Data, Members, number, unsigned, object, member, no_members}
use Rattle.caibx_codec.specs.Listing.{Listing, count_of, image_length}
use Rattle.verify_tool.specs.Texts.{unique_count}
use Rattle.verify_tool.specs.declared.info.Figures.{Figures}

-- the figures of an index
abbrev pub index_figures : Listing → Figures
index_figures l = record {
  average = l.average;
  greatest = l.greatest;
  least = l.least;
  size = image_length l;
  total = count_of l;
  unique = unique_count l;
}

-- the members before and after the one on a store
abbrev pub first_members : Figures → Members → Members
first_members f rest =
    member (codes "chunk-size-avg") (number (unsigned f.average))
    (member (codes "chunk-size-max") (number (unsigned f.greatest))
    (member (codes "chunk-size-min") (number (unsigned f.least)) rest))

-- the members behind the number of ids in a store
abbrev pub last_members : Figures → Members
last_members f =
    member (codes "size") (number (unsigned f.size))
    (member (codes "total") (number (unsigned f.total))
    (member (codes "unique") (number (unsigned f.unique)) no_members))

-- all members without that number
abbrev pub members_of : Figures → Members
members_of f = first_members f (last_members f)

-- the JSON object with that number, or without it
abbrev pub data_of : Figures → Option ℕ → Data
data_of f None = object (members_of f)
data_of f (Some n) = object (first_members f (member (codes "in-store") (number (unsigned n)) (last_members f)))
