-- Where a chunk comes from where nothing fails, and what that costs.
use Rattle.std.specs.Prelude.{◌≡◌, ◌≢◌, ◌⊎◌, ◌&&◌, ◌==◌, ℕ, List, length, nat_le, slice_index_or, Bool}
use Rattle.std.specs.Prelude.{zero, suc, ◌+◌}
use Rattle.std.specs.Prelude.{false, if◌then◌else◌, Option, Some, None, Result, Ok, Err}
use Rattle.std.specs.List.{list_any}
use Rattle.std.specs.Str.{bytes_eq}
use Rattle.chunk_sources.specs.Wants.{Task, Wanted, want_chunk}
use Rattle.chunk_store.specs.Digests.{digest_of}
use Rattle.chunk_store.specs.declared.id.DigestKind.{DigestKind}
use Rattle.dsy_base.specs.Bytes.{Held}
use Rattle.dsy_base.specs.Counts.{raised}
use Rattle.dsy_base.specs.Maps.{Map}
use Rattle.extract_plan.specs.Seeds.{bytes_at, place_end}
use Rattle.extract_plan.specs.declared.seed.SeedPlace.{SeedPlace}
use Rattle.range_survey.specs.Fates.{is_right_at}
use Rattle.range_survey.specs.declared.fate.Fate.{Fate}
use Rattle.range_survey.specs.declared.fate.Fate.TheVariants as fate
use Rattle.store_chain.specs.Chains.{Chained}
use Rattle.store_chain.specs.declared.refused.Refused.{Refused}
use Rattle.store_chain.specs.declared.refused.Refused.TheVariants as refused

-- ---- which source gives a chunk

-- whether these bytes have the id at the place, by the place's kind
abbrev pub told_at : Option (List ℕ) → SeedPlace → List ℕ → Bool
told_at None p id = false
told_at (Some t) p id = bytes_eq (digest_of p.kind (bytes_at p t)) id

-- whether a view that holds this gives the id from the place
abbrev pub given_at : Option Held → SeedPlace → List ℕ → Bool
given_at None p id = false
given_at (Some h) p id = nat_le (place_end p) h.size && told_at h.bytes p id

-- whether one of the seeds does, whose views hold this, from one of the places
abbrev pub seeds_give : List (Option Held) → List SeedPlace → List ℕ → Bool
seeds_give views places id = list_any (λ p. given_at (slice_index_or views p.seed None) p id) places

-- whether what a store holds is the chunk of this id and size
abbrev pub is_chunk : DigestKind → List ℕ → ℕ → Option (List ℕ) → Bool
is_chunk kind id size None = false
is_chunk kind id size (Some b) = bytes_eq (digest_of kind b) id && length b == size

-- whether the cache or one of the stores gives it, which hold these maps
abbrev pub stores_give : DigestKind → List ℕ → ℕ → List (Map (List ℕ)) → Bool
stores_give kind id size maps = list_any (λ m. is_chunk kind id size (m id)) maps

-- which of cache and stores does, which hold these maps: Open where none of them gives it
abbrev pub source_behind : DigestKind → List ℕ → ℕ → List (Map (List ℕ)) → List (Map (List ℕ)) → Fate
source_behind kind id size cached maps =
    if stores_give kind id size cached then fate.Cached
    else if stores_give kind id size maps then fate.Fetched
    else fate.Open

-- where a chunk comes from: one of its entries that is right already, or else a seed, or else the cache, or else a
-- store; Open where no source gives it
abbrev pub source_among : (ℕ → Bool) → Wanted → List (Option Held) → List (Map (List ℕ)) → List (Map (List ℕ)) → Fate
source_among is_right q views cached maps =
    if list_any is_right q.entries then fate.Kept
    else if seeds_give views q.places q.id then fate.Seeded
    else source_behind q.kind q.id q.size cached maps

-- where the chunk of want w does
abbrev pub source_over : Task → (ℕ → Bool) → List (Option Held) → List (Map (List ℕ)) → List (Map (List ℕ)) → ℕ → Fate
source_over t is_right views cached maps w = source_among is_right (want_chunk t w) views cached maps

-- over the base of an extraction
abbrev pub source_of : Task → List ℕ → List (Option Held) → List (Map (List ℕ)) → List (Map (List ℕ)) → ℕ → Fate
source_of t base views cached maps w = source_over t (is_right_at t.listing base) views cached maps w

-- ---- what that costs

-- the sum of f over the numbers below k
abbrev pub sum_below : (ℕ → ℕ) → ℕ → ℕ
sum_below f zero = 0
sum_below f (suc k) = sum_below f k + f k

-- the source of one of these wants, and else one that costs nothing
abbrev pub source_if : (ℕ → Bool) → (ℕ → Fate) → ℕ → Fate
source_if these source w = if these w then source w else fate.Kept

-- how often one pass asks the stores for a chunk with this source
abbrev pub pass_asks : Fate → ℕ
pass_asks fate.Open = 1
pass_asks fate.Kept = 0
pass_asks fate.Copied = 0
pass_asks fate.Seeded = 0
pass_asks fate.Cached = 0
pass_asks fate.Fetched = 1

-- and how often two passes ask for a chunk with this source: the second asks where the first found none
abbrev pub all_asks : Fate → ℕ
all_asks fate.Open = 2
all_asks fate.Kept = 0
all_asks fate.Copied = 0
all_asks fate.Seeded = 0
all_asks fate.Cached = 0
all_asks fate.Fetched = 1

-- the fate of an entry that a chunk with this source makes right: what is right already is copied
abbrev pub origin_of : Fate → Fate
origin_of fate.Open = fate.Open
origin_of fate.Kept = fate.Copied
origin_of fate.Copied = fate.Copied
origin_of fate.Seeded = fate.Seeded
origin_of fate.Cached = fate.Cached
origin_of fate.Fetched = fate.Fetched

-- cache and stores as one: others may have put a chunk into the cache that a store gave them
abbrev pub as_upstream : Fate → Fate
as_upstream fate.Open = fate.Open
as_upstream fate.Kept = fate.Kept
as_upstream fate.Copied = fate.Copied
as_upstream fate.Seeded = fate.Seeded
as_upstream fate.Cached = fate.Fetched
as_upstream fate.Fetched = fate.Fetched

-- what is answered for a chunk with this source, where nothing fails, as far as `seen` tells fates apart. Want of
-- memory is free
abbrev pub AnsweredAs : (Fate → Fate) → Fate → Result Fate Refused → Type 0
AnsweredAs seen source (Ok f) = seen f ≡ seen (origin_of source)
AnsweredAs seen source (Err r) = (r ≡ refused.Memory) ⊎ (source ≡ fate.Open)

-- the same exactly
abbrev pub AnsweredBy : Fate → Result Fate Refused → Type 0
AnsweredBy source r = AnsweredAs (λ f. f) source r

module _ {S : Type 0} where
  -- a chunk with this source was got, and the chain was asked as often as that takes
  abbrev pub ObtainedBy : Fate → Chained S → Chained S → Result Fate Refused → Type 0
  ObtainedBy source old new r =
      (r ≢ Err refused.Memory → new.asks ≡ raised old.asks (pass_asks source)) × AnsweredBy source r
