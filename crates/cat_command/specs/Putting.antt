-- A range of an image that is read from stores and put on a sink, entry by entry. The range is the n bytes of the image
-- from the offset `at` on.
use Rattle.std.specs.Prelude.{◌≡◌, ◌⊎◌, ℕ, ◌-◌, ◌<◌, ◌≤◌, ◌++◌, List, length, map, Option, Some, Result, Ok, Err}
use Rattle.std.specs.Option.{option_map}
use Rattle.caibx_codec.specs.Listing.{Listing, count_of, size_of, start_of}
use Rattle.chunk_store.specs.declared.id.ChunkId.{ChunkId}
use Rattle.chunk_store.specs.declared.id.DigestKind.{DigestKind}
use Rattle.chunk_store.specs.declared.store.Store.{Ghosts as StoreWords}
use Rattle.command_outcome.specs.declared.outcome.Outcome.{Outcome}
use Rattle.command_outcome.specs.declared.outcome.Outcome.TheVariants as ends
use Rattle.dsy_base.specs.Counts.{Rose}
use Rattle.dsy_base.specs.Disk.{Output}
use Rattle.dsy_base.specs.Maps.{Map}
use Rattle.image_reader.specs.Covered.{IsCovered, want_of}
use Rattle.image_reader.specs.Images.{IsRange, IsRightInRange}
use Rattle.image_reader.specs.Reading.{IsGot, RangeStops, ReaderState, ReadsTo}
use Rattle.image_reader.specs.declared.refused.ReadRefused.{ReadRefused}
use Rattle.image_reader.specs.declared.refused.ReadRefused.TheVariants as reads
use Rattle.store_chain.specs.Chains.{Chained}
use Rattle.store_chain.specs.Giving.{LacksAll}
use Rattle.store_chain.specs.Queries.{query_of}
use Rattle.store_chain.specs.Refusals.{Refuses}
use Rattle.store_chain.specs.declared.query.Query.{Query}
use Rattle.store_chain.specs.declared.refused.Refused.{Refused}
use Rattle.store_chain.specs.declared.refused.Refused.TheVariants as refused

-- the outcome where a range isn't read
abbrev pub outcome_of_read : ReadRefused → Outcome
outcome_of_read (reads.Missing k id) = ends.Missing k id
outcome_of_read (reads.Damaged k id s x) = ends.Damaged k id s x
outcome_of_read (reads.StoreFault s) = ends.StoreFault s
outcome_of_read reads.Memory = ends.Memory

-- the text is the n bytes from there on of each image that is right in them, but where two unequal pieces have one
-- digest
pub record IsText (l : Listing) (at n : ℕ) (text : List ℕ) : Type 0 where
  pub size : length text ≡ n
  pub right : (t : List ℕ) → IsRightInRange t l at n → IsRange l at n t text

-- a sink that had taken `old` has taken such a text besides
pub record PutsText (l : Listing) (at n : ℕ) (old new : Option (List ℕ)) : Type 0 where
  pub text : List ℕ
  pub bytes : IsText l at n text
  pub taken : new ≡ option_map (λ t. t ++ text) old

-- how many bytes of the range stand before those of entry k
abbrev pub bytes_before : Listing → ℕ → ℕ → ℕ
bytes_before l at k = start_of l k - at

-- what is asked of stores for the chunk of entry k
abbrev pub chunk_at : DigestKind → Listing → ℕ → Query
chunk_at kind l k = query_of kind (want_of l k).id (Some (size_of l k)) (size_of l k)

-- ---- by a reader, which goes from `old` to `now`, while the sink goes from p to q

module _ {S : Type 0} (store : StoreWords S) (at n : ℕ) (old now : ReaderState S) (p q : Output) where
  -- the whole range
  pub record PutsRange : Type 0 where
    pub reads : ReadsTo store at n (count_of old.index) old now
    pub puts : PutsText old.index at n p.taken q.taken
    pub faults : q.faults ≡ p.faults

  -- the bytes before those of an entry whose chunk is refused
  pub record StopsAtEntry (why : ReadRefused) : Type 0 where
    pub stop : RangeStops store at n old now why
    pub puts : PutsText old.index at (bytes_before old.index at stop.entry) p.taken q.taken

  -- the first m bytes of the range, for which no more than the first k entries are read
  pub record BreaksPutting : Type 0 where
    pub k : ℕ
    pub m : ℕ
    pub listed : k ≤ count_of old.index
    pub fits : m ≤ n
    pub reads : ReadsTo store at n k old now
    pub puts : PutsText old.index at m p.taken q.taken
    pub inside : (i : ℕ) → IsCovered old.index at m i → i < k

  -- how putting the range ends
  abbrev pub EndsPutting : Result Unit Outcome → Type 0
  EndsPutting (Ok u) = PutsRange
  EndsPutting (Err (ends.Missing k id)) = StopsAtEntry (reads.Missing k id)
  EndsPutting (Err (ends.Damaged k id s x)) = StopsAtEntry (reads.Damaged k id s x)
  EndsPutting (Err (ends.StoreFault s)) = StopsAtEntry (reads.StoreFault s)
  EndsPutting (Err ends.OutFault) = Rose p.faults q.faults × BreaksPutting
  EndsPutting (Err ends.Memory) = (StopsAtEntry reads.Memory ⊎ BreaksPutting) × (q.faults ≡ p.faults)
  EndsPutting (Err other) = ⊥

-- ---- by stores that nothing is kept of, which go from c to d

module _ {S : Type 0} (store : StoreWords S) (l : Listing) (at n : ℕ) (c d : Chained S) (p q : Output) where
  -- the first m bytes of the range, whose chunks the stores gave
  pub record PutsGiven (m : ℕ) : Type 0 where
    pub fits : m ≤ n
    pub puts : PutsText l at m p.taken q.taken
    pub given : (i : ℕ) → IsCovered l at m i → IsGot store c.kind (want_of l i) c.stores d.stores

  -- the bytes before those of entry k, whose chunk the stores, as they stood then, refused for this reason
  pub record PutsUntil (k : ℕ) (id : ChunkId) (r : Refused) : Type 0 where
    pub covered : IsCovered l at n k
    pub id_is : id ≡ (want_of l k).id
    pub puts : PutsGiven (bytes_before l at k)
    pub before : List S
    pub many : length before ≡ length d.stores
    pub refused : Refuses store.said store.faults store.may_lack_memory (chunk_at c.kind l k) before d.stores r
    pub lacks : (maps : List (Map (List ℕ))) → map store.holds c.stores ≡ map Some maps
        → LacksAll (chunk_at c.kind l k) maps r

  -- how putting the range ends
  abbrev pub EndsGiving : Result Unit Outcome → Type 0
  EndsGiving (Ok u) = PutsGiven n
  EndsGiving (Err (ends.Missing k id)) = PutsUntil k id refused.Missing
  EndsGiving (Err (ends.Damaged k id s x)) = PutsUntil k id (refused.Damaged s x)
  EndsGiving (Err (ends.StoreFault s)) = (k : ℕ) × (id : ChunkId) × PutsUntil k id (refused.StoreFault s)
  EndsGiving (Err ends.OutFault) = Rose p.faults q.faults × ((m : ℕ) × PutsGiven m)
  EndsGiving (Err ends.Memory) = ((m : ℕ) × PutsGiven m) × (q.faults ≡ p.faults)
  EndsGiving (Err other) = ⊥
