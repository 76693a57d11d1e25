-- How a range is read entry by entry. The range is the n bytes from the offset `at` on. `old` is a reader as it was
-- first, `now` as it is.
use Rattle.std.specs.Prelude.{◌≡◌, ◌⊎◌, ℕ, ◌+◌, ◌-◌, ◌<◌, ◌≤◌, List, ◌∷◌, map, take, true, false}
use Rattle.std.specs.List.{AllZip, Any, count_by}
use Rattle.std.specs.Str.{bytes_eq}
use Rattle.caibx_codec.specs.Listing.{Listing, id_of}
use Rattle.chunk_store.specs.Asks.{Get}
use Rattle.chunk_store.specs.Giving.{IsChunk}
use Rattle.chunk_store.specs.declared.id.DigestKind.{DigestKind}
use Rattle.chunk_store.specs.declared.store.Store.{Ghosts as StoreWords}
use Rattle.dsy_base.specs.Counts.{raised}
use Rattle.store_chain.specs.Chains.{AsksOnce, Chained, KeepsStores}
use Rattle.store_chain.specs.Giving.{SomeHolds}
use Rattle.store_chain.specs.declared.refused.Refused.{Refused}
use Rattle.image_reader.specs.Covered.{IsCovered, IsCoveredGet, want_of, wants_to}
use Rattle.image_reader.specs.Keeping.{Kept, has_want, missed, step, without_want}
use Rattle.image_reader.specs.Refusals.{MissFails, read_refused_of}
use Rattle.image_reader.specs.declared.refused.ReadRefused.{ReadRefused}
use Rattle.image_reader.specs.declared.want.Want.{Want}

-- what contracts see of a reader: what the index lists, the stores, how many chunks it may keep, and the wants of those
-- that it keeps, the most recently used first
pub record ReaderState (S : Type 0) : Type 0 where
  pub index : Listing
  pub chain : Chained S
  pub keep : ℕ
  pub kept : List Want

-- it consists of these
abbrev pub reader_state : {S : Type 0} → Listing → Chained S → Kept → ReaderState S
reader_state index chain kept = record { index = index; chain = chain; keep = kept.keep; kept = kept.wants }

-- a store's numbers of questions by id: at most one more for each of the wants of that id
pub record AsksWants (wants : List Want) (old new : List ℕ → ℕ) : Type 0 where
  pub no_less : (q : List ℕ) → old q ≤ new q
  pub most : (q : List ℕ) → new q ≤ old q + count_by (λ w. bytes_eq w.id.0 q) wants

module _ {S : Type 0} (store : StoreWords S) where
  -- a store has shown the chunk, and holds it where all stores tell what they hold
  pub record IsGot (kind : DigestKind) (w : Want) (old now : List S) : Type 0 where
    pub bytes : List ℕ
    pub chunk : IsChunk kind w.id.0 w.size bytes
    pub shown : Any (λ s. (store.said s).shown w.id.0 bytes) now
    pub held : SomeHolds store.members old w.id.0 bytes

  -- the chunk was kept first, or a store has shown it
  abbrev pub IsHad : Want → ReaderState S → ReaderState S → Type 0
  IsHad w old now = (has_want old.kept w ≡ true) ⊎ IsGot old.chain.kind w old.chain.stores now.chain.stores

  -- one want was read that was kept: it moved to the front
  pub record HitsWant (w : Want) (old now : ReaderState S) : Type 0 where
    pub had : has_want old.kept w ≡ true
    pub now_is : now ≡ record old { kept = w ∷ without_want w old.kept }

  -- one that wasn't: its chunk was asked for once, and is kept in front of the others
  pub record MissesWant (w : Want) (old now : ReaderState S) : Type 0 where
    pub lacked : has_want old.kept w ≡ false
    pub asked : AsksOnce store.asked store.queried w.id.0 old.chain now.chain
    pub got : IsGot old.chain.kind w old.chain.stores now.chain.stores
    pub stores : KeepsStores store (λ a. a ≡ Get w.id.0) old.chain.stores now.chain.stores
    pub kept : now.kept ≡ take old.keep (w ∷ old.kept)
    pub index : now.index ≡ old.index
    pub keep : now.keep ≡ old.keep

  module _ (at n : ℕ) where
    -- the covered ones among the first k entries were read in order: each was obtained, as was each chunk that is kept.
    -- Those that weren't kept were asked for, once each, and what is kept is what their wants leave
    pub record ReadsTo (k : ℕ) (old now : ReaderState S) : Type 0 where
      pub kept : now.kept ≡ (step old.keep old.kept (wants_to old.index at n k)).kept
      pub asks : now.chain.asks ≡ raised old.chain.asks (step old.keep old.kept (wants_to old.index at n k)).misses
      pub had : (i : ℕ) → i < k → IsCovered old.index at n i → IsHad (want_of old.index i) old now
      pub known : (w : Want) → has_want now.kept w ≡ true → IsHad w old now
      pub stores : KeepsStores store (IsCoveredGet old.index at n) old.chain.stores now.chain.stores
      pub times : AllZip (λ a b. AsksWants (missed old.keep old.kept (wants_to old.index at n k))
          (store.asked a) (store.asked b)) old.chain.stores now.chain.stores
      pub queries : map store.queried now.chain.stores ≡ map store.queried old.chain.stores
      pub kind : now.chain.kind ≡ old.chain.kind
      pub index : now.index ≡ old.index
      pub keep : now.keep ≡ old.keep

    -- reading ended early at a covered entry whose chunk isn't kept. Those before it were read, which led to `before`,
    -- and the refusal is that of the call for this one. Of what was kept then the last is dropped where `keep` chunks
    -- were kept
    pub record RangeStops (old now : ReaderState S) (why : ReadRefused) : Type 0 where
      pub entry : ℕ
      pub covered : IsCovered old.index at n entry
      pub before : ReaderState S
      pub reads : ReadsTo entry old before
      pub missed : has_want before.kept (want_of old.index entry) ≡ false
      pub refused : Refused
      pub told : why ≡ read_refused_of entry (want_of old.index entry).id refused
      pub fails : MissFails store (want_of old.index entry) refused before.chain now.chain
      pub kept : now.kept ≡ take (old.keep - 1) before.kept
      pub since : KeepsStores store (λ a. a ≡ Get (id_of old.index entry)) before.chain.stores now.chain.stores
      pub stores : KeepsStores store (IsCoveredGet old.index at n) old.chain.stores now.chain.stores
      pub kind : now.chain.kind ≡ old.chain.kind
      pub index : now.index ≡ old.index
      pub keep : now.keep ≡ old.keep
