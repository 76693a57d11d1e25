-- Filling a cache entry by entry: what the calls for the first entries have come to, and how a refusal ends them.
use Rattle.std.proofs.Common.{◌≡◌, ◌⊎◌, ℕ, zero, suc, ◌+◌, ◌<◌, ◌≤◌, List, [], ◌∷◌, length, map, slice_index, slice_index_or, All, Bool, Option, Some, None, IfSome, Result, Ok, Err, refl, sym, subst, ap, ◌∙◌, inl, inr, arith, below_more}
use Rattle.std.specs.List.{AllZip}
use Rattle.std.proofs.lemmas.List.Elements.{AllZip-get_or}
use Rattle.cache_store.proofs.Stocked.{stocks_on, stocks_same, stocks_weaker}
use Rattle.cache_store.specs.Giving.{SomeGives}
use Rattle.cache_store.specs.Shelves.{Shelf, Stocks, held_on}
use Rattle.caibx_codec.specs.Asks.{IsListedGet}
use Rattle.caibx_codec.specs.Listing.{Listing, count_of, id_of, kind_of, size_of}
use Rattle.chunk_store.specs.Asks.{Get}
use Rattle.chunk_store.specs.Said.{AskedOnce, Said}
use Rattle.chunk_store.specs.declared.id.ChunkId.{ChunkId}
use Rattle.chunk_store.specs.declared.store.Store.{Ghosts as StoreWords}
use Rattle.dsy_base.specs.Counts.{Quiet, Rose}
use Rattle.dsy_base.specs.Maps.{Map}
use Rattle.image_chop.proofs.Chopped.{asks_entry, asks_none, asks_whole}
use Rattle.image_chop.specs.Chopping.{AsksListed}
use Rattle.image_store.specs.PutChunks.{IsListedId}
use Rattle.store_chain.proofs.Kept.{kept_on, kept_still, kept_weaker, none_more}
use Rattle.store_chain.proofs.Pairs.{all_zip_same}
use Rattle.store_chain.specs.Chains.{AsksOnce, Chained, EachOnce, KeepsStores}
use Rattle.store_chain.specs.Faults.{EachQuiet}
use Rattle.store_chain.specs.Giving.{LacksAll}
use Rattle.store_chain.specs.Refusals.{Refuses}
use Rattle.store_chain.specs.declared.refused.Refused.{Refused}
use Rattle.store_chain.specs.declared.refused.Refused.TheVariants as refused
use Rattle.store_chain.specs.declared.query.Query.{Query}
use Rattle.verify_tool.proofs.Asked.{each_then, each_weaker}
use Rattle.cache_fill.proofs.Holding.{TellAlone, damaged_never, each_within, gave_entry, holds_more, holds_none, holds_still, missing_never, not_at_first, quiet_within, rose_never, takes_earlier, told_members, told_still}
use Rattle.cache_fill.specs.Filling.{AreQuiet, AsksEntries, AsksEntry, EntryFails, EntryUnfound, FetchesAhead, FillEnds, FillStops, FillUnfailed, FillsBy, FillsFirst, GivesEntry, HoldsTo, IsAside, IsFirstLost, IsGetBefore, IsGivenBy, MayFillCache, RefusedAhead, RefusesAhead, RefusesEntry, SparesStores, TurnAsks, entry_want, fill_fault_of, filled_to}
use Rattle.cache_fill.specs.FillProgress.{FillAnswers, Filled, LeavesEntry, Spared}
use Rattle.cache_fill.specs.declared.fill.FillFault.{FillFault}
use Rattle.cache_fill.specs.declared.fill.FillFault.TheVariants as faults

-- the first store that failed has counted it
first_rose : {S : Type 0} (said : S → Said) (faults : S → ℕ) (lacks_memory : Bool) (w : Query) (k : ℕ) (old new : List S) → Refuses said faults lacks_memory w old new (refused.StoreFault k) → Rose (slice_index (map faults old) k) (slice_index (map faults new) k)
first_rose said faults lacks_memory w k [] new h = absurd h
first_rose said faults lacks_memory w k (a ∷ old) [] h = absurd h
first_rose said faults lacks_memory w zero (a ∷ old) (b ∷ new) h = h.0
first_rose said faults lacks_memory w (suc k) (a ∷ old) (b ∷ new) h = first_rose said faults lacks_memory w k old new h.1

-- ---- how often the stores are asked

module _ {S : Type 0} (asked queried : S → List ℕ → ℕ) (l : Listing) where
  pub none_asked_to : (k : ℕ) (c : Chained S) → AsksEntries asked queried l k c c
  none_asked_to k c = record {
    stores = all_zip_same (λ a b. AsksListed l k (asked a) (asked b)) (λ s. asks_none l k (asked s)) c.stores;
    queries = refl;
    no_fewer = omega arith;
    calls = omega arith;
    kind = refl;
  }

  pub none_asked : (c : Chained S) → AsksEntries asked queried l 0 c c
  none_asked = none_asked_to 0

  each_more : (i : ℕ) → i < count_of l → (c0 c d : List S) → AllZip (λ a b. AsksListed l i (asked a) (asked b)) c0 c → EachOnce asked (id_of l i) c d
      → AllZip (λ a b. AsksListed l (i + 1) (asked a) (asked b)) c0 d
  each_more i inside c0 c d before once =
      each_then (λ a b. AsksListed l i (asked a) (asked b)) (λ a b. AskedOnce (asked a) (asked b) (id_of l i)) (λ a b. AsksListed l (i + 1) (asked a) (asked b))
      (λ x y z h g. asks_entry l i (asked x) (asked y) (asked z) inside g h) c0 c d before once

  pub asked_entry : (i : ℕ) → i < count_of l → (c0 c d : Chained S) → AsksEntries asked queried l i c0 c → (d ≡ c) ⊎ AsksOnce asked queried (id_of l i) c d
      → AsksEntries asked queried l (i + 1) c0 d
  asked_entry i inside c0 c d before (inl same) =
      subst (λ (e : Chained S). AsksEntries asked queried l (i + 1) c0 e) (sym same) (record {
        stores = each_more i inside c0.stores c.stores c.stores before.stores (none_more asked (id_of l i) c.stores);
        queries = before.queries;
        no_fewer = before.no_fewer;
        calls = omega (arith, before.calls);
        kind = before.kind;
      })
  asked_entry i inside c0 c d before (inr once) = record {
    stores = each_more i inside c0.stores c.stores d.stores before.stores once.stores;
    queries = once.queries ∙ before.queries;
    no_fewer = omega (arith, before.no_fewer, once.calls, once.below);
    calls = omega (arith, before.calls, once.calls);
    kind = once.kind ∙ before.kind;
  }

  pub asked_all : (k : ℕ) → k ≤ count_of l → (c0 c : Chained S) → AsksEntries asked queried l k c0 c → AsksEntries asked queried l (count_of l) c0 c
  asked_all k le c0 c before = record {
    stores = each_weaker (λ a b. AsksListed l k (asked a) (asked b)) (λ a b. AsksListed l (count_of l) (asked a) (asked b)) (λ a b h. asks_whole l k (asked a) (asked b) le h) c0.stores c.stores before.stores;
    queries = before.queries;
    no_fewer = before.no_fewer;
    calls = omega (arith, before.calls, le);
    kind = before.kind;
  }

-- the chunks of the first k entries are listed
pub gets_listed : {S : Type 0} (store : StoreWords S) (l : Listing) (k : ℕ) → k ≤ count_of l → (xs ys : List S) → KeepsStores store (IsGetBefore l k) xs ys → KeepsStores store (IsListedGet l) xs ys
gets_listed store l k le xs ys kept =
    kept_weaker store (IsGetBefore l k) (IsListedGet l) (λ a h. record { entry = h.1.entry; listed = omega (arith, h.1.below, le); asked = h.2 ∙ ap Get h.1.id }) xs ys kept

-- further workers whose stores weren't asked
pub fetched_none : {S : Type 0} (store : StoreWords S) (l : Listing) (cs : List (Chained S)) → AllZip (FetchesAhead store l) cs cs
fetched_none store l cs = all_zip_same (FetchesAhead store l) (λ c. record { asks = none_asked_to store.asked store.queried l (count_of l) c; stores = kept_still store (IsListedGet l) c.stores }) cs

-- ---- from one entry to the next

module _ {S : Type 0} (store : StoreWords S) (l : Listing) where
  pub turn_of : (i : ℕ) (s t : Shelf) (c d : Chained S) → AsksEntry store l i s t c d → TurnAsks store l i s t c d
  turn_of i s t c d (inl same) = inl (same.0, inl same.1)
  turn_of i s t c d (inr once) = inr once

  -- entry i was seen to
  pub record Turns (i : ℕ) (s t : Shelf) (c d : Chained S) : Type 0 where
    pub asks : TurnAsks store l i s t c d
    pub stocks : Stocks (λ q b. (q ≡ id_of l i) × MayFillCache store.members l c.stores q b) s t
    pub stores : KeepsStores store (λ a. a ≡ Get (id_of l i)) c.stores d.stores

  spared_none : (s : Shelf) (c : Chained S) → Spared store l s s c c
  spared_none s c = go (held_on s) where
    go : (o : Option (Map (List ℕ))) → IfSome o (λ m. ((i : ℕ) → i < count_of l → GivesEntry l i m) → Quiet s.faults s.faults → (c ≡ c) × (s.files ≡ s.files))
    go None = tt
    go (Some m) = λ all quiet. (refl, refl)

  pub filled_stocks : (i : ℕ) (s0 s : Shelf) (c0 c : Chained S) → Filled store l i s0 s c0 c → Stocks (MayFillCache store.members l c0.stores) s0 s
  filled_stocks i s0 s c0 c h = stocks_weaker (λ q b. IsListedId l i q × MayFillCache store.members l c0.stores q b) (MayFillCache store.members l c0.stores) (λ q b h. h.1) s0 s h.stocks

  pub filled_none : (s : Shelf) (c : Chained S) → Filled store l 0 s s c c
  filled_none s c = record {
    holds_all = holds_none l s;
    given = λ m maps nothing j less. absurd (omega arith);
    asks = none_asked store.asked store.queried l c;
    spared = spared_none s c;
    stocks = stocks_same (λ q b. IsListedId l 0 q × MayFillCache store.members l c.stores q b) s;
    stores = kept_still store (IsGetBefore l 0) c.stores;
  }

  -- what the shelf gave at first it gives as long as its files stay, where it doesn't fail
  found_still : (i : ℕ) (s0 s t : Shelf) (m : Map (List ℕ)) → held_on s0 ≡ Some m → s.files ≡ s0.files → GivesEntry l i m → Quiet s.faults t.faults → EntryUnfound l i s t → ⊥
  found_still i s0 s t m is same gives quiet unfound =
      let P : Option (Map (List ℕ)) → Type 0 = λ o. IfSome o (λ n. GivesEntry l i n → Rose s.faults t.faults) in
      let Q : Option (Map (List ℕ)) → Type 0 = λ f. IfSome (held_on (record { files = f; place = s.place; faults = s.faults; kind = s.kind; others = s.others })) (λ n. GivesEntry l i n → Rose s.faults t.faults) in
      let rose : GivesEntry l i m → Rose s.faults t.faults = subst P is (subst Q same unfound) in
      rose_never s.faults t.faults quiet (rose gives)

  module _ (alone : TellAlone store) (i : ℕ) (inside : i < count_of l) (s0 s t : Shelf) (c0 c d : Chained S) (before : Filled store l i s0 s c0 c) (turn : Turns i s t c d) where
    stocks_now : Stocks (MayFillCache store.members l c0.stores) s t
    stocks_now = stocks_weaker (λ q b. (q ≡ id_of l i) × MayFillCache store.members l c.stores q b) (MayFillCache store.members l c0.stores) (λ q b h. takes_earlier store.members l c0.stores c.stores before.stores.members q b h.1) s t turn.stocks

    stocks_before : Stocks (MayFillCache store.members l c0.stores) s0 s
    stocks_before = stocks_weaker (λ q b. IsListedId l i q × MayFillCache store.members l c0.stores q b) (MayFillCache store.members l c0.stores) (λ q b h. h.1) s0 s before.stocks

    pub turn_stocks : Stocks (MayFillCache store.members l c0.stores) s0 t
    turn_stocks = stocks_on (MayFillCache store.members l c0.stores) s0 s t stocks_before stocks_now

    turn_order : Stocks (λ q b. IsListedId l (i + 1) q × MayFillCache store.members l c0.stores q b) s0 t
    turn_order = stocks_on (λ q b. IsListedId l (i + 1) q × MayFillCache store.members l c0.stores q b) s0 s t
        (stocks_weaker (λ q b. IsListedId l i q × MayFillCache store.members l c0.stores q b) (λ q b. IsListedId l (i + 1) q × MayFillCache store.members l c0.stores q b)
        (λ q b h. (record { entry = h.0.entry; below = omega (arith, h.0.below); id = h.0.id }, h.1)) s0 s before.stocks)
        (stocks_weaker (λ q b. (q ≡ id_of l i) × MayFillCache store.members l c.stores q b) (λ q b. IsListedId l (i + 1) q × MayFillCache store.members l c0.stores q b)
        (λ q b h. (record { entry = i; below = omega arith; id = h.0 }, takes_earlier store.members l c0.stores c.stores before.stores.members q b h.1)) s t turn.stocks)

    turn_gets : KeepsStores store (IsGetBefore l (i + 1)) c0.stores d.stores
    turn_gets = kept_on store (IsGetBefore l (i + 1)) c0.stores c.stores d.stores
        (kept_weaker store (IsGetBefore l i) (IsGetBefore l (i + 1)) (λ a h. (h.0, record { entry = h.1.entry; below = omega (arith, h.1.below); id = h.1.id }, h.2)) c0.stores c.stores before.stores)
        (kept_weaker store (λ a. a ≡ Get (id_of l i)) (IsGetBefore l (i + 1)) (λ a is. (id_of l i, record { entry = i; below = omega arith; id = refl }, is)) c.stores d.stores turn.stores)

    pub turn_stores : KeepsStores store (IsListedGet l) c0.stores d.stores
    turn_stores = gets_listed store l (i + 1) (omega (arith, inside)) c0.stores d.stores turn_gets

    once_of : ((d ≡ c) × IsAside l i s t) ⊎ (EntryUnfound l i s t × AsksOnce store.asked store.queried (id_of l i) c d) → (d ≡ c) ⊎ AsksOnce store.asked store.queried (id_of l i) c d
    once_of (inl same) = inl same.0
    once_of (inr more) = inr more.1

    turn_asks : AsksEntries store.asked store.queried l (i + 1) c0 d
    turn_asks = asked_entry store.asked store.queried l i inside c0 c d before.asks (once_of turn.asks)

    pub turn_asks_all : AsksEntries store.asked store.queried l (count_of l) c0 d
    turn_asks_all = asked_all store.asked store.queried l (i + 1) (omega (arith, inside)) c0 d turn_asks

    turn_spared : Spared store l s0 t c0 d
    turn_spared = go (held_on s0) refl before.spared where
      go : (o : Option (Map (List ℕ))) → held_on s0 ≡ o → IfSome o (λ m. ((i : ℕ) → i < count_of l → GivesEntry l i m) → Quiet s0.faults s.faults → (c ≡ c0) × (s.files ≡ s0.files))
          → IfSome o (λ m. ((i : ℕ) → i < count_of l → GivesEntry l i m) → Quiet s0.faults t.faults → (d ≡ c0) × (t.files ≡ s0.files))
      go None is was = tt
      go (Some m) is was = λ all quiet.
          let same = was all (quiet_within s0.faults s0.faults s.faults t.faults (omega arith) turn.stocks.never_falls quiet) in
          let found = λ (unfound : EntryUnfound l i s t).
          found_still i s0 s t m is same.1 (all i inside) (quiet_within s0.faults s.faults t.faults t.faults before.stocks.never_falls (omega arith) quiet) unfound in
          elim turn.asks [
            | inl kept ↦ elim kept.1 [
              | inl files ↦ (kept.0 ∙ same.0, files ∙ same.1)
              | inr unfound ↦ absurd (found unfound)
            ]
            | inr more ↦ absurd (found more.0)
          ]

    pub turn_spares : SparesStores l s0 t c0 d
    turn_spares = go (held_on s0) turn_spared where
      go : (o : Option (Map (List ℕ))) → IfSome o (λ m. ((i : ℕ) → i < count_of l → GivesEntry l i m) → Quiet s0.faults t.faults → (d ≡ c0) × (t.files ≡ s0.files))
          → IfSome o (λ m. ((i : ℕ) → i < count_of l → GivesEntry l i m) → Quiet s0.faults t.faults → d ≡ c0)
      go None h = tt
      go (Some m) h = λ all quiet. (h all quiet).0

    -- nothing has failed over the whole, so neither before nor in this call
    module _ (m : Map (List ℕ)) (maps : List (Map (List ℕ))) (nothing : FillUnfailed store.holds store.faults l m maps s0 t c0.stores d.stores) where
      shelf_quiet : Quiet s.faults t.faults
      shelf_quiet = quiet_within s0.faults s.faults t.faults t.faults before.stocks.never_falls (omega arith) nothing.shelf

      stores_quiet : EachQuiet (map store.faults c.stores) (map store.faults d.stores)
      stores_quiet = each_within (map store.faults c0.stores) (map store.faults c.stores) (map store.faults d.stores) (map store.faults d.stores) before.stores.never_fall (λ k. omega arith) nothing.stores

      nothing_before : FillUnfailed store.holds store.faults l m maps s0 s c0.stores c.stores
      nothing_before = record {
        held = nothing.held;
        told = nothing.told;
        shelf = quiet_within s0.faults s0.faults s.faults t.faults (omega arith) turn.stocks.never_falls nothing.shelf;
        stores = each_within (map store.faults c0.stores) (map store.faults c0.stores) (map store.faults c.stores) (map store.faults d.stores) (λ k. omega arith) turn.stores.never_fall nothing.stores;
        sizes = nothing.sizes;
      }

      pub given_before : (j : ℕ) → j < i → IsGivenBy l m maps j
      given_before = before.given m maps nothing_before

      -- by the cache as it was then or by a store, so by the cache as it was at first or by a store
      given_here : ((n : Map (List ℕ)) → held_on s ≡ Some n → map store.holds c.stores ≡ map Some maps → EachQuiet (map store.faults c.stores) (map store.faults d.stores) → IsGivenBy l n maps i) → IsGivenBy l m maps i
      given_here gives =
          let now = told_still s0 s m nothing.held before.stocks.told in
          let P : Option (Map (List ℕ)) → Type 0 = λ o. IfSome o (λ n. GivesEntry l i n → IsGivenBy l m maps i) in
          let gave : GivesEntry l i now.0 → IsGivenBy l m maps i = subst P now.1 (gave_entry store.members l c0.stores m maps (told_members store alone c0.stores maps nothing.told) i s0 s nothing.held stocks_before) in
          elim (gives now.0 now.1 (before.stores.held ∙ nothing.told) stores_quiet) [
            | inl there ↦ gave there
            | inr store ↦ inr store
          ]

    pub filled_more : IfSome (held_on t) (GivesEntry l i)
        → ((m : Map (List ℕ)) (maps : List (Map (List ℕ))) → held_on s ≡ Some m → map store.holds c.stores ≡ map Some maps → EachQuiet (map store.faults c.stores) (map store.faults d.stores) → IsGivenBy l m maps i)
        → Filled store l (i + 1) s0 t c0 d
    filled_more there gives = record {
      holds_all = holds_more l i t there (holds_still store.members l c0.stores i s t stocks_now before.holds_all);
      given = λ m maps nothing. below_more _ _ (given_before m maps nothing) (given_here m maps nothing (λ n held told quiet. gives n maps held told quiet));
      asks = turn_asks;
      spared = turn_spared;
      stocks = turn_order;
      stores = turn_gets;
    }

    -- ---- where entry i ended early

    filled_before : FillsFirst store l i s0 s c0 c
    filled_before = record { holds = before.holds_all; stocks = before.stocks; asks = before.asks; stores = before.stores }

    held_before : HoldsTo l i t
    held_before = holds_still store.members l c0.stores i s t stocks_now before.holds_all

    kept_stocks : Stocks (λ q b. ⊥) s t → Stocks (λ q b. IsListedId l i q) s0 t
    kept_stocks kept = stocks_on (λ q b. IsListedId l i q) s0 s t
        (stocks_weaker (λ q b. IsListedId l i q × MayFillCache store.members l c0.stores q b) (λ q b. IsListedId l i q) (λ q b h. h.0) s0 s before.stocks)
        (stocks_weaker (λ q b. ⊥) (λ q b. IsListedId l i q) (λ q b none. absurd none) s t kept)

    pub turn_stops : (fault : FillFault) → EntryFails store l i s t c d fault → Stocks (λ q b. ⊥) s t → FillStops store l fault s0 t c0 d
    turn_stops fault fails kept = record {
      entry = i;
      listed = inside;
      shelf = s;
      chain = c;
      before = filled_before;
      fails = fails;
      kept = kept;
      asks = turn.asks;
      stores = turn.stores;
      holds = held_before;
      stocks = kept_stocks kept;
    }

    pub turn_holds : (fault : FillFault) → EntryFails store l i s t c d fault → HoldsTo l (filled_to l (Err fault)) t
    turn_holds (faults.Missing k id) h = subst (λ (n : ℕ). HoldsTo l n t) (sym h.0) held_before
    turn_holds (faults.Damaged k id x y) h = subst (λ (n : ℕ). HoldsTo l n t) (sym h.0) held_before
    turn_holds (faults.StoreFault k) h = holds_none l t
    turn_holds faults.CacheFault h = holds_none l t
    turn_holds faults.Memory h = holds_none l t

    -- the cache at first didn't give a chunk that was refused, and no store does
    lost_here : (m : Map (List ℕ)) (maps : List (Map (List ℕ))) → FillUnfailed store.holds store.faults l m maps s0 t c0.stores d.stores → (id : ChunkId) (r : Refused)
        → RefusesEntry store l i id r s t c d
        → (LacksAll (entry_want l i id) maps r → SomeGives (kind_of l) (id_of l i) (size_of l i) maps → ⊥)
        → IsGivenBy l m maps i → ⊥
    lost_here m maps nothing id r h never (inl first) =
        not_at_first store.members l c0.stores m maps (told_members store alone c0.stores maps nothing.told) nothing.sizes i s0 s t inside nothing.held stocks_before h.unfound
        (shelf_quiet m maps nothing) first
    lost_here m maps nothing id r h never (inr store) = never (h.lacks maps (before.stores.held ∙ nothing.told)) store

    first_lost : (m : Map (List ℕ)) (maps : List (Map (List ℕ))) → FillUnfailed store.holds store.faults l m maps s0 t c0.stores d.stores → (k : ℕ) → k ≡ i → (IsGivenBy l m maps i → ⊥) → IsFirstLost l m maps k
    first_lost m maps nothing k at lost = subst (λ (n : ℕ). IsFirstLost l m maps n) (sym at) (lost, given_before m maps nothing)

    pub turn_exactly : (fault : FillFault) → EntryFails store l i s t c d fault
        → (m : Map (List ℕ)) (maps : List (Map (List ℕ))) → FillUnfailed store.holds store.faults l m maps s0 t c0.stores d.stores → FillsBy l m maps (Err fault)
    turn_exactly (faults.Missing k id) h m maps nothing =
        first_lost m maps nothing k h.0 (lost_here m maps nothing id refused.Missing h.1 (missing_never l i id h.1.id_is maps))
    turn_exactly (faults.Damaged k id x y) h m maps nothing =
        first_lost m maps nothing k h.0 (lost_here m maps nothing id (refused.Damaged x y) h.1 (damaged_never l i id h.1.id_is x y maps))
    turn_exactly (faults.StoreFault k) h m maps nothing =
        rose_never (slice_index (map store.faults c.stores) k) (slice_index (map store.faults d.stores) k) (stores_quiet m maps nothing k)
        (first_rose store.said store.faults store.may_lack_memory (entry_want l i h.0) k c.stores d.stores h.1.refused)
    turn_exactly faults.CacheFault h m maps nothing = rose_never s.faults t.faults (shelf_quiet m maps nothing) h.1
    turn_exactly faults.Memory h m maps nothing = tt

    -- what an answer says then
    pub answers_stopped : (fault : FillFault) → EntryFails store l i s t c d fault → Stocks (λ q b. ⊥) s t → FillAnswers store l s0 t c0 d [] [] 0 (Err fault)
    answers_stopped fault fails kept = record {
      holds = turn_holds fault fails;
      order = inl (refl, inr (turn_stops fault fails kept));
      exactly = λ m maps nothing quiet. turn_exactly fault fails m maps nothing;
      asks = turn_asks_all;
      spared = turn_spares;
      stocks = turn_stocks;
      stores = turn_stores;
    }

    -- ---- where the stores of a further worker refused it

    module _ (unfound : EntryUnfound l i s t) (files : t.files ≡ s.files) (kept : Stocks (λ q b. ⊥) s t) (same : d ≡ c) (f0 f1 : List (Chained S)) (alike : All (λ x. map store.holds x.stores ≡ map store.holds c0.stores) f0) (n : ℕ) (inside_0 : n < length f0) (inside_1 : n < length f1) where
      ahead_holds : (id : ChunkId) (r : Refused) → HoldsTo l (filled_to l (Err (fill_fault_of i id r))) t
      ahead_holds id refused.Missing = held_before
      ahead_holds id (refused.Damaged x y) = held_before
      ahead_holds id (refused.StoreFault k) = holds_none l t
      ahead_holds id refused.Memory = holds_none l t

      lost_ahead : (m : Map (List ℕ)) (maps : List (Map (List ℕ))) → FillUnfailed store.holds store.faults l m maps s0 t c0.stores d.stores → (id : ChunkId) (r : Refused)
          → RefusesAhead store l i id r (slice_index_or f0 n c0) (slice_index_or f1 n c0)
          → (LacksAll (entry_want l i id) maps r → SomeGives (kind_of l) (id_of l i) (size_of l i) maps → ⊥)
          → IsGivenBy l m maps i → ⊥
      lost_ahead m maps nothing id r h never (inl first) =
          not_at_first store.members l c0.stores m maps (told_members store alone c0.stores maps nothing.told) nothing.sizes i s0 s t inside nothing.held stocks_before unfound
          (shelf_quiet m maps nothing) first
      lost_ahead m maps nothing id r h never (inr some) = never (h.lacks maps (alike n c0 inside_0 ∙ nothing.told)) some

      ahead_exactly : (id : ChunkId) (r : Refused) → RefusesAhead store l i id r (slice_index_or f0 n c0) (slice_index_or f1 n c0)
          → (m : Map (List ℕ)) (maps : List (Map (List ℕ))) → FillUnfailed store.holds store.faults l m maps s0 t c0.stores d.stores → AreQuiet store.faults f0 f1 → FillsBy l m maps (Err (fill_fault_of i id r))
      ahead_exactly id refused.Missing h m maps nothing quiet = first_lost m maps nothing i refl (lost_ahead m maps nothing id refused.Missing h (missing_never l i id h.id_is maps))
      ahead_exactly id (refused.Damaged x y) h m maps nothing quiet = first_lost m maps nothing i refl (lost_ahead m maps nothing id (refused.Damaged x y) h (damaged_never l i id h.id_is x y maps))
      ahead_exactly id (refused.StoreFault k) h m maps nothing quiet =
          let x = slice_index_or f0 n c0 in
          let y = slice_index_or f1 n c0 in
          let all : EachQuiet (map store.faults x.stores) (map store.faults y.stores) = AllZip-get_or (λ a b. EachQuiet (map store.faults a.stores) (map store.faults b.stores)) f0 f1 n c0 c0 quiet inside_0 in
          let last : EachQuiet (map store.faults (h.chain).stores) (map store.faults y.stores) =
          each_within (map store.faults x.stores) (map store.faults (h.chain).stores) (map store.faults y.stores) (map store.faults y.stores) (h.before).never_fall (λ k. omega arith) all in
          rose_never (slice_index (map store.faults (h.chain).stores) k) (slice_index (map store.faults y.stores) k) (last k)
          (first_rose store.said store.faults store.may_lack_memory (entry_want l i id) k (h.chain).stores y.stores h.refused)
      ahead_exactly id refused.Memory h m maps nothing quiet = tt

      pub answers_ahead : (fault : FillFault) → ((x : Chained S) → RefusedAhead store l i fault (slice_index_or f0 n x) (slice_index_or f1 n x)) → FillAnswers store l s0 t c0 d f0 f1 (n + 1) (Err fault)
      answers_ahead fault told =
          let here = told c0 in
          let A : FillFault → Type 0 = λ f. HoldsTo l (filled_to l (Err f)) t in
          let E : FillFault → Type 0 = λ f. (m : Map (List ℕ)) (maps : List (Map (List ℕ))) → FillUnfailed store.holds store.faults l m maps s0 t c0.stores d.stores → AreQuiet store.faults f0 f1 → FillsBy l m maps (Err f) in
          record {
            holds = subst A (sym here.2) (ahead_holds here.0 here.1);
            order = inr (record {
              entry = i;
              listed = inside;
              shelf = s;
              before = subst (λ (x : Chained S). FillsFirst store l i s0 s c0 x) (sym same) filled_before;
              unfound = unfound;
              kept = files;
              holds = held_before;
              stocks = kept_stocks kept;
              further = n;
              number = refl;
              inside = inside_1;
              refused = told;
            });
            exactly = subst E (sym here.2) (ahead_exactly here.0 here.1 here.3);
            asks = turn_asks_all;
            spared = turn_spares;
            stocks = turn_stocks;
            stores = turn_stores;
          }

  -- entry i was found on the shelf, or what was read ahead was added to it; no store was asked
  pub filled_ahead : TellAlone store → (i : ℕ) → i < count_of l → (s0 s t : Shelf) (c0 c : Chained S) → Filled store l i s0 s c0 c → IsAside l i s t
      → Stocks (λ q b. (q ≡ id_of l i) × MayFillCache store.members l c.stores q b) s t → IfSome (held_on t) (GivesEntry l i)
      → ((m : Map (List ℕ)) (maps : List (Map (List ℕ))) → held_on s ≡ Some m → map store.holds c.stores ≡ map Some maps → IsGivenBy l m maps i)
      → Filled store l (i + 1) s0 t c0 c
  filled_ahead alone i inside s0 s t c0 c before aside stocks gives given =
      let turn : Turns i s t c c = record { asks = inl (refl, aside); stocks = stocks; stores = kept_still store (λ a. a ≡ Get (id_of l i)) c.stores } in
      filled_more alone i inside s0 s t c0 c c before turn gives (λ m maps held told quiet. given m maps held told)

  -- nothing was added to the shelf, which was looked at, or failed
  pub filled_still : (i : ℕ) (s0 s t : Shelf) (c0 c : Chained S) → Filled store l i s0 s c0 c → (t.files ≡ s.files) ⊎ ((i < count_of l) × EntryUnfound l i s t) → Stocks (λ q b. ⊥) s t
      → Filled store l i s0 t c0 c
  filled_still i s0 s t c0 c before aside stocks = record {
    holds_all = holds_still store.members l c0.stores i s t (stocks_weaker (λ q b. ⊥) (MayFillCache store.members l c0.stores) (λ q b none. absurd none) s t stocks) before.holds_all;
    given = λ m maps nothing. before.given m maps (record {
      held = nothing.held;
      told = nothing.told;
      shelf = quiet_within s0.faults s0.faults s.faults t.faults (omega arith) stocks.never_falls nothing.shelf;
      stores = nothing.stores;
      sizes = nothing.sizes;
    });
    asks = before.asks;
    spared = go (held_on s0) refl before.spared;
    stocks = stocks_on (λ q b. IsListedId l i q × MayFillCache store.members l c0.stores q b) s0 s t before.stocks
        (stocks_weaker (λ q b. ⊥) (λ q b. IsListedId l i q × MayFillCache store.members l c0.stores q b) (λ q b none. absurd none) s t stocks);
    stores = before.stores;
  } where
    go : (o : Option (Map (List ℕ))) → held_on s0 ≡ o → IfSome o (λ m. ((j : ℕ) → j < count_of l → GivesEntry l j m) → Quiet s0.faults s.faults → (c ≡ c0) × (s.files ≡ s0.files))
        → IfSome o (λ m. ((j : ℕ) → j < count_of l → GivesEntry l j m) → Quiet s0.faults t.faults → (c ≡ c0) × (t.files ≡ s0.files))
    go None is was = tt
    go (Some m) is was = λ all quiet.
        let same = was all (quiet_within s0.faults s0.faults s.faults t.faults (omega arith) stocks.never_falls quiet) in
        elim aside [
          | inl files ↦ (same.0, files ∙ same.1)
          | inr unfound ↦ absurd (found_still i s0 s t m is same.1 (all i unfound.0) (quiet_within s0.faults s.faults t.faults t.faults before.stocks.never_falls (omega arith) quiet) unfound.1)
        ]

  -- all entries were filled
  pub answers_filled : (i : ℕ) → i ≡ count_of l → (s0 s : Shelf) (c0 c : Chained S) (f0 f1 : List (Chained S)) → Filled store l i s0 s c0 c → FillAnswers store l s0 s c0 c f0 f1 0 (Ok tt)
  answers_filled i all s0 s c0 c f0 f1 before = record {
    holds = subst (λ (n : ℕ). HoldsTo l n s) all before.holds_all;
    order = (refl, subst (λ (n : ℕ). FillsFirst store l n s0 s c0 c) all (record { holds = before.holds_all; stocks = before.stocks; asks = before.asks; stores = before.stores }));
    exactly = λ m maps nothing quiet j less. before.given m maps nothing j (omega (arith, less, all));
    asks = asked_all store.asked store.queried l i (omega (arith, all)) c0 c before.asks;
    spared = go (held_on s0) before.spared;
    stocks = filled_stocks i s0 s c0 c before;
    stores = gets_listed store l i (omega (arith, all)) c0.stores c.stores before.stores;
  } where
    go : (o : Option (Map (List ℕ))) → IfSome o (λ m. ((j : ℕ) → j < count_of l → GivesEntry l j m) → Quiet s0.faults s.faults → (c ≡ c0) × (s.files ≡ s0.files))
        → IfSome o (λ m. ((j : ℕ) → j < count_of l → GivesEntry l j m) → Quiet s0.faults s.faults → c ≡ c0)
    go None h = tt
    go (Some m) h = λ all quiet. (h all quiet).0

  -- without further workers, so with such as did nothing to it
  pub answers_wider : (s0 s : Shelf) (c0 c : Chained S) (f0 f1 : List (Chained S)) (worker : ℕ) (r : Result Unit FillFault) → FillAnswers store l s0 s c0 c [] [] worker r → FillAnswers store l s0 s c0 c f0 f1 worker r
  answers_wider s0 s c0 c f0 f1 worker r h = record {
    holds = h.holds;
    order = wider r h.order;
    exactly = λ m maps nothing quiet. h.exactly m maps nothing tt;
    asks = h.asks;
    spared = h.spared;
    stocks = h.stocks;
    stores = h.stores;
  } where
    wider : (r : Result Unit FillFault) → FillEnds store l s0 s c0 c [] [] worker r → FillEnds store l s0 s c0 c f0 f1 worker r
    wider (Ok u) h = h
    wider (Err fault) (inl first) = inl first
    wider (Err fault) (inr ahead) = absurd (omega (arith, ahead.inside))

  -- an entry that a further worker was to read, and hasn't
  module _ (alone : TellAlone store) (i : ℕ) (s0 t : Shelf) (c0 c : Chained S) (left : LeavesEntry store l i s0 t c0 c) where
    left_turn : Turns i left.shelf t c c
    left_turn = record {
      asks = inl (refl, inl (left.stops).0);
      stocks = stocks_weaker (λ q b. ⊥) (λ q b. (q ≡ id_of l i) × MayFillCache store.members l c.stores q b) (λ q b none. absurd none) left.shelf t left.kept;
      stores = kept_still store (λ a. a ≡ Get (id_of l i)) c.stores;
    }

    -- it had no memory
    pub answers_unread : FillAnswers store l s0 t c0 c [] [] 0 (Err faults.Memory)
    answers_unread = answers_stopped alone i left.listed s0 left.shelf t c0 c c left.filled left_turn faults.Memory (inl refl) left.kept

    -- or its stores refused it
    pub answers_lost : (f0 f1 : List (Chained S)) → All (λ x. map store.holds x.stores ≡ map store.holds c0.stores) f0 → (n : ℕ) → n < length f0 → n < length f1 → (fault : FillFault)
        → ((x : Chained S) → RefusedAhead store l i fault (slice_index_or f0 n x) (slice_index_or f1 n x)) → FillAnswers store l s0 t c0 c f0 f1 (n + 1) (Err fault)
    answers_lost f0 f1 alike n inside_0 inside_1 fault told =
        answers_ahead alone i left.listed s0 left.shelf t c0 c c left.filled left_turn (left.stops).1 (left.stops).0 left.kept refl f0 f1 alike n inside_0 inside_1 fault told
