-- What further workers have asked their stores for, and what stands in their rooms.
use Rattle.std.proofs.Common.{◌≡◌, ℕ, zero, suc, ◌+◌, ◌<◌, ◌≤◌, List, [], ◌∷◌, map, length, slice_index_or, Option, Some, IfSome, All, refl, sym, subst, ap, ◌∙◌, inl, inr, arith}
use Rattle.std.specs.List.{AllZip}
use Rattle.std.proofs.lemmas.List.{get_or-map}
use Rattle.std.proofs.lemmas.List.Elements.{All-head, All-rest, AllZip-get_or, length_all_zip}
use Rattle.chunk_dealing.proofs.Owners.{dealt_more, dealt_on, dealt_rises, dealt_still, few_calls, few_listed}
use Rattle.chunk_dealing.specs.Dealing.{ByNumber, dealt_times, lists_id, owner_of}
use Rattle.cache_fill.specs.Fetching.{Fetches, FetchesDealt, SomeHoldsEntry}
use Rattle.cache_fill.specs.FillProgress.{RiseByOne, IsHired, TellsLost}
use Rattle.cache_fill.proofs.EntryCalls.{want_is}
use Rattle.cache_fill.specs.Filling.{RefusedAhead, entry_want, fill_fault_of}
use Rattle.cache_fill.specs.declared.fill.FillFault.{FillFault}
use Rattle.cache_fill.specs.declared.want_reader.WantReader.{WantReader}
use Rattle.caibx_codec.specs.Asks.{IsListedGet}
use Rattle.caibx_codec.specs.Listing.{Listing, count_of, id_of, kind_of, size_of}
use Rattle.chunk_store.specs.Asks.{Get}
use Rattle.chunk_store.specs.Members.{told_together}
use Rattle.chunk_store.specs.Said.{AskedOnce}
use Rattle.chunk_store.specs.declared.id.ChunkId.{ChunkId}
use Rattle.chunk_store.specs.declared.id.DigestKind.{DigestKind}
use Rattle.chunk_store.specs.declared.store.Store.{Ghosts as StoreWords}
use Rattle.dsy_base.specs.Maps.{Map}
use Rattle.image_chop.specs.Chopping.{AsksListed}
use Rattle.image_slices.specs.Ahead.{IsAhead}
use Rattle.image_slices.specs.declared.ahead.Ahead.{Ahead}
use Rattle.image_store.proofs.Names.{equal_or_not}
use Rattle.store_chain.proofs.Kept.{kept_on, kept_still, kept_weaker}
use Rattle.store_chain.proofs.Pairs.{all_zip_same}
use Rattle.store_chain.specs.Chains.{AsksOnce, Chained, KeepsStores}
use Rattle.store_chain.specs.Giving.{LacksAll}
use Rattle.store_chain.specs.Queries.{query_of}
use Rattle.store_chain.specs.Refusals.{Refuses}
use Rattle.store_chain.specs.declared.query.Query.{Query}
use Rattle.store_chain.specs.declared.refused.Refused.{Refused}
use Rattle.verify_tool.proofs.Asked.{each_then}

-- ---- what the stores of a worker were asked for

module _ {S : Type 0} (store : StoreWords S) (l : Listing) (owner : ℕ → ℕ) (k : ℕ) where
  pub fetches_none : (n : ℕ) (c : Chained S) → Fetches store l owner k n c c
  fetches_none n c = record {
    dealt = dealt_still store.asked store.queried l owner k n c;
    no_less = all_zip_same (λ x y. (q : List ℕ) → store.asked x q ≤ store.asked y q) (λ s q. omega arith) c.stores;
    queries = refl;
    no_fewer = omega arith;
    kind = refl;
    kept = kept_still store (IsListedGet l) c.stores;
  }

  -- its entry i was asked for, none from `next` on before
  pub fetches_more : (next i : ℕ) → next ≤ i → i < count_of l → owner i ≡ k → (c d e : Chained S) → AsksOnce store.asked store.queried (id_of l i) d e
      → KeepsStores store (λ a. a ≡ Get (id_of l i)) d.stores e.stores → Fetches store l owner k next c d → Fetches store l owner k (i + 1) c e
  fetches_more next i le less own c d e once kept before = record {
    dealt = dealt_more store.asked store.queried l owner k i own c d e (dealt_on store.asked store.queried l owner k next i le c d before.dealt) once;
    no_less = each_then (λ x y. (q : List ℕ) → store.asked x q ≤ store.asked y q) (λ x y. AskedOnce (store.asked x) (store.asked y) (id_of l i)) (λ x y. (q : List ℕ) → store.asked x q ≤ store.asked y q)
        (λ x y z h g q. (let one = h q in let then = asked_no_less (store.asked y) (store.asked z) g q in omega (arith, one, then))) c.stores d.stores e.stores before.no_less once.stores;
    queries = once.queries ∙ before.queries;
    no_fewer = omega (arith, before.no_fewer, once.calls, once.below);
    kind = once.kind ∙ before.kind;
    kept = kept_on store (IsListedGet l) c.stores d.stores e.stores before.kept (gets_listed d e kept);
  } where
    asked_no_less : (old new : List ℕ → ℕ) → AskedOnce old new (id_of l i) → (q : List ℕ) → old q ≤ new q
    asked_no_less old new one q = elim (equal_or_not q (id_of l i)) [
      | inl same ↦ subst (λ (p : List ℕ). old p ≤ new p) (sym same) one.no_less
      | inr other ↦ let still = one.others q other in omega (arith, still)
    ]

    gets_listed : (d e : Chained S) → KeepsStores store (λ a. a ≡ Get (id_of l i)) d.stores e.stores → KeepsStores store (IsListedGet l) d.stores e.stores
    gets_listed d e kept = kept_weaker store (λ a. a ≡ Get (id_of l i)) (IsListedGet l) (λ a asked. record { entry = i; listed = less; asked = asked }) d.stores e.stores kept

  pub fetches_ahead : (n : ℕ) → n ≤ count_of l → (c d : Chained S) → Fetches store l owner k n c d → FetchesDealt store l owner k c d
  fetches_ahead n le c d before = record {
    ahead = record {
      asks = record {
        stores = listed c.stores d.stores before.no_less (before.dealt).gets;
        queries = before.queries;
        no_fewer = before.no_fewer;
        calls = let few = few_calls owner k n in omega (arith, (before.dealt).calls, few, le);
        kind = before.kind;
      };
      stores = before.kept;
    };
    dealt = dealt_on store.asked store.queried l owner k n (count_of l) le c d before.dealt;
  } where
    listed : (xs ys : List S) → AllZip (λ x y. (q : List ℕ) → store.asked x q ≤ store.asked y q) xs ys → AllZip (λ x y. (q : List ℕ) → store.asked y q ≤ store.asked x q + dealt_times owner (lists_id l q) k n) xs ys
        → AllZip (λ x y. AsksListed l (count_of l) (store.asked x) (store.asked y)) xs ys
    listed [] [] no_less few = tt
    listed [] (y ∷ ys) no_less few = absurd no_less
    listed (x ∷ xs) [] no_less few = absurd no_less
    listed (x ∷ xs) (y ∷ ys) no_less few = (
      record {
        no_less = no_less.0;
        most = λ q. (let one = few.0 q in
            let up = dealt_rises owner (lists_id l q) k n (count_of l) le in
            let all = few_listed l q owner k (count_of l) (omega arith) in
            omega (arith, one, up, all));
      },
      listed xs ys no_less.1 few.1,
    )

-- the stores of a worker, asked for the chunk of entry i last, refused it
pub refused_last : {S : Type 0} (store : StoreWords S) (l : Listing) (i : ℕ) (id : ChunkId) → id.0 ≡ id_of l i → (kind : DigestKind) (size room : ℕ) → kind ≡ kind_of l → size ≡ size_of l i → (owner : ℕ → ℕ) (k next : ℕ) (c d e : Chained S) (r : Refused) (fault : FillFault) → fault ≡ fill_fault_of i id r
    → AsksOnce store.asked store.queried id.0 d e → Refuses store.said store.faults store.may_lack_memory (query_of kind id (Some size) room) d.stores e.stores r
    → ((maps : List (Map (List ℕ))) → map store.holds d.stores ≡ map Some maps → LacksAll (query_of kind id (Some size) room) maps r) → Fetches store l owner k next c d → RefusedAhead store l i fault c e
refused_last store l i id is_id kind size room same sized owner k next c d e r fault fault_is once refused lacks before =
    let wanted = want_is l i id kind size room same sized in
    let P : Query → Type 0 = λ w. Refuses store.said store.faults store.may_lack_memory w d.stores e.stores r in
    let Q : Query → Type 0 = λ w. (maps : List (Map (List ℕ))) → map store.holds d.stores ≡ map Some maps → LacksAll w maps r in
    let lacked : Q (entry_want l i id) = subst Q wanted lacks in (
      id,
      r,
      fault_is,
      record {
        id_is = is_id;
        chain = d;
        before = before.kept;
        asked = subst (λ (q : List ℕ). AsksOnce store.asked store.queried q d e) is_id once;
        refused = subst P wanted refused;
        lacks = λ maps told. lacked maps ((before.kept).held ∙ told);
      },
    )

-- ---- what stands in their rooms

module _ {S : Type 0} (members : S → Option (List (Map (List ℕ)))) (l : Listing) where
  -- what some store holds is held by stores that hold the same
  pub rooms_same : (c d : List S) → map members d ≡ map members c → (a : Ahead) → IsAhead l (SomeHoldsEntry members l c) a → IsAhead l (SomeHoldsEntry members l d) a
  rooms_same c d same a is = record {
    room = is.room;
    slices = λ i b has.
        let slice = is.slices i b has in
        record { size = slice.size; named = slice.named; is = λ maps told. slice.is maps (ap told_together (sym same) ∙ told) };
  }

-- and so is what stands there by one listing of two equal ones
pub rooms_back : {S : Type 0} (members : S → Option (List (Map (List ℕ)))) (l k : Listing) (c d : List S) → k ≡ l → map members d ≡ map members c → (a : Ahead) → IsAhead k (SomeHoldsEntry members k d) a → IsAhead l (SomeHoldsEntry members l c) a
rooms_back members l k c d same held a is = rooms_same members l d c (sym held) a (subst (λ (k : Listing). IsAhead k (SomeHoldsEntry members k d) a) same is)

-- ---- readers over the whole way

module _ {S : Type 0} (store : StoreWords S) where
  abbrev pub Went : WantReader S → WantReader S → Type 0
  Went r s = (s.index.now ≡ r.index.now) × (s.owners.now ≡ r.owners.now) × (s.number ≡ r.number) × (s.next ≤ count_of s.index.now)
      × Fetches store s.index.now (owner_of s.owners.now) s.number s.next r.chain s.chain
      × IfSome s.lost (λ p. RefusedAhead store s.index.now p.entry p.fault r.chain s.chain)

  module _ (l : Listing) (owners : List ℕ) where
    began : (r : WantReader S) → IsHired l owners r → Went r r
    began r is = (
      refl,
      refl,
      refl,
      omega (arith, is.next),
      fetches_none store r.index.now (owner_of r.owners.now) r.number r.next r.chain,
      subst (λ o. IfSome o (λ p. RefusedAhead store r.index.now p.entry p.fault r.chain r.chain)) (sym is.lost) tt,
    )

    pub readers_begin : (rs : List (WantReader S)) → All (IsHired l owners) rs → AllZip Went rs rs
    readers_begin [] all = tt
    readers_begin (r ∷ rs) all = (began r (All-head (IsHired l owners) r rs all), readers_begin rs (All-rest (IsHired l owners) r rs _ refl all))

    fetched : (m : ℕ) (r s : WantReader S) → IsHired l owners r → r.number ≡ m → Went r s → FetchesDealt store l (owner_of owners) m r.chain s.chain
    fetched m r s is numbered went =
        let index : s.index.now ≡ l = went.0 ∙ is.index in
        let dealt : s.owners.now ≡ owners = went.1 ∙ is.owners_are in
        let number : s.number ≡ m = went.2 ∙ numbered in
        subst (λ (k : Listing). FetchesDealt store k (owner_of owners) m r.chain s.chain) index
        (subst (λ (o : List ℕ). FetchesDealt store s.index.now (owner_of o) m r.chain s.chain) dealt
        (subst (λ (n : ℕ). FetchesDealt store s.index.now (owner_of s.owners.now) n r.chain s.chain) number
        (fetches_ahead store s.index.now (owner_of s.owners.now) s.number s.next went.3 r.chain s.chain went.4)))

    pub readers_end : (m : ℕ) (rs ss : List (WantReader S)) → All (IsHired l owners) rs → RiseByOne m rs → AllZip Went rs ss → ByNumber (FetchesDealt store l (owner_of owners)) m (map (λ r. r.chain) rs) (map (λ r. r.chain) ss)
    readers_end m [] [] all numbered went = tt
    readers_end m [] (s ∷ ss) all numbered went = absurd went
    readers_end m (r ∷ rs) [] all numbered went = absurd went
    readers_end m (r ∷ rs) (s ∷ ss) all numbered went = (
      fetched m r s (All-head (IsHired l owners) r rs all) numbered.0 went.0,
      readers_end (suc m) rs ss (All-rest (IsHired l owners) r rs _ refl all) numbered.1 went.1,
    )

    number_at : (m : ℕ) (rs : List (WantReader S)) (n : ℕ) (d : WantReader S) → RiseByOne m rs → n < length rs → (slice_index_or rs n d).number ≡ m + n
    number_at m [] n d numbered inside = absurd (omega (arith, inside))
    number_at m (r ∷ rs) zero d numbered inside = numbered.0 ∙ omega arith
    number_at m (r ∷ rs) (suc n) d numbered inside = number_at (suc m) rs n d numbered.1 (omega (arith, inside)) ∙ omega arith

    -- one of them lost an entry: its stores refused it
    pub reader_lost : (rs ss : List (WantReader S)) → All (IsHired l owners) rs → RiseByOne 1 rs → AllZip Went rs ss → (entry worker : ℕ) (fault : FillFault) → (tells : TellsLost entry ss worker fault)
        → (worker ≡ tells.place + 1) × ((d : Chained S) → RefusedAhead store l entry fault (slice_index_or (map (λ r. r.chain) rs) tells.place d) (slice_index_or (map (λ r. r.chain) ss) tells.place d))
    reader_lost [] [] hired numbered went entry worker fault tells = absurd (omega (arith, tells.inside))
    reader_lost [] (s ∷ ss) hired numbered went entry worker fault tells = absurd went
    reader_lost (r ∷ rs) ss hired numbered went entry worker fault tells =
        let n = tells.place in
        let many : length (r ∷ rs) ≡ length ss = length_all_zip Went (r ∷ rs) ss went in
        let inside : n < length (r ∷ rs) = omega (arith, many, tells.inside) in
        let x = slice_index_or (r ∷ rs) n r in
        let y = slice_index_or ss n r in
        let here : Went x y = AllZip-get_or Went (r ∷ rs) ss n r r went inside in
        let at = number_at 1 (r ∷ rs) n r numbered inside in
        let told : RefusedAhead store y.index.now entry fault x.chain y.chain = subst (λ o. IfSome o (λ p. RefusedAhead store y.index.now p.entry p.fault x.chain y.chain)) (tells.lost r) here.5 in
        let by_index : RefusedAhead store l entry fault x.chain y.chain = subst (λ (k : Listing). RefusedAhead store k entry fault x.chain y.chain) (here.0 ∙ (hired n r inside).index) told in (
          sym (tells.number r) ∙ here.2 ∙ at ∙ omega arith,
          λ d. subst (λ (c : Chained S). RefusedAhead store l entry fault c (slice_index_or (map (λ r. r.chain) ss) n d)) (sym (get_or-map (λ (r : WantReader S). r.chain) (r ∷ rs) n r d inside))
              (subst (λ (e : Chained S). RefusedAhead store l entry fault x.chain e) (sym (get_or-map (λ (r : WantReader S). r.chain) ss n r d tells.inside)) by_index),
        )
