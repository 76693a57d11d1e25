-- What a call for the chunk of an entry does, by what the cache and the stores behind it have done.
use Rattle.std.proofs.Common.{◌≡◌, ◌⊎◌, ℕ, List, map, take, Option, Some, None, IfSome, IsTrue, Result, Ok, Err, refl, sym, subst, ap, ◌∙◌, inl, inr}
use Rattle.std.proofs.lemmas.Option.{same_Some}
use Rattle.std.specs.Option.{option_map}
use Rattle.cache_store.specs.Shelves.{Shelf, Stocks, held_on, shelf_of}
use Rattle.cache_store.specs.Through.{AddedTo, Behind, FromShelf, FromStores}
use Rattle.cache_store.specs.declared.cached.Got.{Got}
use Rattle.cache_store.specs.declared.cached.Kept.{Kept}
use Rattle.cache_store.specs.declared.cached.Kept.TheVariants as kept
use Rattle.caibx_codec.specs.Listing.{Listing, id_of, kind_of, size_of}
use Rattle.chunk_store.specs.Asks.{Get}
use Rattle.chunk_store.specs.Folders.{chunks}
use Rattle.chunk_store.specs.Paths.{path_of}
use Rattle.dir_store.specs.Puts.{LeavesTemporary}
use Rattle.dsy_base.specs.Folders.{temporary_of}
use Rattle.chunk_store.specs.declared.id.ChunkId.{ChunkId}
use Rattle.chunk_store.specs.declared.id.DigestKind.{DigestKind}
use Rattle.chunk_store.specs.declared.store.Store.{Ghosts as StoreWords}
use Rattle.dsy_base.specs.Counts.{Rose}
use Rattle.dsy_base.specs.Maps.{Map, at_name}
use Rattle.store_chain.proofs.Kept.{kept_weaker}
use Rattle.store_chain.specs.Chains.{AsksOnce, KeepsStores}
use Rattle.store_chain.specs.Faults.{EachQuiet}
use Rattle.store_chain.specs.Giving.{Gives, SomeHolds}
use Rattle.store_chain.specs.Queries.{FillsQuery, query_of}
use Rattle.store_chain.specs.declared.refused.Refused.{Refused}
use Rattle.store_chain.specs.declared.refused.Refused.TheVariants as refused
use Rattle.store_chain.specs.declared.query.Query.{Query}
use Rattle.cache_fill.proofs.Holding.{TellAlone, any_at, given_by, of_wanted, told_members, wanted_of}
use Rattle.cache_fill.specs.Filling.{EntryFails, GivesEntry, IsGivenBy, LosesEntry, RefusesEntry, entry_want, fill_fault_of}
use Rattle.cache_fill.specs.declared.fill.FillFault.TheVariants as faults

-- what is asked for, by the kind and the size that the index tells
pub want_is : (l : Listing) (i : ℕ) (id : ChunkId) (kind : DigestKind) (n room : ℕ) → kind ≡ kind_of l → n ≡ size_of l i → query_of kind id (Some n) room ≡ entry_want l i id
want_is l i id kind n room same sized =
    ap (λ (k : DigestKind). query_of k id (Some n) room) same ∙ ap (λ (m : ℕ). query_of (kind_of l) id (Some m) m) sized

yes_failed : kept.Yes ≡ kept.Failed → ⊥
yes_failed e = cc

yes_memory : kept.Yes ≡ kept.Memory → ⊥
yes_memory e = cc

-- a temporary file changes no chunk
pub temporary_same : (id : List ℕ) (x y : Option (Map (List ℕ))) → ((t : Option (List ℕ)) (m : Map (List ℕ)) → chunks (at_name m (temporary_of (path_of id)) t) ≡ chunks m) → LeavesTemporary id x y → option_map chunks y ≡ option_map chunks x
temporary_same id x y still (t, is) = ap (option_map chunks) is ∙ go x where
  go : (x : Option (Map (List ℕ))) → option_map chunks (option_map (λ m. at_name m (temporary_of (path_of id)) t) x) ≡ option_map chunks x
  go None = refl
  go (Some m) = ap Some (still t m)

-- nothing was added where each chunk is as before
pub none_added : (T : List ℕ → List ℕ → Type 0) (s t : Shelf) → Stocks T s t → held_on t ≡ held_on s → Stocks (λ q b. ⊥) s t
none_added T s t h same = record { told = h.told; chunks = go s.files t.files same; strangers = h.strangers; place = h.place; kind = h.kind; never_falls = h.never_falls; others = h.others } where
  go : (x y : Option (Map (List ℕ))) → option_map chunks y ≡ option_map chunks x → IfSome x (λ m. IfSome y (λ n. (q : List ℕ) → (chunks n q ≡ chunks m q) ⊎ ((b : List ℕ) × (chunks n q ≡ Some b) × ⊥)))
  go None y same = tt
  go (Some m) None same = tt
  go (Some m) (Some n) same = λ q. inl (ap (λ (f : Map (List ℕ)). f q) (same_Some (chunks n) (chunks m) same))

module _ {F S : Type 0} (files : F → Option (Map (List ℕ))) (place_of : F → List ℕ) (faults_of : F → ℕ)
    (store : StoreWords S)
    (l : Listing) (i : ℕ) (id : ChunkId) (is_id : id.0 ≡ id_of l i) (old new : Behind F S) (out : List ℕ) where
  abbrev s0 : Shelf
  s0 = shelf_of files place_of faults_of old.shelf

  abbrev s1 : Shelf
  s1 = shelf_of files place_of faults_of new.shelf

  abbrev pub Ends : Query → Result Got Refused → Type 0
  Ends w r = FromShelf files place_of faults_of w old new r out ⊎ FromStores files place_of faults_of store.holds store.members store.said store.faults store.may_lack_memory store.asked store.queried w old new r out

  unfound_of : (o : Option (Map (List ℕ))) → IfSome o (λ m. Gives (entry_want l i id) m → Rose s0.faults s1.faults) → IfSome o (λ m. GivesEntry l i m → Rose s0.faults s1.faults)
  unfound_of None h = tt
  unfound_of (Some m) h = λ gives. h (wanted_of l i id is_id m gives)

  asked_once : AsksOnce store.asked store.queried id.0 old.chain new.chain → AsksOnce store.asked store.queried (id_of l i) old.chain new.chain
  asked_once h = subst (λ (q : List ℕ). AsksOnce store.asked store.queried q old.chain new.chain) is_id h

  -- the cache gave it, or a store
  module _ (got : Got) (given : FillsQuery (entry_want l i id) got.size out) where
    abbrev b : List ℕ
    b = take got.size out

    entry_at : (m : Map (List ℕ)) → m id.0 ≡ Some b → GivesEntry l i m
    entry_at m held = (b, ap m (sym is_id) ∙ held, of_wanted l i id is_id b given.wanted)

    pub call_gives : (m : Map (List ℕ)) (maps : List (Map (List ℕ))) → held_on s0 ≡ Some m → map store.holds old.chain.stores ≡ map Some maps
        → EachQuiet (map store.faults old.chain.stores) (map store.faults new.chain.stores) → Ends (entry_want l i id) (Ok got) → IsGivenBy l m maps i
    call_gives m maps held told quiet (inl h) =
        let P : Option (Map (List ℕ)) → Type 0 = λ o. IfSome o (λ n. n id.0 ≡ Some b) in
        inl (entry_at m (subst P held h.answer.2))
    call_gives m maps held told quiet (inr h) =
        let first = h.exactly maps told quiet in
        inr (any_at (GivesEntry l i) (λ n. Gives (entry_want l i id) n → IsTrue store.may_lack_memory) (λ n. n id.0 ≡ Some b) (λ n. Unit {0}) entry_at first.0 maps first.1)

    -- a store did, but it wasn't put
    lost : TellAlone store → FromStores files place_of faults_of store.holds store.members store.said store.faults store.may_lack_memory store.asked store.queried (entry_want l i id) old new (Ok got) out
        → LosesEntry store l i s0 s1 old.chain new.chain
    lost alone h = record {
      id = id;
      id_is = is_id;
      unfound = unfound_of (held_on s0) h.unfound;
      bytes = b;
      wanted = given.wanted;
      asked = asked_once h.asks;
      given = h.found;
      gives = λ maps told.
          let Held : List ℕ → Type 0 = λ q. SomeHolds store.members old.chain.stores q b in
          given_by store.members l old.chain.stores maps (told_members store alone old.chain.stores maps told) (id_of l i) b (size_of l i) (subst Held is_id h.had) (of_wanted l i id is_id b given.wanted);
    }

    module _ (alone : TellAlone store) (still : (x : Option (List ℕ)) (m : Map (List ℕ)) → chunks (at_name m (temporary_of (path_of id.0)) x) ≡ chunks m) where
      pub call_failed : got.kept ≡ kept.Failed → Ends (entry_want l i id) (Ok got) → EntryFails store l i s0 s1 old.chain new.chain faults.CacheFault × (held_on s1 ≡ held_on s0)
      call_failed is (inl h) = absurd (yes_failed (sym h.answer.1 ∙ is))
      call_failed is (inr h) =
          let Added : Kept → Type 0 = λ k. AddedTo id.0 b k s0 s1 in
          let added = subst Added is h.added.1 in
          ((inl (lost alone h), added.1), temporary_same id.0 s0.files s1.files still added.0)

      pub call_lacked : got.kept ≡ kept.Memory → Ends (entry_want l i id) (Ok got) → EntryFails store l i s0 s1 old.chain new.chain faults.Memory × (held_on s1 ≡ held_on s0)
      call_lacked is (inl h) = absurd (yes_memory (sym h.answer.1 ∙ is))
      call_lacked is (inr h) =
          let Added : Kept → Type 0 = λ k. AddedTo id.0 b k s0 s1 in
          (inr (inr (lost alone h)), temporary_same id.0 s0.files s1.files still (subst Added is h.added.1))

  -- the stores refuse it
  abbrev Told : Refused → Type 0
  Told r = EntryFails store l i s0 s1 old.chain new.chain (fill_fault_of i id r)

  refused_at : (r : Refused) → FromStores files place_of faults_of store.holds store.members store.said store.faults store.may_lack_memory store.asked store.queried (entry_want l i id) old new (Err r) out
      → RefusesEntry store l i id r s0 s1 old.chain new.chain
  refused_at r h = record {
    id_is = is_id;
    unfound = unfound_of (held_on s0) h.unfound;
    kept = h.added;
    asked = asked_once h.asks;
    refused = h.absent;
    lacks = h.first;
  }

  pub call_refused : (r : Refused) → Ends (entry_want l i id) (Err r) → Told r
  call_refused r (inl h) = subst Told (sym h.answer) (inl h.chain)
  call_refused refused.Missing (inr h) = (refl, refused_at refused.Missing h)
  call_refused (refused.Damaged s x) (inr h) = (refl, refused_at (refused.Damaged s x) h)
  call_refused (refused.StoreFault s) (inr h) = (id, refused_at (refused.StoreFault s) h)
  call_refused refused.Memory (inr h) = inr (inl (id, refused_at refused.Memory h))

  pub refused_held : (w : Query) (r : Refused) → Ends w (Err r) → held_on s1 ≡ held_on s0
  refused_held w r (inl h) = ap (option_map chunks) h.shelf.files
  refused_held w r (inr h) = ap (option_map chunks) h.added

-- the stores were asked for the chunk of this entry alone
pub entry_kept : {S : Type 0} (store : StoreWords S) (l : Listing) (i : ℕ) (id : List ℕ) (old new : List S) → id ≡ id_of l i
    → KeepsStores store (λ a. a ≡ Get id) old new → KeepsStores store (λ a. a ≡ Get (id_of l i)) old new
entry_kept store l i id old new is kept = kept_weaker store (λ a. a ≡ Get id) (λ a. a ≡ Get (id_of l i)) (λ a asked. asked ∙ ap Get is) old new kept
