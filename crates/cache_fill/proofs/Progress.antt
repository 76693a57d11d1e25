-- A cache that is filled: how it begins, goes on and ends, and the readers beside it.
use Rattle.std.proofs.Common.{◌≡◌, ℕ, suc, ◌+◌, ◌<◌, ◌≤◌, List, [], ◌∷◌, ◌++◌, map, reverse, get_or, slice_index_or, length, All, Option, Some, None, IfSome, OnOk, Result, Ok, Err, refl, sym, subst, ap, ◌∙◌, inl, inr, arith}
use Rattle.std.proofs.lemmas.List.{append_assoc, get_or-map, length-map, map-append, reverse-append, reverse-reverse}
use Rattle.std.proofs.lemmas.List.Elements.{All-cons, All-head, All-nil, All-tail}
use Rattle.chunk_dealing.proofs.Owners.{dealt_more, dealt_on}
use Rattle.cache_fill.proofs.Holding.{TellAlone}
use Rattle.cache_fill.proofs.Filled.{Turns, answers_filled, answers_lost, answers_stopped, answers_unread, answers_wider, filled_ahead, filled_none, filled_still}
use Rattle.chunk_dealing.specs.Dealing.{AsksOwn, owner_of}
use Rattle.cache_fill.specs.Filling.{GivesEntry, IsAside, IsGivenBy, MayFillCache, RefusedAhead, TurnAsks}
use Rattle.cache_fill.specs.FillProgress.{RiseByOne, EndedSo, FillAnswers, Filled, FillsOn, HasStopped, IsFilling, IsHired, LeavesEntry, StopsEntry, TellsLost, shelf_at}
use Rattle.cache_fill.specs.declared.entry.Stop.{Stop}
use Rattle.cache_fill.specs.declared.entry.Stop.TheVariants as stop
use Rattle.cache_fill.specs.declared.fill.FillFault.{FillFault}
use Rattle.cache_fill.specs.declared.fill.FillFault.TheVariants as faults
use Rattle.cache_fill.specs.declared.filling.Filling.{Filling}
use Rattle.cache_fill.specs.declared.want_reader.WantReader.{WantReader}
use Rattle.cache_store.proofs.Stocked.{stocks_looked}
use Rattle.cache_store.specs.Shelves.{KeepsShelf, Shelf, Stocks, held_on}
use Rattle.cache_store.specs.Through.{Behind}
use Rattle.caibx_codec.specs.Listing.{Listing, count_of, id_of}
use Rattle.chunk_store.specs.Asks.{Get}
use Rattle.chunk_store.specs.declared.store.Store.{Ghosts as StoreWords}
use Rattle.dsy_base.specs.Maps.{Map}
use Rattle.dsy_base.specs.declared.look.Look.{Ghosts as LookWords}
use Rattle.store_chain.proofs.Kept.{kept_still}
use Rattle.store_chain.specs.Chains.{Chained}

-- a shelf that was looked at again
pub looked_on : (a b c : Shelf) → KeepsShelf a b → KeepsShelf b c → KeepsShelf a c
looked_on a b c first then = record {
  files = then.files ∙ first.files;
  place = then.place ∙ first.place;
  kind = then.kind ∙ first.kind;
  never_falls = omega (arith, first.never_falls, then.never_falls);
  others = then.others ∙ first.others;
}

pub looked_none : (a : Shelf) → KeepsShelf a a
looked_none a = record { files = refl; place = refl; kind = refl; never_falls = omega arith; others = refl }

-- entry i, which is its own, was seen to
pub dealt_turn : {S : Type 0} (store : StoreWords S) (l : Listing) (owner : ℕ → ℕ) (k i : ℕ) → owner i ≡ k → (s t : Shelf) (c d e : Chained S) → AsksOwn store.asked l owner k i c d → TurnAsks store l i s t d e → AsksOwn store.asked l owner k (i + 1) c e
dealt_turn store l owner k i own s t c d e h (inl none) =
    subst (λ (x : Chained _). AsksOwn store.asked l owner k (i + 1) c x) (sym none.0) (dealt_on store.asked store.queried l owner k i (i + 1) (omega arith) c d h)
dealt_turn store l owner k i own s t c d e h (inr once) = dealt_more store.asked store.queried l owner k i own c d e h once.1

module _ {F S : Type 0} (look : LookWords F) (store : StoreWords S) where
  -- no entry was filled, and the cache was only looked at
  pub filled_looked : (l : Listing) (first now : Behind F S) → KeepsShelf (shelf_at look store first) (shelf_at look store now) → now.chain ≡ first.chain
      → Filled store l 0 (shelf_at look store first) (shelf_at look store now) first.chain now.chain
  filled_looked l first now looked same =
      subst (λ (c : Chained S). Filled store l 0 (shelf_at look store first) (shelf_at look store now) first.chain c) (sym same)
      (filled_still store l 0 (shelf_at look store first) (shelf_at look store first) (shelf_at look store now) first.chain first.chain (filled_none store l (shelf_at look store first) first.chain) (inl looked.files)
      (stocks_looked (λ q b. ⊥) (shelf_at look store first) (shelf_at look store now) looked))

  module _ (pairs : Option (List (List ℕ × ℕ))) (named : Option (List (Map (List ℕ)))) where
    pub fills_none : (w : Filling F S) → IsFilling look store pairs named w → FillsOn look store pairs named w w (Ok tt)
    fills_none w is = record {
      next = is;
      ends = tt;
      dealt = dealt_on store.asked store.queried w.index.now (owner_of w.owners.now) 0 w.at (count_of w.index.now) is.at w.first.value.chain w.cached.now.chain is.dealt;
      cached = refl;
      index = refl;
      owners = refl;
      first = refl;
    }

    pub fills_on : (a b c : Filling F S) (r : Result Unit Stop) → FillsOn look store pairs named a b (Ok tt) → FillsOn look store pairs named b c r → FillsOn look store pairs named a c r
    fills_on a b c r one two = record {
      next = two.next;
      ends = two.ends;
      dealt = two.dealt;
      cached = two.cached ∙ one.cached;
      index = two.index ∙ one.index;
      owners = two.owners ∙ one.owners;
      first = two.first ∙ one.first;
    }

    -- the next entry was seen to with what was read ahead, or with what is on the shelf
    module _ (w : Filling F S) (is : IsFilling look store pairs named w) (more : w.at < count_of w.index.now) (new : Behind F S) (same : new.chain ≡ w.cached.now.chain)
        (aside : IsAside w.index.now w.at (shelf_at look store w.cached.now) (shelf_at look store new))
        (stocks : Stocks (λ q b. (q ≡ id_of w.index.now w.at) × MayFillCache store.members w.index.now w.cached.now.chain.stores q b) (shelf_at look store w.cached.now) (shelf_at look store new)) where
      abbrev s0 : Shelf
      s0 = shelf_at look store w.first.value

      pub went_ahead : TellAlone store → IfSome (held_on (shelf_at look store new)) (GivesEntry w.index.now w.at)
          → ((m : Map (List ℕ)) (maps : List (Map (List ℕ))) → held_on (shelf_at look store w.cached.now) ≡ Some m → map store.holds w.cached.now.chain.stores ≡ map Some maps → IsGivenBy w.index.now m maps w.at)
          → Filled store w.index.now (w.at + 1) s0 (shelf_at look store new) w.first.value.chain new.chain
      went_ahead alone gives given =
          subst (λ (c : Chained S). Filled store w.index.now (w.at + 1) s0 (shelf_at look store new) w.first.value.chain c) (sym same)
          (filled_ahead store w.index.now alone w.at more s0 (shelf_at look store w.cached.now) (shelf_at look store new) w.first.value.chain w.cached.now.chain is.filled aside stocks gives given)

      -- so many were asked for
      pub still_dealt : (n : ℕ) → w.at ≤ n → AsksOwn store.asked w.index.now (owner_of w.owners.now) 0 n w.first.value.chain new.chain
      still_dealt n le =
          subst (λ (c : Chained S). AsksOwn store.asked w.index.now (owner_of w.owners.now) 0 n w.first.value.chain c) (sym same)
          (dealt_on store.asked store.queried w.index.now (owner_of w.owners.now) 0 w.at n le w.first.value.chain w.cached.now.chain is.dealt)

      -- or it wasn't filled
      module _ (alone : TellAlone store) (kept : Stocks (λ q b. ⊥) (shelf_at look store w.cached.now) (shelf_at look store new)) where
        pub stopped_ahead : (fault : FillFault) → StopsEntry store w.index.now w.at (shelf_at look store w.cached.now) (shelf_at look store new) w.cached.now.chain (stop.Refused fault)
            → FillAnswers store w.index.now s0 (shelf_at look store new) w.first.value.chain new.chain [] [] 0 (Err fault)
        stopped_ahead fault stops =
            let s = shelf_at look store w.cached.now in
            let c = w.cached.now.chain in
            let turn : Turns store w.index.now w.at s (shelf_at look store new) c c = record { asks = inl (refl, aside); stocks = stocks; stores = kept_still store (λ a. a ≡ Get (id_of w.index.now w.at)) c.stores } in
            subst (λ (d : Chained S). FillAnswers store w.index.now s0 (shelf_at look store new) w.first.value.chain d [] [] 0 (Err fault)) (sym same)
            (answers_stopped store w.index.now alone w.at more s0 s (shelf_at look store new) w.first.value.chain c c is.filled turn fault stops kept)

        pub left_ahead : StopsEntry store w.index.now w.at (shelf_at look store w.cached.now) (shelf_at look store new) w.cached.now.chain stop.Unread
            → LeavesEntry store w.index.now w.at s0 (shelf_at look store new) w.first.value.chain new.chain
        left_ahead stops =
            subst (λ (d : Chained S). LeavesEntry store w.index.now w.at s0 (shelf_at look store new) w.first.value.chain d) (sym same)
            (record { listed = more; shelf = shelf_at look store w.cached.now; filled = is.filled; stops = stops; kept = kept })

        -- it has stopped so
        pub stopped_so : (u : Filling F S) → u.index.now ≡ w.index.now → u.first.value ≡ w.first.value → u.cached.now ≡ new → u.at ≡ w.at → (why : Stop) → StopsEntry store w.index.now w.at (shelf_at look store w.cached.now) (shelf_at look store new) w.cached.now.chain why
            → HasStopped look store u why
        stopped_so u index first cached at (stop.Refused fault) stops =
            let A : Listing → Behind F S → Behind F S → Type 0 = λ l f n. FillAnswers store l (shelf_at look store f) (shelf_at look store n) f.chain n.chain [] [] 0 (Err fault) in
            subst (λ (l : Listing). A l u.first.value u.cached.now) (sym index) (subst (λ (f : Behind F S). A w.index.now f u.cached.now) (sym first) (subst (λ (n : Behind F S). A w.index.now w.first.value n) (sym cached) (stopped_ahead fault stops)))
        stopped_so u index first cached at stop.Unread stops =
            let A : Listing → ℕ → Behind F S → Behind F S → Type 0 = λ l i f n. LeavesEntry store l i (shelf_at look store f) (shelf_at look store n) f.chain n.chain in
            subst (λ (l : Listing). A l u.at u.first.value u.cached.now) (sym index) (subst (λ (i : ℕ). A w.index.now i u.first.value u.cached.now) (sym at)
            (subst (λ (f : Behind F S). A w.index.now w.at f u.cached.now) (sym first) (subst (λ (n : Behind F S). A w.index.now w.at w.first.value n) (sym cached) (left_ahead stops))))

    -- from the first state v, of which this is the cache, to the last, w, beside further workers
    module _ (v w : Filling F S) (l : Listing) (first new : Behind F S) (v_index : v.index.now ≡ l) (v_first : v.first.value ≡ first) (w_cached : w.cached.now ≡ new)
        (f0 f1 : List (Chained S)) (alike : All (λ x. map store.holds x.stores ≡ map store.holds first.chain.stores) f0) (many : length f0 ≡ length f1) where
      abbrev Answers : Listing → Behind F S → Behind F S → ℕ → Result Unit FillFault → Type 0
      Answers l f n worker r = FillAnswers store l (shelf_at look store f) (shelf_at look store n) f.chain n.chain f0 f1 worker r

      moved : (t : Result Unit Stop) → FillsOn look store pairs named v w t → (worker : ℕ) (r : Result Unit FillFault) → Answers w.index.now w.first.value w.cached.now worker r → Answers l first new worker r
      moved t on worker r is =
          subst (λ (n : Behind F S). Answers l first n worker r) w_cached (subst (λ (f : Behind F S). Answers l f w.cached.now worker r) (on.first ∙ v_first) (subst (λ (l : Listing). Answers l w.first.value w.cached.now worker r) (on.index ∙ v_index) is))

      so : (worker : ℕ) (r : Result Unit FillFault) (at : ℕ) (s : Result Unit FillFault) → worker ≡ at → r ≡ s → Answers l first new at s → Answers l first new worker r
      so worker r at s worker_is r_is is = subst (λ (n : ℕ). Answers l first new n r) (sym worker_is) (subst (λ (r : Result Unit FillFault). Answers l first new at r) (sym r_is) is)

      -- a further worker has lost this entry
      abbrev Lost : ℕ → ℕ → FillFault → Type 0
      Lost entry worker fault = (n : ℕ) × (worker ≡ n + 1) × (n < length f1) × ((x : Chained S) → RefusedAhead store l entry fault (slice_index_or f0 n x) (slice_index_or f1 n x))

      pub ends_so : TellAlone store → (t : Result Unit Stop) → FillsOn look store pairs named v w t → OnOk t (count_of w.index.now ≤ w.at) → (rs : List (WantReader S)) → ((worker : ℕ) (fault : FillFault) → TellsLost w.at rs worker fault → Lost w.at worker fault)
          → (worker : ℕ) (r : Result Unit FillFault) → EndedSo w.at rs t worker r → Answers l first new worker r
      ends_so alone (Ok u) on all rs lost worker r ended =
          let is = on.next in
          so worker r 0 (Ok tt) ended.0 ended.1 (moved (Ok u) on 0 (Ok tt) (answers_filled store w.index.now w.at (omega (arith, all, is.at)) (shelf_at look store w.first.value) (shelf_at look store w.cached.now) w.first.value.chain w.cached.now.chain f0 f1 is.filled))
      ends_so alone (Err (stop.Refused fault)) on all rs lost worker r ended =
          so worker r 0 (Err fault) ended.0 ended.1 (moved (Err (stop.Refused fault)) on 0 (Err fault) (answers_wider store w.index.now (shelf_at look store w.first.value) (shelf_at look store w.cached.now) w.first.value.chain w.cached.now.chain f0 f1 0 (Err fault) on.ends))
      ends_so alone (Err stop.Unread) on all rs lost worker r (inl none) =
          so worker r 0 (Err faults.Memory) none.0 none.1 (moved (Err stop.Unread) on 0 (Err faults.Memory)
          (answers_wider store w.index.now (shelf_at look store w.first.value) (shelf_at look store w.cached.now) w.first.value.chain w.cached.now.chain f0 f1 0 (Err faults.Memory)
          (answers_unread store w.index.now alone w.at (shelf_at look store w.first.value) (shelf_at look store w.cached.now) w.first.value.chain w.cached.now.chain on.ends)))
      ends_so alone (Err stop.Unread) on all rs lost worker r (inr (fault, is, tells)) =
          let at = lost worker fault tells in
          let n = at.0 in
          let index : w.index.now ≡ l = on.index ∙ v_index in
          let begins : w.first.value ≡ first = on.first ∙ v_first in
          let alike_w : All (λ x. map store.holds x.stores ≡ map store.holds w.first.value.chain.stores) f0 = subst (λ (f : Behind F S). All (λ x. map store.holds x.stores ≡ map store.holds f.chain.stores) f0) (sym begins) alike in
          let told : (x : Chained S) → RefusedAhead store w.index.now w.at fault (slice_index_or f0 n x) (slice_index_or f1 n x) = subst (λ (k : Listing). (x : Chained S) → RefusedAhead store k w.at fault (slice_index_or f0 n x) (slice_index_or f1 n x)) (sym index) at.3 in
          so worker r (n + 1) (Err fault) at.1 is (moved (Err stop.Unread) on (n + 1) (Err fault)
          (answers_lost store w.index.now alone w.at (shelf_at look store w.first.value) (shelf_at look store w.cached.now) w.first.value.chain w.cached.now.chain on.ends f0 f1 alike_w n (omega (arith, many, at.2)) at.2 fault told))

      -- and the stores of all were asked so
      pub shared_so : (t : Result Unit Stop) → FillsOn look store pairs named v w t → (owners : List ℕ) → v.owners.now ≡ owners → AsksOwn store.asked l (owner_of owners) 0 (count_of l) first.chain new.chain
      shared_so t on owners owners_are =
          subst (λ (n : Behind F S). AsksOwn store.asked l (owner_of owners) 0 (count_of l) first.chain n.chain) w_cached
          (subst (λ (f : Behind F S). AsksOwn store.asked l (owner_of owners) 0 (count_of l) f.chain w.cached.now.chain) (on.first ∙ v_first)
          (subst (λ (k : Listing). AsksOwn store.asked k (owner_of owners) 0 (count_of k) w.first.value.chain w.cached.now.chain) (on.index ∙ v_index)
          (subst (λ (o : List ℕ). AsksOwn store.asked w.index.now (owner_of o) 0 (count_of w.index.now) w.first.value.chain w.cached.now.chain) (on.owners ∙ owners_are) on.dealt)))

-- ---- chains that become readers, and come back

pub hired : {W : Type 0} (ls ms left : List W) → left ≡ [] → left ++ reverse ms ≡ reverse ls → ls ≡ ms
hired {W} ls ms left none is =
    sym (reverse-reverse ls) ∙ ap reverse (sym is ∙ ap (λ (xs : List W). xs ++ reverse ms) none) ∙ reverse-reverse ms

pub none_left : {X : Type 0} (xs : List X) → length xs ≡ 0 → xs ≡ []
none_left [] is = refl
none_left (x ∷ xs) is = absurd (omega (arith, is))

-- one chain more has a reader
pub hired_more : {R W : Type 0} (f : R → W) (before rest all : List W) (rs news : List R) (r : R) → before ≡ rest ++ f r ∷ [] → news ≡ rs ++ r ∷ [] → before ++ reverse (map f rs) ≡ all → rest ++ reverse (map f news) ≡ all
hired_more f before rest all rs news r taken pushed is =
    let turned : reverse (map f news) ≡ f r ∷ reverse (map f rs) = ap (λ xs. reverse (map f xs)) pushed ∙ ap reverse (map-append f rs (r ∷ [])) ∙ reverse-append (map f rs) (f r ∷ []) in
    ap (λ xs. rest ++ xs) turned ∙ sym (append_assoc rest (f r ∷ []) (reverse (map f rs))) ∙ ap (λ xs. xs ++ reverse (map f rs)) (sym taken) ∙ is

-- what holds of the chains holds of those that the readers have
pub hired_all : {R C : Type 0} (P : C → Type 0) (f : R → C) (cs : List C) (rs : List R) → cs ≡ map f rs → All P cs → All (λ r. P (f r)) rs
hired_all P f cs rs is all = λ k d lt.
    subst P (get_or-map f rs k d (f d) lt) (subst (λ (xs : List _). P (get_or xs k (f d))) is (all k (f d) (omega (arith, ap length is, length-map rs f, lt))))

-- and the other way round
pub mapped_all : {R C : Type 0} (P : C → Type 0) (f : R → C) (rs : List R) → All (λ r. P (f r)) rs → All P (map f rs)
mapped_all P f [] all = All-nil P
mapped_all P f (r ∷ rs) all = All-cons P (f r) (map f rs) (All-head (λ r. P (f r)) r rs all) (mapped_all P f rs (All-tail (λ r. P (f r)) r rs all))

-- a reader that has asked for nothing has lost nothing
pub lost_none : {S : Type 0} (l : Listing) (owners : List ℕ) (rs : List (WantReader S)) → All (IsHired l owners) rs → (entry worker : ℕ) (fault : FillFault) → TellsLost entry rs worker fault → ⊥
lost_none l owners [] hired entry worker fault tells = absurd (omega (arith, tells.inside))
lost_none l owners (r ∷ rs) hired entry worker fault tells = none_lost ((hired tells.place r tells.inside).lost) (tells.lost r) where
  none_lost : {X : Type 0} {o : Option X} {x : X} → o ≡ None → o ≡ Some x → ⊥
  none_lost none some = cc

-- ---- their numbers

-- one more behind them has the next number
pub numbered_push : {S : Type 0} (m : ℕ) (rs : List (WantReader S)) (r : WantReader S) → RiseByOne m rs → r.number ≡ m + length rs → RiseByOne m (rs ++ r ∷ [])
numbered_push m [] r numbered is = (is ∙ omega arith, tt)
numbered_push m (x ∷ rs) r numbered is = (numbered.0, numbered_push (suc m) rs r numbered.1 (is ∙ omega arith))
