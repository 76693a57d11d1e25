-- How many of the listed ids stores hold, and how they are asked. A store is the map from ids to bytes that it holds.
use Rattle.std.specs.Prelude.{◌≡◌, ℕ, ◌+◌, ◌<◌, ◌≤◌, ◌⊎◌, List, length}
use Rattle.std.specs.Prelude.{map, take, Bool, true, false, is_some, Some, Option}
use Rattle.std.specs.List.{All, AllZip, filter, list_any}
use Rattle.std.specs.Set.{distinct_count, is_member}
use Rattle.std.specs.Str.{bytes_eq}
use Rattle.caibx_codec.specs.Listing.{Listing, count_of, id_of}
use Rattle.chunk_store.specs.Said.{Said}
use Rattle.dsy_base.specs.Maps.{Map}
use Rattle.store_chain.specs.Faults.{NoneFalls}
use Rattle.store_chain.specs.Refusals.{HasFails}
use Rattle.store_chain.specs.declared.refused.HasFault.{HasFault}
use Rattle.store_chain.specs.declared.refused.HasFault.TheVariants as has
use Rattle.verify_tool.specs.Texts.{ids_of}

-- whether some map holds something under the id
abbrev pub is_held : List (Map (List ℕ)) → List ℕ → Bool
is_held maps id = list_any (λ m. is_some (m id)) maps

-- how many ids are listed that some map holds, each counted once
abbrev pub held_count : Listing → List (Map (List ℕ)) → ℕ
held_count l maps = distinct_count bytes_eq (filter (is_held maps) (ids_of l))

-- whether the id is that of an entry before entry n
abbrev pub is_listed_before : Listing → ℕ → List ℕ → Bool
is_listed_before l n id = is_member bytes_eq (take n (ids_of l)) id

-- a store's numbers of questions by id, before and after it was asked for ids of the entries before entry n: at most
-- once for each of them, and for no other id
pub record AsksBefore (l : Listing) (n : ℕ) (old new : List ℕ → ℕ) : Type 0 where
  pub once : (id : List ℕ) → new id ≤ old id + 1
  pub no_less : (id : List ℕ) → old id ≤ new id
  pub others : (id : List ℕ) → is_listed_before l n id ≡ false → new id ≡ old id

-- so was each of the stores
abbrev pub EachAsksBefore : {S : Type 0} → (S → List ℕ → ℕ) → Listing → ℕ → List S → List S → Type 0
EachAsksBefore queried l n old new = AllZip (λ a b. AsksBefore l n (queried a) (queried b)) old new

-- it was answered whether some of the stores that stood as `old` has something under the id: that none has, all have
-- said
pub record TellsHeld {S : Type 0} (holds : S → Option (Map (List ℕ))) (said : S → Said) (id : List ℕ)
    (old now : List S) : Type 0 where
  pub held : Bool
  pub told : (maps : List (Map (List ℕ))) → map holds old ≡ map Some maps → held ≡ is_held maps id
  pub denied : held ≡ false → All (λ s. (said s).denied id) now

-- there are n ids, and each store has denied every other id that is listed before entry k
pub record DeniesOthers {S : Type 0} (said : S → Said) (l : Listing) (k n : ℕ) (now : List S) : Type 0 where
  pub held : List (List ℕ)
  pub many : length held ≡ n
  pub denied : (id : List ℕ) → is_listed_before l k id ≡ true → is_member bytes_eq held id ≡ false
      → All (λ s. (said s).denied id) now

module _ {S : Type 0} (holds : S → Option (Map (List ℕ))) (said : S → Said) (queried : S → List ℕ → ℕ) (faults : S → ℕ)
    (l : Listing) where
  -- the stores were asked for the ids of the entries before entry n, and answered each time. No count of faults fell
  pub record Reaches (n : ℕ) (old now : List S) : Type 0 where
    pub answered : (id : List ℕ) → is_listed_before l n id ≡ true → TellsHeld holds said id old now
    pub asked : EachAsksBefore queried l n old now
    pub none_fell : NoneFalls (map faults old) (map faults now)

  -- at this entry the count ended, and no id was asked for afterwards: a call for its id, which no entry before has,
  -- failed so, or there was no memory to keep the id, and no store was asked
  pub record FailsAtEntry (old new : List S) (fault : HasFault) : Type 0 where
    pub entry : ℕ
    pub listed : entry < count_of l
    pub before : List S
    pub reaches : Reaches entry old before
    pub ends : ((is_listed_before l entry (id_of l entry) ≡ false)
        × HasFails said faults (id_of l entry) before new fault)
        ⊎ ((fault ≡ has.Memory) × (new ≡ before))
    pub asked : EachAsksBefore queried l (entry + 1) old new
