-- What the cache and the stores behind it gave, and what it took.
use Rattle.std.proofs.Common.{◌≡◌, ◌≢◌, ◌⊎◌, ◌++◌, ℕ, ◌<◌, List, [], ◌∷◌, length, map, take, Option, Some, None, IfSome, true, Result, Ok, Err, sym, ap, ◌∙◌, subst, inl, inr, slice_index, refl, arith}
use Rattle.std.proofs.lemmas.Bool.{true≢false}
use Rattle.std.proofs.lemmas.Option.{none-some, same_Some}
use Rattle.std.specs.List.{Any}
use Rattle.std.specs.Option.{option_map}
use Rattle.cache_store.specs.Giving.{SomeGives}
use Rattle.cache_store.specs.Shelves.{AddsWanted, GivesStill, MayAdd, MayHold, Others, Shelf, held_on}
use Rattle.cache_store.specs.Through.{CacheGave, StoresGave, Unfound}
use Rattle.cache_store.specs.declared.cached.Got.{Got}
use Rattle.chunk_sources.proofs.Cached.{gives_left, gives_one, gives_right, one_gives, told_at}
use Rattle.chunk_sources.proofs.Lacking.{quiet_never, lacked_memory}
use Rattle.chunk_sources.proofs.Obtained.{holds_gives}
use Rattle.chunk_sources.proofs.Origins.{by_either, by_none, by_store, by_want}
use Rattle.chunk_sources.specs.Caches.{OthersAddOnly, AddsSize, CacheFailed, CacheLacks, TakesChunk, cached_in, given_maps, maps_with, shared_maps}
use Rattle.chunk_sources.specs.Economy.{AnsweredAs, ObtainedBy, as_upstream, source_behind}
use Rattle.chunk_sources.specs.Losses.{chunk_of}
use Rattle.chunk_sources.specs.Sources.{Agree}
use Rattle.chunk_store.specs.Members.{maps_of}
use Rattle.chunk_store.specs.Folders.{chunks}
use Rattle.chunk_store.specs.Digests.{digest_of}
use Rattle.chunk_store.specs.declared.id.ChunkId.{ChunkId}
use Rattle.chunk_store.specs.declared.id.DigestKind.{DigestKind}
use Rattle.chunk_store.specs.declared.store.Store.{Ghosts as StoreWords}
use Rattle.dsy_base.specs.Counts.{Quiet, Rose}
use Rattle.dsy_base.specs.Maps.{Map}
use Rattle.range_survey.specs.declared.fate.Fate.{Fate}
use Rattle.range_survey.specs.declared.fate.Fate.TheVariants as fate
use Rattle.store_chain.specs.Chains.{AsksOnce, Chained}
use Rattle.store_chain.specs.Faults.{EachQuiet}
use Rattle.store_chain.specs.Giving.{Gives, SomeHolds}
use Rattle.store_chain.specs.Queries.{IsWanted}
use Rattle.store_chain.specs.declared.refused.Refused.{Refused}
use Rattle.store_chain.specs.declared.refused.Refused.TheVariants as refused
use Rattle.store_chain.specs.declared.query.Query.{Query}

if_some : {X : Type 0} (o : Option X) (P : X → Type 0) (x : X) → o ≡ Some x → IfSome o P → P x
if_some o P x is has = subst (λ q. IfSome q P) is has

-- no cache gives nothing
pub none_given : (kind : DigestKind) (id : List ℕ) (size : ℕ) (cached : List (Map (List ℕ))) → cached_in None ≡ Some cached → SomeGives kind id size cached → ⊥
none_given kind id size cached told gives =
    let bad = subst (SomeGives kind id size) (sym (same_Some [] cached told)) gives in
    let less : bad.0 < 0 = bad.2 in
    omega (arith, less)

-- a cache that had the chunk, and didn't give it, failed
unfound_failed : (kind : DigestKind) (id : ChunkId) (size : ℕ) (old new : Shelf) → old.kind ≡ kind → IfSome old.others (λ o. old.kind ≡ o.kind) → Unfound (chunk_of kind id size) old new
    → CacheFailed kind id.0 size (Some old) (Some new)
unfound_failed kind id size old new same digest unfound = go old.others old.files digest unfound where
  gives_query : (m : Map (List ℕ)) → SomeGives kind id.0 size (chunks m ∷ []) → Gives (chunk_of kind id size) (chunks m)
  gives_query m gives =
      let chunk = gives_one kind id.0 size (chunks m) gives in
      (chunk.0, chunk.1, record { named = chunk.2.named; sized = chunk.2.sized; fits = omega (arith, chunk.2.sized) })

  adds_wanted : (o : Others) → old.kind ≡ o.kind → ((b : List ℕ) → MayAdd o.kind o.pairs o.stores id.0 b → length b ≡ size) → AddsWanted (MayAdd o.kind o.pairs o.stores) (chunk_of kind id size)
  adds_wanted o digest sized b adds =
      let size_is : length b ≡ size = sized b adds in
      let kind_is : o.kind ≡ kind = sym digest ∙ same in
      record { named = subst (λ (k : DigestKind). digest_of k b ≡ id.0) kind_is adds.named; sized = size_is; fits = omega (arith, size_is) }

  go : (x : Option Others) (o : Option (Map (List ℕ))) → IfSome x (λ o. old.kind ≡ o.kind)
      → IfSome (option_map chunks o) (λ m. GivesStill x (chunk_of kind id size) m → Rose old.faults new.faults)
      → IfSome (option_map (λ m. chunks m ∷ []) o) (λ cached. SomeGives kind id.0 size cached
      → IfSome x (λ o. (b : List ℕ) → MayAdd o.kind o.pairs o.stores id.0 b → length b ≡ size) → Rose old.faults new.faults)
  go None None digest h = tt
  go (Some x) None digest h = tt
  go None (Some m) digest h = λ gives adds. h (gives_query m gives)
  go (Some x) (Some m) digest h = λ gives adds. h (gives_query m gives, adds_wanted x digest adds)

-- where there is no cache none failed
pub none_failed : (kind : DigestKind) (id : List ℕ) (size : ℕ) (new : Option Shelf) → CacheFailed kind id size None new
none_failed kind id size new = λ gives adds. absurd (none_given kind id size [] refl gives)

-- a shelf of one's own that has the chunk, and on which it wasn't found, failed
unfound_rose : (kind : DigestKind) (id : ChunkId) (size : ℕ) (old new : Shelf) (cached : List (Map (List ℕ))) → old.others ≡ None → cached_in (Some old) ≡ Some cached
    → Unfound (chunk_of kind id size) old new → SomeGives kind id.0 size cached → Rose old.faults new.faults
unfound_rose kind id size old new cached alone told unfound gives =
    let at = told_at old.files cached told in
    let chunk = gives_one kind id.0 size (chunks at.0) (subst (SomeGives kind id.0 size) at.2 gives) in
    let has : Gives (chunk_of kind id size) (chunks at.0) =
    (chunk.0, chunk.1, record { named = chunk.2.named; sized = chunk.2.sized; fits = omega (arith, chunk.2.sized) }) in
    let still : GivesStill old.others (chunk_of kind id size) (chunks at.0) = subst (λ (x : Option Others). GivesStill x (chunk_of kind id size) (chunks at.0)) (sym alone) has in
    if_some (held_on old) (λ m. GivesStill old.others (chunk_of kind id size) m → Rose old.faults new.faults) (chunks at.0) (ap (option_map chunks) at.1) unfound still

-- so one that is quiet doesn't have it
unfound_never : (kind : DigestKind) (id : ChunkId) (size : ℕ) (old new : Shelf) (cached : List (Map (List ℕ))) → old.others ≡ None → cached_in (Some old) ≡ Some cached
    → Quiet old.faults new.faults → Unfound (chunk_of kind id size) old new → SomeGives kind id.0 size cached → ⊥
unfound_never kind id size old new cached alone told quiet unfound gives =
    quiet_never old.faults new.faults quiet (unfound_rose kind id size old new cached alone told unfound gives)

module _ (kind : DigestKind) (id : ChunkId) (size : ℕ) (b : List ℕ) (right : IsWanted (chunk_of kind id size) b) where
  map_gives : (m : Map (List ℕ)) → m id.0 ≡ Some b → SomeGives kind id.0 size (m ∷ [])
  map_gives m is = one_gives kind id.0 size m (b, is, record { named = right.named; sized = right.sized })

  -- what a cache gave it held at first, or a store holds it
  cache_gives : (x : Option Others) (o : Option (Map (List ℕ))) → IfSome (option_map chunks o) (λ m. MayHold x m id.0 b)
      → (given : List (Map (List ℕ))) → maps_with o x ≡ Some given → SomeGives kind id.0 size given
  cache_gives None None answer given told = absurd (none-some given told)
  cache_gives (Some x) None answer given told = absurd (none-some given told)
  cache_gives None (Some m) answer given told = subst (SomeGives kind id.0 size) (same_Some (chunks m ∷ []) given told) (map_gives (chunks m) answer)
  cache_gives (Some x) (Some m) answer given told = elim answer [
    | inl is ↦ held x.stores told (λ maps. gives_left kind id.0 size (chunks m ∷ []) maps (map_gives (chunks m) is))
    | inr adds ↦ added x.stores told adds.held
  ] where
    held : (stores : Option (List (Map (List ℕ)))) → shared_maps (Some m) stores ≡ Some given → ((maps : List (Map (List ℕ))) → SomeGives kind id.0 size (chunks m ∷ maps)) → SomeGives kind id.0 size given
    held None told gives = absurd (none-some given told)
    held (Some maps) told gives = subst (SomeGives kind id.0 size) (same_Some (chunks m ∷ maps) given told) (gives maps)

    added : (stores : Option (List (Map (List ℕ)))) → shared_maps (Some m) stores ≡ Some given → IfSome stores (Any (λ m. m id.0 ≡ Some b)) → SomeGives kind id.0 size given
    added None told any = absurd (none-some given told)
    added (Some maps) told any =
        subst (SomeGives kind id.0 size) (same_Some (chunks m ∷ maps) given told) (gives_right kind id.0 size (chunks m ∷ []) maps (holds_gives kind id size maps b right any))

module _ {S : Type 0} (store : StoreWords S) (kind : DigestKind) (id : ChunkId) (size : ℕ) (old new : Shelf) (before after : Chained S) (out : List ℕ) where
  abbrev w : Query
  w = chunk_of kind id size

  abbrev Ends : Result Got Refused → Type 0
  Ends r = CacheGave w old new before after r out ⊎ StoresGave store.holds store.members store.said store.faults store.may_lack_memory store.asked store.queried w old new before after r out

  -- the stores were asked only where the cache failed or lacks the chunk
  pub asks_through : old.kind ≡ kind → IfSome old.others (λ o. old.kind ≡ o.kind) → (r : Result Got Refused) → Ends r
      → (after ≡ before) ⊎ (AsksOnce store.asked store.queried id.0 before after × CacheFailed kind id.0 size (Some old) (Some new))
  asks_through same digest r (inl from) = inl from.chain
  asks_through same digest r (inr from) = inr (from.asks, unfound_failed kind id size old new same digest from.unfound)

  -- and before a refusal
  pub asked_through : old.kind ≡ kind → IfSome old.others (λ o. old.kind ≡ o.kind) → (r : Refused) → Ends (Err r) → r ≢ refused.Memory
      → AsksOnce store.asked store.queried id.0 before after × CacheFailed kind id.0 size (Some old) (Some new)
  asked_through same digest r (inl from) isnt = absurd (isnt from.answer)
  asked_through same digest r (inr from) isnt = (from.asks, unfound_failed kind id size old new same digest from.unfound)

  -- what was refused it lacks
  pub lacks_through : old.others ≡ None → (r : Refused) → Ends (Err r) → r ≢ refused.Memory → CacheLacks kind id.0 size (Some old) (Some new)
  lacks_through alone r (inl from) isnt = absurd (isnt from.answer)
  lacks_through alone r (inr from) isnt = λ now told gives.
      unfound_rose kind id size old new now alone (ap (option_map (λ m. chunks m ∷ [])) (sym from.added) ∙ told) from.unfound gives

  from_stores : (maps : List (Map (List ℕ))) → maps_of store.members before.stores ≡ Some maps → (got : Got) → IsWanted w (take got.size out)
      → StoresGave store.holds store.members store.said store.faults store.may_lack_memory store.asked store.queried w old new before after (Ok got) out → SomeGives kind id.0 size maps
  from_stores maps held got right from = holds_gives kind id size maps (take got.size out) right (from.had maps held)

  pub had_through : (cached maps : List (Map (List ℕ))) → given_maps (Some old) ≡ Some cached → maps_of store.members before.stores ≡ Some maps
      → (got : Got) → IsWanted w (take got.size out) → Ends (Ok got) → SomeGives kind id.0 size (cached ++ maps)
  had_through cached maps told held got right (inl from) =
      gives_left kind id.0 size cached maps (cache_gives kind id size (take got.size out) right old.others old.files from.answer.2 cached told)
  had_through cached maps told held got right (inr from) = gives_right kind id.0 size cached maps (from_stores maps held got right from)

  module _ (alone : old.others ≡ None) (cached maps : List (Map (List ℕ))) (told : cached_in (Some old) ≡ Some cached) (held : maps_of store.members before.stores ≡ Some maps) (agree : Agree store kind id.0 size before.stores)
      (still : Quiet old.faults new.faults) where
    pub fetched_through : (got : Got) → got.upstream ≡ true → IsWanted w (take got.size out) → Ends (Ok got)
        → ObtainedBy (source_behind kind id.0 size cached maps) before after (Ok fate.Fetched)
    fetched_through got up right (inl from) = absurd (true≢false (sym up ∙ from.answer.0))
    fetched_through got up right (inr from) =
        by_store kind id.0 size cached maps before after (unfound_never kind id size old new cached alone told still from.unfound) from.asks.calls
        (from_stores maps held got right from)

    pub refused_through : EachQuiet (map store.faults before.stores) (map store.faults after.stores) → (r : Refused) → Ends (Err r) → ObtainedBy (source_behind kind id.0 size cached maps) before after (Err r)
    refused_through quiet r (inl from) =
        subst (λ (q : Refused). ObtainedBy (source_behind kind id.0 size cached maps) before after (Err q)) (sym from.answer)
        (by_want kind id.0 size cached maps before after)
    refused_through quiet r (inr from) =
        by_none kind id.0 size cached maps before after (unfound_never kind id size old new cached alone told still from.unfound) from.asks.calls r
        (lacked_memory kind id size (map store.members before.stores) maps held agree r
        (λ s is. quiet_never (slice_index (map store.faults before.stores) s) (slice_index (map store.faults after.stores) s) (quiet s) (from.cause s (ap (λ (q : Refused). Err q) is)))
        from.lacks)

  -- ---- where others add to it too

  module _ (cached maps : List (Map (List ℕ))) (only : OthersAddOnly kind id.0 size (Some old) cached maps) (told : cached_in (Some old) ≡ Some cached) (held : maps_of store.members before.stores ≡ Some maps) (agree : Agree store kind id.0 size before.stores) where
    -- what was obtained it held at first, or a store holds it
    pub had_shared : (got : Got) → IsWanted w (take got.size out) → Ends (Ok got) → SomeGives kind id.0 size cached ⊎ SomeGives kind id.0 size maps
    had_shared got right (inr from) = inr (from_stores maps held got right from)
    had_shared got right (inl from) =
        let b = take got.size out in
        let at = told_at old.files cached told in
        go b right at.0 at.2 old.others only.held (if_some (held_on old) (λ m. MayHold old.others m id.0 b) (chunks at.0) (ap (option_map chunks) at.1) from.answer.2)
      where
        go : (b : List ℕ) → IsWanted w b → (m : Map (List ℕ)) → cached ≡ chunks m ∷ [] → (x : Option Others) → IfSome x (λ o. (c : List ℕ) → MayAdd o.kind o.pairs o.stores id.0 c → Any (λ n. n id.0 ≡ Some c) maps)
            → MayHold x (chunks m) id.0 b → SomeGives kind id.0 size cached ⊎ SomeGives kind id.0 size maps
        go b right m is None adds has = inl (subst (SomeGives kind id.0 size) (sym is) (map_gives kind id size b right (chunks m) has))
        go b right m is (Some o) adds (inl has) = inl (subst (SomeGives kind id.0 size) (sym is) (map_gives kind id size b right (chunks m) has))
        go b right m is (Some o) adds (inr may) = inr (holds_gives kind id size maps b right (adds b may))

    pub ok_shared : (got : Got) (f : Fate) → as_upstream f ≡ fate.Fetched → IsWanted w (take got.size out) → Ends (Ok got) → AnsweredAs as_upstream (source_behind kind id.0 size cached maps) (Ok f)
    ok_shared got f is right ends = by_either kind id.0 size cached maps f is (had_shared got right ends)

    -- a chunk that it held at first is still found
    never_shared : old.kind ≡ kind → IfSome old.others (λ o. old.kind ≡ o.kind) → Quiet old.faults new.faults → Unfound w old new → SomeGives kind id.0 size cached → ⊥
    never_shared same digest still unfound gives =
        quiet_never old.faults new.faults still
        (if_some (cached_in (Some old)) (λ c. SomeGives kind id.0 size c → AddsSize id.0 size (Some old) → Rose old.faults new.faults) cached told
        (unfound_failed kind id size old new same digest unfound) gives (only.sized gives))

    pub err_shared : old.kind ≡ kind → IfSome old.others (λ o. old.kind ≡ o.kind) → Quiet old.faults new.faults → EachQuiet (map store.faults before.stores) (map store.faults after.stores)
        → (r : Refused) → Ends (Err r) → AnsweredAs as_upstream (source_behind kind id.0 size cached maps) (Err r)
    err_shared same digest still quiet r (inl from) = inl from.answer
    err_shared same digest still quiet r (inr from) =
        (by_none kind id.0 size cached maps before after (never_shared same digest still from.unfound) from.asks.calls r
        (lacked_memory kind id size (map store.members before.stores) maps held agree r
        (λ s is. quiet_never (slice_index (map store.faults before.stores) s) (slice_index (map store.faults after.stores) s) (quiet s) (from.cause s (ap (λ (q : Refused). Err q) is)))
        from.lacks)).1

-- what was wanted is the chunk
pub takes_wanted : {S : Type 0} (store : StoreWords S) (kind : DigestKind) (id : ChunkId) (size : ℕ) (stores : List S) (q b : List ℕ)
    → (q ≡ id.0) × IsWanted (chunk_of kind id size) b × SomeHolds store.members stores q b → TakesChunk store kind id.0 size stores q b
takes_wanted store kind id size stores q b (same, right, held) =
    (same, record { named = right.named; sized = right.sized }, subst (λ (p : List ℕ). SomeHolds store.members stores p b) same held)
