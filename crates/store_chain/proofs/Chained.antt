-- What a call on a chain says, from what its stores said when they were asked in turn. A primed name is the same value as the
-- chain's contract spells it.
use Rattle.std.proofs.Common.{◌≡◌, ℕ, ◌≤◌, List, ◌++◌, length, map, take, drop, Option, Some, Bool, Ok, Err, Result, IfSome, IfOk, IfErr, slice_index, refl, sym, subst, ap, ◌∙◌}
use Rattle.std.proofs.lemmas.List.{take-append-le}
use Rattle.std.proofs.Math.Seq.{take-append_seam}
use Rattle.chunk_store.specs.Asks.{Ask}
use Rattle.chunk_store.specs.Said.{Said, SaysAmong, SaysMap}
use Rattle.chunk_store.specs.declared.store.Store.{Ghosts as StoreWords}
use Rattle.dsy_base.specs.Counts.{Rose}
use Rattle.dsy_base.specs.Maps.{Map}
use Rattle.store_chain.specs.Chains.{KeepsStores, EachOnce}
use Rattle.store_chain.specs.Faults.{EachQuiet}
use Rattle.store_chain.specs.Giving.{LacksAll, LacksTogether, GivesFirst, Obtains, SomeHolds}
use Rattle.store_chain.specs.Refusals.{Lacked, LackedOrFailed, GivenBy, Refuses, RefusesFrom}
use Rattle.store_chain.specs.Queries.{FillsQuery}
use Rattle.store_chain.specs.declared.refused.Refused.{Refused}
use Rattle.store_chain.specs.declared.refused.Refused.TheVariants as refused
use Rattle.store_chain.specs.declared.query.Query.{Query}
use Rattle.store_chain.proofs.Kept.{kept_weaker}
use Rattle.store_chain.proofs.Shown.{lacks_together, some_holds}
use Rattle.store_chain.proofs.Told.{lacks_all, obtains, refuses}
use Rattle.store_chain.proofs.Pairs.{rose_at}

-- a list that was written in the place of one of its length
pub written_back : {S : Type 0} (new old : List S) (n : ℕ) → length new ≡ n → take n (new ++ drop (length new) old) ≡ new
written_back {S} new old n size = let P : ℕ → Type 0 = λ k. take k (new ++ drop (length new) old) ≡ new in subst P size (take-append_seam new (drop (length new) old))

module _ {S : Type 0} (said : S → Said) (faults : S → ℕ) (lacks_memory : Bool) (w w' : Query) (same : w ≡ w') (old old' new new' : List S) (same_old : old ≡ old') (same_new : new ≡ new') where
  pub found_in : (r : Result ℕ Refused) (lent rest : List ℕ) → IfOk r (λ n. FillsQuery w n lent) → IfOk r (λ n. GivenBy said faults lacks_memory w (take n lent) old new)
      → IfOk r (λ n. GivenBy said faults lacks_memory w' (take n (lent ++ rest)) old' new')
  found_in (Err e) lent rest given found = tt
  found_in (Ok n) lent rest given found =
      let inside : n ≤ length lent = given.inside in
      let b : take n lent ≡ take n (lent ++ rest) = rw take-append-le in
      let P : List ℕ → Type 0 = λ l. GivenBy said faults lacks_memory w' l old' new' in
      let Q : Query → Type 0 = λ v. GivenBy said faults lacks_memory v (take n lent) old' new' in
      let R : List S → Type 0 = λ l. GivenBy said faults lacks_memory w (take n lent) l new' in
      let T : List S → Type 0 = λ l. GivenBy said faults lacks_memory w (take n lent) old l in
      subst P b (subst Q same (subst R same_old (subst T same_new found)))

  -- one of the stores holds it, where they tell what they hold
  pub had_in : (members : S → Option (List (Map (List ℕ)))) → ((s : S) → IfSome (members s) (SaysAmong (said s))) → map members new ≡ map members old → (r : Result ℕ Refused) (lent rest : List ℕ)
      → IfOk r (λ n. FillsQuery w n lent) → IfOk r (λ n. GivenBy said faults lacks_memory w (take n lent) old new) → IfOk r (λ n. SomeHolds members old' w'.id.0 (take n (lent ++ rest)))
  had_in members vouched kept (Err e) lent rest given found = tt
  had_in members vouched kept (Ok n) lent rest given found =
      let still : map members new' ≡ map members old' = ap (λ (l : List S). map members l) (sym same_new) ∙ (kept ∙ ap (λ (l : List S). map members l) same_old) in
      some_holds members said vouched w'.id.0 (take n (lent ++ rest)) faults lacks_memory w' old' new' refl still (found_in (Ok n) lent rest given found)

  pub absent_in : (r : Result ℕ Refused) → IfErr r (RefusesFrom said faults lacks_memory w 0 old new) → IfErr r (Refuses said faults lacks_memory w' old' new')
  absent_in (Ok n) told = tt
  absent_in (Err e) told =
      let P : Query → Type 0 = λ v. Refuses said faults lacks_memory v old' new' e in
      let Q : List S → Type 0 = λ l. Refuses said faults lacks_memory w l new' e in
      let R : List S → Type 0 = λ l. Refuses said faults lacks_memory w old l e in
      subst P same (subst Q same_old (subst R same_new (refuses said faults lacks_memory w old new e told)))

  -- those who answer lack the chunk
  pub lacks_in : (members : S → Option (List (Map (List ℕ)))) → ((s : S) → IfSome (members s) (SaysAmong (said s))) → map members new ≡ map members old → (r : Result ℕ Refused)
      → IfErr r (RefusesFrom said faults lacks_memory w 0 old new) → IfErr r (LacksTogether w' (map members old'))
  lacks_in members vouched kept (Ok n) told = tt
  lacks_in members vouched kept (Err e) told =
      let P : Query → Type 0 = λ v. LacksTogether v (map members old') e in
      let Q : List S → Type 0 = λ l. LacksTogether w (map members l) e in
      subst P same (subst Q same_old (lacks_together members said vouched w faults lacks_memory old new e kept (refuses said faults lacks_memory w old new e told)))

  pub cause_in : (r : Result ℕ Refused) (s : ℕ) → IfErr r (RefusesFrom said faults lacks_memory w 0 old new) → r ≡ Err (refused.StoreFault s)
      → Rose (slice_index (map faults old') s) (slice_index (map faults new') s)
  cause_in r s told is =
      let K : Result ℕ Refused → Type 0 = λ x. IfErr x (RefusesFrom said faults lacks_memory w 0 old new) in
      let P : List S → Type 0 = λ l. Rose (slice_index (map faults l) s) (slice_index (map faults new') s) in
      let Q : List S → Type 0 = λ l. Rose (slice_index (map faults old) s) (slice_index (map faults l) s) in
      let from_zero = refuses said faults lacks_memory w old new (refused.StoreFault s) (subst K is told) in
      subst P same_old (subst Q same_new (rose_at faults (Lacked said faults lacks_memory w) (LackedOrFailed said faults lacks_memory w) s old new from_zero))

  module _ (holds : S → Option (Map (List ℕ))) (says : (s : S) → IfSome (holds s) (SaysMap (said s))) (kept : map holds new ≡ map holds old) (maps : List (Map (List ℕ))) (told : map holds old' ≡ map Some maps) where
    told_new : map holds new ≡ map Some maps
    told_new = kept ∙ (ap (λ (l : List S). map holds l) same_old ∙ told)

    pub first_in : (r : Result ℕ Refused) → IfErr r (RefusesFrom said faults lacks_memory w 0 old new) → IfErr r (LacksAll w' maps)
    first_in (Ok n) lacks = tt
    first_in (Err e) lacks =
        let P : Query → Type 0 = λ v. LacksAll v maps e in
        subst P same (lacks_all said faults lacks_memory w holds says old new maps kept told_new e (refuses said faults lacks_memory w old new e lacks))

    refused_by : (r : Result ℕ Refused) → IfErr r (RefusesFrom said faults lacks_memory w 0 old new) → IfErr r (Refuses said faults lacks_memory w old new)
    refused_by (Ok n) lacks = tt
    refused_by (Err e) lacks = refuses said faults lacks_memory w old new e lacks

    on_all : (r : Result ℕ Refused) (lent rest : List ℕ) → IfOk r (λ n. FillsQuery w n lent) → Obtains lacks_memory w maps r lent → Obtains lacks_memory w maps r (lent ++ rest)
    on_all (Ok n) lent rest given h =
        let inside : n ≤ length lent = given.inside in
        let b : take n lent ≡ take n (lent ++ rest) = rw take-append-le in
        let P : List ℕ → Type 0 = λ l. GivesFirst lacks_memory w maps l in
        subst P b h
    on_all (Err refused.Missing) lent rest given h = h
    on_all (Err (refused.Damaged s x)) lent rest given h = h
    on_all (Err (refused.StoreFault s)) lent rest given h = h
    on_all (Err refused.Memory) lent rest given h = h

    pub exactly_in : (r : Result ℕ Refused) (lent rest : List ℕ) → EachQuiet (map faults old') (map faults new') → IfOk r (λ n. FillsQuery w n lent)
        → IfOk r (λ n. GivenBy said faults lacks_memory w (take n lent) old new) → IfErr r (RefusesFrom said faults lacks_memory w 0 old new)
        → Obtains lacks_memory w' maps r (lent ++ rest)
    exactly_in r lent rest quiet given found lacks =
        let P : Query → Type 0 = λ v. Obtains lacks_memory v maps r (lent ++ rest) in
        let Q : List S → Type 0 = λ l. EachQuiet (map faults l) (map faults new) in
        let R : List S → Type 0 = λ l. EachQuiet (map faults old') (map faults l) in
        subst P same (on_all r lent rest given (obtains said faults lacks_memory w holds says old new maps kept told_new r lent
        (subst Q (sym same_old) (subst R (sym same_new) quiet)) found (refused_by r lacks)))

-- the chain after the call
module _ {S : Type 0} (old old' new new' : List S) (same_old : old ≡ old') (same_new : new ≡ new') where
  pub kept_in : (store : StoreWords S) (P P' : Ask → Type 0) → ((a : Ask) → P a → P' a) → KeepsStores store P old new → KeepsStores store P' old' new'
  kept_in store P P' more kept =
      let K : List S → Type 0 = λ l. KeepsStores store P' l new' in
      let L : List S → Type 0 = λ l. KeepsStores store P' old l in
      subst K same_old (subst L same_new (kept_weaker store P P' more old new kept))

  pub once_in : (count : S → List ℕ → ℕ) (id : List ℕ) → EachOnce count id old new → EachOnce count id old' new'
  once_in count id each =
      let P : List S → Type 0 = λ l. EachOnce count id l new' in
      let Q : List S → Type 0 = λ l. EachOnce count id old l in
      subst P same_old (subst Q same_new each)

  pub same_in : {Y : Type 0} (f : S → Y) → map f new ≡ map f old → map f new' ≡ map f old'
  same_in f same = ap (λ l. map f l) (sym same_new) ∙ (same ∙ ap (λ l. map f l) same_old)
