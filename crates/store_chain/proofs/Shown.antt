-- What those hold who answer for stores, by what the stores have said, where all of them tell.
use Rattle.std.proofs.Common.{◌≡◌, ℕ, zero, suc, List, [], ◌∷◌, ◌++◌, map, Option, Some, None, IfSome, refl, sym, ap, subst, ◌∙◌, inl, inr, length, ◌<◌, Bool, arith}
use Rattle.std.proofs.lemmas.List.Elements.{All-nil, All-head, All-tail, All-weaker}
use Rattle.std.proofs.lemmas.List.{length-map}
use Rattle.std.proofs.lemmas.Option.{none-some}
use Rattle.std.specs.List.{All, Any, zip}
use Rattle.chunk_store.proofs.Members.{all_append, any_at, any_left, any_right, any_so, told_parts}
use Rattle.chunk_store.specs.Members.{AllOrNone, GroupsAgree, maps_of, told_together}
use Rattle.chunk_store.specs.Said.{Said, SaysAmong}
use Rattle.dsy_base.specs.Maps.{Map}
use Rattle.store_chain.proofs.Pairs.{all_of_first}
use Rattle.store_chain.proofs.Told.{not_both, some_injective}
use Rattle.chunk_store.specs.declared.shows.Shows.{Shows}
use Rattle.chunk_store.specs.declared.shows.Shows.TheVariants as shows
use Rattle.store_chain.specs.Giving.{Gives, LacksTogether, NoneGives, SomeHolds}
use Rattle.store_chain.specs.Lists.{FirstAt}
use Rattle.store_chain.specs.Refusals.{Denied, GivenBy, HasShown, Lacked, Lacks, PassedOver, Refuses, Showed}
use Rattle.store_chain.specs.Queries.{ShowsElse}
use Rattle.store_chain.specs.declared.query.Query.{Query}
use Rattle.store_chain.specs.declared.refused.Refused.{Refused}
use Rattle.store_chain.specs.declared.refused.Refused.TheVariants as refused

module _ {S : Type 0} (members : S → Option (List (Map (List ℕ)))) (said : S → Said) (vouched : (s : S) → IfSome (members s) (SaysAmong (said s))) where
  vouched_by : (s : S) (ms : List (Map (List ℕ))) → members s ≡ Some ms → SaysAmong (said s) ms
  vouched_by s ms is = let P : Option (List (Map (List ℕ))) → Type 0 = λ o. IfSome o (SaysAmong (said s)) in subst P is (vouched s)

  -- what the first of some stores tells, and the others
  record Parts (o : Option (List (Map (List ℕ)))) (groups : List (Option (List (Map (List ℕ))))) (maps : List (Map (List ℕ))) : Type 0 where
    ms : List (Map (List ℕ))
    is : o ≡ Some ms
    rest : List (Map (List ℕ))
    told : told_together groups ≡ Some rest
    whole : ms ++ rest ≡ maps

  parts_of : (o : Option (List (Map (List ℕ)))) (groups : List (Option (List (Map (List ℕ))))) (maps : List (Map (List ℕ))) → told_together (o ∷ groups) ≡ Some maps → Parts o groups maps
  parts_of None groups maps told = absurd (none-some maps told)
  parts_of (Some ms) groups maps told = let p = told_parts ms groups maps told in record { ms = ms; is = refl; rest = p.0; told = p.1; whole = p.2 }

  -- one of the stores has shown the bytes, so one of those who answer holds them
  module _ (id b : List ℕ) where
    any_shown : (B C : S × S → Type 0) (n : ℕ) (old new : List S) (maps : List (Map (List ℕ))) → maps_of members new ≡ Some maps
        → FirstAt B (λ p. (said p.1).shown id b) C n (zip old new) → Any (λ m. m id ≡ Some b) maps
    any_shown B C n [] new maps told h = absurd h
    any_shown B C n (x ∷ xs) [] maps told h = absurd h
    any_shown B C zero (x ∷ xs) (y ∷ ys) maps told h =
        let p = parts_of (members y) (map members ys) maps told in
        subst (Any (λ m. m id ≡ Some b)) p.whole (any_left (λ m. m id ≡ Some b) p.ms p.rest ((vouched_by y p.ms p.is).shown id b h.0))
    any_shown B C (suc n) (x ∷ xs) (y ∷ ys) maps told h =
        let p = parts_of (members y) (map members ys) maps told in
        subst (Any (λ m. m id ≡ Some b)) p.whole (any_right (λ m. m id ≡ Some b) p.ms p.rest (any_shown B C n xs ys p.rest p.told h.1))

    pub some_holds : (faults : S → ℕ) (lacks_memory : Bool) (w : Query) (old new : List S) → w.id.0 ≡ id → map members new ≡ map members old
        → GivenBy said faults lacks_memory w b old new → SomeHolds members old id b
    some_holds faults lacks_memory w old new same kept h = λ maps told.
        let P : List ℕ → Type 0 = λ q. FirstAt (PassedOver said faults lacks_memory w) (λ p. (said p.1).shown q b) (λ p. p.1 ≡ p.0) h.0 (zip old new) in
        any_shown (PassedOver said faults lacks_memory w) (λ p. p.1 ≡ p.0) h.0 old new maps (ap told_together kept ∙ told) (subst P same h.1)

  -- all of the stores lack the chunk, so none of those who answer gives it
  module _ (w : Query) where
    abbrev Never : Map (List ℕ) → Type 0
    Never m = Gives w m → ⊥

    else_never : (b : List ℕ) (x : Shows) → ShowsElse w b x → (m : Map (List ℕ)) → m w.id.0 ≡ Some b → Never m
    else_never b x else m is gives = not_both w gives.0 b x (some_injective gives.0 b (sym gives.1 ∙ is)) gives.2 else

    longer_never : (m : Map (List ℕ)) → ((b : List ℕ) × (m w.id.0 ≡ Some b) × (w.lent < length b)) → Never m
    longer_never m (b, is, more) gives = else_never b shows.Longer more m is gives

    none_never : (m : Map (List ℕ)) → m w.id.0 ≡ None → Never m
    none_never m none gives = none-some gives.0 (sym none ∙ gives.1)

    shown_never : (s : Said) (ms : List (Map (List ℕ))) → SaysAmong s ms → (x : Shows) → HasShown w x s → Any Never ms
    shown_never s ms says shows.Longer h = any_so (λ m. (b : List ℕ) × (m w.id.0 ≡ Some b) × (w.lent < length b)) Never longer_never ms (says.longer w.id.0 w.lent h)
    shown_never s ms says (shows.Digest x) h = any_so (λ m. m w.id.0 ≡ Some h.0) Never (λ m is. else_never h.0 (shows.Digest x) h.2 m is) ms (says.shown w.id.0 h.0 h.1)
    shown_never s ms says (shows.Length n) h = any_so (λ m. m w.id.0 ≡ Some h.0) Never (λ m is. else_never h.0 (shows.Length n) h.2 m is) ms (says.shown w.id.0 h.0 h.1)

    lacked_never : (s : Said) (ms : List (Map (List ℕ))) → SaysAmong s ms → Lacks w s → Any Never ms
    lacked_never s ms says (inl denied) = any_so (λ m. m w.id.0 ≡ None) Never none_never ms (says.denied w.id.0 denied)
    lacked_never s ms says (inr h) = shown_never s ms says h.0 h.1

    -- none of those who answer for a store gives it, as they agree
    all_never : (ms : List (Map (List ℕ))) → AllOrNone (Gives w) ms → Any Never ms → All Never ms
    all_never ms alike (k, n, less, at, not) = λ i d inside gives. not (subst (Gives w) at (alike (any_at (Gives w) ms i d inside gives) k n less))

    lacked_all : (old new : List S) → length new ≡ length old → (maps : List (Map (List ℕ))) → maps_of members new ≡ Some maps → GroupsAgree (Gives w) (map members new)
        → All (λ p. Lacks w (said p.1)) (zip old new) → All Never maps
    lacked_all [] [] same maps told agree h = subst (All Never) (some_injective [] maps told) (All-nil Never)
    lacked_all [] (y ∷ ys) same maps told agree h = absurd (omega (arith, same))
    lacked_all (x ∷ xs) [] same maps told agree h = absurd (omega (arith, same))
    lacked_all (x ∷ xs) (y ∷ ys) same maps told agree h =
        let p = parts_of (members y) (map members ys) maps told in
        let G : Option (List (Map (List ℕ))) → Type 0 = λ g. IfSome g (AllOrNone (Gives w)) in
        let here : AllOrNone (Gives w) p.ms = subst G p.is (All-head G (members y) (map members ys) agree) in
        let lacks : Lacks w (said y) = All-head (λ (q : S × S). Lacks w (said q.1)) (x, y) (zip xs ys) h in
        let first : All Never p.ms = all_never p.ms here (lacked_never (said y) p.ms (vouched_by y p.ms p.is) lacks) in
        let then : All Never p.rest = lacked_all xs ys (omega (arith, same)) p.rest p.told (All-tail G (members y) (map members ys) agree) (All-tail (λ (q : S × S). Lacks w (said q.1)) (x, y) (zip xs ys) h) in
        subst (All Never) p.whole (all_append Never p.ms p.rest first then)

    none_gives : (old new : List S) → map members new ≡ map members old → All (λ p. Lacks w (said p.1)) (zip old new) → NoneGives w (map members old)
    none_gives old new kept h = λ maps told agree.
        let same : length new ≡ length old = sym (length-map new members) ∙ (ap (λ (l : List (Option (List (Map (List ℕ))))). length l) kept ∙ length-map old members) in
        lacked_all old new same maps (ap told_together kept ∙ told) (subst (GroupsAgree (Gives w)) (sym kept) agree) h

    pub lacks_together : (faults : S → ℕ) (lacks_memory : Bool) (old new : List S) (r : Refused) → map members new ≡ map members old → Refuses said faults lacks_memory w old new r → LacksTogether w (map members old) r
    lacks_together faults lacks_memory old new refused.Missing kept h = none_gives old new kept (All-weaker (Denied said faults lacks_memory w) (λ p. Lacks w (said p.1)) (λ p d. inl d) (zip old new) h)
    lacks_together faults lacks_memory old new (refused.Damaged s x) kept h = none_gives old new kept
        (all_of_first (Denied said faults lacks_memory w) (Showed said faults lacks_memory w s x) (Lacked said faults lacks_memory w) (λ p. Lacks w (said p.1)) (λ p d. inl d) (λ p d. inr (x, d.0)) (λ p d. d) s.number (zip old new) h)
    lacks_together faults lacks_memory old new (refused.StoreFault s) kept h = tt
    lacks_together faults lacks_memory old new refused.Memory kept h = tt
