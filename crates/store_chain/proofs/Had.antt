-- What stores answer that are asked in turn whether they have a chunk, from the first of them and the rest.
use Rattle.std.proofs.Common.{◌≡◌, ◌≢◌, ◌⊎◌, ℕ, ◌+◌, suc, List, [], ◌∷◌, map, Option, Some, Bool, true, false, ◌||◌, is_some, Result, Ok, Err, IfSome, IfOk, IfErr, slice_index, refl, sym, subst, ap, ◌∙◌, inl, inr, arith}
use Rattle.std.specs.List.{All, list_any, zip}
use Rattle.chunk_store.specs.Said.{Said}
use Rattle.dsy_base.specs.Counts.{Rose}
use Rattle.dsy_base.specs.Maps.{Map}
use Rattle.store_chain.specs.Lists.{FirstAt}
use Rattle.store_chain.specs.Refusals.{Failed, Unfailed, has_after, HasDenied, DeniedOrFailed, HasFails, HasTells, HasFailsFrom}
use Rattle.store_chain.specs.declared.refused.HasFault.{HasFault}
use Rattle.store_chain.specs.declared.refused.HasFault.TheVariants as has
use Rattle.store_chain.proofs.Pairs.{all_of_first, all_second, cons_head, cons_tail, cons_nil, rose_at}

or_true : (a b : Bool) → true ≡ b → true ≡ (a || b)
or_true true b e = refl
or_true false b e = e

-- what a store holds that tells it, and the rest
module _ {S : Type 0} (holds : S → Option (Map (List ℕ))) (id : List ℕ) (x : S) (xs zs : List S) (is : zs ≡ x ∷ xs) where
  told_as : (maps : List (Map (List ℕ))) → map holds zs ≡ map Some maps → holds x ∷ map holds xs ≡ map Some maps
  told_as maps told = ap (λ (l : List S). map holds l) (sym is) ∙ told

  found_here : (b : Bool) (maps : List (Map (List ℕ))) → b ≡ true → IfSome (holds x) (λ m. b ≡ is_some (m id)) → holds x ∷ map holds xs ≡ map Some maps
      → true ≡ list_any (λ m. is_some (m id)) maps
  found_here b [] test found told = absurd (cons_nil (holds x) (map holds xs) told)
  found_here b (m ∷ ms) test found told =
      let P : Option (Map (List ℕ)) → Type 0 = λ o. IfSome o (λ m. b ≡ is_some (m id)) in
      let Q : Bool → Type 0 = λ h. true ≡ (h || list_any (λ m. is_some (m id)) ms) in
      subst Q (sym test ∙ subst P (cons_head _ _ _ _ told) found) refl

  found_next : (b : Bool) (r : Result Bool HasFault) (maps : List (Map (List ℕ))) → b ≡ false → IfSome (holds x) (λ m. b ≡ is_some (m id))
      → ((ms : List (Map (List ℕ))) → map holds xs ≡ map Some ms → IfOk r (λ h. h ≡ list_any (λ m. is_some (m id)) ms)) → holds x ∷ map holds xs ≡ map Some maps
      → IfOk r (λ h. h ≡ list_any (λ m. is_some (m id)) maps)
  found_next b r [] test found rest told = absurd (cons_nil (holds x) (map holds xs) told)
  found_next b r (m ∷ ms) test found rest told =
      let P : Option (Map (List ℕ)) → Type 0 = λ o. IfSome o (λ m. b ≡ is_some (m id)) in
      let Q : Bool → Type 0 = λ d. IfOk r (λ h. h ≡ (d || list_any (λ m. is_some (m id)) ms)) in
      subst Q (sym test ∙ subst P (cons_head _ _ _ _ told) found) (rest ms (cons_tail _ _ _ _ told))

  found_later : (fault : HasFault) (r : Result Bool HasFault) (maps : List (Map (List ℕ)))
      → ((ms : List (Map (List ℕ))) → map holds xs ≡ map Some ms → IfOk r (λ h. h ≡ list_any (λ m. is_some (m id)) ms)) → holds x ∷ map holds xs ≡ map Some maps
      → IfOk (has_after fault r) (λ h. h ≡ list_any (λ m. is_some (m id)) maps)
  found_later fault r [] rest told = absurd (cons_nil (holds x) (map holds xs) told)
  found_later fault (Ok true) (m ∷ ms) rest told = or_true _ _ (rest ms (cons_tail _ _ _ _ told))
  found_later fault (Ok false) (m ∷ ms) rest told = tt
  found_later fault (Err (has.StoreFault s)) (m ∷ ms) rest told = tt
  found_later fault (Err has.Memory) (m ∷ ms) rest told = tt

  pub found_first : (b : Bool) → b ≡ true → IfSome (holds x) (λ m. b ≡ is_some (m id)) → (maps : List (Map (List ℕ))) → map holds zs ≡ map Some maps
      → true ≡ list_any (λ m. is_some (m id)) maps
  found_first b test found maps told = found_here b maps test found (told_as maps told)

  pub found_in_rest : (b : Bool) (r : Result Bool HasFault) → b ≡ false → IfSome (holds x) (λ m. b ≡ is_some (m id))
      → ((ms : List (Map (List ℕ))) → map holds xs ≡ map Some ms → IfOk r (λ h. h ≡ list_any (λ m. is_some (m id)) ms))
      → (maps : List (Map (List ℕ))) → map holds zs ≡ map Some maps → IfOk r (λ h. h ≡ list_any (λ m. is_some (m id)) maps)
  found_in_rest b r test found rest maps told = found_next b r maps test found rest (told_as maps told)

  pub found_after : (fault : HasFault) (r q : Result Bool HasFault) → q ≡ has_after fault r
      → ((ms : List (Map (List ℕ))) → map holds xs ≡ map Some ms → IfOk r (λ h. h ≡ list_any (λ m. is_some (m id)) ms))
      → (maps : List (Map (List ℕ))) → map holds zs ≡ map Some maps → IfOk q (λ h. h ≡ list_any (λ m. is_some (m id)) maps)
  found_after fault r q which rest maps told =
      let P : Result Bool HasFault → Type 0 = λ a. IfOk a (λ h. h ≡ list_any (λ m. is_some (m id)) maps) in
      subst P (sym which) (found_later fault r maps rest (told_as maps told))

-- which store failed
module _ {S : Type 0} (said : S → Said) (faults : S → ℕ) (id : List ℕ) where
  module _ (lacks_memory : Bool) (number : ℕ) (x y : S) (xs ys zs : List S) (is : zs ≡ x ∷ xs) where
    denied_first : (e : HasFault) → (said y).denied id → HasFailsFrom said faults id lacks_memory (number + 1) xs ys e
        → HasFailsFrom said faults id lacks_memory number (x ∷ xs) (y ∷ ys) e
    denied_first (has.StoreFault s) denied rest = (suc rest.0, omega (arith, rest.1), (denied, rest.2))
    denied_first has.Memory denied rest = (rest.0, (suc rest.1.0, (inl denied, rest.1.1)))

    -- stores that failed, had no memory or have denied it
    all_passed : (r : Result Bool HasFault) → (r ≡ Ok false → All (λ s. (said s).denied id) ys) → IfErr r (HasFailsFrom said faults id lacks_memory (number + 1) xs ys)
        → r ≢ Ok true → All (λ p. DeniedOrFailed said faults id p ⊎ Unfailed faults p) (zip xs ys)
    all_passed (Ok true) denied rest not = absurd (not refl)
    all_passed (Ok false) denied rest not = all_second (λ s. (said s).denied id) (λ p. DeniedOrFailed said faults id p ⊎ Unfailed faults p) (λ p h. inl (inl h)) xs ys (denied refl)
    all_passed (Err (has.StoreFault t)) denied rest not =
        all_of_first (HasDenied said faults id) (Failed faults) (DeniedOrFailed said faults id) (λ p. DeniedOrFailed said faults id p ⊎ Unfailed faults p)
        (λ p h. inl (inl h)) (λ p h. inl (inr h)) (λ p h. inl h) rest.0 (zip xs ys) rest.2
    all_passed (Err has.Memory) denied rest not =
        all_of_first (DeniedOrFailed said faults id) (Unfailed faults) (λ p. DeniedOrFailed said faults id p ⊎ Unfailed faults p) (λ p. DeniedOrFailed said faults id p ⊎ Unfailed faults p)
        (λ p h. inl h) (λ p h. inr h) (λ p h. h) rest.1.0 (zip xs ys) rest.1.1

    failed_all : (fault : HasFault) (r : Result Bool HasFault) → HasTells said faults id lacks_memory number x y fault → (r ≡ Ok false → All (λ s. (said s).denied id) ys)
        → IfErr r (HasFailsFrom said faults id lacks_memory (number + 1) xs ys) → IfErr (has_after fault r) (HasFailsFrom said faults id lacks_memory number (x ∷ xs) (y ∷ ys))
    failed_all fault (Ok true) tells denied rest = tt
    failed_all (has.StoreFault s) (Ok false) tells denied rest =
        (0, omega (arith, tells.0), (tells.1, all_second (λ s. (said s).denied id) (DeniedOrFailed said faults id) (λ p h. inl h) xs ys (denied refl)))
    failed_all (has.StoreFault s) (Err (has.StoreFault t)) tells denied rest = (
      0,
      omega (arith, tells.0),
      (
        tells.1,
        all_of_first (HasDenied said faults id) (Failed faults) (DeniedOrFailed said faults id) (DeniedOrFailed said faults id)
            (λ p h. inl h) (λ p h. inr h) (λ p h. h) rest.0 (zip xs ys) rest.2,
      ),
    )
    failed_all (has.StoreFault s) (Err has.Memory) tells denied rest = (rest.0, (suc rest.1.0, (inr tells.1, rest.1.1)))
    failed_all has.Memory (Ok false) tells denied rest = (tells.0, (0, (tells.1, all_passed (Ok false) denied rest (λ h. cc))))
    failed_all has.Memory (Err (has.StoreFault t)) tells denied rest = (tells.0, (0, (tells.1, all_passed (Err (has.StoreFault t)) denied rest (λ h. cc))))
    failed_all has.Memory (Err has.Memory) tells denied rest = (tells.0, (0, (tells.1, all_passed (Err has.Memory) denied rest (λ h. cc))))

    pub fails_in_rest : (r : Result Bool HasFault) → (said y).denied id → IfErr r (HasFailsFrom said faults id lacks_memory (number + 1) xs ys)
        → IfErr r (HasFailsFrom said faults id lacks_memory number zs (y ∷ ys))
    fails_in_rest (Ok b) denied rest = tt
    fails_in_rest (Err e) denied rest =
        let P : List S → Type 0 = λ l. HasFailsFrom said faults id lacks_memory number l (y ∷ ys) e in
        subst P (sym is) (denied_first e denied rest)

    pub fails_after : (fault : HasFault) (r q : Result Bool HasFault) → q ≡ has_after fault r → HasTells said faults id lacks_memory number x y fault
        → (r ≡ Ok false → All (λ s. (said s).denied id) ys) → IfErr r (HasFailsFrom said faults id lacks_memory (number + 1) xs ys)
        → IfErr q (HasFailsFrom said faults id lacks_memory number zs (y ∷ ys))
    fails_after fault r q which tells denied rest =
        let P : List S → Type 0 = λ l. IfErr q (HasFailsFrom said faults id lacks_memory number l (y ∷ ys)) in
        let Q : Result Bool HasFault → Type 0 = λ a. IfErr a (HasFailsFrom said faults id lacks_memory number (x ∷ xs) (y ∷ ys)) in
        subst P (sym is) (subst Q (sym which) (failed_all fault r tells denied rest))

  -- where the numbers begin at 0
  has_fails : (lacks_memory : Bool) (old new : List S) (e : HasFault) → HasFailsFrom said faults id lacks_memory 0 old new e → HasFails said faults id old new e
  has_fails lacks_memory old new (has.StoreFault s) h =
      let P : ℕ → Type 0 = λ k. FirstAt (HasDenied said faults id) (Failed faults) (DeniedOrFailed said faults id) k (zip old new) in
      let number : h.0 ≡ s = omega (arith, h.1) in
      subst P number h.2
  has_fails lacks_memory old new has.Memory h = h.1

  pub has_fails_in : (lacks_memory : Bool) (old old' new new' : List S) → old ≡ old' → new ≡ new' → (r : Result Bool HasFault)
      → IfErr r (HasFailsFrom said faults id lacks_memory 0 old new) → IfErr r (HasFails said faults id old' new')
  has_fails_in lacks_memory old old' new new' same_old same_new (Ok b) told = tt
  has_fails_in lacks_memory old old' new new' same_old same_new (Err e) told =
      let P : List S → Type 0 = λ l. HasFails said faults id l new' e in
      let Q : List S → Type 0 = λ l. HasFails said faults id old l e in
      subst P same_old (subst Q same_new (has_fails lacks_memory old new e told))

  -- the count of the named store rose
  pub has_cause_in : (lacks_memory : Bool) (old old' new new' : List S) → old ≡ old' → new ≡ new' → (r : Result Bool HasFault) (s : ℕ)
      → IfErr r (HasFailsFrom said faults id lacks_memory 0 old new) → r ≡ Err (has.StoreFault s) → Rose (slice_index (map faults old') s) (slice_index (map faults new') s)
  has_cause_in lacks_memory old old' new new' same_old same_new r s told which =
      let K : Result Bool HasFault → Type 0 = λ x. IfErr x (HasFailsFrom said faults id lacks_memory 0 old new) in
      let P : List S → Type 0 = λ l. Rose (slice_index (map faults l) s) (slice_index (map faults new') s) in
      let Q : List S → Type 0 = λ l. Rose (slice_index (map faults old) s) (slice_index (map faults l) s) in
      let T : ℕ → Type 0 = λ k. Rose (slice_index (map faults old) k) (slice_index (map faults new) k) in
      let h : HasFailsFrom said faults id lacks_memory 0 old new (has.StoreFault s) = subst K which told in
      let number : h.0 ≡ s = omega (arith, h.1) in
      subst P same_old (subst Q same_new (subst T number (rose_at faults (HasDenied said faults id) (DeniedOrFailed said faults id) h.0 old new h.2)))
