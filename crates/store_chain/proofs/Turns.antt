-- What stores that are asked in turn have told, from the first of them and the rest.
use Rattle.std.proofs.Common.{◌≡◌, ℕ, ◌+◌, suc, List, ◌∷◌, Bool, sym, subst, inl, inr, arith}
use Rattle.std.specs.List.{All, zip}
use Rattle.std.proofs.lemmas.List.Elements.{All-cons, All-weaker}
use Rattle.chunk_store.specs.Said.{Said}
use Rattle.store_chain.specs.Refusals.{graver, Denied, Showed, Lacked, Failed, LackedOrFailed, NoMemory, PassedOver, Tells, GivenBy, RefusesFrom}
use Rattle.store_chain.specs.declared.refused.Refused.{Refused}
use Rattle.store_chain.specs.declared.refused.Refused.TheVariants as refused
use Rattle.store_chain.specs.declared.query.Query.{Query}
use Rattle.store_chain.proofs.Pairs.{all_of_first, zip_same}

module _ {S : Type 0} (said : S → Said) (faults : S → ℕ) (lacks_memory : Bool) (w : Query) where
  -- the first store gave the chunk
  pub given_first : (b : List ℕ) (x y : S) (xs zs : List S) → zs ≡ x ∷ xs → (said y).shown w.id.0 b → GivenBy said faults lacks_memory w b zs (y ∷ xs)
  given_first b x y xs zs is shown =
      let P : List S → Type 0 = λ l. GivenBy said faults lacks_memory w b l (y ∷ xs) in
      subst P (sym is) (0, (shown, zip_same xs))

  passed : (number : ℕ) (x y : S) (why : Refused) → Tells said faults lacks_memory w number x y why → PassedOver said faults lacks_memory w (x, y)
  passed number x y refused.Missing tells = inl (inl tells)
  passed number x y (refused.Damaged s shows) tells = inl (inr (shows, tells.1.0))
  passed number x y (refused.StoreFault s) tells = inr (inl tells.1)
  passed number x y refused.Memory tells = inr (inr tells)

  -- the first store refused, and one of the rest gave the chunk
  pub given_later : (b : List ℕ) (number : ℕ) (x y : S) (xs ys zs : List S) (why : Refused) → zs ≡ x ∷ xs → Tells said faults lacks_memory w number x y why
      → GivenBy said faults lacks_memory w b xs ys → GivenBy said faults lacks_memory w b zs (y ∷ ys)
  given_later b number x y xs ys zs why is tells given =
      let P : List S → Type 0 = λ l. GivenBy said faults lacks_memory w b l (y ∷ ys) in
      subst P (sym is) (suc given.0, (passed number x y why tells, given.1))

  passed_too : (p : S × S) → LackedOrFailed said faults lacks_memory w p → PassedOver said faults lacks_memory w p
  passed_too p (inl lacked) = inl lacked
  passed_too p (inr failed) = inr (inl failed)

  -- stores that refused were passed
  all_passed : (number : ℕ) (xs ys : List S) (then : Refused) → RefusesFrom said faults lacks_memory w (number + 1) xs ys then → All (PassedOver said faults lacks_memory w) (zip xs ys)
  all_passed number xs ys refused.Missing rest = All-weaker (Denied said faults lacks_memory w) (PassedOver said faults lacks_memory w) (λ p h. inl (inl h)) (zip xs ys) rest
  all_passed number xs ys (refused.Damaged t more) rest =
      all_of_first (Denied said faults lacks_memory w) (Showed said faults lacks_memory w t more) (Lacked said faults lacks_memory w) (PassedOver said faults lacks_memory w)
      (λ p h. inl (inl h)) (λ p h. inl (inr (more, h.0))) (λ p h. inl h) rest.0 (zip xs ys) rest.2
  all_passed number xs ys (refused.StoreFault t) rest =
      all_of_first (Lacked said faults lacks_memory w) (Failed faults) (LackedOrFailed said faults lacks_memory w) (PassedOver said faults lacks_memory w)
      (λ p h. inl h) (λ p h. inr (inl h)) passed_too rest.0 (zip xs ys) rest.2
  all_passed number xs ys refused.Memory rest =
      all_of_first (LackedOrFailed said faults lacks_memory w) (NoMemory said faults lacks_memory w) (PassedOver said faults lacks_memory w) (PassedOver said faults lacks_memory w)
      passed_too (λ p h. inr (inr h)) (λ p h. h) rest.1.0 (zip xs ys) rest.1.1

  -- the first store refused, and all the rest did
  refused_all : (number : ℕ) (x y : S) (xs ys : List S) (why then : Refused) → Tells said faults lacks_memory w number x y why
      → RefusesFrom said faults lacks_memory w (number + 1) xs ys then → RefusesFrom said faults lacks_memory w number (x ∷ xs) (y ∷ ys) (graver why then)
  refused_all number x y xs ys refused.Missing refused.Missing tells rest = All-cons (Denied said faults lacks_memory w) (x, y) (zip xs ys) tells rest
  refused_all number x y xs ys refused.Missing (refused.Damaged s shows) tells rest = (suc rest.0, omega (arith, rest.1), (tells, rest.2))
  refused_all number x y xs ys refused.Missing (refused.StoreFault s) tells rest = (suc rest.0, omega (arith, rest.1), (inl tells, rest.2))
  refused_all number x y xs ys refused.Missing refused.Memory tells rest = (rest.0, (suc rest.1.0, (inl (inl tells), rest.1.1)))
  refused_all number x y xs ys (refused.Damaged s shows) refused.Missing tells rest =
      (0, omega (arith, tells.0), (tells.1, All-weaker (Denied said faults lacks_memory w) (Lacked said faults lacks_memory w) (λ p h. inl h) (zip xs ys) rest))
  refused_all number x y xs ys (refused.Damaged s shows) (refused.Damaged t more) tells rest = (
    0,
    omega (arith, tells.0),
    (
      tells.1,
      all_of_first (Denied said faults lacks_memory w) (Showed said faults lacks_memory w t more) (Lacked said faults lacks_memory w) (Lacked said faults lacks_memory w)
          (λ p h. inl h) (λ p h. inr (more, h.0)) (λ p h. h) rest.0 (zip xs ys) rest.2,
    ),
  )
  refused_all number x y xs ys (refused.Damaged s shows) (refused.StoreFault t) tells rest = (suc rest.0, omega (arith, rest.1), (inr (shows, tells.1.0), rest.2))
  refused_all number x y xs ys (refused.Damaged s shows) refused.Memory tells rest = (rest.0, (suc rest.1.0, (inl (inr (shows, tells.1.0)), rest.1.1)))
  refused_all number x y xs ys (refused.StoreFault s) refused.Missing tells rest =
      (0, omega (arith, tells.0), (tells.1, All-weaker (Denied said faults lacks_memory w) (LackedOrFailed said faults lacks_memory w) (λ p h. inl (inl h)) (zip xs ys) rest))
  refused_all number x y xs ys (refused.StoreFault s) (refused.Damaged t more) tells rest = (
    0,
    omega (arith, tells.0),
    (
      tells.1,
      all_of_first (Denied said faults lacks_memory w) (Showed said faults lacks_memory w t more) (Lacked said faults lacks_memory w) (LackedOrFailed said faults lacks_memory w)
          (λ p h. inl (inl h)) (λ p h. inl (inr (more, h.0))) (λ p h. inl h) rest.0 (zip xs ys) rest.2,
    ),
  )
  refused_all number x y xs ys (refused.StoreFault s) (refused.StoreFault t) tells rest = (
    0,
    omega (arith, tells.0),
    (
      tells.1,
      all_of_first (Lacked said faults lacks_memory w) (Failed faults) (LackedOrFailed said faults lacks_memory w) (LackedOrFailed said faults lacks_memory w)
          (λ p h. inl h) (λ p h. inr h) (λ p h. h) rest.0 (zip xs ys) rest.2,
    ),
  )
  refused_all number x y xs ys (refused.StoreFault s) refused.Memory tells rest = (rest.0, (suc rest.1.0, (inr tells.1, rest.1.1)))
  refused_all number x y xs ys refused.Memory refused.Missing tells rest = (tells.0, (0, (tells, all_passed number xs ys refused.Missing rest)))
  refused_all number x y xs ys refused.Memory (refused.Damaged t more) tells rest = (tells.0, (0, (tells, all_passed number xs ys (refused.Damaged t more) rest)))
  refused_all number x y xs ys refused.Memory (refused.StoreFault t) tells rest = (tells.0, (0, (tells, all_passed number xs ys (refused.StoreFault t) rest)))
  refused_all number x y xs ys refused.Memory refused.Memory tells rest = (tells.0, (0, (tells, all_passed number xs ys refused.Memory rest)))

  pub refused_on : (number : ℕ) (x y : S) (xs ys zs : List S) (why then r : Refused) → zs ≡ x ∷ xs → r ≡ graver why then → Tells said faults lacks_memory w number x y why
      → RefusesFrom said faults lacks_memory w (number + 1) xs ys then → RefusesFrom said faults lacks_memory w number zs (y ∷ ys) r
  refused_on number x y xs ys zs why then r is which tells rest =
      let P : List S → Type 0 = λ l. RefusesFrom said faults lacks_memory w number l (y ∷ ys) r in
      let Q : Refused → Type 0 = λ e. RefusesFrom said faults lacks_memory w number (x ∷ xs) (y ∷ ys) e in
      subst P (sym is) (subst Q (sym which) (refused_all number x y xs ys why then tells rest))
