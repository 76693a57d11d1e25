-- Maps that are told together.
use Rattle.std.proofs.Common.{◌≡◌, ◌⊎◌, ℕ, zero, suc, ◌<◌, List, [], ◌∷◌, ◌++◌, length, map, slice_index_or, Option, Some, None, IfSome, refl, sym, ap, ◌∙◌, subst, inl, inr, arith}
use Rattle.std.specs.List.{All, Any}
use Rattle.std.specs.Option.{option_map}
use Rattle.std.proofs.lemmas.List.Elements.{All-nil, All-cons, All-head, All-tail}
use Rattle.std.proofs.lemmas.Option.{none-some, same_Some}
use Rattle.chunk_store.specs.Members.{AllOrNone, GroupsAgree, maps_of, told_together}
use Rattle.dsy_base.specs.Maps.{Map}

module _ {X : Type 0} (P : X → Type 0) where
  pub any_here : (x : X) (xs : List X) → P x → Any P (x ∷ xs)
  any_here x xs p = (0, x, omega arith, refl, p)

  pub any_next : (x : X) (xs : List X) → Any P xs → Any P (x ∷ xs)
  any_next x xs rest = let less : rest.0 < length xs = rest.2 in (suc rest.0, rest.1, omega arith, rest.3, rest.4)

  pub any_cons : (x : X) (xs : List X) → Any P (x ∷ xs) → P x ⊎ Any P xs
  any_cons x xs (zero, y, inside, at, p) = inl (subst P (sym at) p)
  any_cons x xs (suc k, y, inside, at, p) = inr (k, y, omega (arith, inside), at, p)

  pub any_at : (xs : List X) (i : ℕ) (d : X) → i < length xs → P (slice_index_or xs i d) → Any P xs
  any_at [] i d less p = absurd (omega (arith, less))
  any_at (x ∷ xs) zero d less p = any_here x xs p
  any_at (x ∷ xs) (suc i) d less p = any_next x xs (any_at xs i d (omega (arith, less)) p)

  pub any_left : (xs ys : List X) → Any P xs → Any P (xs ++ ys)
  any_left [] ys any = let less : any.0 < 0 = any.2 in absurd (omega (arith, less))
  any_left (x ∷ xs) ys any = elim (any_cons x xs any) [
    | inl here ↦ any_here x (xs ++ ys) here
    | inr later ↦ any_next x (xs ++ ys) (any_left xs ys later)
  ]

  pub any_right : (xs ys : List X) → Any P ys → Any P (xs ++ ys)
  any_right [] ys any = any
  any_right (x ∷ xs) ys any = any_next x (xs ++ ys) (any_right xs ys any)

  pub any_part : (xs ys : List X) → Any P (xs ++ ys) → Any P xs ⊎ Any P ys
  any_part [] ys any = inr any
  any_part (x ∷ xs) ys any = elim (any_cons x (xs ++ ys) any) [
    | inl here ↦ inl (any_here x xs here)
    | inr later ↦ elim (any_part xs ys later) [
      | inl first ↦ inl (any_next x xs first)
      | inr second ↦ inr second
    ]
  ]

  pub any_so : (Q : X → Type 0) → ((x : X) → P x → Q x) → (xs : List X) → Any P xs → Any Q xs
  any_so Q f xs any = (any.0, any.1, any.2, any.3, f any.1 any.4)

  pub all_append : (xs ys : List X) → All P xs → All P ys → All P (xs ++ ys)
  all_append [] ys first then = then
  all_append (x ∷ xs) ys first then = All-cons P x (xs ++ ys) (All-head P x xs first) (all_append xs ys (All-tail P x xs first) then)

-- the lists of a first group and of the others
pub told_parts : {X : Type 0} (xs : List X) (groups : List (Option (List X))) (all : List X) → told_together (Some xs ∷ groups) ≡ Some all
    → (ys : List X) × (told_together groups ≡ Some ys) × (xs ++ ys ≡ all)
told_parts {X} xs groups all told = go (told_together groups) told where
  go : (o : Option (List X)) → option_map (λ ys. xs ++ ys) o ≡ Some all → (ys : List X) × (o ≡ Some ys) × (xs ++ ys ≡ all)
  go None t = absurd (none-some all t)
  go (Some ys) t = (ys, refl, same_Some (xs ++ ys) all t)

-- ---- stores that answer alone

module _ {S : Type 0} (holds : S → Option (Map (List ℕ))) (members : S → Option (List (Map (List ℕ)))) (alone : (s : S) → IfSome (holds s) (λ m. members s ≡ Some (m ∷ []))) where
  pub one_member : (s : S) (m : Map (List ℕ)) → holds s ≡ Some m → members s ≡ Some (m ∷ [])
  one_member s m is = let P : Option (Map (List ℕ)) → Type 0 = λ o. IfSome o (λ m. members s ≡ Some (m ∷ [])) in subst P is (alone s)

  some_cons : (m : Map (List ℕ)) (ms : List (Map (List ℕ))) (s : S) (stores : List S) → map holds (s ∷ stores) ≡ map Some (m ∷ ms) → (holds s ≡ Some m) × (map holds stores ≡ map Some ms)
  some_cons m ms s stores told = (cc, cc)

  -- they tell together what each of them holds
  pub told_alone : (stores : List S) (maps : List (Map (List ℕ))) → map holds stores ≡ map Some maps → maps_of members stores ≡ Some maps
  told_alone [] [] told = refl
  told_alone [] (m ∷ ms) told = absurd (cc)
  told_alone (s ∷ stores) [] told = absurd (cc)
  told_alone (s ∷ stores) (m ∷ ms) told =
      let parts = some_cons m ms s stores told in
      ap (λ (o : Option (List (Map (List ℕ)))). told_together (o ∷ map members stores)) (one_member s m parts.0) ∙ ap (option_map (λ (ys : List (Map (List ℕ))). m ∷ ys)) (told_alone stores ms parts.1)

  -- and agree, each with itself
  pub agree_alone : (P : Map (List ℕ) → Type 0) (stores : List S) (maps : List (Map (List ℕ))) → map holds stores ≡ map Some maps → GroupsAgree P (map members stores)
  agree_alone P [] maps told = All-nil (λ g. IfSome g (AllOrNone P))
  agree_alone P (s ∷ stores) [] told = absurd (cc)
  agree_alone P (s ∷ stores) (m ∷ ms) told =
      let parts = some_cons m ms s stores told in
      let alike : AllOrNone P (m ∷ []) = λ any. elim (any_cons P m [] any) [
        | inl here ↦ All-cons P m [] here (All-nil P)
        | inr later ↦ let less : later.0 < 0 = later.2 in absurd (omega (arith, less))
      ] in
      All-cons (λ g. IfSome g (AllOrNone P)) (members s) (map members stores) (subst (λ (g : Option (List (Map (List ℕ)))). IfSome g (AllOrNone P)) (sym (one_member s m parts.0)) alike) (agree_alone P stores ms parts.1)
