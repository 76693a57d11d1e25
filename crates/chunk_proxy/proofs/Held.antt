-- Which chunk a cache and stores give, by what they hold.
use Rattle.std.proofs.Common.{◌≡◌, ℕ, zero, suc, ◌≤◌, List, [], ◌∷◌, length, Bool, true, false, ◌&&◌, cond, nat_le, Option, Some, None, IsTrue, All, refl, sym, ap, subst, ◌∙◌, arith}
use Rattle.std.specs.Str.{bytes_eq}
use Rattle.std.proofs.lemmas.Bool.Decides.{nat_tests}
use Rattle.std.proofs.lemmas.List.Elements.{All-head, All-tail}
use Rattle.std.proofs.lemmas.Slice.Eq.{bytes_eq-Decides}
use Rattle.caibx_fields.specs.Limits.{size_limit}
use Rattle.chunk_proxy.specs.Answers.{given_or, given_by_stores}
use Rattle.chunk_proxy.specs.Obtaining.{any_size}
use Rattle.chunk_server.specs.Answers.{chunk_held}
use Rattle.chunk_store.specs.Digests.{digest_of}
use Rattle.chunk_store.specs.declared.id.ChunkId.{ChunkId}
use Rattle.chunk_store.specs.declared.id.DigestKind.{DigestKind}
use Rattle.chunk_store.specs.declared.shows.Shows.{Shows}
use Rattle.chunk_store.specs.declared.shows.Shows.TheVariants as shows
use Rattle.dsy_base.specs.Maps.{Map}
use Rattle.store_chain.specs.Giving.{Gives, HoldsElse, HoldsNone}
use Rattle.store_chain.specs.Lists.{FirstAt}
use Rattle.store_chain.specs.Queries.{IsWanted, ShowsElse}

below : (n m : ℕ) → n ≤ m → nat_le n m ≡ true
below n m h = grind (arith, nat_tests)

pub at_most : (n m : ℕ) → nat_le n m ≡ true → n ≤ m
at_most n m h = grind (arith, nat_tests)

both : (b : List ℕ) (s t : Bool) → s ≡ true → t ≡ true → cond (s && t) (Some b) None ≡ Some b
both b true true e f = refl
both b true false e f = absurd (cc)
both b false t e f = absurd (cc)

-- where one stands, at least one does
some_first : {X : Type 0} (B A C : X → Type 0) (k : ℕ) (xs : List X) → FirstAt B A C k xs → 1 ≤ length xs
some_first B A C k [] h = absurd h
some_first B A C k (x ∷ xs) h = omega arith

module _ (kind : DigestKind) (id : ChunkId) where
  held_so : (b : List ℕ) → IsWanted (any_size kind id) b → chunk_held kind id.0 (Some b) ≡ Some b
  held_so b wanted =
      both b (bytes_eq (digest_of kind b) id.0) (nat_le (length b) size_limit) ((bytes_eq-Decides (digest_of kind b) id.0).1 wanted.named) (below (length b) size_limit wanted.fits)

  pub held_given : (o : Option (List ℕ)) (b : List ℕ) → o ≡ Some b → IsWanted (any_size kind id) b → chunk_held kind id.0 o ≡ Some b
  held_given o b is wanted = ap (chunk_held kind id.0) is ∙ held_so b wanted

  held_not : (b : List ℕ) → (IsWanted (any_size kind id) b → ⊥) → (s t : Bool) → bytes_eq (digest_of kind b) id.0 ≡ s → nat_le (length b) size_limit ≡ t
      → cond (s && t) (Some b) None ≡ None
  held_not b not true true e f = absurd (not (record { named = (bytes_eq-Decides (digest_of kind b) id.0).0 e; sized = tt; fits = at_most (length b) size_limit f }))
  held_not b not true false e f = refl
  held_not b not false t e f = refl

  -- what isn't wanted is none
  pub held_none : (o : Option (List ℕ)) → ((b : List ℕ) → o ≡ Some b → IsWanted (any_size kind id) b → ⊥) → chunk_held kind id.0 o ≡ None
  held_none None not = refl
  held_none (Some b) not = held_not b (not b refl) (bytes_eq (digest_of kind b) id.0) (nat_le (length b) size_limit) refl refl

  else_not : (b : List ℕ) (x : Shows) → IsWanted (any_size kind id) b → ShowsElse (any_size kind id) b x → ⊥
  else_not b shows.Longer wanted else = absurd (omega (arith, wanted.fits, else))
  else_not b (shows.Digest x) wanted else = else.2 (else.1 ∙ wanted.named)
  else_not b (shows.Length n) wanted else = else.3

  none_here : (m : Map (List ℕ)) → HoldsNone (any_size kind id) m → chunk_held kind id.0 (m id.0) ≡ None
  none_here m is = ap (chunk_held kind id.0) is

  not_here : (m : Map (List ℕ)) → (Gives (any_size kind id) m → ⊥) → chunk_held kind id.0 (m id.0) ≡ None
  not_here m not = held_none (m id.0) (λ b is wanted. not (b, is, wanted))

  some_is : (a b : List ℕ) → Some a ≡ Some b → a ≡ b
  some_is a b e = cc

  else_here : (m : Map (List ℕ)) (x : Shows) → HoldsElse (any_size kind id) x m → chunk_held kind id.0 (m id.0) ≡ None
  else_here m x else = held_none (m id.0) (λ b is wanted. else_not else.0 x (subst (IsWanted (any_size kind id)) (some_is b else.0 (sym is ∙ else.1)) wanted) else.2)

  -- ---- several stores

  pub first_gives : (lacks : Bool) (b : List ℕ) → IsWanted (any_size kind id) b → (k : ℕ) (maps : List (Map (List ℕ))) → (IsTrue lacks → length maps ≤ 1)
      → FirstAt (λ m. Gives (any_size kind id) m → IsTrue lacks) (λ m. m id.0 ≡ Some b) (λ m. Unit {0}) k maps → given_by_stores kind maps id.0 ≡ Some b
  unfolding given_by_stores
  first_gives lacks b wanted k [] alone h = absurd h
  first_gives lacks b wanted zero (m ∷ ms) alone h = ap (λ o. given_or o (given_by_stores kind ms id.0)) (held_given (m id.0) b h.0 wanted)
  first_gives lacks b wanted (suc k) (m ∷ ms) alone h =
      let more : 1 ≤ length ms = some_first (λ x. Gives (any_size kind id) x → IsTrue lacks) (λ x. x id.0 ≡ Some b) (λ x. Unit {0}) k ms h.1 in
      ap (λ o. given_or o (given_by_stores kind ms id.0)) (not_here m (λ gives. absurd (omega (arith, more, alone (h.0 gives)))))
      ∙ first_gives lacks b wanted k ms (λ l. omega (arith, alone l)) h.1

  pub all_lack : (maps : List (Map (List ℕ))) → All (HoldsNone (any_size kind id)) maps → given_by_stores kind maps id.0 ≡ None
  unfolding given_by_stores
  all_lack [] h = refl
  all_lack (m ∷ ms) h =
      ap (λ o. given_or o (given_by_stores kind ms id.0)) (none_here m (All-head (HoldsNone (any_size kind id)) m ms h)) ∙ all_lack ms (All-tail (HoldsNone (any_size kind id)) m ms h)

  none_give : (maps : List (Map (List ℕ))) → All (λ m. Gives (any_size kind id) m → ⊥) maps → given_by_stores kind maps id.0 ≡ None
  unfolding given_by_stores
  none_give [] h = refl
  none_give (m ∷ ms) h =
      ap (λ o. given_or o (given_by_stores kind ms id.0)) (not_here m (All-head (λ x. Gives (any_size kind id) x → ⊥) m ms h))
      ∙ none_give ms (All-tail (λ x. Gives (any_size kind id) x → ⊥) m ms h)

  pub all_damaged : (x : Shows) (s : ℕ) (maps : List (Map (List ℕ)))
      → FirstAt (HoldsNone (any_size kind id)) (HoldsElse (any_size kind id) x) (λ m. Gives (any_size kind id) m → ⊥) s maps → given_by_stores kind maps id.0 ≡ None
  unfolding given_by_stores
  all_damaged x s [] h = absurd h
  all_damaged x zero (m ∷ ms) h = ap (λ o. given_or o (given_by_stores kind ms id.0)) (else_here m x h.0) ∙ none_give ms h.1
  all_damaged x (suc s) (m ∷ ms) h = ap (λ o. given_or o (given_by_stores kind ms id.0)) (none_here m h.0) ∙ all_damaged x s ms h.1
