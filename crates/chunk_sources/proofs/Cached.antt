-- What a cache gives as chunks are added to it.
use Rattle.std.proofs.Common.{◌≡◌, ◌⊎◌, ◌++◌, ℕ, ◌<◌, ◌≤◌, List, [], ◌∷◌, Option, Some, None, IsSome, IfSome, is_some, true, refl, sym, ap, ◌∙◌, subst, inl, inr, arith}
use Rattle.std.proofs.lemmas.Bool.{true≢false}
use Rattle.std.proofs.lemmas.Option.{none-some, same_Some}
use Rattle.std.specs.Option.{option_map}
use Rattle.cache_store.proofs.Stocked.{gave_or_takes, gives_still, stocks_on, stocks_same, stocks_weaker}
use Rattle.cache_store.specs.Giving.{SomeGives}
use Rattle.cache_store.specs.Shelves.{Shelf, held_on}
use Rattle.chunk_sources.specs.Caches.{Stocked, cache_faults, cached_in}
use Rattle.chunk_store.proofs.Members.{any_cons, any_here, any_left, any_part, any_right}
use Rattle.chunk_store.specs.Folders.{chunks}
use Rattle.chunk_store.specs.Giving.{GivesChunk, IsChunk}
use Rattle.chunk_store.specs.declared.id.DigestKind.{DigestKind}
use Rattle.dsy_base.specs.Maps.{Map}

module _ (kind : DigestKind) (id : List ℕ) (size : ℕ) where
  abbrev Chunk : Map (List ℕ) → Type 0
  Chunk m = GivesChunk kind id size (m id)

  pub gives_left : (cached maps : List (Map (List ℕ))) → SomeGives kind id size cached → SomeGives kind id size (cached ++ maps)
  gives_left cached maps gives = any_left Chunk cached maps gives

  pub gives_right : (cached maps : List (Map (List ℕ))) → SomeGives kind id size maps → SomeGives kind id size (cached ++ maps)
  gives_right cached maps gives = any_right Chunk cached maps gives

  pub gives_part : (cached maps : List (Map (List ℕ))) → SomeGives kind id size (cached ++ maps) → SomeGives kind id size cached ⊎ SomeGives kind id size maps
  gives_part cached maps gives = any_part Chunk cached maps gives

  pub one_gives : (m : Map (List ℕ)) → Chunk m → SomeGives kind id size (m ∷ [])
  one_gives m gives = any_here Chunk m [] gives

  pub gives_one : (m : Map (List ℕ)) → SomeGives kind id size (m ∷ []) → Chunk m
  gives_one m gives = elim (any_cons Chunk m [] gives) [
    | inl here ↦ here
    | inr later ↦ let less : later.0 < 0 = later.2 in absurd (omega (arith, less))
  ]

-- ---- what is told

pub told_at : (o : Option (Map (List ℕ))) (cached : List (Map (List ℕ))) → option_map (λ m. chunks m ∷ []) o ≡ Some cached
    → (m : Map (List ℕ)) × (o ≡ Some m) × (cached ≡ chunks m ∷ [])
told_at None cached told = absurd (none-some cached told)
told_at (Some m) cached told = (m, refl, sym (same_Some (chunks m ∷ []) cached told))

if_some : {X : Type 0} (o : Option X) (P : X → Type 0) (x : X) → o ≡ Some x → IfSome o P → P x
if_some o P x is has = subst (λ q. IfSome q P) is has

pub is_told : (o : Option (Map (List ℕ))) → is_some o ≡ true → (m : Map (List ℕ)) × (o ≡ Some m)
is_told None told = absurd (true≢false (sym told))
is_told (Some m) told = (m, refl)

module _ (Takes : List ℕ → List ℕ → Type 0) where
  -- ---- caches

  pub stocked_none : (e : Option Shelf) → Stocked Takes e e
  stocked_none None = tt
  stocked_none (Some s) = stocks_same Takes s

  pub stocked_falls : (a b : Option Shelf) → Stocked Takes a b → cache_faults a ≤ cache_faults b
  stocked_falls None None stocked = omega arith
  stocked_falls None (Some t) stocked = absurd stocked
  stocked_falls (Some s) None stocked = absurd stocked
  stocked_falls (Some s) (Some t) stocked = stocked.never_falls

  pub stocked_kind : (a b : Option Shelf) (k : DigestKind) → Stocked Takes a b → IfSome a (λ s. s.kind ≡ k) → IfSome b (λ s. s.kind ≡ k)
  stocked_kind None None k stocked is = tt
  stocked_kind None (Some t) k stocked is = absurd stocked
  stocked_kind (Some s) None k stocked is = absurd stocked
  stocked_kind (Some s) (Some t) k stocked is = stocked.kind ∙ is

  pub stocked_some : (a b : Option Shelf) → Stocked Takes a b → IsSome b → IsSome a
  stocked_some None None stocked is = is
  stocked_some None (Some t) stocked is = absurd stocked
  stocked_some (Some s) None stocked is = absurd stocked
  stocked_some (Some s) (Some t) stocked is = refl

  -- it still tells
  pub stocked_told : (a b : Option Shelf) (was : List (Map (List ℕ))) → Stocked Takes a b → cached_in a ≡ Some was
      → (now : List (Map (List ℕ))) × (cached_in b ≡ Some now)
  stocked_told None None was stocked told = ([], refl)
  stocked_told None (Some t) was stocked told = absurd stocked
  stocked_told (Some s) None was stocked told = absurd stocked
  stocked_told (Some s) (Some t) was stocked told =
      let m = told_at s.files was told in
      let n = is_told t.files (stocked.told ∙ ap (λ o. is_some o) m.1) in
      (chunks n.0 ∷ [], ap (option_map (λ m. chunks m ∷ [])) n.1)

  -- and told before
  pub stocked_was : (a b : Option Shelf) (now : List (Map (List ℕ))) → Stocked Takes a b → cached_in b ≡ Some now
      → (was : List (Map (List ℕ))) × (cached_in a ≡ Some was)
  stocked_was None None now stocked told = ([], refl)
  stocked_was None (Some t) now stocked told = absurd stocked
  stocked_was (Some s) None now stocked told = absurd stocked
  stocked_was (Some s) (Some t) now stocked told =
      let n = told_at t.files now told in
      let m = is_told s.files (sym stocked.told ∙ ap (λ o. is_some o) n.1) in
      (chunks m.0 ∷ [], ap (option_map (λ m. chunks m ∷ [])) m.1)

  module _ (kind : DigestKind) (id : List ℕ) (size : ℕ) where
    -- what holds of the chunks of two shelves that are told
    both_told : (s t : Shelf) (m n : Map (List ℕ)) (P : Map (List ℕ) → Map (List ℕ) → Type 0) → s.files ≡ Some m → t.files ≡ Some n
        → IfSome (held_on s) (λ m. IfSome (held_on t) (P m)) → P (chunks m) (chunks n)
    both_told s t m n P was is has =
        if_some (held_on t) (P (chunks m)) (chunks n) (ap (option_map chunks) is)
        (if_some (held_on s) (λ (m : Map (List ℕ)). IfSome (held_on t) (P m)) (chunks m) (ap (option_map chunks) was) has)

    -- what it gives now it gave before, or it was added
    pub stocked_gave : (a b : Option Shelf) (was now : List (Map (List ℕ))) → Stocked Takes a b → cached_in a ≡ Some was → cached_in b ≡ Some now
        → SomeGives kind id size now → SomeGives kind id size was ⊎ ((b : List ℕ) × Takes id b × IsChunk kind id size b)
    stocked_gave None None was now stocked told tells gives =
        let none : [] ≡ now = same_Some [] now tells in
        let bad = subst (SomeGives kind id size) (sym none) gives in
        let less : bad.0 < 0 = bad.2 in
        absurd (omega (arith, less))
    stocked_gave None (Some t) was now stocked told tells gives = absurd stocked
    stocked_gave (Some s) None was now stocked told tells gives = absurd stocked
    stocked_gave (Some s) (Some t) was now stocked told tells gives =
        let m = told_at s.files was told in
        let n = told_at t.files now tells in
        elim (both_told s t m.0 n.0 (λ x y. GivesChunk kind id size (y id) → GivesChunk kind id size (x id) ⊎ ((b : List ℕ) × IsChunk kind id size b × Takes id b)) m.1 n.1
        (gave_or_takes Takes s t kind id size stocked) (gives_one kind id size (chunks n.0) (subst (SomeGives kind id size) n.2 gives))) [
          | inl before ↦ inl (subst (SomeGives kind id size) (sym m.2) (one_gives kind id size (chunks m.0) before))
          | inr (b, right, takes) ↦ inr (b, takes, right)
        ]

    -- what it gave it gives, where nothing else is added under the id
    pub stocked_gives : (a b : Option Shelf) (was now : List (Map (List ℕ))) → Stocked Takes a b → cached_in a ≡ Some was → cached_in b ≡ Some now
        → ((b : List ℕ) → Takes id b → IsChunk kind id size b) → SomeGives kind id size was → SomeGives kind id size now
    stocked_gives None None was now stocked told tells all gives =
        subst (SomeGives kind id size) (same_Some was now (sym told ∙ tells)) gives
    stocked_gives None (Some t) was now stocked told tells all gives = absurd stocked
    stocked_gives (Some s) None was now stocked told tells all gives = absurd stocked
    stocked_gives (Some s) (Some t) was now stocked told tells all gives =
        let m = told_at s.files was told in
        let n = told_at t.files now tells in
        subst (SomeGives kind id size) (sym n.2) (one_gives kind id size (chunks n.0)
        (both_told s t m.0 n.0 (λ x y. GivesChunk kind id size (x id) → GivesChunk kind id size (y id)) m.1 n.1 (gives_still Takes s t kind id size stocked all)
        (gives_one kind id size (chunks m.0) (subst (SomeGives kind id size) m.2 gives))))

-- ---- one stretch after another

pub stocked_wider : (T U : List ℕ → List ℕ → Type 0) → ((q b : List ℕ) → T q b → U q b) → (a b : Option Shelf) → Stocked T a b → Stocked U a b
stocked_wider T U wider None None stocked = stocked
stocked_wider T U wider None (Some t) stocked = absurd stocked
stocked_wider T U wider (Some s) None stocked = absurd stocked
stocked_wider T U wider (Some s) (Some t) stocked = stocks_weaker T U wider s t stocked

pub stocked_on : (Takes : List ℕ → List ℕ → Type 0) (a b c : Option Shelf) → Stocked Takes a b → Stocked Takes b c → Stocked Takes a c
stocked_on Takes None None c first next = next
stocked_on Takes None (Some t) c first next = absurd first
stocked_on Takes (Some s) None c first next = absurd first
stocked_on Takes (Some s) (Some t) None first next = absurd next
stocked_on Takes (Some s) (Some t) (Some u) first next = stocks_on Takes s t u first next
