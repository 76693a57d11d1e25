-- What the answer of one seed says of the list of seeds, in which it is replaced by what it is after the call.
use Rattle.std.proofs.Common.{◌≡◌, ℕ, zero, suc, ◌<◌, ◌≤◌, List, [], ◌∷◌, length, map, get_or, slice_index_or, Bool, IsTrue, IsSome, is_some, true, false, Option, Some, None, IfSome, IsSomeAnd, unwrap_or, inl, inr, sym, refl, ap, ◌∙◌, ◌+◌, subst, below_more, arith}
use Rattle.std.proofs.Math.ListN.{set}
use Rattle.std.proofs.lemmas.List.{get_or-map, get_or_default}
use Rattle.std.specs.List.{Any}
use Rattle.std.specs.Option.{option_map}
use Rattle.chunk_sources.specs.Sources.{GivesAt, HeldAt, Telling}
use Rattle.chunk_store.specs.Digests.{digest_of}
use Rattle.dsy_base.proofs.Counts.{rose_later}
use Rattle.dsy_base.specs.Bytes.{Held}
use Rattle.dsy_base.specs.Counts.{Rose}
use Rattle.extract_plan.specs.Seeds.{SeedAnswersSo, CountsAnswer, GivesNot, bytes_at, place_end}
use Rattle.extract_plan.specs.declared.seed.SeedAnswer.{SeedAnswer}
use Rattle.extract_plan.specs.declared.seed.SeedAnswer.TheVariants as answers
use Rattle.extract_plan.specs.declared.seed.SeedPlace.{SeedPlace}
use Rattle.store_chain.specs.Faults.{NoneFalls}

-- the element that was replaced
at_replaced : {X Y : Type 0} (f : X → Y) (xs : List X) (i : ℕ) (y : X) (e : Y) → i < length xs → get_or (map f (set xs i y)) i e ≡ f y
at_replaced f [] i y e inside = absurd (omega arith)
at_replaced f (x ∷ xs) zero y e inside = refl
at_replaced f (x ∷ xs) (suc i) y e inside = at_replaced f xs i y e (omega arith)

pub rose_at : {X : Type 0} (f : X → ℕ) (xs : List X) (i : ℕ) (d y : X) → i < length xs → Rose (f (get_or xs i d)) (f y) → Rose (get_or (map f xs) i 0) (get_or (map f (set xs i y)) i 0)
rose_at f xs i d y inside rose = rw (get_or-map f xs i d 0 inside, at_replaced f xs i y 0 inside) rose

-- its count didn't fall, and the others stayed
pub none_falls : {X : Type 0} (f : X → ℕ) (xs : List X) (i : ℕ) (d y : X) → f (get_or xs i d) ≤ f y → NoneFalls (map f xs) (map f (set xs i y))
none_falls f [] i d y le k = omega arith
none_falls f (x ∷ xs) zero d y le zero = le
none_falls f (x ∷ xs) zero d y le (suc k) = omega arith
none_falls f (x ∷ xs) (suc i) d y le zero = omega arith
none_falls f (x ∷ xs) (suc i) d y le (suc k) = none_falls f xs i d y le k

-- bytes that are told to have the id are named so
are_named : (bytes : Option (List ℕ)) (p : SeedPlace) (id out : List ℕ) → IfSome bytes (λ t. out ≡ bytes_at p t) → IsSomeAnd bytes (λ t. digest_of p.kind (bytes_at p t) ≡ id)
    → digest_of p.kind out ≡ id
are_named None p id out is gives = absurd gives
are_named (Some t) p id out is gives = ap (digest_of p.kind) is ∙ gives

-- a view that answers so doesn't have the chunk
lacks : (held : Held) (p : SeedPlace) (id out : List ℕ) → GivesNot held p id out → GivesAt (Some held) p id → ⊥
lacks held p id out (inl short) gives = let inside : place_end p ≤ held.size = gives.0 in omega arith
lacks held p id out (inr other) gives = other.1 (are_named held.bytes p id out other.2 gives.1)

-- a seed that has the chunk and didn't give it failed
pub failed_at : {V : Type 0} (held : V → Held) (faults : V → ℕ) (old new : Option V) (p : SeedPlace) (id out : List ℕ) (answer : SeedAnswer)
    → (answer ≡ answers.Given → ⊥) → SeedAnswersSo (option_map held old) p id out answer → CountsAnswer (option_map faults old) (option_map faults new) answer
    → GivesAt (option_map held old) p id → Rose (unwrap_or (option_map faults old) 0) (unwrap_or (option_map faults new) 0)
failed_at held faults None new p id out answer refused value counts gives = absurd gives
failed_at held faults (Some v) None p id out answer refused value counts gives = absurd counts
failed_at held faults (Some v) (Some w) p id out answers.Given refused value counts gives = absurd (refused refl)
failed_at held faults (Some v) (Some w) p id out answers.Wrong refused value counts gives = absurd (lacks (held v) p id out value gives)
failed_at held faults (Some v) (Some w) p id out answers.Failed refused value counts gives = counts.1

pub never_falls : {V : Type 0} (faults : V → ℕ) (old new : Option V) (answer : SeedAnswer) → CountsAnswer (option_map faults old) (option_map faults new) answer
    → unwrap_or (option_map faults old) 0 ≤ unwrap_or (option_map faults new) 0
never_falls faults None new answer counts = omega arith
never_falls faults (Some v) None answer counts = absurd counts
never_falls faults (Some v) (Some w) answers.Given counts = let same : faults w ≡ faults v = counts in omega arith
never_falls faults (Some v) (Some w) answers.Wrong counts = let same : faults w ≡ faults v = counts in omega arith
never_falls faults (Some v) (Some w) answers.Failed counts = counts.0

-- each seed that has the chunk at one of the first n places has failed
abbrev pub Passed : List (Option Held) → List SeedPlace → List ℕ → ℕ → List ℕ → List ℕ → Type 0
Passed views places id n old new = (k : ℕ) (d : SeedPlace) → k < n → HeldAt views (get_or places k d) id
    → Rose (get_or old (get_or places k d).seed 0) (get_or new (get_or places k d).seed 0)

rose_before : (a b c : ℕ) → Rose a b → b ≤ c → Rose a c
rose_before a b c (inl more) le = inl (omega arith)
rose_before a b c (inr full) le = inr (omega arith)

-- one place more, whose seed was asked when the counts were `now`
pub passed_more : (views after : List (Option Held)) (places : List SeedPlace) (id : List ℕ) (i : ℕ) (e : SeedPlace) (old now new : List ℕ) → after ≡ views → i < length places
    → NoneFalls old now → NoneFalls now new → Passed views places id i old now
    → (HeldAt after (get_or places i e) id → Rose (get_or now (get_or places i e).seed 0) (get_or new (get_or places i e).seed 0)) → Passed views places id (i + 1) old new
passed_more views after places id i e old now new kept inside fell falls passed here = λ k d within.
    let P : ℕ → Type 0 = λ k. (d : SeedPlace) → HeldAt views (get_or places k d) id → Rose (get_or old (get_or places k d).seed 0) (get_or new (get_or places k d).seed 0) in
    below_more P i
    (λ k within d has. let at : ℕ = (get_or places k d).seed in rose_before (get_or old at 0) (get_or now at 0) (get_or new at 0) (passed k d within has) (falls at))
    (λ d. rw (get_or_default places i d e inside) (λ has.
    let at : ℕ = (get_or places i e).seed in
    rose_later (get_or old at 0) (get_or now at 0) (get_or new at 0) (fell at) (here (subst (λ v. HeldAt v (get_or places i e) id) (sym kept) has))))
    k within d

pub any_at : {X : Type 0} (P : X → Type 0) (xs : List X) (i : ℕ) (d : X) → i < length xs → P (get_or xs i d) → Any P xs
any_at P xs i d inside holds = (i, get_or xs i d, inside, get_or_default xs i (get_or xs i d) d inside, holds)

pub falls_on : (old now new : List ℕ) → NoneFalls old now → NoneFalls now new → NoneFalls old new
falls_on old now new fell falls k = omega (arith, fell k, falls k)

-- what a seed gave it has, where the type of views tells so
pub given_at : {V : Type 0} (tells : Bool) (held : V → Held) → ((v : V) → is_some (held v).bytes ≡ tells) → (old : Option V) (views : List (Option Held)) (p : SeedPlace) (id out : List ℕ)
    → p.seed < length views → slice_index_or views p.seed None ≡ option_map held old → SeedAnswersSo (option_map held old) p id out answers.Given → Telling tells views
    → HeldAt views p id
given_at tells held told None views p id out inside at value telling = let no : answers.Given ≡ answers.Wrong = value in absurd (cc)
given_at tells held told (Some v) views p id out inside at value telling =
    let some : Any (λ (w : Option Held). IsSome w) views = any_at (λ (w : Option Held). IsSome w) views p.seed None inside (subst (λ (w : Option Held). IsSome w) (sym at) refl) in
    subst (λ w. GivesAt w p id) (sym at) (value.inside, gives (held v).bytes (subst (λ (b : Bool). IsTrue b) (sym (told v)) (telling some)) value.named value.bytes) where
      gives : (bytes : Option (List ℕ)) → IsTrue (is_some bytes) → digest_of p.kind out ≡ id → IfSome bytes (λ t. out ≡ bytes_at p t) → IsSomeAnd bytes (λ t. digest_of p.kind (bytes_at p t) ≡ id)
      gives None some named is = let no : false ≡ true = some in absurd (cc)
      gives (Some t) some named is = ap (digest_of p.kind) (sym is) ∙ named

-- where seeds hold what they held, the type tells so still
pub telling_on : (tells : Bool) (views after : List (Option Held)) → after ≡ views → Telling tells views → Telling tells after
telling_on tells views after same telling = subst (Telling tells) (sym same) telling
