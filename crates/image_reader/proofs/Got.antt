-- What the stores have shown over one call, and what a bounded list keeps of wants that were obtained.
use Rattle.std.proofs.Common.{◌≡◌, ℕ, zero, suc, ◌-◌, ◌<◌, ◌||◌, ◌⊎◌, Bool, true, false, cond, List, [], ◌∷◌, length, take, slice_index_or, refl, sym, ap, subst, ◌∙◌, arith, inl, inr}
use Rattle.std.proofs.lemmas.Bool.{cases_Bool}
use Rattle.std.proofs.lemmas.List.{take-take}
use Rattle.std.proofs.lemmas.List.Elements.{AllZip-get_or}
use Rattle.std.proofs.lemmas.Slice.Zip.{AllZip-long}
use Rattle.std.specs.List.{AllZip, Any, zip}
use Rattle.chunk_store.specs.Said.{Said, KeepsOf}
use Rattle.store_chain.specs.Lists.{FirstAt}
use Rattle.store_chain.specs.Refusals.{GivenBy, PassedOver}
use Rattle.store_chain.specs.declared.query.Query.{Query}
use Rattle.image_reader.proofs.Entries.{one_want}
use Rattle.image_reader.specs.Keeping.{has_want, is_want, without_want}
use Rattle.image_reader.specs.declared.want.Want.{Want}

-- the store that is told of has it
any_second : {S : Type 0} (P : S → Type 0) (Before After : S × S → Type 0) (k : ℕ) (xs ys : List S) → FirstAt Before (λ p. P p.1) After k (zip xs ys) → Any P ys
any_second P Before After k [] ys h = absurd h
any_second P Before After k (x ∷ xs) [] h = absurd h
any_second P Before After zero (x ∷ xs) (y ∷ ys) h = (0, y, omega arith, refl, h.0)
any_second P Before After (suc k) (x ∷ xs) (y ∷ ys) h =
    let r = any_second P Before After k xs ys h.1 in
    (suc r.0, r.1, omega arith, r.3, r.4)

pub shown_by : {S : Type 0} (said : S → Said) (faults : S → ℕ) (lacks : Bool) (w : Query) (b : List ℕ) (old new : List S) → GivenBy said faults lacks w b old new → Any (λ s. (said s).shown w.id.0 b) new
shown_by said faults lacks w b old new h = any_second (λ s. (said s).shown w.id.0 b) (PassedOver said faults lacks w) (λ p. p.1 ≡ p.0) h.0 old new h.1

-- what was shown is shown still
pub shown_still : {S : Type 0} (said : S → Said) (id b : List ℕ) (xs ys : List S) → AllZip (λ x y. (q : List ℕ) → KeepsOf (said x) (said y) q) xs ys → Any (λ s. (said s).shown id b) xs → Any (λ s. (said s).shown id b) ys
shown_still {S} said id b xs ys keeps any =
    let long = AllZip-long (λ x y. (q : List ℕ) → KeepsOf (said x) (said y) q) xs ys keeps in
    let here = AllZip-get_or (λ x y. (q : List ℕ) → KeepsOf (said x) (said y) q) xs ys any.0 any.1 any.1 keeps any.2 id in
    let P : S → Type 0 = λ s. (said s).shown id b in
    (any.0, slice_index_or ys any.0 any.1, omega arith, same_at ys any.0 any.1 (omega arith), here.shown b (subst P (sym any.3) any.4))
  where
    same_at : {S : Type 0} (ys : List S) (k : ℕ) (d : S) → k < length ys → slice_index_or ys k (slice_index_or ys k d) ≡ slice_index_or ys k d
    same_at [] k d lt = absurd (omega arith)
    same_at (y ∷ ys) zero d lt = refl
    same_at (y ∷ ys) (suc k) d lt = same_at ys k d (omega arith)

-- ---- fewer are kept

pub has_take : (n : ℕ) (ws : List Want) (w : Want) → has_want (take n ws) w ≡ true → has_want ws w ≡ true
has_take zero ws w h = cc
has_take (suc n) [] w h = h
has_take (suc n) (x ∷ xs) w h =
    (elim (is_want w x) as (λ b. is_want w x ≡ b → has_want (x ∷ xs) w ≡ true) [
      | true ↦ λ t. ap (λ b. b || has_want xs w) t
      | false ↦ λ t. ap (λ b. b || has_want xs w) t ∙ has_take n xs w (sym (ap (λ b. b || has_want (take n xs) w) t) ∙ h)
    ]) refl

pub lacks_take : (n : ℕ) (ws : List Want) (w : Want) → has_want ws w ≡ false → has_want (take n ws) w ≡ false
lacks_take n ws w h = elim (cases_Bool (has_want (take n ws) w)) [
  | inl has ↦ let both : true ≡ false = sym (has_take n ws w has) ∙ h in absurd (cc)
  | inr lacks ↦ lacks
]

has_rest : (v x : Want) (xs : List Want) (w : Want) → (has_want (without_want v xs) w ≡ true → has_want xs w ≡ true) → is_want w x ≡ false → (c : Bool) → is_want v x ≡ c → has_want (without_want v (x ∷ xs)) w ≡ true → has_want xs w ≡ true
has_rest v x xs w on t true s h = sym (ap (λ b. has_want (cond b xs (x ∷ without_want v xs)) w) s) ∙ h
has_rest v x xs w on t false s h = on (sym (ap (λ b. b || has_want (without_want v xs) w) t) ∙ (sym (ap (λ b. has_want (cond b xs (x ∷ without_want v xs)) w) s) ∙ h))

pub has_without : (v : Want) (ws : List Want) (w : Want) → has_want (without_want v ws) w ≡ true → has_want ws w ≡ true
has_without v [] w h = h
has_without v (x ∷ xs) w h =
    (elim (is_want w x) as (λ b. is_want w x ≡ b → has_want (x ∷ xs) w ≡ true) [
      | true ↦ λ t. ap (λ b. b || has_want xs w) t
      | false ↦ λ t. ap (λ b. b || has_want xs w) t ∙ has_rest v x xs w (has_without v xs w) t (is_want v x) refl h
    ]) refl

-- the first, or one of the rest
pub has_first : (v : Want) (ws : List Want) (w : Want) → has_want (v ∷ ws) w ≡ true → (v ≡ w) ⊎ (has_want ws w ≡ true)
has_first v ws w h = elim (cases_Bool (is_want w v)) [
  | inl same ↦ inl (one_want w v same)
  | inr other ↦ inr (sym (ap (λ b. b || has_want ws w) other) ∙ h)
]

-- room was made for one, and then it was kept
pub take_again : {A : Type 0} (n : ℕ) (x : A) (xs : List A) → take n (x ∷ take (n - 1) xs) ≡ take n (x ∷ xs)
take_again zero x xs = refl
take_again (suc n) x xs = let less : suc n - 1 ≡ n = omega arith in ap (λ k. x ∷ take n (take k xs)) less ∙ (λ i. x ∷ take-take n n xs (omega arith) i)
