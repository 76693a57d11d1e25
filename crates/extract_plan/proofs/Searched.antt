-- What `find` finds, by the places of a list.
use Rattle.std.proofs.Common.{◌≡◌, ◌⊎◌, ℕ, zero, suc, ◌<◌, List, [], ◌∷◌, Bool, true, false, cond, Some, None, length, get_or, refl, ap, sym, ◌∙◌, arith, inl, inr, ⊎_elim}
use Rattle.std.specs.List.{find}

either : (b : Bool) → (b ≡ true) ⊎ (b ≡ false)
either true = inl refl
either false = inr refl

passed : {X : Type 0} (p : X → Bool) (x : X) (xs : List X) → p x ≡ true → find p (x ∷ xs) ≡ Some x
passed p x xs is = ap (λ b. cond b (Some x) (find p xs)) is

refused : {X : Type 0} (p : X → Bool) (x : X) (xs : List X) → p x ≡ false → find p (x ∷ xs) ≡ find p xs
refused p x xs isnt = ap (λ b. cond b (Some x) (find p xs)) isnt

-- the first that passes is at k
pub find_at : {X : Type 0} (p : X → Bool) (xs : List X) (k : ℕ) (d : X) → k < length xs → p (get_or xs k d) ≡ true →
    ((j : ℕ) → j < k → p (get_or xs j d) ≡ false) → find p xs ≡ Some (get_or xs k d)
find_at p [] k d h is none = absurd (omega arith)
find_at p (x ∷ xs) zero d h is none = passed p x xs is
find_at p (x ∷ xs) (suc k) d h is none =
    refused p x xs (none zero (omega arith)) ∙ find_at p xs k d (omega arith) is (λ j a. none (suc j) (omega arith))

pub find_none : {X : Type 0} (p : X → Bool) (xs : List X) (d : X) → ((k : ℕ) → k < length xs → p (get_or xs k d) ≡ false) → find p xs ≡ None
find_none p [] d none = refl
find_none p (x ∷ xs) d none = refused p x xs (none zero (omega arith)) ∙ find_none p xs d (λ k a. none (suc k) (omega arith))

-- x is at this place, passes, and is the first that does
pub record IsFirstAt {X : Type 0} (p : X → Bool) (xs : List X) (x d : X) (k : ℕ) : Type 0 where
  pub inside : k < length xs
  pub here : get_or xs k d ≡ x
  pub passes : p x ≡ true
  pub none_before : (j : ℕ) → j < k → p (get_or xs j d) ≡ false

pub some_is : {X : Type 0} (x y : X) → Some x ≡ Some y → x ≡ y
some_is x y e = cc

still_none : {X : Type 0} (p : X → Bool) (y : X) (ys : List X) (d : X) (k : ℕ) → p y ≡ false → ((j : ℕ) → j < k → p (get_or ys j d) ≡ false) →
    (j : ℕ) → j < suc k → p (get_or (y ∷ ys) j d) ≡ false
still_none p y ys d k isnt none zero a = isnt
still_none p y ys d k isnt none (suc j) a = none j (omega arith)

pub found_at : {X : Type 0} (p : X → Bool) (xs : List X) (x d : X) → find p xs ≡ Some x → (k : ℕ) × IsFirstAt p xs x d k
found_at p [] x d e = absurd (cc)
found_at p (y ∷ ys) x d e = ⊎_elim
    (λ (is : p y ≡ true).
    let same : y ≡ x = some_is y x (sym (passed p y ys is) ∙ e) in
    (0, record { inside = omega arith; here = same; passes = ap p (sym same) ∙ is; none_before = λ j a. absurd (omega arith) }))
    (λ (isnt : p y ≡ false).
    let f = found_at p ys x d (sym (refused p y ys isnt) ∙ e) in (
      suc f.0,
      record {
        inside = omega (arith, f.1.inside);
        here = f.1.here;
        passes = f.1.passes;
        none_before = still_none p y ys d f.0 isnt f.1.none_before;
      },
    ))
    (either (p y))

-- one passes
pub find_some : {X : Type 0} (p : X → Bool) (xs : List X) (k : ℕ) (d : X) → k < length xs → p (get_or xs k d) ≡ true → (x : X) × (find p xs ≡ Some x)
find_some p [] k d h is = absurd (omega arith)
find_some p (x ∷ xs) zero d h is = (x, passed p x xs is)
find_some p (x ∷ xs) (suc k) d h is = ⊎_elim
    (λ (here : p x ≡ true). (x, passed p x xs here))
    (λ (isnt : p x ≡ false). let f = find_some p xs k d (omega arith) is in (f.0, refused p x xs isnt ∙ f.1))
    (either (p x))
