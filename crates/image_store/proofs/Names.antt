-- What stands under each name once one name is given something else.
use Rattle.std.proofs.Common.{◌≡◌, ◌≢◌, ℕ, List, Bool, true, false, Option, cond, refl, sym, ap, ◌∙◌, ◌⊎◌, inl, inr}
use Rattle.std.proofs.lemmas.Slice.Eq.{bytes_eq-Decides}
use Rattle.std.specs.Str.{bytes_eq}
use Rattle.dsy_base.specs.Maps.{Map, at_name}

is_false : (b : Bool) → (b ≡ true → ⊥) → b ≡ false
is_false true differ = absurd (differ refl)
is_false false differ = refl

pub apart_is : (a b : List ℕ) → a ≢ b → bytes_eq a b ≡ false
apart_is a b differ = is_false (bytes_eq a b) (λ h. differ ((bytes_eq-Decides a b).0 h))

pub equal_or_not : (a b : List ℕ) → (a ≡ b) ⊎ (a ≢ b)
equal_or_not a b = go (bytes_eq a b) refl where
  go : (t : Bool) → bytes_eq a b ≡ t → (a ≡ b) ⊎ (a ≢ b)
  go true h = inl ((bytes_eq-Decides a b).0 h)
  go false h = inr (λ e. let z : true ≡ false = sym ((bytes_eq-Decides a b).1 e) ∙ h in cc)

pub other_name : {X : Type 0} (m : Map X) (name q : List ℕ) (w : Option X) → name ≢ q → at_name m name w q ≡ m q
other_name m name q w differ = ap (λ b. cond b w (m q)) (apart_is name q differ)

pub same_name : {X : Type 0} (m : Map X) (name q : List ℕ) (w : Option X) → name ≡ q → at_name m name w q ≡ w
same_name m name q w h = ap (λ b. cond b w (m q)) ((bytes_eq-Decides name q).1 h)
