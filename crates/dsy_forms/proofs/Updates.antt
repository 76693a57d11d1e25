-- Maps by name in which one name is set.
use Rattle.std.proofs.Common.{◌≡◌, ◌≢◌, ℕ, List, Option, None, refl, sym, ap, ◌∙◌, Bool, Decides}
use Rattle.std.specs.Str.{bytes_eq}
use Rattle.std.proofs.lemmas.Slice.Eq.{bytes_eq-Decides}
use Rattle.dsy_base.specs.Maps.{Map, at_name}
use mathlib.Core.Bool.{cond, true, false}

-- a map in which what stands under the name is put there again
elim_same : {X : Type 0} (b : Bool) (m : Map X) (name q : List ℕ) → Decides b (name ≡ q) → cond b (m name) (m q) ≡ m q
elim_same true m name q d = ap m (d.0 refl)
elim_same false m name q d = refl

pub at_self : {X : Type 0} (m : Map X) (name : List ℕ) → at_name m name (m name) ≡ m
at_self m name = λ i q. elim_same (bytes_eq name q) m name q (bytes_eq-Decides name q) i

-- the same map under another spelling of the map before and of the name
pub at_spelled : {X : Type 0} (m n k : Map X) (name other : List ℕ) (w : Option X) → ((q : List ℕ) → n q ≡ at_name k other w q) → k ≡ m → other ≡ name → n ≡ at_name m name w
at_spelled m n k name other w h same same_name = (λ i q. h q i) ∙ (λ i. at_name (same i) (same_name i) w)

-- a map in which nothing is put where nothing stands
pub at_absent : {X : Type 0} (m : Map X) (name : List ℕ) → m name ≡ None → (q : List ℕ) → at_name m name None q ≡ m q
at_absent m name h q = ap (λ w. at_name m name w q) (sym h) ∙ (λ i. at_self m name i q)

swapped : {X : Type 0} (b c : Bool) (from to q : List ℕ) (w x y : Option X) → Decides b (to ≡ q) → Decides c (from ≡ q) → from ≢ to → cond b w (cond c x y) ≡ cond c x (cond b w y)
swapped true true from to q w x y d e apart = absurd (apart (e.0 refl ∙ sym (d.0 refl)))
swapped true false from to q w x y d e apart = refl
swapped false true from to q w x y d e apart = refl
swapped false false from to q w x y d e apart = refl

-- what is taken out under one name and then put under another: both could be done in the other order
pub at_renamed : {X : Type 0} (k m n : Map X) (from to : List ℕ) (w : Option X) → from ≢ to → k from ≡ w → ((q : List ℕ) → m q ≡ at_name k from None q) → ((q : List ℕ) → n q ≡ at_name m to w q) → (q : List ℕ) → n q ≡ at_name (at_name k to (k from)) from None q
at_renamed k m n from to w apart held h g q =
    g q ∙ ap (cond (bytes_eq to q) w) (h q) ∙ swapped (bytes_eq to q) (bytes_eq from q) from to q w None (k q) (bytes_eq-Decides to q) (bytes_eq-Decides from q) apart ∙ ap (λ v. at_name (at_name k to v) from None q) (sym held)

-- the same map under another spelling of the map before
pub renamed_spelled : {X : Type 0} (m n k : Map X) (from to : List ℕ) → ((q : List ℕ) → k q ≡ m q) → ((q : List ℕ) → n q ≡ at_name (at_name k to (k from)) from None q) → n ≡ at_name (at_name m to (m from)) from None
renamed_spelled {X} m n k from to same h =
    let before : k ≡ m = λ i q. same q i in
    (λ i q. h q i) ∙ (λ i. at_name (at_name (before i) to (before i from)) from None)
