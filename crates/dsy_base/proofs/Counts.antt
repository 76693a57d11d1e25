-- Numbers by name, and how they rise.
use Rattle.std.proofs.Common.{◌≡◌, ◌≢◌, ℕ, ◌≤◌, List, Option, Some, refl, sym, ap, ◌∙◌, inl, inr, arith}
use Rattle.std.specs.Map.{count_at}
use Rattle.std.proofs.lemmas.Bool.{false_from_ne_true}
use Rattle.std.proofs.lemmas.Slice.Eq.{bytes_eq-Decides}
use Rattle.dsy_base.specs.Counts.{Counted, GivenBack, Rose, raised}
use Rattle.dsy_base.specs.Maps.{Map, at_name}
use mathlib.Core.Bool.{cond}

-- what stands under the name itself, and under another
pub at_same : {X : Type 0} (m : Map X) (name : List ℕ) (w : Option X) → at_name m name w name ≡ w
at_same m name w = ap (λ b. cond b w (m name)) ((bytes_eq-Decides name name).1 refl)

pub at_other : {X : Type 0} (m : Map X) (name : List ℕ) (w : Option X) (q : List ℕ) → q ≢ name → at_name m name w q ≡ m q
at_other m name w q apart = ap (λ b. cond b w (m q)) (false_from_ne_true _ (λ e. apart (sym ((bytes_eq-Decides name q).0 e))))

-- a number that is set, no lower than it was
pub counted : (m n : Map ℕ) (name : List ℕ) (k : ℕ) → ((q : List ℕ) → n q ≡ at_name m name (Some k) q) → count_at m name ≤ k → Counted m n name
counted m n name k h le = record {
  this = rw (h name, at_same m name (Some k)) le;
  known = λ _. rw (h name, at_same m name (Some k)) refl;
  others = λ q apart. h q ∙ at_other m name (Some k) q apart;
}

-- a number to which k is added
pub given_back : (m n : Map ℕ) (name : List ℕ) (k : ℕ) → ((q : List ℕ) → n q ≡ at_name m name (Some (raised (count_at m name) k)) q) → count_at m name ≤ raised (count_at m name) k → GivenBack m n name k
given_back m n name k h le = record {
  counted = counted m n name _ h le;
  added = rw (h name, at_same m name (Some (raised (count_at m name) k))) refl;
}

-- a rise of a number that hadn't fallen before
pub rose_later : (a b c : ℕ) → a ≤ b → Rose b c → Rose a c
rose_later a b c le (inl more) = inl (omega arith)
rose_later a b c le (inr full) = inr full
