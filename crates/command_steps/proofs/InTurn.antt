-- What is given back one after the other, the last first.
use Rattle.std.proofs.Common.{◌≡◌, ◌∙◌, ◌++◌, ℕ, suc, ◌+◌, ◌<◌, ◌≤◌, List, [], ◌∷◌, length, slice_index_or, All, Option, Result, Ok, is_ok, if◌then◌else◌, refl, sym, ap, subst, arith}
use Rattle.std.proofs.Math.Seq.{get_or-append_seam}
use Rattle.std.proofs.lemmas.List.{get_or_append_left, length-append}
use Rattle.std.specs.List.{insert, remove}
use Rattle.command_steps.proofs.Consulted.{consults_none, consults_twice}
use Rattle.command_steps.specs.Asking.{EachDialed, WorkersDialed}
use Rattle.command_steps.specs.Turns.{GivenInTurn}
use Rattle.command_steps.specs.Sources.{Consults, Storage}
use Rattle.command_words.specs.declared.command.Location.{Location}
use Rattle.dsy_base.specs.Links.{Traffic}
use Rattle.http_read.specs.Asks.{Server}

-- ---- the first and the last of a list

module _ {X : Type 0} where
  -- one was put before all
  pub put_first : {U E : Type 0} (old new : List X) (x : X) (r : Result U E) (u : U) → r ≡ Ok u → new ≡ (if is_ok r then insert old 0 x else old) → new ≡ x ∷ old
  put_first old new x r u done is = is ∙ ap (λ (q : Result _ _). if is_ok q then insert old 0 x else old) done

  -- or behind all
  pub put_last : {U E : Type 0} (old new : List X) (x : X) (r : Result U E) (u : U) → r ≡ Ok u → new ≡ (if is_ok r then old ++ x ∷ [] else old) → new ≡ old ++ x ∷ []
  put_last old new x r u done is = is ∙ ap (λ (q : Result _ _). if is_ok q then old ++ x ∷ [] else old) done

  -- the first was taken out
  pub first_out : (xs ys : List X) (x : X) → 1 ≤ length xs → x ≡ slice_index_or xs 0 x → ys ≡ remove xs 0 → xs ≡ x ∷ ys
  first_out [] ys x some is rest = absurd (omega (arith, some))
  first_out (y ∷ xs) ys x some is rest = cc (is, rest)

  -- what holds for all holds for those before the last, and for the last
  pub all_last : (P : X → Type 0) (xs rest : List X) (x : X) → xs ≡ rest ++ x ∷ [] → All P xs → All P rest × P x
  all_last P xs rest x is all =
      let h : All P (rest ++ x ∷ []) = subst (λ (l : List X). All P l) is all in
      let many : length (rest ++ x ∷ []) ≡ length rest + 1 = length-append rest (x ∷ []) in
      (λ k d lt. subst P (get_or_append_left rest (x ∷ []) d k lt) (h k d (omega (arith, lt, many))), subst P (get_or-append_seam rest x [] x) (h (length rest) x (omega (arith, many))))

-- ---- one after the other

module _ {X : Type 0} (Given : X → Storage → Storage → Type 0) where
  turn_behind : (x : X) (rest : List X) (w u v : Storage) → Given x w u → GivenInTurn Given rest u v → GivenInTurn Given (rest ++ x ∷ []) w v
  turn_behind x [] w u v first same = (w, refl, subst (Given x w) (sym same) first)
  turn_behind x (r ∷ rest) w u v first turn = (turn.0, turn_behind x rest w u turn.0 first turn.1, turn.2)

  -- the last was given back, and then those before it
  pub turn_last : (all rest : List X) (x : X) (w u v : Storage) → all ≡ rest ++ x ∷ [] → Given x w u → GivenInTurn Given rest u v → GivenInTurn Given all w v
  turn_last all rest x w u v is first turn = subst (λ (l : List X). GivenInTurn Given l w v) (sym is) (turn_behind x rest w u v first turn)

  -- the stores of each were consulted
  pub turn_consults : ((x : X) (w v : Storage) → Given x w v → Consults w v) → (xs : List X) (w v : Storage) → GivenInTurn Given xs w v → Consults w v
  turn_consults each [] w v same = subst (Consults w) (sym same) (consults_none w)
  turn_consults each (x ∷ xs) w v turn = consults_twice w turn.0 v (turn_consults each xs w turn.0 turn.1) (each x turn.0 v turn.2)

  -- the connections of worker m and those after it have ended, and then those of the workers before it
  pub turn_dialed : (P : ℕ → Server → List Traffic → Type 0) (names : List Location) (m : ℕ) (xs : List X) (w u : Storage) (new : Option (List Traffic)) → GivenInTurn Given xs w u
      → ((i : ℕ) (x : X) → i < length xs → (a b : Storage) → Given (slice_index_or xs i x) a b → EachDialed (P (m + i)) names a.dial.ended b.dial.ended)
      → WorkersDialed P m names u.dial.ended new → WorkersDialed P (m + length xs) names w.dial.ended new
  turn_dialed P names m [] w u new same each last =
      let from : WorkersDialed P m names w.dial.ended new = subst (λ (s : Storage). WorkersDialed P m names s.dial.ended new) same last in
      let none : m ≡ m + 0 = omega arith in
      subst (λ (n : ℕ). WorkersDialed P n names w.dial.ended new) none from
  turn_dialed P names m (x ∷ xs) w u new turn each last =
      let first : m + 0 ≡ m = omega arith in
      let one : EachDialed (P m) names turn.0.dial.ended u.dial.ended = subst (λ (n : ℕ). EachDialed (P n) names turn.0.dial.ended u.dial.ended) first (each 0 x (omega arith) turn.0 u turn.2) in
      let more = turn_dialed P names (suc m) xs w turn.0 new turn.1
      (λ i y lt a b is. let next : m + suc i ≡ suc m + i = omega arith in subst (λ (n : ℕ). EachDialed (P n) names a.dial.ended b.dial.ended) next (each (suc i) y (omega (arith, lt)) a b is))
      (u.dial.ended, one, last) in
      let many : suc m + length xs ≡ m + suc (length xs) = omega arith in
      subst (λ (n : ℕ). WorkersDialed P n names w.dial.ended new) many more
