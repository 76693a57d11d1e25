-- Where no fault is counted, turns are those of what is held.
use Rattle.std.proofs.Common.{◌≡◌, ℕ, ◌≤◌, List, [], ◌∷◌, map, Option, Some, refl, ap, subst, ◌∙◌, inl, inr, arith}
use Rattle.std.specs.Prelude.{IfSome}
use Rattle.std.specs.Option.{option_map}
use Rattle.dsy_base.specs.Counts.{Quiet, Rose}
use Rattle.http_serve.specs.Answers.{Answer}
use Rattle.http_serve.specs.Protocols.{Answering, Turn}
use Rattle.http_serve.specs.Steps.{ServedState, Steps}
use Rattle.http_serve.specs.Turns.{Takes, files_left, turn_of, turns_of}

not_risen : (x y z : ℕ) → Rose x y → y ≤ z → Quiet x z → ⊥
not_risen x y z (inl h) le quiet = omega (arith, quiet.same)
not_risen x y z (inr h) le quiet = omega (arith, quiet.below)

module _ {R M : Type 0} (v : Answering R M) where
  step_faults : (old : ServedState M) (q : R) (body : List ℕ) (r : Answer) (new : ServedState M) → Steps v old q body r new → old.faults ≤ new.faults
  step_faults old q body r new (inl h) = h.faults
  step_faults old q body r new (inr h) = h.faults

  takes_faults : (old : ServedState M) (ts : List (Turn R)) (new : ServedState M) → Takes v old ts new → old.faults ≤ new.faults
  unfolding Takes
  takes_faults old [] new h = omega (arith, ap (λ (s : ServedState M). s.faults) h)
  takes_faults old (t ∷ ts) new h = omega (arith, step_faults old t.asked.request t.asked.body t.answer h.0 h.1, takes_faults h.0 ts new h.2)

  -- what a step does that counts no fault
  went : (old : ServedState M) (q : R) (body : List ℕ) (r : Answer) (new : ServedState M) (m : M) (z : ℕ) → Steps v old q body r new → old.files ≡ Some m → new.faults ≤ z → Quiet old.faults z
      → (r ≡ v.answer_to m q body) × (new.files ≡ Some (v.files_after m q body))
  went old q body r new m z (inl h) is le quiet = (
    subst (λ (o : Option M). IfSome o (λ f. r ≡ v.answer_to f q body)) is h.answer,
    h.files ∙ ap (option_map (λ f. v.files_after f q body)) is,
  )
  went old q body r new m z (inr h) is le quiet = absurd (not_risen old.faults new.faults z h.cause le quiet)

  pub exact : (old new : ServedState M) (m : M) (ts : List (Turn R)) → Takes v old ts new → old.files ≡ Some m → Quiet old.faults new.faults
      → (ts ≡ turns_of v m (map (λ t. t.asked) ts)) × (new.files ≡ Some (files_left v m (map (λ t. t.asked) ts)))
  unfolding Takes turns_of files_left
  exact old new m [] h is quiet = (refl, ap (λ (s : ServedState M). s.files) h ∙ is)
  exact old new m (t ∷ ts) h is quiet =
      let later : h.0.faults ≤ new.faults = takes_faults h.0 ts new h.2 in
      let step = went old t.asked.request t.asked.body t.answer h.0 m new.faults h.1 is later quiet in
      let first : old.faults ≤ h.0.faults = step_faults old t.asked.request t.asked.body t.answer h.0 h.1 in
      let calm : Quiet h.0.faults new.faults = record { same = omega (arith, quiet.same); below = quiet.below } in
      let rest = exact h.0 new (v.files_after m t.asked.request t.asked.body) ts h.2 step.1 calm in
      ((λ i. turn_of t.asked (step.0 i) ∷ rest.0 i), rest.1)
