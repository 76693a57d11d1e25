-- What is kept after one list of wants and then another, and how many of them were missed.
use Rattle.std.proofs.Common.{◌≡◌, ℕ, ◌+◌, ◌∷◌, ◌++◌, Bool, true, false, cond, List, [], length, take, refl, sym, ap, ◌∙◌, arith}
use Rattle.std.proofs.lemmas.List.Sums.{fold-append, fold_push}
use Rattle.std.specs.List.{fold}
use Rattle.image_reader.specs.Keeping.{Stepped, has_want, missed, step, turn, without_want}
use Rattle.image_reader.specs.declared.want.Want.{Want}

module _ (keep : ℕ) where
  abbrev from : List Want → ℕ → List Want → Stepped
  from kept m ws = fold (turn keep) (record { kept = kept; misses = m }) ws

  -- earlier misses change nothing but their number
  add_up : (m : ℕ) (kept : List Want) (ws : List Want) → ((from kept m ws).kept ≡ (step keep kept ws).kept) × ((from kept m ws).misses ≡ m + (step keep kept ws).misses)
  add_up m kept [] = (refl, omega arith)
  add_up m kept (w ∷ ws) =
      let first : List Want = w ∷ without_want w kept in
      let new : List Want = take keep (w ∷ kept) in
      let after : ℕ → Bool → Stepped = λ k b. fold (turn keep) (cond b (record { kept = first; misses = k }) (record { kept = new; misses = k + 1 })) ws in
      elim (has_want kept w) as (λ b. ((after m b).kept ≡ (after 0 b).kept) × ((after m b).misses ≡ m + (after 0 b).misses)) [
        | true ↦ add_up m first ws
        | false ↦
            let more = add_up (m + 1) new ws in
            let once = add_up (0 + 1) new ws in
            (more.0 ∙ sym once.0, omega (arith, more.1, once.1))
      ]

  pub kept_on : (kept : List Want) (a b : List Want) → (step keep kept (a ++ b)).kept ≡ (step keep (step keep kept a).kept b).kept
  kept_on kept a b =
      let s = step keep kept a in
      ap (λ (x : Stepped). x.kept) (fold-append (turn keep) (record { kept = kept; misses = 0 }) a b) ∙ (add_up s.misses s.kept b).0

  pub misses_on : (kept : List Want) (a b : List Want) → (step keep kept (a ++ b)).misses ≡ (step keep kept a).misses + (step keep (step keep kept a).kept b).misses
  misses_on kept a b =
      let s = step keep kept a in
      ap (λ (x : Stepped). x.misses) (fold-append (turn keep) (record { kept = kept; misses = 0 }) a b) ∙ (add_up s.misses s.kept b).1

  -- one want more
  pub step_push : (kept : List Want) (ws : List Want) (w : Want) → step keep kept (ws ++ w ∷ []) ≡ turn keep (step keep kept ws) w
  step_push kept ws w = fold_push (turn keep) (record { kept = kept; misses = 0 }) ws w

  -- those that are missed
  pub missed_on : (kept : List Want) (a b : List Want) → missed keep kept (a ++ b) ≡ missed keep kept a ++ missed keep (step keep kept a).kept b
  missed_on kept [] b = refl
  missed_on kept (w ∷ ws) b =
      let first : List Want = w ∷ without_want w kept in
      let new : List Want = take keep (w ∷ kept) in
      let after : Bool → Stepped = λ c. fold (turn keep) (cond c (record { kept = first; misses = 0 }) (record { kept = new; misses = 0 + 1 })) ws in
      elim (has_want kept w) as (λ c. cond c (missed keep first (ws ++ b)) (w ∷ missed keep new (ws ++ b)) ≡ cond c (missed keep first ws) (w ∷ missed keep new ws) ++ missed keep (after c).kept b) [
        | true ↦ missed_on first ws b
        | false ↦ ap (λ l. w ∷ l) (missed_on new ws b) ∙ ap (λ ks. w ∷ (missed keep new ws ++ missed keep ks b)) (sym (add_up (0 + 1) new ws).0)
      ]

  pub misses_are : (kept : List Want) (a : List Want) → (step keep kept a).misses ≡ length (missed keep kept a)
  misses_are kept [] = refl
  misses_are kept (w ∷ ws) =
      let first : List Want = w ∷ without_want w kept in
      let new : List Want = take keep (w ∷ kept) in
      let after : Bool → Stepped = λ c. fold (turn keep) (cond c (record { kept = first; misses = 0 }) (record { kept = new; misses = 0 + 1 })) ws in
      elim (has_want kept w) as (λ c. (after c).misses ≡ length (cond c (missed keep first ws) (w ∷ missed keep new ws))) [
        | true ↦ misses_are first ws
        | false ↦ omega (arith, (add_up (0 + 1) new ws).1, misses_are new ws)
      ]

  pub missed_push : (kept : List Want) (ws : List Want) (w : Want) (b : Bool) → has_want (step keep kept ws).kept w ≡ b → missed keep kept (ws ++ w ∷ []) ≡ missed keep kept ws ++ cond b [] (w ∷ [])
  missed_push kept ws w b h = missed_on kept ws (w ∷ []) ∙ ap (λ c. missed keep kept ws ++ cond c [] (w ∷ [])) h
