-- A survey as events of the core machine.
use Rattle.std.proofs.Common.{◌≡◌, ℕ, zero, suc, ◌+◌, ◌<◌, ◌≤◌, ◌==◌, ◌||◌, Bool, true, false, List, [], ◌∷◌, ◌++◌, length, Option, Some, None, IfSome, IsTrue, refl, sym, ap, subst, ◌∙◌, inl, inr, arith}
use Rattle.std.proofs.lemmas.Bool.{cases_eq}
use Rattle.dsy_base.specs.Bytes.{Held}
use Rattle.range_ledger.proofs.Runs.{with_here, with_other}
use Rattle.range_ledger.specs.Extents.{Extent, IsIn, IsRightIn}
use Rattle.range_ledger.specs.Machine.{State, Event, Settle, IsRun, after, run}
use Rattle.range_ledger.specs.Runs.{Run, Seen, Has, IsUnread, extent_of, first_in, has_settled}
use Rattle.range_ledger.specs.Steps.{Leads, Surveys, settle_if, settles_below}

run_append : (x : Extent) (s : State) (es fs : List Event) → run x s (es ++ fs) ≡ run x (run x s es) fs
run_append x s [] fs = refl
run_append x s (e ∷ es) fs = run_append x (after x s e) es fs

is_run_append : (x : Extent) (s : State) (es fs : List Event) → IsRun x s es → IsRun x (run x s es) fs → IsRun x s (es ++ fs)
is_run_append x s [] fs h k = k
is_run_append x s (e ∷ es) fs h k = (h.0, is_run_append x (after x s e) es fs h.1 k)

module _ (r : Run) (old now : Seen) (number : now.number ≡ old.number) (t : List ℕ) (none : (e : ℕ) → has_settled r old e ≡ false)
    (right : (e : ℕ) → Has r old e → has_settled r now e ≡ true → IsRightIn (extent_of r old.number) t e) (torn : ℕ → Bool) where
  abbrev start : State
  start = record { bytes = t; settled = has_settled r old; torn = torn }

  abbrev at : ℕ → State
  at k = run (extent_of r old.number) start (settles_below r now k)

  record Followed (k : ℕ) : Type 0 where
    pub allowed : IsRun (extent_of r old.number) start (settles_below r now k)
    pub bytes : (at k).bytes ≡ t
    pub below : (i : ℕ) → Has r old i → i < first_in r old.number + k → (at k).settled i ≡ has_settled r now i
    pub above : (i : ℕ) → Has r old i → first_in r old.number + k ≤ i → (at k).settled i ≡ false

  same_first : first_in r now.number ≡ first_in r old.number
  same_first = ap (first_in r) number

  follow_one : (k : ℕ) → Has r old (first_in r old.number + k) → Followed k → (set : Bool) → has_settled r now (first_in r now.number + k) ≡ set → Followed (suc k)
  follow_one k has f true is =
      let here : has_settled r now (first_in r old.number + k) ≡ true = subst (λ n. has_settled r now (n + k) ≡ true) same_first is in
      let events : settles_below r now (suc k) ≡ settles_below r now k ++ Settle (first_in r old.number + k) ∷ [] =
      ap (λ m. settles_below r now k ++ settle_if m (first_in r now.number + k)) is ∙ ap (λ n. settles_below r now k ++ Settle (n + k) ∷ []) same_first in
      let state : at (suc k) ≡ after (extent_of r old.number) (at k) (Settle (first_in r old.number + k)) =
      ap (run (extent_of r old.number) start) events ∙ run_append (extent_of r old.number) start (settles_below r now k) (Settle (first_in r old.number + k) ∷ []) in
      record {
        allowed = subst (IsRun (extent_of r old.number) start) (sym events)
            (is_run_append (extent_of r old.number) start (settles_below r now k) (Settle (first_in r old.number + k) ∷ []) f.allowed
            ((has, subst (λ u. IsRightIn (extent_of r old.number) u (first_in r old.number + k)) (sym f.bytes) (right _ has here)), tt));
        bytes = ap (λ s. s.bytes) state ∙ f.bytes;
        below = λ i at' lt. ap (λ s. s.settled i) state ∙ (elim (cases_eq i (first_in r old.number + k)) [
          | inl same ↦ ap (λ j. (j == (first_in r old.number + k)) || (at k).settled j) same ∙ (with_here (at k).settled (first_in r old.number + k) ∙ (sym here ∙ ap (has_settled r now) (sym same)))
          | inr differ ↦ with_other (at k).settled (first_in r old.number + k) i differ ∙ f.below i at' (omega (arith, lt, differ))
        ]);
        above = λ i at' le. ap (λ s. s.settled i) state ∙ (with_other (at k).settled (first_in r old.number + k) i (λ same. absurd (omega (arith, same, le))) ∙ f.above i at' (omega (arith, le)));
      }
  follow_one k has f false is =
      let unset : has_settled r now (first_in r old.number + k) ≡ false = subst (λ n. has_settled r now (n + k) ≡ false) same_first is in
      let events : settles_below r now (suc k) ≡ settles_below r now k ++ [] =
      ap (λ m. settles_below r now k ++ settle_if m (first_in r now.number + k)) is in
      let state : at (suc k) ≡ at k =
      ap (run (extent_of r old.number) start) events ∙ run_append (extent_of r old.number) start (settles_below r now k) [] in
      record {
        allowed = subst (IsRun (extent_of r old.number) start) (sym events) (is_run_append (extent_of r old.number) start (settles_below r now k) [] f.allowed tt);
        bytes = ap (λ s. s.bytes) state ∙ f.bytes;
        below = λ i at' lt. ap (λ s. s.settled i) state ∙ (elim (cases_eq i (first_in r old.number + k)) [
          | inl same ↦ ap (at k).settled same ∙ (f.above (first_in r old.number + k) has (omega arith) ∙ (sym unset ∙ ap (has_settled r now) (sym same)))
          | inr differ ↦ f.below i at' (omega (arith, lt, differ))
        ]);
        above = λ i at' le. ap (λ s. s.settled i) state ∙ f.above i at' (omega (arith, le));
      }

  follow : (k : ℕ) → first_in r old.number + k ≤ first_in r (old.number + 1) → Followed k
  follow zero le = record {
    allowed = tt;
    bytes = refl;
    below = λ i at' lt. absurd (omega (arith, lt, at'.from));
    above = λ i at' le'. none i;
  }
  follow (suc k) le = follow_one k (record { from = omega arith; to = omega (arith, le) }) (follow k (omega (arith, le))) (has_settled r now (first_in r now.number + k)) refl

survey_leads : (r : Run) (old now : Seen) → now.number ≡ old.number → (t : List ℕ) → ((e : ℕ) → has_settled r old e ≡ false)
    → ((e : ℕ) → Has r old e → has_settled r now e ≡ true → IsRightIn (extent_of r old.number) t e)
    → first_in r old.number + length now.fates ≡ first_in r (old.number + 1) → Leads r (settles_below r now (length now.fates)) old now t t
survey_leads r old now number t none right count = record {
  allowed = λ torn. (follow r old now number t none right torn (length now.fates) (omega (arith, count))).allowed;
  bytes = λ torn. (follow r old now number t none right torn (length now.fates) (omega (arith, count))).bytes;
  settled = λ torn i has. (follow r old now number t none right torn (length now.fates) (omega (arith, count))).below i has (omega (arith, count, has.to));
}

-- the same where the part tells, of what is right once it is settled
pub surveyed : (r : Run) (old now : Seen) → now.number ≡ old.number → now.held ≡ old.held → ((e : ℕ) → has_settled r old e ≡ false)
    → first_in r old.number + length now.fates ≡ first_in r (old.number + 1) → IsUnread r now → IsTrue r.tells
    → IfSome old.held.bytes (λ t. Surveys r old now t t)
surveyed r old now number held none count is tells = go old.held.bytes (λ e has set.
    subst (λ n. IfSome old.held.bytes (λ t. IsRightIn (extent_of r n) t e)) number
    (subst (λ (h : Held). IfSome h.bytes (λ t. IsRightIn (extent_of r now.number) t e)) held
    (is.right e (subst (λ n. IsIn (extent_of r n) e) (sym number) has) set tells))) where
      go : (o : Option (List ℕ)) → ((e : ℕ) → Has r old e → has_settled r now e ≡ true → IfSome o (λ t. IsRightIn (extent_of r old.number) t e)) → IfSome o (λ t. Surveys r old now t t)
      go None right = tt
      go (Some t) right = survey_leads r old now number t none right count
