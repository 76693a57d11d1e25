-- A shard in which an entry isn't settled though it is right in the base has counted a failed call.
use Rattle.std.proofs.Common.{◌≡◌, ℕ, List, [], ◌∷◌, Option, Some, None, IfSome, true, false, is_some, sym, ◌∙◌, inl, inr, arith}
use Rattle.std.proofs.lemmas.Bool.{true≢false}
use Rattle.caibx_codec.specs.Right.{IsRightAt}
use Rattle.range_ledger.specs.Runs.{Has, HaveFailed, IsKept, IsOneOf, Run, Seen, has_settled}

module _ (r : Run) (s : Seen) (e : ℕ) (has : Has r s e) (unset : has_settled r s e ≡ false) (right : IsRightAt r.base r.listing e) (none : s.faults ≡ 0) where
  some_failed : (entries : List ℕ) → IsOneOf entries e → HaveFailed entries s.faults → ⊥
  some_failed [] one few = one
  some_failed (f ∷ fs) one (inl few) = absurd (omega (arith, few, none))
  some_failed (f ∷ fs) one (inr full) = absurd (omega (arith, full, none))

  in_bytes : (t : List ℕ) → IsKept r s t → ⊥
  in_bytes t k = elim (k.base_right e has right) [
    | inl set ↦ absurd (true≢false (sym set ∙ unset))
    | inr one ↦ some_failed k.failed one k.few
  ]

  pub missed : (o : Option (List ℕ)) → is_some o ≡ true → IfSome o (IsKept r s) → ⊥
  missed None told k = absurd (true≢false (sym told))
  missed (Some t) told k = in_bytes t k
