-- What a target in shards keeps, whichever workers had them: the entries on which calls have failed are those of its shards,
-- one list after the other.
use Rattle.std.proofs.Common.{◌≡◌, ◌⊎◌, ℕ, zero, suc, ◌+◌, ◌<◌, ◌≤◌, List, [], ◌∷◌, ◌++◌, length, get_or, Some, None, IfSome, Bool, true, false, sym, ap, subst, ◌∙◌, inl, inr, arith, if◌then◌else◌}
use Rattle.std.proofs.lemmas.List.Elements.{Contains-append_left, Contains-append_right}
use Rattle.std.proofs.lemmas.List.Sums.{sum_by-cons}
use Rattle.std.specs.List.{Contains}
use Rattle.caibx_codec.specs.Listing.{count_of, slice_of}
use Rattle.caibx_codec.specs.Right.{IsRightAt}
use Rattle.dsy_base.specs.Splits.{Left}
use Rattle.owned_shards.proofs.Begun.{excused, few_on, one_contained}
use Rattle.owned_shards.proofs.Putting.{right}
use Rattle.owned_shards.proofs.Wholes.{ShardOf, fate_in, has_it, shard_with, slice_in_whole, told, told_is}
use Rattle.owned_shards.specs.Wholes.{AreShards, IsTold, IsWhole, KeptWhole, joined_bytes, joined_faults, whole_of}
use Rattle.range_ledger.specs.Runs.{Has, HaveFailed, IsKept, IsOneOf, Run, Seen, has_settled, slice_at}
use Rattle.range_survey.specs.Fates.{SettledRight, is_settled, settled}

-- what one shard keeps, where calls on these entries have failed
record KeptIn (r : Run) (s : Seen) (failed : List ℕ) : Type 0 where
  pub filled : (e : ℕ) → Has r s e → has_settled r s e ≡ true → IsRightAt r.base r.listing e ⊎ (r.may e ≡ true)
  pub untouched : (e : ℕ) → Has r s e → has_settled r s e ≡ false → (slice_at r s (told s) e ≡ slice_of r.listing r.base e) ⊎ Contains failed e
  pub base_right : (e : ℕ) → Has r s e → IsRightAt r.base r.listing e → (has_settled r s e ≡ true) ⊎ Contains failed e
  pub base_kept : (e : ℕ) → Has r s e → IsRightAt r.base r.listing e → (slice_at r s (told s) e ≡ slice_of r.listing r.base e) ⊎ Contains failed e

or_more : {A B C : Type 0} → (B → C) → A ⊎ B → A ⊎ C
or_more f (inl a) = inl a
or_more f (inr b) = inr (f b)

kept_more : (r : Run) (s : Seen) (old new : List ℕ) → ((e : ℕ) → Contains old e → Contains new e) → KeptIn r s old → KeptIn r s new
kept_more r s old new f k = record {
  filled = k.filled;
  untouched = λ e has unset. or_more (f e) (k.untouched e has unset);
  base_right = λ e has is. or_more (f e) (k.base_right e has is);
  base_kept = λ e has is. or_more (f e) (k.base_kept e has is);
}

record KeptFrom (r : Run) (ss : List Seen) : Type 0 where
  pub failed : List ℕ
  pub few : HaveFailed failed (joined_faults ss)
  pub each : (i : ℕ) (d : Seen) → i < length ss → KeptIn r (get_or ss i d) failed

kept_on : (r : Run) → r.tells ≡ true → (s : Seen) (ss : List Seen) → IsTold r s → KeptFrom r ss → KeptFrom r (s ∷ ss)
kept_on r tells s ss good rest = record {
  failed = here.failed ++ rest.failed;
  few = subst (HaveFailed (here.failed ++ rest.failed)) (sym (sum_by-cons (λ (s : Seen). s.faults) s ss)) (few_on here.failed rest.failed s.faults (joined_faults ss) here.few rest.few);
  each = each;
} where
  here : IsKept r s (told s)
  here = subst (λ o. IfSome o (IsKept r s)) (told_is s.held.bytes (good.tells ∙ tells)) (good.kept.kept tells)

  among : (e : ℕ) → IsOneOf here.failed e → Contains (here.failed ++ rest.failed) e
  among e one = Contains-append_left here.failed rest.failed e (one_contained here.failed e one)

  each : (i : ℕ) (d : Seen) → i < length (s ∷ ss) → KeptIn r (get_or (s ∷ ss) i d) (here.failed ++ rest.failed)
  each zero d lt = record {
    filled = here.filled;
    untouched = λ e has unset. or_more (among e) (here.untouched e has unset);
    base_right = λ e has right. or_more (among e) (here.base_right e has right);
    base_kept = λ e has right. or_more (among e) (here.base_kept e has right);
  }
  each (suc i) d lt = kept_more r (get_or ss i d) rest.failed (here.failed ++ rest.failed) (λ e. Contains-append_right here.failed rest.failed e) (rest.each i d (omega (arith, lt)))

kept_from : (r : Run) → r.tells ≡ true → (k : ℕ) (ss : List Seen) → AreShards r k ss → KeptFrom r ss
kept_from r tells k [] is = record { failed = []; few = inl (omega arith); each = λ i d lt. absurd (omega (arith, lt)) }
kept_from r tells k (s ∷ ss) is = kept_on r tells s ss is.1.0 (kept_from r tells (k + 1) ss is.1.1)

module _ (r : Run) (left : Left) (tells : Bool) (ss : List Seen) (is : IsWhole r tells left ss) where
  pub never_below : (whole_of left tells ss).faults_before ≤ (whole_of left tells ss).faults
  never_below = omega (arith, is.counted)

  module _ (told_all : r.tells ≡ true) where
    all : KeptFrom r ss
    all = kept_from r told_all 0 ss is.shards

    module _ (e : ℕ) (lt : e < count_of r.listing) where
      at : ShardOf r ss e
      at = shard_with r ss is.shards is.some e lt

      has : Has r at.s e
      has = has_it r ss is.shards at.i at.lt at.s at.here e at.from at.to

      kept : KeptIn r at.s all.failed
      kept = subst (λ v. KeptIn r v all.failed) (sym at.here) (all.each at.i at.s at.lt)

      settled_as : settled (whole_of left tells ss).fates e ≡ has_settled r at.s e
      settled_as = ap is_settled (fate_in r ss is.shards at.i at.lt at.s at.here e has)

      slice_as : slice_of r.listing (joined_bytes ss) e ≡ slice_at r at.s (told at.s) e
      slice_as = slice_in_whole r ss is.shards at.i at.lt at.s at.here e has told_all

    kept_bytes : SettledRight r.listing (joined_bytes ss) (whole_of left tells ss).fates (count_of r.listing) → KeptWhole r (whole_of left tells ss) (joined_bytes ss)
    kept_bytes right = record {
      failed = all.failed;
      excused = excused all.failed left.faults (joined_faults ss) all.few;
      right = right;
      filled = λ e lt set. (kept e lt).filled e (has e lt) (sym (settled_as e lt) ∙ set);
      untouched = λ e lt unset. subst (λ b. (b ≡ slice_of r.listing r.base e) ⊎ Contains all.failed e) (sym (slice_as e lt)) ((kept e lt).untouched e (has e lt) (sym (settled_as e lt) ∙ unset));
      base_right = λ e lt right. subst (λ m. (m ≡ true) ⊎ Contains all.failed e) (sym (settled_as e lt)) ((kept e lt).base_right e (has e lt) right);
      base_kept = λ e lt right. subst (λ b. (b ≡ slice_of r.listing r.base e) ⊎ Contains all.failed e) (sym (slice_as e lt)) ((kept e lt).base_kept e (has e lt) right);
    }

  pub whole_kept : IfSome (whole_of left tells ss).held.bytes (KeptWhole r (whole_of left tells ss))
  whole_kept = go tells is.tells (right r left tells ss is) where
    go : (b : Bool) → r.tells ≡ b → IfSome (if b then Some (joined_bytes ss) else None) (λ t. SettledRight r.listing t (whole_of left tells ss).fates (count_of r.listing))
        → IfSome (if b then Some (joined_bytes ss) else None) (KeptWhole r (whole_of left tells ss))
    go false told right = tt
    go true told right = kept_bytes told right
