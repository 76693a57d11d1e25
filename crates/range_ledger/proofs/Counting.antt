-- A survey as far as it has come: its first k entries were looked at.
use Rattle.std.proofs.Common.{◌≡◌, ℕ, zero, suc, ◌+◌, ◌-◌, ◌^◌, ◌<◌, ◌≤◌, Bool, true, false, List, [], ◌∷◌, length, Option, Some, None, IfSome, IsTrue, Result, Ok, Err, if◌then◌else◌, refl, sym, ap, subst, ◌∙◌, ◌⊎◌, inl, inr, arith}
use Rattle.std.specs.Prelude.{OnErr}
use Rattle.std.proofs.lemmas.Bool.{cases_eq, true≢false}
use Rattle.dsy_base.specs.Bytes.{Held}
use Rattle.dsy_base.specs.Counts.{CountsRefusals, Rose}
use Rattle.dsy_base.specs.declared.fault.Failed.{Failed}
use Rattle.caibx_codec.specs.Listing.{kind_of, slice_of}
use Rattle.chunk_store.specs.Digests.{digest_of}
use Rattle.range_survey.specs.Fates.{settled}
use Rattle.range_survey.specs.declared.fate.Fate.{Fate}
use Rattle.range_ledger.proofs.Keeps.{same_seen}
use Rattle.range_ledger.proofs.Surveys.{slice_base}
use Rattle.range_ledger.specs.Extents.{IsRightIn}
use Rattle.range_ledger.specs.Runs.{Run, Seen, Has, IsDealtShard, IsKept, IsOneOf, IsUnread, SettlesOne, WasSurveyed, WhereTells, base_in, extent_of, first_in, has_settled, settled_below, slice_at}
use Rattle.range_ledger.specs.declared.unread.Surveyed.{Surveyed}

-- the part with these marks and this count
abbrev pub marked : Seen → List Fate → ℕ → Seen
marked old marks faults = record { number = old.number; fates = marks; faults = faults; held = old.held }

-- each entry so far that is right in t and isn't settled is one on which a read has failed
pub record Misses (r : Run) (old : Seen) (marks : List Fate) (faults : ℕ) (flag : Bool) (k : ℕ) (t : List ℕ) : Type 0 where
  pub failed : List ℕ
  pub few : (length failed + old.faults ≤ faults) ⊎ (2 ^ 64 ≤ faults + 1)
  pub none : flag ≡ false → failed ≡ []
  pub missed : (e : ℕ) → Has r old e → e < first_in r old.number + k → has_settled r (marked old marks faults) e ≡ false
      → IsRightIn (extent_of r old.number) t e → IsOneOf failed e

pub record Surveying (r : Run) (old : Seen) (marks : List Fate) (faults : ℕ) (found : Surveyed) (k : ℕ) : Type 0 where
  pub size : length marks ≡ length old.fates
  pub never_falls : old.faults ≤ faults
  pub later : (e : ℕ) → Has r old e → first_in r old.number + k ≤ e → has_settled r (marked old marks faults) e ≡ false
  pub count : found.settled ≡ settled_below r (marked old marks faults) k
  pub few : found.settled ≤ k
  pub rose : found.failed ≡ true → Rose old.faults faults
  pub quiet : found.failed ≡ false → faults ≡ old.faults
  pub told : IsTrue r.tells → IfSome old.held.bytes (Misses r old marks faults found.failed k)

pub begins : (r : Run) (old : Seen) → ((e : ℕ) → has_settled r old e ≡ false) → Surveying r old old.fates old.faults (record { settled = 0; failed = false }) 0
begins r old none = record {
  size = refl;
  never_falls = omega arith;
  later = λ e has le. none e;
  count = refl;
  few = omega arith;
  rose = λ e. absurd (true≢false (sym e));
  quiet = λ e. refl;
  told = λ tells. some old.held.bytes;
} where
  some : (o : Option (List ℕ)) → IfSome o (Misses r old old.fates old.faults false 0)
  some None = tt
  some (Some t) = record {
    failed = [];
    few = inl (omega arith);
    none = λ e. refl;
    missed = λ e has lt unset right. absurd (omega (arith, lt, has.from));
  }

-- marks that agree below k count alike
same_below : (r : Run) (a b : Seen) → a.number ≡ b.number → (k : ℕ) → ((j : ℕ) → j < k → has_settled r a (first_in r b.number + j) ≡ has_settled r b (first_in r b.number + j))
    → settled_below r a k ≡ settled_below r b k
same_below r a b number zero h = refl
same_below r a b number (suc k) h =
    let rest = same_below r a b number k (λ j lt. h j (omega (arith, lt))) in
    let at : has_settled r a (first_in r a.number + k) ≡ has_settled r b (first_in r b.number + k) =
    ap (λ n. has_settled r a (first_in r n + k)) number ∙ h k (omega arith) in
    ap (λ n. n + (if has_settled r a (first_in r a.number + k) then 1 else 0)) rest ∙ ap (λ m. settled_below r b k + (if m then 1 else 0)) at

on_some : {P Q : List ℕ → Type 0} (o : Option (List ℕ)) → IfSome o P → ((t : List ℕ) → o ≡ Some t → P t → Q t) → IfSome o Q
on_some None h f = tt
on_some (Some t) h f = f t refl h

module _ (r : Run) (old : Seen) (k : ℕ) (has : Has r old (first_in r old.number + k)) (marks marks' : List Fate) (faults faults' : ℕ) (found found' : Surveyed)
    (is : Surveying r old marks faults found k) (le : faults ≤ faults') where
  -- the entry was right
  pub found_right : SettlesOne r (marked old marks faults) (marked old marks' faults') (first_in r old.number + k) → faults' ≡ faults
      → found'.settled ≡ found.settled + 1 → found'.failed ≡ found.failed → Surveying r old marks' faults' found' (k + 1)
  found_right one same more flag = record {
    size = one.size ∙ is.size;
    never_falls = omega (arith, is.never_falls, le);
    later = λ j at past. one.others j at (λ (equal : j ≡ first_in r old.number + k). absurd (omega (arith, equal, past))) ∙ is.later j at (omega (arith, past));
    count = more ∙ counted;
    few = omega (arith, is.few, more);
    rose = λ f. subst (λ n. Rose old.faults n) (sym same) (is.rose (sym flag ∙ f));
    quiet = λ f. same ∙ is.quiet (sym flag ∙ f);
    told = λ tells. on_some old.held.bytes (is.told tells) (λ t there m. record {
      failed = m.failed;
      few = elim m.few [ inl few ↦ inl (omega (arith, few, le)) | inr most ↦ inr (omega (arith, most, le)) ];
      none = λ f. m.none (sym flag ∙ f);
      missed = λ j at lt unset right. elim (cases_eq j (first_in r old.number + k)) [
        | inl equal ↦ absurd (true≢false (sym (subst (λ i. has_settled r (marked old marks' faults') i ≡ true) (sym equal) one.this) ∙ unset))
        | inr differ ↦ m.missed j at (omega (arith, lt, differ)) (sym (one.others j at differ) ∙ unset) right
      ];
    });
  } where
    below : settled_below r (marked old marks' faults') k ≡ settled_below r (marked old marks faults) k
    below = same_below r (marked old marks' faults') (marked old marks faults) refl k
        (λ j lt. one.others (first_in r old.number + j) (record { from = omega arith; to = omega (arith, lt, has.to) }) (λ equal. absurd (omega (arith, equal, lt))))

    next : suc k ≡ k + 1
    next = omega arith

    counted : found.settled + 1 ≡ settled_below r (marked old marks' faults') (k + 1)
    counted = subst (λ n. found.settled + 1 ≡ settled_below r (marked old marks' faults') n) next (ap (λ n. n + 1) (is.count ∙ sym below) ∙ ap (λ m. settled_below r (marked old marks' faults') k + (if m then 1 else 0)) (sym one.this))

  -- the entry wasn't right, or its read failed
  module _ (same : marks' ≡ marks) where
    as_before : (i : ℕ) → has_settled r (marked old marks' faults') i ≡ has_settled r (marked old marks faults) i
    as_before i = ap (λ xs. settled xs (i - first_in r old.number)) same

    counted' : settled_below r (marked old marks faults) k ≡ settled_below r (marked old marks' faults') (k + 1)
    counted' =
        let open' : has_settled r (marked old marks' faults') (first_in r old.number + k) ≡ false = as_before _ ∙ is.later _ has (omega arith) in
        let below = same_below r (marked old marks' faults') (marked old marks faults) refl k (λ j lt. as_before _) in
        let step : settled_below r (marked old marks' faults') k + 0 ≡ settled_below r (marked old marks' faults') (suc k) =
        ap (λ m. settled_below r (marked old marks' faults') k + (if m then 1 else 0)) (sym open') in
        let more : suc k ≡ k + 1 = omega arith in
        let next : settled_below r (marked old marks' faults') (suc k) ≡ settled_below r (marked old marks' faults') (k + 1) =
        ap (settled_below r (marked old marks' faults')) more in
        omega (arith, below, step, next)

    pub found_wrong : faults' ≡ faults → (IsTrue r.tells → IfSome old.held.bytes (λ t. IsRightIn (extent_of r old.number) t (first_in r old.number + k) → ⊥))
        → found' ≡ found → Surveying r old marks' faults' found' (k + 1)
    found_wrong quiet wrong none = record {
      size = ap length same ∙ is.size;
      never_falls = omega (arith, is.never_falls, le);
      later = λ j at past. as_before j ∙ is.later j at (omega (arith, past));
      count = ap (λ f. f.settled) none ∙ (is.count ∙ counted');
      few = omega (arith, is.few, ap (λ f. f.settled) none);
      rose = λ f. subst (λ n. Rose old.faults n) (sym quiet) (is.rose (sym (ap (λ x. x.failed) none) ∙ f));
      quiet = λ f. quiet ∙ is.quiet (sym (ap (λ x. x.failed) none) ∙ f);
      told = λ tells. both old.held.bytes (is.told tells) (wrong tells) (λ t m no. record {
        failed = m.failed;
        few = elim m.few [ inl few ↦ inl (omega (arith, few, le)) | inr most ↦ inr (omega (arith, most, le)) ];
        none = λ f. m.none (sym (ap (λ x. x.failed) none) ∙ f);
        missed = λ j at lt unset right. elim (cases_eq j (first_in r old.number + k)) [
          | inl equal ↦ absurd (no (subst (λ i. IsRightIn (extent_of r old.number) t i) equal right))
          | inr differ ↦ m.missed j at (omega (arith, lt, differ)) (sym (as_before j) ∙ unset) right
        ];
      });
    } where
      both : {P Q R : List ℕ → Type 0} (o : Option (List ℕ)) → IfSome o P → IfSome o Q → ((t : List ℕ) → P t → Q t → R t) → IfSome o R
      both None p q f = tt
      both (Some t) p q f = f t p q

    pub found_none : Rose faults faults' → found'.settled ≡ found.settled → found'.failed ≡ true → Surveying r old marks' faults' found' (k + 1)
    found_none rose count flag = record {
      size = ap length same ∙ is.size;
      never_falls = omega (arith, is.never_falls, le);
      later = λ j at past. as_before j ∙ is.later j at (omega (arith, past));
      count = count ∙ (is.count ∙ counted');
      few = omega (arith, is.few, count);
      rose = λ f. elim rose [ inl more ↦ inl (omega (arith, more, is.never_falls)) | inr most ↦ inr most ];
      quiet = λ f. absurd (true≢false (sym flag ∙ f));
      told = λ tells. on_some old.held.bytes (is.told tells) (λ t there m. record {
        failed = (first_in r old.number + k) ∷ m.failed;
        few = elim rose [
          | inl more ↦ elim m.few [ inl few ↦ inl (omega (arith, few, more)) | inr most ↦ inr (omega (arith, most, le)) ]
          | inr most ↦ inr most
        ];
        none = λ f. absurd (true≢false (sym flag ∙ f));
        missed = λ j at lt unset right. elim (cases_eq j (first_in r old.number + k)) [
          | inl equal ↦ inl equal
          | inr differ ↦ inr (m.missed j at (omega (arith, lt, differ)) (sym (as_before j) ∙ unset) right)
        ];
      });
    }

-- one entry more was looked at, with this answer
pub looked : (r : Run) (old : Seen) (k : ℕ) → Has r old (first_in r old.number + k) → (now now' : Seen) (found found' : Surveyed)
    → now.number ≡ old.number → now.held ≡ old.held → now'.number ≡ now.number → now'.held ≡ now.held
    → Surveying r old now.fates now.faults found k → (answer : Result Bool Failed)
    → (answer ≡ Ok true → SettlesOne r now now' (first_in r old.number + k))
    → (answer ≡ Ok false → (now'.fates ≡ now.fates) × WhereTells r now now' (λ t _. IsRightIn (extent_of r now.number) t (first_in r old.number + k) → ⊥))
    → OnErr answer (now'.fates ≡ now.fates) → CountsRefusals now.faults now'.faults answer
    → (answer ≡ Ok true → (found'.settled ≡ found.settled + 1) × (found'.failed ≡ found.failed))
    → (answer ≡ Ok false → found' ≡ found)
    → OnErr answer ((found'.settled ≡ found.settled) × (found'.failed ≡ true))
    → Surveying r old now'.fates now'.faults found' (k + 1)
looked r old k has now now' found found' number held number' held' is (Ok true) when_right when_wrong when_not counts add_right add_wrong add_not =
    let here : marked old now.fates now.faults ≡ now = same_seen (marked old now.fates now.faults) now (sym number) refl refl (sym held) in
    let there : marked old now'.fates now'.faults ≡ now' = same_seen (marked old now'.fates now'.faults) now' (sym number ∙ sym number') refl refl (sym held ∙ sym held') in
    let one : SettlesOne r (marked old now.fates now.faults) (marked old now'.fates now'.faults) (first_in r old.number + k) =
    subst (λ v. SettlesOne r v (marked old now'.fates now'.faults) (first_in r old.number + k)) (sym here)
    (subst (λ v. SettlesOne r now v (first_in r old.number + k)) (sym there) (when_right refl)) in
    found_right r old k has now.fates now'.fates now.faults now'.faults found found' is counts.never_falls one counts.done (add_right refl).0 (add_right refl).1
looked r old k has now now' found found' number held number' held' is (Ok false) when_right when_wrong when_not counts add_right add_wrong add_not =
    found_wrong r old k has now.fates now'.fates now.faults now'.faults found found' is counts.never_falls (when_wrong refl).0 counts.done
    (λ tells. subst (λ n. IfSome old.held.bytes (λ t. IsRightIn (extent_of r n) t (first_in r old.number + k) → ⊥)) number
    (subst (λ (h : Held). IfSome h.bytes (λ t. IsRightIn (extent_of r now.number) t (first_in r old.number + k) → ⊥)) held (first_of _ now.held.bytes now'.held.bytes (ap (λ (h : Held). h.bytes) held') ((when_wrong refl).1 tells))))
    (add_wrong refl) where
      first_of : (P : List ℕ → Type 0) (o p : Option (List ℕ)) → p ≡ o → IfSome o (λ t. IfSome p (λ u. P t)) → IfSome o P
      first_of P o p same h = go o (subst (λ q. IfSome o (λ t. IfSome q (λ u. P t))) same h) where
        go : (o : Option (List ℕ)) → IfSome o (λ t. IfSome o (λ u. P t)) → IfSome o P
        go None h = tt
        go (Some t) h = h
looked r old k has now now' found found' number held number' held' is (Err e) when_right when_wrong when_not counts add_right add_wrong add_not =
    found_none r old k has now.fates now'.fates now.faults now'.faults found found' is counts.never_falls when_not counts.cause add_not.0 add_not.1

-- ---- all entries were looked at

module _ (r : Run) (old : Seen) (dealt : IsDealtShard r old) (marks : List Fate) (faults : ℕ) (found : Surveyed)
    (is : Surveying r old marks faults found (length marks)) (unread : IsUnread r (marked old marks faults)) where
  all : (e : ℕ) → Has r old e → e < first_in r old.number + length marks
  all e has = omega (arith, has.to, dealt.count, is.size)

  pub kept : WasSurveyed r (marked old marks faults)
  kept tells = go old.held.bytes (is.told tells) (unread.bytes tells) (λ e has set. unread.right e has set tells) where
    go : (o : Option (List ℕ)) → IfSome o (Misses r old marks faults found.failed (length marks)) → IfSome o (λ t. t ≡ base_in r old.number)
        → ((e : ℕ) → Has r old e → has_settled r (marked old marks faults) e ≡ true → IfSome o (λ t. IsRightIn (extent_of r old.number) t e))
        → IfSome o (IsKept r (marked old marks faults))
    go None m b right = tt
    go (Some t) m b right = record {
      failed = m.failed;
      few = elim m.few [ inl few ↦ inl (omega (arith, few)) | inr most ↦ inr most ];
      right = right;
      filled = λ e has set. inl (ap (digest_of (kind_of r.listing)) (sym (slices e has)) ∙ right e has set);
      untouched = λ e has unset. inl (slices e has);
      base_right = λ e has named. decide e has (ap (digest_of (kind_of r.listing)) (slices e has) ∙ named);
      base_kept = λ e has named. inl (slices e has);
    } where
      slices : (e : ℕ) → Has r old e → slice_at r old t e ≡ slice_of r.listing r.base e
      slices e has = ap (λ u. slice_at r old u e) b ∙ slice_base r old dealt e has

      decide : (e : ℕ) → Has r old e → IsRightIn (extent_of r old.number) t e
          → (has_settled r (marked old marks faults) e ≡ true) ⊎ IsOneOf m.failed e
      decide e has named = pick (has_settled r (marked old marks faults) e) refl where
        pick : (b : Bool) → has_settled r (marked old marks faults) e ≡ b → (has_settled r (marked old marks faults) e ≡ true) ⊎ IsOneOf m.failed e
        pick true s = inl s
        pick false s = inr (m.missed e has (all e has) s named)

  -- where no read failed, an entry that isn't settled isn't right
  pub wrong_left : found.failed ≡ false → IsTrue r.tells → IfSome old.held.bytes (λ t. (e : ℕ) → Has r old e
      → has_settled r (marked old marks faults) e ≡ false → IsRightIn (extent_of r old.number) t e → ⊥)
  wrong_left quiet tells = go old.held.bytes (is.told tells) where
    go : (o : Option (List ℕ)) → IfSome o (Misses r old marks faults found.failed (length marks))
        → IfSome o (λ t. (e : ℕ) → Has r old e → has_settled r (marked old marks faults) e ≡ false → IsRightIn (extent_of r old.number) t e → ⊥)
    go None m = tt
    go (Some t) m = λ e has unset right. subst (λ es. IsOneOf es e) (m.none quiet) (m.missed e has (all e has) unset right)
