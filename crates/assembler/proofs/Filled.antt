-- What fates and bytes keep over one part of an assembly after another. The fates are m0, m1 and m2, the bytes t0, t1
-- and t2, and the counts of the target's faults a, b and c.
use Rattle.std.proofs.Common.{◌≡◌, ◌⊎◌, ℕ, ◌<◌, ◌≤◌, List, [], ◌++◌, length, set, subst, Option, Some, None, IfSome, true, false, is_some, refl, sym, ap, ◌∙◌, inl, inr, arith}
use Rattle.std.proofs.lemmas.Bool.{cases_Bool, cases_eq, false_from_ne_true, true≢false}
use Rattle.std.proofs.lemmas.List.{length-set}
use Rattle.std.proofs.lemmas.List.Elements.{Contains-append_left, Contains-append_right}
use Rattle.std.specs.List.{Contains}
use Rattle.caibx_codec.specs.Listing.{Listing, count_of, kind_of, slice_of}
use Rattle.caibx_codec.specs.Right.{IsRightAt}
use Rattle.chunk_store.specs.Digests.{digest_of}
use Rattle.dsy_base.specs.Counts.{Rose}
use Rattle.range_survey.proofs.Excused.{excuses_none, excuses_on, excuses_since}
use Rattle.range_survey.proofs.Fated.{set_apart, set_here}
use Rattle.range_survey.specs.Fates.{SettledRight, fate_at, is_made, is_settled, settled}
use Rattle.range_survey.specs.declared.fate.Fate.{Fate}
use Rattle.range_survey.specs.declared.fate.Fate.TheVariants as fate
use Rattle.range_ledger.specs.Fills.{Fills, FillsTorn, Grows, WhereTold}

-- a count that rose before it rose further or stayed
pub rose_still : (a b c : ℕ) → b ≤ c → Rose a b → Rose a c
rose_still a b c le (inl more) = inl (omega arith)
rose_still a b c le (inr full) = inr (omega arith)

pub grows_none : (m : List Fate) → Grows m m
grows_none m = record { size = refl; kept = λ i _. refl; made = λ i isnt is. absurd (true≢false (sym is ∙ isnt)) }

-- a settled entry stays settled, and one that is open was open before
pub settled_on : (m0 m1 : List Fate) → Grows m0 m1 → (i : ℕ) → settled m0 i ≡ true → settled m1 i ≡ true
settled_on m0 m1 g i is = ap is_settled (g.kept i is) ∙ is

pub open_before : (m0 m1 : List Fate) → Grows m0 m1 → (i : ℕ) → settled m1 i ≡ false → settled m0 i ≡ false
open_before m0 m1 g i isnt = false_from_ne_true (settled m0 i) (λ is. true≢false (sym (settled_on m0 m1 g i is) ∙ isnt))

open_is : (f : Fate) → is_settled f ≡ false → f ≡ fate.Open
open_is fate.Open isnt = refl
open_is fate.Kept isnt = absurd (true≢false isnt)
open_is fate.Copied isnt = absurd (true≢false isnt)
open_is fate.Seeded isnt = absurd (true≢false isnt)
open_is fate.Cached isnt = absurd (true≢false isnt)
open_is fate.Fetched isnt = absurd (true≢false isnt)

-- an entry that was settled before or is still open stays as it is
pub fate_stays : (m0 m1 : List Fate) → Grows m0 m1 → (i : ℕ) → settled m1 i ≡ settled m0 i → fate_at m1 i ≡ fate_at m0 i
fate_stays m0 m1 g i same = elim (cases_Bool (settled m0 i)) [
  | inl is ↦ g.kept i is
  | inr isnt ↦ open_is (fate_at m1 i) (same ∙ isnt) ∙ sym (open_is (fate_at m0 i) isnt)
]

pub grows_on : (m0 m1 m2 : List Fate) → Grows m0 m1 → Grows m1 m2 → Grows m0 m2
grows_on m0 m1 m2 g h = record {
  size = h.size ∙ g.size;
  kept = λ i is. h.kept i (settled_on m0 m1 g i is) ∙ g.kept i is;
  made = λ i isnt is. elim (cases_Bool (settled m1 i)) [
    | inl before ↦ ap is_made (h.kept i before) ∙ g.made i isnt before
    | inr still ↦ h.made i still is
  ];
}

-- an entry whose bytes are as they were is right as it was
pub right_still : (l : Listing) (t0 t1 : List ℕ) (i : ℕ) → slice_of l t1 i ≡ slice_of l t0 i → IsRightAt t0 l i → IsRightAt t1 l i
right_still l t0 t1 i same right = ap (digest_of (kind_of l)) same ∙ right

pub fills_none : (l : Listing) (m : List Fate) (a b : ℕ) → a ≤ b → (t : List ℕ) → Fills l m m a b t t
fills_none l m a b ab t = record {
  failed = [];
  excused = excuses_none a b ab;
  size = refl;
  kept = λ i lt is. refl;
  fresh = λ i lt isnt is. absurd (true≢false (sym is ∙ isnt));
  left = λ i lt isnt. inl refl;
}

-- what stays open over both parts
left_on : (i : ℕ) (xs ys : List ℕ) (x y z : List ℕ) → (y ≡ x) ⊎ Contains xs i → (z ≡ y) ⊎ Contains ys i → (z ≡ x) ⊎ Contains (xs ++ ys) i
left_on i xs ys x y z (inl p) (inl q) = inl (q ∙ p)
left_on i xs ys x y z (inr torn) q = inr (Contains-append_left xs ys i torn)
left_on i xs ys x y z (inl p) (inr torn) = inr (Contains-append_right xs ys i torn)

pub fills_on : (l : Listing) (m0 m1 m2 : List Fate) (a b c : ℕ) (t0 t1 t2 : List ℕ) → b ≤ c → Grows m0 m1 → Grows m1 m2
    → Fills l m0 m1 a b t0 t1 → Fills l m1 m2 b c t1 t2 → Fills l m0 m2 a c t0 t2
fills_on l m0 m1 m2 a b c t0 t1 t2 bc g h first next = record {
  failed = first.failed ++ next.failed;
  excused = excuses_on first.failed next.failed a b c bc first.excused next.excused;
  size = next.size ∙ first.size;
  kept = λ i lt is. next.kept i lt (settled_on m0 m1 g i is) ∙ first.kept i lt is;
  fresh = λ i lt isnt is. elim (cases_Bool (settled m1 i)) [
    | inl before ↦ right_still l t1 t2 i (next.kept i lt before) (first.fresh i lt isnt before)
    | inr still ↦ next.fresh i lt still is
  ];
  left = λ i lt isnt. left_on i first.failed next.failed (slice_of l t0 i) (slice_of l t1 i) (slice_of l t2 i) (first.left i lt (open_before m1 m2 h i isnt)) (next.left i lt isnt);
}

-- the same where bytes are told
pub told_none : (l : Listing) (m : List Fate) (a b : ℕ) → a ≤ b → (x : Option (List ℕ)) → WhereTold x x (Fills l m m a b)
told_none l m a b ab None = tt
told_none l m a b ab (Some t) = fills_none l m a b ab t

pub told_on : (l : Listing) (m0 m1 m2 : List Fate) (a b c : ℕ) (x y z : Option (List ℕ)) → is_some x ≡ is_some y → is_some y ≡ is_some z
    → b ≤ c → Grows m0 m1 → Grows m1 m2
    → WhereTold x y (Fills l m0 m1 a b) → WhereTold y z (Fills l m1 m2 b c) → WhereTold x z (Fills l m0 m2 a c)
told_on l m0 m1 m2 a b c None y z xy yz bc g h first next = tt
told_on l m0 m1 m2 a b c (Some t0) None z xy yz bc g h first next = absurd (true≢false xy)
told_on l m0 m1 m2 a b c (Some t0) (Some t1) None xy yz bc g h first next = tt
told_on l m0 m1 m2 a b c (Some t0) (Some t1) (Some t2) xy yz bc g h first next = fills_on l m0 m1 m2 a b c t0 t1 t2 bc g h first next

-- after a part in which the bytes were only read
pub told_since : (l : Listing) (m0 m1 : List Fate) (a b c : ℕ) (x y z : Option (List ℕ)) → y ≡ x → a ≤ b
    → WhereTold y z (Fills l m0 m1 b c) → WhereTold x z (Fills l m0 m1 a c)
told_since l m0 m1 a b c x None z same ab told = subst (λ o. WhereTold o z (Fills l m0 m1 a c)) same tt
told_since l m0 m1 a b c x (Some t0) None same ab told = subst (λ o. WhereTold o None (Fills l m0 m1 a c)) same tt
told_since l m0 m1 a b c x (Some t0) (Some t1) same ab told = subst (λ o. WhereTold o (Some t1) (Fills l m0 m1 a c)) same (record {
  failed = told.failed;
  excused = excuses_since told.failed a b c ab told.excused;
  size = told.size;
  kept = told.kept;
  fresh = told.fresh;
  left = told.left;
})

-- a write that failed after one part, before another, or after the bytes were only read
pub torn_fills : (l : Listing) (m0 m1 : List Fate) (a b i : ℕ) (x y : Option (List ℕ)) → WhereTold x y (FillsTorn l m0 m1 a b i) → WhereTold x y (Fills l m0 m1 a b)
torn_fills l m0 m1 a b i None y torn = tt
torn_fills l m0 m1 a b i (Some t0) None torn = tt
torn_fills l m0 m1 a b i (Some t0) (Some t1) torn = torn.0

module _ (l : Listing) (m0 m1 m2 : List Fate) (a b c i : ℕ) (bc : b ≤ c) (g : Grows m0 m1) (h : Grows m1 m2) where
  pub torn_on : (x y z : Option (List ℕ)) → is_some x ≡ is_some y → is_some y ≡ is_some z
      → WhereTold x y (Fills l m0 m1 a b) → WhereTold y z (FillsTorn l m1 m2 b c i) → WhereTold x z (FillsTorn l m0 m2 a c i)
  unfolding fills_on
  torn_on None y z xy yz first next = tt
  torn_on (Some t0) None z xy yz first next = absurd (true≢false xy)
  torn_on (Some t0) (Some t1) None xy yz first next = tt
  torn_on (Some t0) (Some t1) (Some t2) xy yz first next =
      (fills_on l m0 m1 m2 a b c t0 t1 t2 bc g h first next.0, Contains-append_right first.failed next.0.failed i next.1)

  pub torn_still : (x y z : Option (List ℕ)) → is_some x ≡ is_some y → is_some y ≡ is_some z
      → WhereTold x y (FillsTorn l m0 m1 a b i) → WhereTold y z (Fills l m1 m2 b c) → WhereTold x z (FillsTorn l m0 m2 a c i)
  unfolding fills_on
  torn_still None y z xy yz first next = tt
  torn_still (Some t0) None z xy yz first next = absurd (true≢false xy)
  torn_still (Some t0) (Some t1) None xy yz first next = tt
  torn_still (Some t0) (Some t1) (Some t2) xy yz first next =
      (fills_on l m0 m1 m2 a b c t0 t1 t2 bc g h first.0 next, Contains-append_left first.0.failed next.failed i first.1)

pub torn_since : (l : Listing) (m0 m1 : List Fate) (a b c i : ℕ) (x y z : Option (List ℕ)) → y ≡ x → a ≤ b
    → WhereTold y z (FillsTorn l m0 m1 b c i) → WhereTold x z (FillsTorn l m0 m1 a c i)
torn_since l m0 m1 a b c i x None z same ab told = subst (λ o. WhereTold o z (FillsTorn l m0 m1 a c i)) same tt
torn_since l m0 m1 a b c i x (Some t0) None same ab told = subst (λ o. WhereTold o None (FillsTorn l m0 m1 a c i)) same tt
torn_since l m0 m1 a b c i x (Some t0) (Some t1) same ab told = subst (λ o. WhereTold o (Some t1) (FillsTorn l m0 m1 a c i)) same (
  record {
    failed = told.0.failed;
    excused = excuses_since told.0.failed a b c ab told.0.excused;
    size = told.0.size;
    kept = told.0.kept;
    fresh = told.0.fresh;
    left = told.0.left;
  },
  told.1,
)

-- the settled entries are right afterwards too
right_after : (l : Listing) (m0 m1 : List Fate) (a b : ℕ) (t0 t1 : List ℕ) → Fills l m0 m1 a b t0 t1 → SettledRight l t0 m0 (count_of l) → SettledRight l t1 m1 (count_of l)
right_after l m0 m1 a b t0 t1 fills right = λ i lt is. elim (cases_Bool (settled m0 i)) [
  | inl before ↦ right_still l t0 t1 i (fills.kept i lt before) (right i lt before)
  | inr isnt ↦ fills.fresh i lt isnt is
]

pub right_on : (l : Listing) (m0 m1 : List Fate) (a b : ℕ) (x y : Option (List ℕ)) → is_some x ≡ is_some y → WhereTold x y (Fills l m0 m1 a b)
    → IfSome x (λ t. SettledRight l t m0 (count_of l)) → IfSome y (λ t. SettledRight l t m1 (count_of l))
right_on l m0 m1 a b x None same fills right = tt
right_on l m0 m1 a b None (Some t1) same fills right = absurd (true≢false (sym same))
right_on l m0 m1 a b (Some t0) (Some t1) same fills right = right_after l m0 m1 a b t0 t1 fills right

-- an open entry was made right
pub grows_set : (m : List Fate) (i : ℕ) (x : Fate) → i < length m → settled m i ≡ false → is_made x ≡ true → Grows m (set m i x)
grows_set m i x inside isnt made = record {
  size = length-set m i x;
  kept = λ j was. set_apart m i j x (λ same. true≢false (sym was ∙ (ap (settled m) same ∙ isnt)));
  made = λ j not_yet is. elim (cases_eq j i) [
    | inl same ↦ subst (λ (n : ℕ). is_made (fate_at (set m i x) n) ≡ true) (sym same) (ap is_made (set_here m i x inside) ∙ made)
    | inr apart ↦ absurd (true≢false (sym is ∙ (ap is_settled (set_apart m i j x apart) ∙ not_yet)))
  ];
}
