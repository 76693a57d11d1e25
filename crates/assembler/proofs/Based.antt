-- What an assembly leaves of the base, which are the target's bytes with the image's length. Before its last passes the
-- bytes are t0, the fates m and the count of the target's faults b; at the end they are t, n and c, and at first the
-- count was a. Where there are no passes before, t0 is the base.
use Rattle.std.proofs.Common.{◌≡◌, ◌⊎◌, ℕ, ◌<◌, ◌≤◌, List, [], ◌++◌, length, Option, Some, None, IfSome, Err, true, false, refl, sym, ap, ◌∙◌, subst, inl, inr, arith}
use Rattle.std.proofs.lemmas.Bool.{cases_Bool, true≢false}
use Rattle.std.proofs.lemmas.List.Elements.{Contains-append_left, Contains-append_right}
use Rattle.std.specs.Option.{option_map}
use Rattle.assembler.proofs.Filled.{open_before, right_on, rose_still}
use Rattle.assembler.specs.Assemblies.{Assembles, KeepsBase, KeepsTorn}
use Rattle.assembler.specs.Faults.{fault_of}
use Rattle.range_ledger.specs.Fills.{Fills, Grows, WhereTold}
use Rattle.assembler.specs.Obtainable.{IsObtainableOrBase, OnlyObtainable}
use Rattle.assembler.specs.Passes.{EndsBy}
use Rattle.assembler.specs.declared.fault.ExtractFault.{ExtractFault}
use Rattle.assembler.specs.declared.fault.Lost.{Lost}
use Rattle.caibx_codec.specs.Listing.{Listing, count_of, image_length, slice_of}
use Rattle.caibx_codec.specs.Right.{IsRight, IsRightAt}
use Rattle.chunk_store.specs.declared.id.ChunkId.{ChunkId}
use Rattle.dsy_base.specs.Bytes.{Held, held_resized, resized}
use Rattle.dsy_base.specs.Counts.{Rose}
use Rattle.extract_plan.specs.Deal.{AreAlike}
use Rattle.std.specs.List.{Contains}
use Rattle.range_survey.proofs.Excused.{excused_rose, excuses_none, excuses_on}
use Rattle.range_survey.specs.Excuses.{Excuses}
use Rattle.range_survey.specs.Fates.{OpenWrong, SettledRight, settled}
use Rattle.range_survey.specs.declared.fate.Fate.{Fate}
use Rattle.store_chain.specs.declared.refused.Refused.{Refused}
use Rattle.store_chain.specs.declared.refused.Refused.TheVariants as refused

-- ---- bytes that may not be told

pub some_map : (o : Option (List ℕ)) (A C : List ℕ → Type 0) → ((y : List ℕ) → A y → C y) → IfSome o A → IfSome o C
some_map None A C f has = tt
some_map (Some y) A C f has = f y has

pub told_map : (o t : Option (List ℕ)) (A : List ℕ → Type 0) (B C : List ℕ → List ℕ → Type 0) → ((y z : List ℕ) → A y → B y z → C y z)
    → IfSome o A → WhereTold o t B → WhereTold o t C
told_map None t A B C f one other = tt
told_map (Some y) None A B C f one other = tt
told_map (Some y) (Some z) A B C f one other = f y z one other

-- what holds of bytes that were made of others holds over these
pub made_of : (P : List ℕ → Type 0) (make : List ℕ → List ℕ) (o mid : Option (List ℕ)) → mid ≡ option_map make o → IfSome mid P → IfSome o (λ y. P (make y))
made_of P make None mid is has = tt
made_of P make (Some y) mid is has = subst (λ u. IfSome u P) is has

-- ---- the base

-- what the survey found in it
pub record Surveyed (l : Listing) (m : List Fate) (a b : ℕ) (base : List ℕ) : Type 0 where
  pub size : length base ≡ image_length l
  pub yes : SettledRight l base m (count_of l)
  pub no : OpenWrong l base m a b (count_of l)

pub surveyed : (l : Listing) (m : List Fate) (a b : ℕ) (mid : Option (List ℕ)) → IfSome mid (λ t. length t ≡ image_length l)
    → IfSome mid (λ t. SettledRight l t m (count_of l)) → IfSome mid (λ t. OpenWrong l t m a b (count_of l)) → IfSome mid (Surveyed l m a b)
surveyed l m a b None size right wrong = tt
surveyed l m a b (Some t) size right wrong = record { size = size; yes = right; no = wrong }

-- what stands before a pass, where the base was `base` and the bytes are t0: a settled entry is right, and was so in the
-- base unless it is such; any other has the base's bytes; and one that is right in the base is settled and was never
-- written; but for entries on which calls have failed
pub record StandsOver (l : Listing) (Such : ℕ → Type 0) (m : List Fate) (a b : ℕ) (base t0 : List ℕ) : Type 0 where
  pub failed : List ℕ
  pub excused : Excuses failed a b
  pub size : length t0 ≡ image_length l
  pub right : SettledRight l t0 m (count_of l)
  pub filled : (i : ℕ) → i < count_of l → settled m i ≡ true → IsRightAt base l i ⊎ Such i
  pub untouched : (i : ℕ) → i < count_of l → settled m i ≡ false → (slice_of l t0 i ≡ slice_of l base i) ⊎ Contains failed i
  pub base_right : (i : ℕ) → i < count_of l → IsRightAt base l i → (settled m i ≡ true) ⊎ Contains failed i
  pub base_kept : (i : ℕ) → i < count_of l → IsRightAt base l i → (slice_of l t0 i ≡ slice_of l base i) ⊎ Contains failed i

-- so it is after the survey
pub stands_surveyed : (l : Listing) (m : List Fate) (a b : ℕ) (base : List ℕ) → Surveyed l m a b base → StandsOver l (λ i. ⊥) m a b base base
stands_surveyed l m a b base over = record {
  failed = over.no.failed;
  excused = over.no.excused;
  size = over.size;
  right = over.yes;
  filled = λ i inside is. inl (over.yes i inside is);
  untouched = λ i inside isnt. inl refl;
  base_right = λ i inside right. elim (cases_Bool (settled m i)) [
    | inl is ↦ inl is
    | inr isnt ↦ inr (over.no.missed i inside isnt right)
  ];
  base_kept = λ i inside right. inl refl;
}

-- an entry that is right in the base and isn't settled has failed
pub missed_at : (l : Listing) (Such : ℕ → Type 0) (m : List Fate) (a b c : ℕ) → b ≤ c → (base t0 : List ℕ) → StandsOver l Such m a b base t0 → (i : ℕ) → i < count_of l
    → settled m i ≡ false → IsRightAt base l i → Rose a c
missed_at l Such m a b c bc base t0 over i inside isnt right = elim (over.base_right i inside right) [
  | inl is ↦ absurd (true≢false (sym is ∙ isnt))
  | inr missed ↦ rose_still a b c bc (excused_rose over.failed i a b missed over.excused)
]

module _ (l : Listing) (Such : ℕ → Type 0) (m n : List Fate) (a b c : ℕ) (ab : a ≤ b) (bc : b ≤ c) (grows : Grows m n) (base t0 t : List ℕ) (over : StandsOver l Such m a b base t0)
    (fills : Fills l m n b c t0 t) where
  pub right_at : (i : ℕ) → i < count_of l → settled n i ≡ true → IsRightAt t l i
  right_at = right_on l m n b c (Some t0) (Some t) refl fills over.right

  -- an entry that isn't settled has the base's bytes, or a call on it failed
  open_at : (i : ℕ) → i < count_of l → settled n i ≡ false → (slice_of l t i ≡ slice_of l base i) ⊎ Contains (over.failed ++ fills.failed) i
  open_at i inside isnt = elim (fills.left i inside isnt) [
    | inl same ↦ elim (over.untouched i inside (open_before m n grows i isnt)) [
      | inl as_base ↦ inl (same ∙ as_base)
      | inr failed ↦ inr (Contains-append_left over.failed fills.failed i failed)
    ]
    | inr torn ↦ inr (Contains-append_right over.failed fills.failed i torn)
  ]

  excused_both : Excuses (over.failed ++ fills.failed) a c
  excused_both = excuses_on over.failed fills.failed a b c bc over.excused fills.excused

  pub left_at : (i : ℕ) → i < count_of l → settled n i ≡ false → (slice_of l t i ≡ slice_of l base i) ⊎ Rose a c
  left_at i inside isnt = elim (open_at i inside isnt) [
    | inl same ↦ inl same
    | inr failed ↦ inr (excused_rose (over.failed ++ fills.failed) i a c failed excused_both)
  ]

  -- the entries that couldn't be read, and those that couldn't be written
  pub leaves : KeepsBase l a c base t
  leaves = record {
    failed = over.failed ++ fills.failed;
    excused = excused_both;
    size = fills.size ∙ over.size;
    each = λ i inside. elim (cases_Bool (settled n i)) [
      | inl is ↦ inl (right_at i inside is)
      | inr isnt ↦ inr (open_at i inside isnt)
    ];
    kept = λ i inside right. elim (over.base_right i inside right) [
      | inl is ↦ elim (over.base_kept i inside right) [
        | inl same ↦ inl (fills.kept i inside is ∙ same)
        | inr failed ↦ inr (Contains-append_left over.failed fills.failed i failed)
      ]
      | inr failed ↦ inr (Contains-append_left over.failed fills.failed i failed)
    ];
  }

  -- an entry that is settled is such as the caller says
  pub only_such : (P : ℕ → Type 0) → ((i : ℕ) → i < count_of l → settled n i ≡ true → P i) → IsObtainableOrBase l P a c base t
  only_such P all = record {
    failed = over.failed ++ fills.failed;
    excused = excused_both;
    each = λ i inside. elim (cases_Bool (settled n i)) [
      | inl is ↦ inl (all i inside is)
      | inr isnt ↦ inr (open_at i inside isnt)
    ];
  }

  -- and a write that failed
  pub leaves_torn : (k i : ℕ) → k < count_of l → settled m k ≡ false → ((j : ℕ) → j < k → settled n j ≡ true) → i < count_of l → AreAlike l i k
      → Contains fills.failed i → KeepsTorn l a c base t
  unfolding leaves
  leaves_torn k i listed was_open before inside alike torn = record {
    keeps = leaves;
    entry = k;
    listed = listed;
    wrong = λ right. elim (over.base_right k listed right) [
      | inl is ↦ absurd (true≢false (sym is ∙ was_open))
      | inr failed ↦ Contains-append_left over.failed fills.failed k failed
    ];
    before = λ j less. right_at j (omega (arith, less, listed)) (before j less);
    torn = i;
    inside = inside;
    alike = alike;
    is_torn = Contains-append_right over.failed fills.failed i torn;
  }

  pub right_all : ((i : ℕ) → i < count_of l → settled n i ≡ true) → IsRight t l
  right_all all = record { size = fills.size ∙ over.size; entries = λ i inside. right_at i inside (all i inside) }

-- ---- how it ended

module _ (l : Listing) (Unused : Type 0) (a c : ℕ) (o t : List ℕ) (leaves : KeepsBase l a c (resized o (image_length l)) t) where
  assembles_named : (k : ℕ) (id : ChunkId) (r : Refused) → ((i : ℕ) → i < k → IsRightAt t l i) → Assembles l Unused a c (Err (fault_of k id r)) o t
  assembles_named k id refused.Missing right = (leaves, right)
  assembles_named k id (refused.Damaged s x) right = (leaves, right)
  assembles_named k id (refused.StoreFault s) right = leaves
  assembles_named k id refused.Memory right = inr leaves

  pub assembles_err : (P : Lost → Type 0) (e : ExtractFault) → ((x : Lost) → P x → (i : ℕ) → i < x.entry → IsRightAt t l i)
      → (lost : Lost) × (e ≡ fault_of lost.entry lost.id lost.refused) × P lost → Assembles l Unused a c (Err e) o t
  assembles_err P e before (x, is, lost) =
      subst (λ y. Assembles l Unused a c (Err y) o t) (sym is) (assembles_named x.entry x.id x.refused (before x lost))

pub ends_map : (P Q : Lost → Type 0) (F G : Type 0) (e : ExtractFault) → ((x : Lost) → P x → Q x) → (F → G) → EndsBy {A = Unit {0}} P F (Err e) → EndsBy {A = Unit {0}} Q G (Err e)
ends_map P Q F G e lost torn (inl (x, is, p)) = inl (x, is, lost x p)
ends_map P Q F G e lost torn (inr (inl (is, f))) = inr (inl (is, torn f))
ends_map P Q F G e lost torn (inr (inr is)) = inr (inr is)

-- no entry was written
pub only_first : (l : Listing) (P : List ℕ → ℕ → Type 0) (a b : ℕ) → a ≤ b → (e : ExtractFault) (o t : Option (List ℕ))
    → (t ≡ o) ⊎ (t ≡ option_map (λ y. resized y (image_length l)) o) → WhereTold o t (λ y z. OnlyObtainable l (P y) a b (Err e) y z)
only_first l P a b ab e None t same = tt
only_first l P a b ab e (Some y) t (inl same) = subst (λ u. IfSome u (λ z. OnlyObtainable l (P y) a b (Err e) y z)) (sym same) (inl refl)
only_first l P a b ab e (Some y) t (inr long) = subst (λ u. IfSome u (λ z. OnlyObtainable l (P y) a b (Err e) y z)) (sym long)
    (inr (record { failed = []; excused = excuses_none a b ab; each = λ i inside. inr (inl refl) }))

-- ---- as the calls say it

pub over_of : (l : Listing) (m : List Fate) (a b : ℕ) (old mid : Held) → mid ≡ held_resized old (image_length l)
    → IfSome mid.bytes (λ t. length t ≡ mid.size) → IfSome mid.bytes (λ t. SettledRight l t m (count_of l)) → IfSome mid.bytes (λ t. OpenWrong l t m a b (count_of l))
    → IfSome old.bytes (λ y. Surveyed l m a b (resized y (image_length l)))
over_of l m a b old mid is size right wrong =
    let long = subst (λ (n : ℕ). IfSome mid.bytes (λ t. length t ≡ n)) (ap (λ (h : Held). h.size) is) size in
    made_of (Surveyed l m a b) (λ y. resized y (image_length l)) old.bytes mid.bytes (ap (λ (h : Held). h.bytes) is) (surveyed l m a b mid.bytes long right wrong)

pub told_of : (l : Listing) (o mid t : Option (List ℕ)) (P : List ℕ → List ℕ → Type 0) → mid ≡ option_map (λ y. resized y (image_length l)) o → WhereTold mid t P
    → WhereTold o t (λ y. P (resized y (image_length l)))
told_of l o mid t P is has = made_of (λ y. IfSome t (P y)) (λ y. resized y (image_length l)) o mid is has
