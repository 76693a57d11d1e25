-- What a shard keeps over its calls.
use Rattle.std.proofs.Common.{◌≡◌, ℕ, ◌+◌, ◌-◌, ◌<◌, ◌≤◌, Bool, true, false, List, ◌∷◌, length, Option, Some, None, IfSome, IsTrue, set, refl, sym, ap, subst, ◌∙◌, ◌⊎◌, inl, inr, arith}
use Rattle.std.proofs.lemmas.Bool.{cases_eq}
use Rattle.std.proofs.lemmas.List.{get_or-set_same, get_or-set_other, length-set}
use Rattle.std.specs.Option.{option_map}
use Rattle.caibx_codec.specs.Listing.{kind_of, size_of, slice_of}
use Rattle.chunk_store.specs.Digests.{digest_of}
use Rattle.dsy_base.specs.Bytes.{Held, held_written}
use Rattle.dsy_base.specs.Counts.{Rose}
use Rattle.range_survey.specs.Fates.{is_settled}
use Rattle.range_survey.specs.declared.fate.Fate.{Fate}
use Rattle.range_survey.specs.declared.fate.Fate.TheVariants as fate
use Rattle.range_ledger.proofs.Laid.{put_here, put_other}
use Rattle.range_ledger.specs.Extents.{IsRightIn, begin_in, length_in, put_in_extent}
use Rattle.range_ledger.specs.Runs.{Run, Seen, Has, HaveFailed, IsDealtShard, IsKept, IsOneOf, IsShard, MayFill, WasSurveyed, extent_of, first_in, has_settled}

pub same_seen : (a b : Seen) → a.number ≡ b.number → a.fates ≡ b.fates → a.faults ≡ b.faults → a.held ≡ b.held → a ≡ b
same_seen a b p q u v =
    ap (λ n. record { number = n; fates = a.fates; faults = a.faults; held = a.held }) p
    ∙ (ap (λ xs. record { number = b.number; fates = xs; faults = a.faults; held = a.held }) q
    ∙ (ap (λ n. record { number = b.number; fates = b.fates; faults = n; held = a.held }) u
    ∙ ap (λ h. record { number = b.number; fates = b.fates; faults = b.faults; held = h }) v))

-- a shard whose part was called
abbrev pub called : Seen → ℕ → Held → Seen
called s faults held = record { number = s.number; fates = s.fates; faults = faults; held = held }

-- a shard of which entry e has this fate now
abbrev pub settling : Run → Seen → ℕ → Fate → ℕ → Held → Seen
settling r s e f faults held =
    record { number = s.number; fates = set s.fates (e - first_in r s.number) f; faults = faults; held = held }

clash : {A : Type 0} (b : Bool) → b ≡ true → b ≡ false → A
clash true is isnt = absurd (omega (arith, ap (λ x. if_one x) isnt)) where
  if_one : Bool → ℕ
  if_one true = 1
  if_one false = 0
clash false is isnt = absurd (omega (arith, ap (λ x. if_one x) is)) where
  if_one : Bool → ℕ
  if_one true = 1
  if_one false = 0

more : (entries : List ℕ) (old new : ℕ) → old ≤ new → HaveFailed entries old → HaveFailed entries new
more entries old new le (inl few) = inl (omega arith)
more entries old new le (inr most) = inr (omega arith)

one_more : (entries : List ℕ) (e old new : ℕ) → Rose old new → old ≤ new → HaveFailed entries old → HaveFailed (e ∷ entries) new
one_more entries e old new (inl rose) le (inl few) = inl (omega arith)
one_more entries e old new (inr most) le (inl few) = inr (omega arith)
one_more entries e old new rose le (inr most) = inr (omega arith)

through : {P : List ℕ → Type 0} (Q : List ℕ → Type 0) (f : List ℕ → List ℕ) (o : Option (List ℕ)) → IfSome o P
    → ((t : List ℕ) → o ≡ Some t → P t → Q (f t)) → IfSome (option_map f o) Q
through Q f None h k = tt
through Q f (Some t) h k = k t refl h

module _ (r : Run) (s : Seen) where
  -- after a call that writes nothing
  kept_called : (count : ℕ) → s.faults ≤ count → (t : List ℕ) → IsKept r s t → IsKept r (called s count s.held) t
  kept_called count le t k = record {
    failed = k.failed;
    few = more k.failed s.faults count le k.few;
    right = k.right;
    filled = k.filled;
    untouched = k.untouched;
    base_right = k.base_right;
    base_kept = k.base_kept;
  }

  some_kept : (count : ℕ) → s.faults ≤ count → (o : Option (List ℕ)) → IfSome o (IsKept r s) → IfSome o (IsKept r (called s count s.held))
  some_kept count le None h = tt
  some_kept count le (Some t) h = kept_called count le t h

module _ (r : Run) (s : Seen) (is : IsShard r s) where
  module _ (sized : IfSome s.held.bytes (λ t. length t ≡ s.held.size)) (e : ℕ) (has : Has r s e) where
    x : ℕ
    x = s.number

    within : e - first_in r s.number < length s.fates
    within = omega (arith, has.from, has.to, is.dealt.count)

    pub set_here : (f : Fate) → is_settled f ≡ true → (faults : ℕ) (held : Held) → has_settled r (settling r s e f faults held) e ≡ true
    set_here f is_set faults held = ap is_settled (get_or-set_same s.fates (e - first_in r s.number) f fate.Open within) ∙ is_set

    pub set_other : (f : Fate) (faults : ℕ) (held : Held) (j : ℕ) → Has r s j → (j ≡ e → ⊥) → has_settled r (settling r s e f faults held) j ≡ has_settled r s j
    set_other f faults held j at differ = ap is_settled (get_or-set_other s.fates (e - first_in r s.number) (j - first_in r s.number) f fate.Open (λ same. differ (omega (arith, has.from, at.from, same))))

    some_long : (t : List ℕ) → s.held.bytes ≡ Some t → length t ≡ length_in (extent_of r s.number)
    some_long t there = subst (λ o. IfSome o (λ u. length u ≡ s.held.size)) there sized ∙ is.dealt.size

    -- after its chunk was put into entry e
    put_kept : has_settled r s e ≡ false → (f : Fate) → is_settled f ≡ true → (b : List ℕ) → MayFill r e b → IsTrue r.tells → (count : ℕ) → s.faults ≤ count → (held : Held) (t : List ℕ)
        → length t ≡ length_in (extent_of r s.number) → IsKept r s t
        → IsKept r (settling r s e f count held) (put_in_extent (extent_of r s.number) e b t)
    put_kept unset f is_set b may tells count le held t long k = record {
      failed = k.failed;
      few = more k.failed s.faults count le k.few;
      right = λ j at set. elim (cases_eq j e) [
        | inl same ↦ subst (λ i. IsRightIn (extent_of r s.number) (put_in_extent (extent_of r s.number) e b t) i) (sym same)
            (ap (digest_of (kind_of r.listing)) (put_here (extent_of r s.number) is.dealt.valid e has b may.size t long) ∙ may.named tells)
        | inr differ ↦ ap (digest_of (kind_of r.listing)) (put_other (extent_of r s.number) is.dealt.valid e has b may.size t long j at differ)
            ∙ k.right j at (sym (set_other f count held j at differ) ∙ set)
      ];
      filled = λ j at set. elim (cases_eq j e) [
        | inl same ↦ inr (ap r.may same ∙ may.may)
        | inr differ ↦ k.filled j at (sym (set_other f count held j at differ) ∙ set)
      ];
      untouched = λ j at left. elim (cases_eq j e) [
        | inl same ↦ clash (has_settled r (settling r s e f count held) e) (set_here f is_set count held) (subst (λ i. has_settled r (settling r s e f count held) i ≡ false) same left)
        | inr differ ↦ subst (λ b'. (b' ≡ slice_of r.listing r.base j) ⊎ IsOneOf k.failed j)
            (sym (put_other (extent_of r s.number) is.dealt.valid e has b may.size t long j at differ))
            (k.untouched j at (sym (set_other f count held j at differ) ∙ left))
      ];
      base_right = λ j at right. elim (cases_eq j e) [
        | inl same ↦ inl (subst (λ i. has_settled r (settling r s e f count held) i ≡ true) (sym same) (set_here f is_set count held))
        | inr differ ↦ subst (λ m. (m ≡ true) ⊎ IsOneOf k.failed j) (sym (set_other f count held j at differ)) (k.base_right j at right)
      ];
      base_kept = λ j at right. elim (cases_eq j e) [
        | inl same ↦ elim (k.base_right j at right) [
          | inl set ↦ clash (has_settled r s e) (subst (λ i. has_settled r s i ≡ true) same set) unset
          | inr failed ↦ inr failed
        ]
        | inr differ ↦ subst (λ b'. (b' ≡ slice_of r.listing r.base j) ⊎ IsOneOf k.failed j)
            (sym (put_other (extent_of r s.number) is.dealt.valid e has b may.size t long j at differ))
            (k.base_kept j at right)
      ];
    }

    put_keeps : has_settled r s e ≡ false → (f : Fate) → is_settled f ≡ true → (b : List ℕ) (held : Held) (count : ℕ) → MayFill r e b → held ≡ held_written s.held (begin_in (extent_of r s.number) e) b
        → s.faults ≤ count → IsShard r (settling r s e f count held)
    put_keeps unset f is_set b held count may written le =
        subst (λ h. IsShard r (settling r s e f count h)) (sym written) (record {
          dealt = record { valid = is.dealt.valid; count = ap (λ n. first_in r s.number + n) (length-set s.fates (e - first_in r s.number) f) ∙ is.dealt.count; size = is.dealt.size };
          kept = λ tells. through (IsKept r _) (put_in_extent (extent_of r s.number) e b) s.held.bytes (is.kept tells)
              (λ t there k. put_kept unset f is_set b may tells count le _ t (some_long t there) k);
        })

    -- after a write to entry e failed
    torn_kept : (y : List ℕ) → length y ≡ size_of r.listing e → has_settled r s e ≡ false → (count : ℕ) → Rose s.faults count → s.faults ≤ count
        → (held : Held) (t : List ℕ) → length t ≡ length_in (extent_of r s.number) → IsKept r s t
        → IsKept r (called s count held) (put_in_extent (extent_of r s.number) e y t)
    torn_kept y size unset count rose le held t long k = record {
      failed = e ∷ k.failed;
      few = one_more k.failed e s.faults count rose le k.few;
      right = λ j at set. elim (cases_eq j e) [
        | inl same ↦ clash (has_settled r s e) (subst (λ i. has_settled r s i ≡ true) same set) unset
        | inr differ ↦ ap (digest_of (kind_of r.listing)) (put_other (extent_of r s.number) is.dealt.valid e has y size t long j at differ) ∙ k.right j at set
      ];
      filled = k.filled;
      untouched = λ j at left. elim (cases_eq j e) [
        | inl same ↦ inr (inl same)
        | inr differ ↦ elim (k.untouched j at left) [
          | inl kept ↦ inl (put_other (extent_of r s.number) is.dealt.valid e has y size t long j at differ ∙ kept)
          | inr failed ↦ inr (inr failed)
        ]
      ];
      base_right = λ j at right. elim (k.base_right j at right) [
        | inl set ↦ inl set
        | inr failed ↦ inr (inr failed)
      ];
      base_kept = λ j at right. elim (cases_eq j e) [
        | inl same ↦ inr (inl same)
        | inr differ ↦ elim (k.base_kept j at right) [
          | inl kept ↦ inl (put_other (extent_of r s.number) is.dealt.valid e has y size t long j at differ ∙ kept)
          | inr failed ↦ inr (inr failed)
        ]
      ];
    }

    torn_keeps : (y : List ℕ) (held : Held) (count : ℕ) → length y ≡ size_of r.listing e → has_settled r s e ≡ false
        → held ≡ held_written s.held (begin_in (extent_of r s.number) e) y → Rose s.faults count → s.faults ≤ count → IsShard r (called s count held)
    torn_keeps y held count size unset written rose le =
        subst (λ h. IsShard r (called s count h)) (sym written) (record {
          dealt = record { valid = is.dealt.valid; count = is.dealt.count; size = is.dealt.size };
          kept = λ tells. through (IsKept r _) (put_in_extent (extent_of r s.number) e y) s.held.bytes (is.kept tells)
              (λ t there k. torn_kept y size unset count rose le _ t (some_long t there) k);
        })

-- ---- the same of what a shard is before and after its calls

pub read_kept : (r : Run) (old new : Seen) → WasSurveyed r old → new.number ≡ old.number → new.fates ≡ old.fates
    → new.held ≡ old.held → old.faults ≤ new.faults → WasSurveyed r new
read_kept r old new kept number settled held le =
    subst (WasSurveyed r) (same_seen (called old new.faults old.held) new (sym number) (sym settled) refl (sym held))
    (λ tells. some_kept r old new.faults le old.held.bytes (kept tells))

pub settled_in : (r : Run) (old mid new : Seen) → IsDealtShard r old → WasSurveyed r old → (e : ℕ) → Has r old e → (f : Fate) → is_settled f ≡ true → (b : List ℕ) → MayFill r e b
    → IfSome old.held.bytes (λ t. length t ≡ old.held.size)
    → mid.number ≡ old.number → mid.fates ≡ old.fates → mid.held ≡ held_written old.held (begin_in (extent_of r old.number) e) b → old.faults ≤ mid.faults
    → new.number ≡ mid.number → new.fates ≡ set mid.fates (e - first_in r mid.number) f → new.held ≡ mid.held → new.faults ≡ mid.faults
    → settling r old e f new.faults new.held ≡ new
settled_in r old mid new dealt kept e has f is_set b may long number settled held le number' settled' held' faults' =
    same_seen (settling r old e f new.faults new.held) new (sym number ∙ sym number')
    (ap (λ xs. set xs (e - first_in r old.number) f) (sym settled) ∙ (ap (λ n. set mid.fates (e - first_in r n) f) (sym number) ∙ sym settled')) refl refl

pub put_surveyed : (r : Run) (old mid new : Seen) → IsDealtShard r old → WasSurveyed r old → (e : ℕ) → Has r old e → has_settled r old e ≡ false → (f : Fate) → is_settled f ≡ true → (b : List ℕ) → MayFill r e b
    → IfSome old.held.bytes (λ t. length t ≡ old.held.size)
    → mid.number ≡ old.number → mid.fates ≡ old.fates → mid.held ≡ held_written old.held (begin_in (extent_of r old.number) e) b → old.faults ≤ mid.faults
    → new.number ≡ mid.number → new.fates ≡ set mid.fates (e - first_in r mid.number) f → new.held ≡ mid.held → new.faults ≡ mid.faults
    → WasSurveyed r new
put_surveyed r old mid new dealt kept e has unset f is_set b may long number settled held le number' settled' held' faults' =
    subst (WasSurveyed r) (settled_in r old mid new dealt kept e has f is_set b may long number settled held le number' settled' held' faults')
    (put_keeps r old (record { dealt = dealt; kept = kept }) long e has unset f is_set b new.held new.faults may (held' ∙ held) (omega (arith, le, faults'))).kept

pub torn_surveyed : (r : Run) (old new : Seen) → IsDealtShard r old → WasSurveyed r old → (e : ℕ) → Has r old e → has_settled r old e ≡ false
    → IfSome old.held.bytes (λ t. length t ≡ old.held.size) → (y : List ℕ) → length y ≡ size_of r.listing e
    → new.number ≡ old.number → new.fates ≡ old.fates → new.held ≡ held_written old.held (begin_in (extent_of r old.number) e) y
    → Rose old.faults new.faults → old.faults ≤ new.faults → WasSurveyed r new
torn_surveyed r old new dealt kept e has unset long y size number settled held rose le =
    subst (WasSurveyed r) (same_seen (called old new.faults new.held) new (sym number) (sym settled) refl refl)
    (torn_keeps r old (record { dealt = dealt; kept = kept }) long e has y new.held new.faults size unset held rose le).kept
