-- What a survey finds, entry by entry.
use Rattle.std.proofs.Common.{◌≡◌, ◌≢◌, ◌⊎◌, ℕ, zero, suc, ◌+◌, ◌-◌, ◌<◌, ◌≤◌, true, false, replicate, List, [], ◌∷◌, length, take, drop, slice_range, set, Option, Some, None, IfSome, IsTrue, refl, sym, ap, subst, ◌∙◌, inl, inr, arith}
use Rattle.std.proofs.lemmas.Bool.{cases_eq, cases_lt, true≢false}
use Rattle.std.proofs.lemmas.List.{get_or-set_same, get_or-set_other, length-set, drop-take, drop-drop, set_past}
use Rattle.caibx_codec.specs.Listing.{Listing, end_of, id_of, kind_of, size_of, slice_of, start_of}
use Rattle.chunk_store.specs.Digests.{digest_of}
use Rattle.dsy_base.specs.Bytes.{Held}
use Rattle.range_survey.specs.Fates.{FirstFates, fate_at, is_settled, settled}
use Rattle.range_survey.specs.declared.fate.Fate.{Fate}
use Rattle.range_survey.specs.declared.fate.Fate.TheVariants as fate
use Rattle.range_ledger.proofs.Laid.{first_below, last_above, sized}
use Rattle.range_ledger.specs.Extents.{IsIn, IsRightIn, begin_in, end_in}
use Rattle.range_ledger.specs.Runs.{Run, Seen, Has, HasZeros, IsDealtShard, IsUnread, SettlesOne, base_in, extent_of, first_in, has_settled, slice_at}

-- a range of a range
slice_slice : (t : List ℕ) (a b c z : ℕ) → a ≤ b → b ≤ c → c ≤ z → slice_range (slice_range t a z) (b - a) (c - a) ≡ slice_range t b c
slice_slice t a b c z ab bc cz =
    let parts : z - a ≡ (b - a) + (z - b) = omega arith in
    let there : b ≡ a + (b - a) = omega arith in
    let long : c - a - (b - a) ≡ c - b = omega arith in
    ap (λ n. take n (drop (b - a) (take (z - a) (drop a t)))) long
    ∙ (ap (λ n. take (c - b) (drop (b - a) (take n (drop a t)))) parts
    ∙ (ap (take (c - b)) (drop-take (b - a) (z - b) (drop a t))
    ∙ (ap (λ xs. take (c - b) (take (z - b) xs)) (drop-drop (b - a) a t)
    ∙ (ap (λ n. take (c - b) (take (z - b) (drop n t))) (sym there)
    ∙ take_le (c - b) (z - b) (drop b t) (omega arith))))) where
      take_le : (n m : ℕ) (xs : List ℕ) → n ≤ m → take n (take m xs) ≡ take n xs
      take_le zero m xs le = refl
      take_le (suc n) zero xs le = absurd (omega (arith, le))
      take_le (suc n) (suc m) [] le = refl
      take_le (suc n) (suc m) (x ∷ xs) le = ap (λ ys. x ∷ ys) (take_le n m xs (omega (arith, le)))

module _ (r : Run) (s : Seen) (dealt : IsDealtShard r s) where
  -- the base's bytes of an entry, in those of its shard
  pub slice_base : (e : ℕ) → Has r s e → slice_at r s (base_in r s.number) e ≡ slice_of r.listing r.base e
  slice_base e has =
      let x = extent_of r s.number in
      slice_slice r.base (start_of r.listing x.from) (start_of r.listing e) (end_of r.listing e) (start_of r.listing x.to)
      (first_below x dealt.valid e has.from has.to)
      (omega (arith, dealt.valid.valid.rises e (omega (arith, has.to, dealt.valid.within))))
      (last_above x dealt.valid e has.to)

  module _ (e : ℕ) (has : Has r s e) (new : Seen) (number : new.number ≡ s.number)
      (f : Fate) (is_set : is_settled f ≡ true)
      (same : new.fates ≡ set s.fates (e - first_in r s.number) f) where
    inside : e - first_in r s.number < length s.fates
    inside = omega (arith, has.from, has.to, dealt.count)

    this : has_settled r new e ≡ true
    this = ap (λ n. settled new.fates (e - first_in r n)) number
        ∙ (ap (λ xs. settled xs (e - first_in r s.number)) same ∙ (ap is_settled (get_or-set_same s.fates (e - first_in r s.number) f fate.Open inside) ∙ is_set))

    others : (j : ℕ) → Has r s j → j ≢ e → has_settled r new j ≡ has_settled r s j
    others j at differ = ap (λ n. settled new.fates (j - first_in r n)) number
        ∙ (ap (λ xs. settled xs (j - first_in r s.number)) same
        ∙ ap is_settled (get_or-set_other s.fates (e - first_in r s.number) (j - first_in r s.number) f fate.Open (λ equal. differ (omega (arith, has.from, at.from, equal)))))

    pub settles_one : SettlesOne r s new e
    settles_one = record {
      size = ap length same ∙ length-set s.fates (e - first_in r s.number) f;
      this = this;
      others = others;
    }

-- an entry more is settled, which is right
pub settle_unread : (r : Run) (old new : Seen) (e : ℕ) → IsUnread r old → Has r old e → new.number ≡ old.number → new.held ≡ old.held → SettlesOne r old new e
    → (IsTrue r.tells → IfSome old.held.bytes (λ t. IsRightIn (extent_of r old.number) t e)) → IsUnread r new
settle_unread r old new e is has number held one named = record {
  bytes = λ tells. subst (λ n. IfSome new.held.bytes (λ t. t ≡ base_in r n)) (sym number) (subst (λ h. IfSome h.bytes (λ t. t ≡ base_in r old.number)) (sym held) (is.bytes tells));
  right = λ j at set tells.
      let at' : Has r old j = subst (λ n. IsIn (extent_of r n) j) number at in
      let there : IfSome old.held.bytes (λ t. IsRightIn (extent_of r old.number) t j) = elim (cases_eq j e) [
        | inl same ↦ subst (λ i. IfSome old.held.bytes (λ t. IsRightIn (extent_of r old.number) t i)) (sym same) (named tells)
        | inr differ ↦ is.right j at' (sym (one.others j at' differ) ∙ set) tells
      ] in
      subst (λ n. IfSome new.held.bytes (λ t. IsRightIn (extent_of r n) t j)) (sym number)
      (subst (λ (h : Held). IfSome h.bytes (λ t. IsRightIn (extent_of r old.number) t j)) (sym held) there);
}

-- what was read is the range, and has its digest
pub named_in : (r : Run) (s : Seen) (e : ℕ) (out : List ℕ) → IfSome s.held.bytes (λ t. out ≡ slice_at r s t e)
    → digest_of (kind_of r.listing) out ≡ id_of r.listing e → IfSome s.held.bytes (λ t. IsRightIn (extent_of r s.number) t e)
named_in r s e out read named = go s.held.bytes read where
  go : (o : Option (List ℕ)) → IfSome o (λ t. out ≡ slice_at r s t e) → IfSome o (λ t. IsRightIn (extent_of r s.number) t e)
  go None h = tt
  go (Some t) h = ap (digest_of (kind_of r.listing)) (sym h) ∙ named

-- a call that writes nothing
pub kept_unread : (r : Run) (old new : Seen) → IsUnread r old → new.number ≡ old.number → new.fates ≡ old.fates → new.held ≡ old.held → IsUnread r new
kept_unread r old new is number fates held = record {
  bytes = λ tells. subst (λ n. IfSome new.held.bytes (λ t. t ≡ base_in r n)) (sym number) (subst (λ (h : Held). IfSome h.bytes (λ t. t ≡ base_in r old.number)) (sym held) (is.bytes tells));
  right = λ j at set tells.
      let same : has_settled r new j ≡ has_settled r old j =
      ap (λ n. settled new.fates (j - first_in r n)) number ∙ ap (λ xs. settled xs (j - first_in r old.number)) fates in
      subst (λ n. IfSome new.held.bytes (λ t. IsRightIn (extent_of r n) t j)) (sym number)
      (subst (λ (h : Held). IfSome h.bytes (λ t. IsRightIn (extent_of r old.number) t j)) (sym held)
      (is.right j (subst (λ n. IsIn (extent_of r n) j) number at) (sym same ∙ set) tells));
}

-- the range of an entry is zeros, by its place in the part
pub zeros_there : (r : Run) (s : Seen) → IsDealtShard r s → (e : ℕ) → Has r s e → (old : ℕ) → HasZeros r old s e
    → (l : Listing) → l ≡ r.listing → (at : ℕ) → at ≡ begin_in (extent_of r s.number) e
    → old ≤ start_of l e → IfSome s.held.bytes (λ t. slice_range t at (at + size_of l e) ≡ replicate (size_of l e) 0)
zeros_there r s dealt e has old zeros l same at there =
    subst (λ (m : Listing). old ≤ start_of m e → IfSome s.held.bytes (λ t. slice_range t at (at + size_of m e) ≡ replicate (size_of m e) 0)) (sym same)
    (λ past. go s.held.bytes (zeros past)) where
      last : at + size_of r.listing e ≡ end_in (extent_of r s.number) e
      last = omega (arith, there, sized (extent_of r s.number) dealt.valid e has)

      go : (o : Option (List ℕ)) → IfSome o (λ t. slice_at r s t e ≡ replicate (size_of r.listing e) 0)
          → IfSome o (λ t. slice_range t at (at + size_of r.listing e) ≡ replicate (size_of r.listing e) 0)
      go None h = tt
      go (Some t) h = ap (λ z. slice_range t at z) last ∙ (ap (λ a. slice_range t a (end_in (extent_of r s.number) e)) there ∙ h)

-- where nothing is settled each fate is open
pub all_open : (r : Run) (s : Seen) → ((e : ℕ) → has_settled r s e ≡ false) → (k : ℕ) → FirstFates s.fates k
all_open r s none k i lt =
    let place : (first_in r s.number + i) - first_in r s.number ≡ i = omega arith in
    inl (is_open (fate_at s.fates i) (sym (ap (settled s.fates) place) ∙ none (first_in r s.number + i))) where
      is_open : (f : Fate) → is_settled f ≡ false → f ≡ fate.Open
      is_open fate.Open is = refl
      is_open fate.Kept is = absurd (true≢false is)
      is_open fate.Copied is = absurd (true≢false is)
      is_open fate.Seeded is = absurd (true≢false is)
      is_open fate.Cached is = absurd (true≢false is)
      is_open fate.Fetched is = absurd (true≢false is)

-- an entry more was right before any write
pub first_set : (m : List Fate) (i k : ℕ) → FirstFates m k → FirstFates (set m i fate.Kept) k
first_set m i k first j lt = elim (cases_eq j i) [
  | inl same ↦ elim (cases_lt i (length m)) [
    | inl inside ↦ inr (ap (fate_at (set m i fate.Kept)) same ∙ get_or-set_same m i fate.Kept fate.Open inside)
    | inr past ↦ subst (λ n. (fate_at n j ≡ fate.Open) ⊎ (fate_at n j ≡ fate.Kept)) (sym (set_past m i fate.Kept past)) (first j lt)
  ]
  | inr differ ↦ subst (λ f. (f ≡ fate.Open) ⊎ (f ≡ fate.Kept)) (sym (get_or-set_other m i j fate.Kept fate.Open differ)) (first j lt)
]
