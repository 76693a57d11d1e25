-- A target right after the survey of its shards.
use Rattle.std.proofs.Common.{◌≡◌, ◌⊎◌, ℕ, zero, suc, ◌+◌, ◌-◌, ◌^◌, ◌<◌, ◌≤◌, List, [], ◌∷◌, ◌++◌, length, map, take, drop, get_or, reverse, replicate, slice_range, Option, Some, None, IfSome, IsTrue, Bool, true, false, is_some, refl, sym, ap, subst, ◌∙◌, inl, inr, arith, length-append, if◌then◌else◌}
use Rattle.std.proofs.lemmas.Bool.{cases_lt, true≢false}
use Rattle.std.proofs.lemmas.List.{drop-drop, drop-take, get_or-append_right, get_or_append_left, map-append, reverse-append, reverse-reverse, take-append-drop, take-take, take_all, take_more}
use Rattle.std.proofs.lemmas.List.Elements.{Contains-append_left, Contains-append_right, Contains-push}
use Rattle.std.specs.List.{Contains}
use Rattle.std.proofs.lemmas.List.Sums.{sum_by-cons}
use Rattle.std.specs.Option.{option_map}
use Rattle.caibx_codec.specs.Listing.{Listing, Rules, count_of, end_of, image_length, size_of, start_of}
use Rattle.caibx_codec.specs.Right.{IsRightAt}
use Rattle.dsy_base.specs.Bytes.{Held, resized}
use Rattle.dsy_base.specs.Counts.{raised}
use Rattle.dsy_base.specs.Splits.{IsCuts, extent_at, extents}
use Rattle.extract_plan.specs.Deal.{AreShardEnds, Deal}
use Rattle.owned_shards.proofs.Resized.{length_resized, zeros_from}
use Rattle.range_ledger.proofs.Dealt.{start_more, valid_shard}
use Rattle.range_ledger.proofs.Laid.{last_above}
use Rattle.range_ledger.proofs.Surveys.{slice_base}
use Rattle.owned_shards.proofs.Wholes.{extent_rises, first_of_all, past_all, told, told_is}
use Rattle.range_ledger.specs.Extents.{IsValidExtent}
use Rattle.range_ledger.specs.Runs.{Has, HasZerosFrom, HaveFailed, IsDealt, IsDealtShard, IsKept, IsOneOf, Run, Seen, base_in, extent_of, first_in, has_settled, slice_at}
use Rattle.owned_shards.specs.Wholes.{AreShards, Begun, IsTold, ShardsWith, ZerosFrom, base_extent, base_told, joined_bytes, extents_below, fates_of, joined_faults}
use Rattle.range_survey.specs.Excuses.{Excuses}
use Rattle.range_survey.specs.Fates.{FirstFates, OpenWrong, is_settled, settled}
use Rattle.range_survey.specs.declared.fate.Fate.{Fate}
use Rattle.range_survey.specs.declared.fate.Fate.TheVariants as fate

-- ---- lists that end alike

abbrev tail_of : {A : Type 0} → List A → List A
tail_of [] = []
tail_of (x ∷ xs) = xs

pub push_same : {A : Type 0} (xs ys : List A) (x y : A) → xs ++ x ∷ [] ≡ ys ++ y ∷ [] → (xs ≡ ys) × (x ≡ y)
push_same xs ys x y same =
    let turned : x ∷ reverse xs ≡ y ∷ reverse ys = sym (reverse-append xs (x ∷ [])) ∙ (ap reverse same ∙ reverse-append ys (y ∷ [])) in (
      sym (reverse-reverse xs) ∙ (ap reverse (ap tail_of turned) ∙ reverse-reverse ys),
      ap (λ l. get_or l 0 x) turned,
    )

-- a range up to b, and from there on
range_on : {A : Type 0} (xs : List A) (a b c : ℕ) → a ≤ b → b ≤ c → slice_range xs a b ++ slice_range xs b c ≡ slice_range xs a c
range_on xs a b c ab bc =
    let ys = take (c - a) (drop a xs) in
    let long : c - a ≡ (b - a) + (c - b) = omega arith in
    let there : a + (b - a) ≡ b = omega arith in
    let front : take (b - a) ys ≡ take (b - a) (drop a xs) = take-take (b - a) (c - a) (drop a xs) (omega arith) in
    let behind : drop (b - a) ys ≡ take (c - b) (drop b xs) =
    ap (λ n. drop (b - a) (take n (drop a xs))) long ∙ (drop-take (b - a) (c - b) (drop a xs)
    ∙ ap (take (c - b)) (drop-drop (b - a) a xs ∙ ap (λ n. drop n xs) there)) in
    ap (λ zs. zs ++ slice_range xs b c) (sym front) ∙ (ap (λ zs. take (b - a) ys ++ zs) (sym behind) ∙ take-append-drop (b - a) ys)

-- ---- the fates

first_on : (m n : List Fate) → ((k : ℕ) → FirstFates m k) → ((k : ℕ) → FirstFates n k) → (k : ℕ) → FirstFates (m ++ n) k
first_on m n a b k i lt = elim (cases_lt i (length m)) [
  | inl inside ↦ subst (λ f. (f ≡ fate.Open) ⊎ (f ≡ fate.Kept)) (sym (get_or_append_left m n fate.Open i inside)) (a k i lt)
  | inr past ↦ subst (λ f. (f ≡ fate.Open) ⊎ (f ≡ fate.Kept)) (sym (get_or-append_right m n (length m) i fate.Open refl past)) (b (suc (i - length m)) (i - length m) (omega arith))
]

pub all_first : (r : Run) (k : ℕ) (ss : List Seen) → ShardsWith (Begun r) r k ss → (n : ℕ) → FirstFates (fates_of ss) n
all_first r k [] is n = λ i lt. inl refl
all_first r k (s ∷ ss) is n = first_on s.fates (fates_of ss) is.1.0.first (all_first r (k + 1) ss is.1.1) n

-- ---- the bytes

bytes_from : (r : Run) → r.tells ≡ true → (some : 0 < count_of r.listing → 0 < r.shards) → (k : ℕ) (ss : List Seen) → ShardsWith (Begun r) r k ss
    → (joined_bytes ss ≡ slice_range r.base (start_of r.listing (first_in r k)) (image_length r.listing)) × (start_of r.listing (first_in r k) ≤ image_length r.listing)
bytes_from r tells some k [] is =
    let last : start_of r.listing (first_in r k) ≡ image_length r.listing = ap (start_of r.listing) (ap (first_in r) is ∙ past_all r some) in
    let nothing : image_length r.listing - start_of r.listing (first_in r k) ≡ 0 = omega (arith, last) in
    (sym (ap (λ n. take n (drop (start_of r.listing (first_in r k)) r.base)) nothing), omega (arith, last))
bytes_from r tells some k (s ∷ ss) is =
    let rest = bytes_from r tells some (k + 1) ss is.1.1 in
    let b = is.1.0 in
    let here : told s ≡ base_in r k = subst (λ o. IfSome o (λ t. t ≡ base_in r s.number)) (told_is s.held.bytes (b.told.tells ∙ tells)) (b.base tells) ∙ ap (base_in r) is.0 in
    let rises : start_of r.listing (first_in r k) ≤ start_of r.listing (first_in r (k + 1)) =
    extent_rises r k (subst (λ n. IsValidExtent (extent_of r n)) is.0 b.told.kept.dealt.valid) in (
      ap (λ t. t ++ joined_bytes ss) here ∙ (ap (λ t. base_in r k ++ t) rest.0
          ∙ range_on r.base (start_of r.listing (first_in r k)) (start_of r.listing (first_in r (k + 1))) (image_length r.listing) rises rest.1),
      omega (arith, rises, rest.1),
    )

pub all_base : (r : Run) → r.tells ≡ true → (0 < count_of r.listing → 0 < r.shards) → (ss : List Seen) → ShardsWith (Begun r) r 0 ss
    → length r.base ≡ image_length r.listing → joined_bytes ss ≡ r.base
all_base r tells some ss is long =
    let none : start_of r.listing (first_in r 0) ≡ 0 = ap (start_of r.listing) (first_of_all r) in
    let whole : image_length r.listing - 0 ≡ image_length r.listing = omega arith in
    (bytes_from r tells some 0 ss is).0 ∙ (ap (λ a. slice_range r.base a (image_length r.listing)) none ∙ (ap (λ n. take n r.base) whole ∙ take_all (image_length r.listing) r.base (omega (arith, long))))

-- ---- what is open and right all the same

pub one_contained : (fs : List ℕ) (e : ℕ) → IsOneOf fs e → Contains fs e
one_contained [] e is = absurd is
one_contained (f ∷ fs) e (inl same) = Contains-append_left (f ∷ []) fs e (subst (Contains (f ∷ [])) (sym same) (Contains-push [] f))
one_contained (f ∷ fs) e (inr rest) = Contains-append_right (f ∷ []) fs e (one_contained fs e rest)

record Missed (r : Run) (k : ℕ) (ss : List Seen) : Type 0 where
  pub failed : List ℕ
  pub few : HaveFailed failed (joined_faults ss)
  pub missed : (e : ℕ) → first_in r k ≤ e → e < count_of r.listing → settled (fates_of ss) (e - first_in r k) ≡ false → IsRightAt r.base r.listing e → Contains failed e

pub few_on : (xs ys : List ℕ) (a b : ℕ) → HaveFailed xs a → HaveFailed ys b → HaveFailed (xs ++ ys) (a + b)
few_on xs ys a b (inl few) (inl more) = inl (omega (arith, few, more, length-append xs ys))
few_on xs ys a b (inr full) more = inr (omega (arith, full))
few_on xs ys a b (inl few) (inr full) = inr (omega (arith, full))

missed_on : (r : Run) → r.tells ≡ true → (k : ℕ) (s : Seen) (ss : List Seen) → s.number ≡ k → IsTold r s → Missed r (k + 1) ss → Missed r k (s ∷ ss)
missed_on r tells k s ss number good rest = record {
  failed = kept.failed ++ rest.failed;
  few = subst (HaveFailed (kept.failed ++ rest.failed)) (sym (sum_by-cons (λ (s : Seen). s.faults) s ss)) (few_on kept.failed rest.failed s.faults (joined_faults ss) kept.few rest.few);
  missed = λ e from lt wasnt right. elim (cases_lt e (first_in r (k + 1))) [
    | inl below ↦
        let inside : e - first_in r k < length s.fates = omega (arith, below, from, count) in
        let has : Has r s e = record { from = omega (arith, from, ap (first_in r) number); to = omega (arith, below, ap (λ n. first_in r (n + 1)) number) } in
        let unset : has_settled r s e ≡ false =
        ap (λ n. settled s.fates (e - first_in r n)) number ∙ (ap is_settled (sym (get_or_append_left s.fates (fates_of ss) fate.Open (e - first_in r k) inside)) ∙ wasnt) in
        elim (kept.base_right e has right) [
          | inl set ↦ absurd (true≢false (sym set ∙ unset))
          | inr one ↦ Contains-append_left kept.failed rest.failed e (one_contained kept.failed e one)
        ]
    | inr past ↦
        let there : (e - first_in r k) - length s.fates ≡ e - first_in r (k + 1) = omega (arith, past, from, count) in
        let unset : settled (fates_of ss) (e - first_in r (k + 1)) ≡ false =
        ap (settled (fates_of ss)) (sym there) ∙ (ap is_settled (sym (get_or-append_right s.fates (fates_of ss) (length s.fates) (e - first_in r k) fate.Open refl (omega (arith, past, from, count)))) ∙ wasnt) in
        Contains-append_right kept.failed rest.failed e (rest.missed e past lt unset right)
  ];
} where
  kept : IsKept r s (told s)
  kept = subst (λ o. IfSome o (IsKept r s)) (told_is s.held.bytes (good.tells ∙ tells)) (good.kept.kept tells)

  count : first_in r k + length s.fates ≡ first_in r (k + 1)
  count = subst (λ n. first_in r n + length s.fates ≡ first_in r (n + 1)) number good.kept.dealt.count

missed_from : (r : Run) → r.tells ≡ true → (0 < count_of r.listing → 0 < r.shards) → (k : ℕ) (ss : List Seen) → AreShards r k ss → Missed r k ss
missed_from r tells some k [] is = record {
  failed = [];
  few = inl (omega arith);
  missed = λ e from lt wasnt right. absurd (omega (arith, from, lt, ap (first_in r) is ∙ past_all r some));
}
missed_from r tells some k (s ∷ ss) is = missed_on r tells k s ss is.0 is.1.0 (missed_from r tells some (k + 1) ss is.1.1)

pub excused : (xs : List ℕ) (old faults : ℕ) → HaveFailed xs faults → Excuses xs old (raised old faults)
excused xs old faults (inl few) = elim (cases_lt (old + faults) (2 ^ 64 - 1)) [ inl below ↦ inl (omega (arith, few, below)) | inr full ↦ inr (omega (arith, full)) ]
excused xs old faults (inr full) = inr (omega (arith, full))

pub all_missed : (r : Run) → r.tells ≡ true → (0 < count_of r.listing → 0 < r.shards) → (ss : List Seen) → AreShards r 0 ss → (old : ℕ)
    → OpenWrong r.listing r.base (fates_of ss) old (raised old (joined_faults ss)) (count_of r.listing)
all_missed r tells some ss is old =
    let all = missed_from r tells some 0 ss is in
    record {
      failed = all.failed;
      excused = excused all.failed old (joined_faults ss) all.few;
      missed = λ e lt wasnt right.
          let place : e - first_in r 0 ≡ e = omega (arith, first_of_all r) in
          all.missed e (omega (arith, first_of_all r)) lt (ap (settled (fates_of ss)) place ∙ wasnt) right;
    }

-- ---- where a target is cut

abbrev last_of : ℕ → List ℕ → ℕ
last_of from [] = from
last_of from (c ∷ cs) = last_of c cs

last_push : (from : ℕ) (cs : List ℕ) (c : ℕ) → last_of from (cs ++ c ∷ []) ≡ c
last_push from [] c = refl
last_push from (x ∷ cs) c = last_push x cs c

extents_push : (t : Option (List ℕ)) (from : ℕ) (cs : List ℕ) (c : ℕ) → extents t from (cs ++ c ∷ []) ≡ extents t from cs ++ extent_at t (last_of from cs) c ∷ []
extents_push t from [] c = refl
extents_push t from (x ∷ cs) c = ap (λ es. extent_at t from x ∷ es) (extents_push t x cs c)

cuts_push : (from : ℕ) (cs : List ℕ) (c : ℕ) → IsCuts from cs (last_of from cs) → last_of from cs < c → IsCuts from (cs ++ c ∷ []) c
cuts_push from [] c is lt = (lt, refl)
cuts_push from (x ∷ cs) c is lt = (is.0, cuts_push x cs c is.1 lt)

module _ (r : Run) (cuts : List ℕ) (are : AreShardEnds r.listing r.shards cuts) where
  cut_at : (n : ℕ) → n < r.shards → get_or cuts n 0 ≡ start_of r.listing (first_in r (n + 1))
  cut_at n lt = are.ends n lt

  last_at : (n : ℕ) → n ≤ r.shards → last_of 0 (take n cuts) ≡ start_of r.listing (first_in r n)
  last_at zero le = sym (ap (start_of r.listing) (first_of_all r))
  last_at (suc n) le =
      let next : suc n ≡ n + 1 = omega arith in
      ap (λ m. last_of 0 (take m cuts)) next ∙ (ap (last_of 0) (take_more cuts n 0 (omega (arith, le, are.size)))
      ∙ (last_push 0 (take n cuts) (get_or cuts n 0) ∙ (cut_at n (omega (arith, le)) ∙ ap (λ m. start_of r.listing (first_in r m)) (sym next))))

  extents_to : (n : ℕ) → n ≤ r.shards → extents (base_told r) 0 (take n cuts) ≡ extents_below r n
  extents_to zero le = refl
  extents_to (suc n) le =
      let next : suc n ≡ n + 1 = omega arith in
      ap (λ m. extents (base_told r) 0 (take m cuts)) next ∙ (ap (extents (base_told r) 0) (take_more cuts n 0 (omega (arith, le, are.size)))
      ∙ (extents_push (base_told r) 0 (take n cuts) (get_or cuts n 0)
      ∙ (ap (λ es. es ++ extent_at (base_told r) (last_of 0 (take n cuts)) (get_or cuts n 0) ∷ []) (extents_to n (omega (arith, le)))
      ∙ (ap (λ a. extents_below r n ++ extent_at (base_told r) a (get_or cuts n 0) ∷ []) (last_at n (omega (arith, le)))
      ∙ ap (λ z. extents_below r n ++ extent_at (base_told r) (start_of r.listing (first_in r n)) z ∷ []) (cut_at n (omega (arith, le)))))))

  whole_cuts : take r.shards cuts ≡ cuts
  whole_cuts = take_all r.shards cuts (omega (arith, are.size))

  pub extents_all : extents (base_told r) 0 cuts ≡ extents_below r r.shards
  extents_all = ap (extents (base_told r) 0) (sym whole_cuts) ∙ extents_to r.shards (omega arith)

  module _ (rises : (n : ℕ) → n < r.shards → start_of r.listing (first_in r n) < start_of r.listing (first_in r (n + 1))) where
    cuts_to : (n : ℕ) → n ≤ r.shards → IsCuts 0 (take n cuts) (start_of r.listing (first_in r n))
    cuts_to zero le = sym (ap (start_of r.listing) (first_of_all r))
    cuts_to (suc n) le =
        let next : suc n ≡ n + 1 = omega arith in
        let last = last_at n (omega (arith, le)) in
        let here = cut_at n (omega (arith, le)) in
        let longer : IsCuts 0 (take n cuts ++ get_or cuts n 0 ∷ []) (get_or cuts n 0) =
        cuts_push 0 (take n cuts) (get_or cuts n 0) (subst (IsCuts 0 (take n cuts)) (sym last) (cuts_to n (omega (arith, le)))) (omega (arith, last, here, rises n (omega (arith, le)))) in
        subst (λ m. IsCuts 0 (take m cuts) (start_of r.listing (first_in r m))) (sym next)
        (subst (λ cs. IsCuts 0 cs (start_of r.listing (first_in r (n + 1)))) (sym (take_more cuts n 0 (omega (arith, le, are.size))))
        (subst (IsCuts 0 (take n cuts ++ get_or cuts n 0 ∷ [])) here longer))

    pub cuts_all : (0 < count_of r.listing → 0 < r.shards) → IsCuts 0 cuts (image_length r.listing)
    cuts_all some = subst (λ cs. IsCuts 0 cs (image_length r.listing)) whole_cuts
        (subst (IsCuts 0 (take r.shards cuts)) (ap (start_of r.listing) (past_all r some)) (cuts_to r.shards (omega arith)))

-- ---- zeros past the old end

pub zeros_of : (r : Run) (s : Seen) (old : ℕ) → IsDealtShard r s → s.held.bytes ≡ option_map (λ b. slice_range b (start_of r.listing (first_in r s.number)) (start_of r.listing (first_in r (s.number + 1)))) (base_told r)
    → (IsTrue r.tells → ZerosFrom old r.base) → (IsTrue r.tells → length r.base ≡ image_length r.listing) → HasZerosFrom r old s
zeros_of r s old dealt bytes zeros long e has past = subst (λ o. IfSome o (λ t. slice_at r s t e ≡ replicate (size_of r.listing e) 0)) (sym bytes) (go r.tells refl) where
  rules : Rules r.listing
  rules = dealt.valid.valid

  lt : e < count_of r.listing
  lt = omega (arith, has.to, dealt.valid.within)

  go : (b : Bool) → r.tells ≡ b → IfSome (option_map (λ b. slice_range b (start_of r.listing (first_in r s.number)) (start_of r.listing (first_in r (s.number + 1)))) (if b then Some r.base else None))
      (λ t. slice_at r s t e ≡ replicate (size_of r.listing e) 0)
  go false tells = tt
  go true tells = slice_base r s dealt e has
      ∙ zeros tells (start_of r.listing e) (end_of r.listing e) past (omega (arith, rules.rises e lt)) (omega (arith, rules.inside e lt, long tells))

-- a list of which the last was taken
pub popped : {X A : Type 0} (f : X → A) (below : ℕ → List A) (at : ℕ → A) → ((n : ℕ) → below (suc n) ≡ below n ++ at n ∷ []) → (xs ys : List X) (x : X) (n : ℕ)
    → ys ≡ xs ++ x ∷ [] → map f ys ≡ below (suc n) → (map f xs ≡ below n) × (f x ≡ at n)
popped f below at more xs ys x n pushed all =
    push_same (map f xs) (below n) (f x) (at n) (sym (map-append f xs (x ∷ [])) ∙ (ap (map f) (sym pushed) ∙ (all ∙ more n)))

pub length_below : (r : Run) (n : ℕ) → length (extents_below r n) ≡ n
length_below r zero = refl
length_below r (suc n) = omega (arith, length_below r n, length-append (extents_below r n) (base_extent r n ∷ []))

-- the part of a shard holds the base's bytes
pub based : (r : Run) (s : Seen) → s.held.bytes ≡ option_map (λ b. slice_range b (start_of r.listing (first_in r s.number)) (start_of r.listing (first_in r (s.number + 1)))) (base_told r)
    → IsTrue r.tells → IfSome s.held.bytes (λ t. t ≡ base_in r s.number)
based r s bytes tells = subst (λ o. IfSome o (λ t. t ≡ base_in r s.number)) (sym bytes) (go r.tells) where
  go : (b : Bool) → IfSome (option_map (λ b. slice_range b (start_of r.listing (first_in r s.number)) (start_of r.listing (first_in r (s.number + 1)))) (if b then Some r.base else None))
      (λ t. t ≡ base_in r s.number)
  go false = tt
  go true = refl

-- ---- what the run says of its target

abbrev if_told : {A : Type 0} → A → Bool → Option A
if_told x b = if b then Some x else None

pub base_known : (r : Run) (o : Option (List ℕ)) (n : ℕ) (tells : Bool) → r.tells ≡ tells → is_some o ≡ tells → IfSome o (λ b. r.base ≡ resized b n)
    → option_map (λ t. resized t n) o ≡ base_told r
base_known r None n tells same is base = sym (ap (if_told r.base) (same ∙ sym is))
base_known r (Some b) n tells same is base = ap Some (sym base) ∙ sym (ap (if_told r.base) (same ∙ sym is))

pub base_zeros : (r : Run) (o : Option (List ℕ)) (n size : ℕ) (tells : Bool) → r.tells ≡ tells → is_some o ≡ tells → IfSome o (λ b. r.base ≡ resized b n)
    → IfSome o (λ t. length t ≡ size) → IsTrue r.tells → ZerosFrom size r.base
base_zeros r None n size tells same is base sized told = absurd (true≢false (sym told ∙ (same ∙ sym is)))
base_zeros r (Some b) n size tells same is base sized told = subst (ZerosFrom size) (sym base) (subst (λ k. ZerosFrom k (resized b n)) sized (zeros_from b n))

pub base_size : (r : Run) (o : Option (List ℕ)) (n : ℕ) (tells : Bool) → r.tells ≡ tells → is_some o ≡ tells → IfSome o (λ b. r.base ≡ resized b n)
    → IsTrue r.tells → length r.base ≡ n
base_size r None n tells same is base told = absurd (true≢false (sym told ∙ (same ∙ sym is)))
base_size r (Some b) n tells same is base told = ap length base ∙ length_resized b n

pub joined_base : (r : Run) (ss : List Seen) (tells : Bool) → r.tells ≡ tells → (r.tells ≡ true → joined_bytes ss ≡ r.base)
    → (if tells then Some (joined_bytes ss) else None) ≡ base_told r
joined_base r ss false same all = sym (ap (if_told r.base) same)
joined_base r ss true same all = ap Some (all same) ∙ sym (ap (if_told r.base) same)

pub same_held : (a b : Held) → a.bytes ≡ b.bytes → a.size ≡ b.size → a.name ≡ b.name → a ≡ b
same_held a b p q u =
    ap (λ x. record { bytes = x; size = a.size; name = a.name }) p
    ∙ (ap (λ x. record { bytes = b.bytes; size = x; name = a.name }) q ∙ ap (λ x. record { bytes = b.bytes; size = b.size; name = x }) u)

-- ---- the shards of a plan

pub some_shards : (r : Run) (l : Listing) (d : Deal) → IsDealt r l d → 0 < d.workers → 0 < count_of r.listing → 0 < r.shards
some_shards r l d dealt workers any = omega (arith, dealt.shards, dealt.entries, workers, any)

pub shards_rise : (r : Run) (l : Listing) (d : Deal) → IsDealt r l d → Rules r.listing → (n : ℕ) → n < r.shards
    → start_of r.listing (first_in r n) < start_of r.listing (first_in r (n + 1))
shards_rise r l d dealt rules n lt =
    let full : r.shards ≤ count_of r.listing = omega (arith, dealt.shards, dealt.entries) in
    let more : first_in r n < first_in r (n + 1) = start_more (count_of r.listing) r.shards n (omega (arith, lt)) full in
    let valid = valid_shard r n rules lt in
    omega (arith, rules.rises (first_in r n) (omega (arith, more, valid.within)), last_above (extent_of r n) valid (first_in r n) more)

pub missed_told : (r : Run) (ss : List Seen) (tells : Bool) → r.tells ≡ tells → (r.tells ≡ true → joined_bytes ss ≡ r.base) → (0 < count_of r.listing → 0 < r.shards) → AreShards r 0 ss
    → (old : ℕ) → IfSome (if tells then Some (joined_bytes ss) else None) (λ t. OpenWrong r.listing t (fates_of ss) old (raised old (joined_faults ss)) (count_of r.listing))
missed_told r ss false same all some are old = tt
missed_told r ss true same all some are old =
    subst (λ t. OpenWrong r.listing t (fates_of ss) old (raised old (joined_faults ss)) (count_of r.listing)) (sym (all same)) (all_missed r same some ss are old)
