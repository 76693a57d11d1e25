-- What a call on one shard is to the whole target.
use Rattle.std.proofs.Common.{◌≡◌, ◌≢◌, ℕ, ◌+◌, ◌-◌, ◌^◌, ◌<◌, ◌≤◌, List, length, set, get_or, min, Some, None, IfSome, Bool, true, false, Result, Ok, Err, refl, sym, ap, subst, ◌∙◌, inl, inr, arith, if◌then◌else◌}
use Rattle.std.specs.Prelude.{OnErr, OnOk}
use Rattle.std.proofs.lemmas.Bool.{cases_lt, true≢false}
use Rattle.std.proofs.lemmas.List.{get_or-set_other, get_or-set_same}
use Rattle.std.proofs.lemmas.List.Sums.{get_or-le-sum_by, sum_by-set}
use Rattle.caibx_codec.specs.Listing.{Listing, Rules, count_of, id_of, image_length, kind_of, size_of, slice_of, start_of}
use Rattle.chunk_store.specs.Digests.{digest_of}
use Rattle.dsy_base.specs.Bytes.{Held, held_written}
use Rattle.dsy_base.specs.Counts.{CountsRefusals, Rose, raised}
use Rattle.dsy_base.specs.Splits.{Left, held_joined}
use Rattle.dsy_base.specs.declared.fault.Failed.{Failed}
use Rattle.owned_shards.proofs.Wholes.{all_bytes, all_fates, bytes_kept, bytes_written, fate_in, fates_kept, fates_set, has_it, number_at, shard_with, slice_in_whole, told as told_bytes, told_at, told_is, with_length, with_set}
use Rattle.owned_shards.proofs.Writes.{fills_none, grows_none, grows_set, told_torn, told_written, torn_fills}
use Rattle.range_ledger.specs.Extents.{begin_in}
use Rattle.range_ledger.specs.Fills.{Fills, FillsTorn, Grows, WhereTold}
use Rattle.range_ledger.specs.Runs.{Has, IsKept, Run, Seen, extent_of, first_in, has_settled, slice_at}
use Rattle.owned_shards.specs.Wholes.{AreShards, IsTold, IsWhole, Whole, joined_bytes, joined_faults, whole_of}
use Rattle.range_survey.specs.Fates.{SettledRight, fate_at, is_made, is_settled, settled}
use Rattle.range_survey.specs.declared.fate.Fate.{Fate}
use Rattle.range_survey.specs.declared.fate.Fate.TheVariants as fate

-- how the count of all goes with that of one
pub all_later : (l s x y : ℕ) → s ≤ x → raised l (y + s) ≤ raised l (y + x)
all_later l s x y le = omega (arith, le)

pub all_rose : (l s x y : ℕ) → Rose s x → Rose (raised l (y + s)) (raised l (y + x))
all_rose l s x y (inl more) = below (l + (y + s)) (l + (y + x)) (omega (arith, more)) where
  below : (m n : ℕ) → m < n → Rose (min m (2 ^ 64 - 1)) (min n (2 ^ 64 - 1))
  below m n lt = elim (cases_lt m (2 ^ 64 - 1)) [ inl under ↦ inl (omega (arith, lt, under)) | inr full ↦ inr (omega (arith, lt, full)) ]
all_rose l s x y (inr full) = inr (omega (arith, full))

module _ (r : Run) (left : Left) (tells : Bool) (ss : List Seen) (is : IsWhole r tells left ss) where
  abbrev pub all : Whole
  all = whole_of left tells ss

  -- where the bytes are told they are as many as the image has
  pub sized : IfSome all.held.bytes (λ t. length t ≡ all.held.size)
  sized = go tells is.tells where
    go : (b : Bool) → r.tells ≡ b → IfSome (if b then Some (joined_bytes ss) else None) (λ t. length t ≡ left.size)
    go false told = tt
    go true told = all_bytes r ss is.shards is.some told ∙ sym is.size

  pub counted : length all.fates ≡ count_of r.listing
  counted = all_fates r ss is.shards is.some

  pub right : IfSome all.held.bytes (λ t. SettledRight r.listing t all.fates (count_of r.listing))
  right = go tells is.tells where
    go : (b : Bool) → r.tells ≡ b → IfSome (if b then Some (joined_bytes ss) else None) (λ t. SettledRight r.listing t all.fates (count_of r.listing))
    go false told = tt
    go true told = λ e lt is_set.
        let at = shard_with r ss is.shards is.some e lt in
        let has = has_it r ss is.shards at.i at.lt at.s at.here e at.from at.to in
        let good = told_at r ss is.shards at.i at.lt at.s at.here in
        let kept : IsKept r at.s (told_bytes at.s) =
        subst (λ o. IfSome o (IsKept r at.s)) (told_is at.s.held.bytes (good.tells ∙ told)) (good.kept.kept told) in
        ap (digest_of (kind_of r.listing)) (slice_in_whole r ss is.shards at.i at.lt at.s at.here e has told)
        ∙ kept.right e has (ap is_settled (sym (fate_in r ss is.shards at.i at.lt at.s at.here e has)) ∙ is_set)

  -- what was read of a settled entry has its digest
  pub read_named : (e : ℕ) → e < count_of r.listing → (out : List ℕ) → settled all.fates e ≡ true → IfSome all.held.bytes (λ t. out ≡ slice_of r.listing t e)
      → tells ≡ true → digest_of (kind_of r.listing) out ≡ id_of r.listing e
  read_named e listed out was read told = go tells told right read where
    go : (b : Bool) → b ≡ true → IfSome (if b then Some (joined_bytes ss) else None) (λ t. SettledRight r.listing t all.fates (count_of r.listing))
        → IfSome (if b then Some (joined_bytes ss) else None) (λ t. out ≡ slice_of r.listing t e) → digest_of (kind_of r.listing) out ≡ id_of r.listing e
    go false isnt rights here = absurd (true≢false (sym isnt))
    go true is rights here = ap (digest_of (kind_of r.listing)) here ∙ rights e listed was

  module _ (i : ℕ) (lt : i < length ss) (s : Seen) (here : s ≡ get_or ss i s) (e : ℕ) (listed : e < count_of r.listing) (has : Has r s e) (new : Seen) where
    abbrev pub then_all : Whole
    then_all = whole_of left tells (set ss i new)

    pub stays_whole : new.number ≡ s.number → IsTold r new → IsWhole r tells left (set ss i new)
    stays_whole number good = record {
      shards = with_set r (IsTold r) 0 ss i new is.shards (omega (arith, number, number_at r ss is.shards i lt s here)) good;
      some = is.some;
      few = is.few;
      size = is.size;
      counted = is.counted;
      tells = is.tells;
    }

    pub same_held : new.held ≡ s.held → then_all.held ≡ all.held
    same_held held = ap (held_joined left tells) (bytes_kept r ss is.shards i lt s here e has new held)

    pub same_fates : new.fates ≡ s.fates → then_all.fates ≡ all.fates
    same_fates fates = fates_kept r ss is.shards i lt s here e has new fates

    -- the counts of the others
    summed : (joined_faults (set ss i new) + s.faults ≡ joined_faults ss + new.faults)
    summed = subst (λ v. joined_faults (set ss i new) + v.faults ≡ joined_faults ss + new.faults) (sym here) (sum_by-set (λ (s : Seen). s.faults) ss i new s lt)

    others : ℕ
    others = joined_faults ss - s.faults

    among : s.faults ≤ joined_faults ss
    among = subst (λ (v : Seen). v.faults ≤ joined_faults ss) (sym here) (get_or-le-sum_by (λ (s : Seen). s.faults) ss i s lt)

    before_sum : joined_faults ss ≡ others + s.faults
    unfolding others
    before_sum = omega (arith, among)

    after_sum : joined_faults (set ss i new) ≡ others + new.faults
    unfolding others
    after_sum = omega (arith, among, summed)

    pub later : s.faults ≤ new.faults → all.faults ≤ then_all.faults
    later le = subst (λ n. raised left.faults n ≤ then_all.faults) (sym before_sum)
        (subst (λ n. raised left.faults (others + s.faults) ≤ raised left.faults n) (sym after_sum) (all_later left.faults s.faults new.faults others le))

    pub rises : Rose s.faults new.faults → Rose all.faults then_all.faults
    rises rose = subst (λ n. Rose (raised left.faults n) then_all.faults) (sym before_sum)
        (subst (λ n. Rose (raised left.faults (others + s.faults)) (raised left.faults n)) (sym after_sum) (all_rose left.faults s.faults new.faults others rose))

    pub settled_as : settled all.fates e ≡ has_settled r s e
    settled_as = ap is_settled (fate_in r ss is.shards i lt s here e has)

    pub read_as : (out : List ℕ) → IfSome s.held.bytes (λ t. out ≡ slice_at r s t e) → IfSome all.held.bytes (λ t. out ≡ slice_of r.listing t e)
    read_as out read = go tells is.tells where
      go : (b : Bool) → r.tells ≡ b → IfSome (if b then Some (joined_bytes ss) else None) (λ t. out ≡ slice_of r.listing t e)
      go false told = tt
      go true told =
          let good = told_at r ss is.shards i lt s here in
          subst (λ o. IfSome o (λ t. out ≡ slice_at r s t e)) (told_is s.held.bytes (good.tells ∙ told)) read
          ∙ sym (slice_in_whole r ss is.shards i lt s here e has told)

    pub held_put : (y : List ℕ) → length y ≡ size_of r.listing e → new.held ≡ held_written s.held (begin_in (extent_of r s.number) e) y
        → then_all.held ≡ held_written all.held (start_of r.listing e) y
    held_put y size written = go tells is.tells where
      go : (b : Bool) → r.tells ≡ b → held_joined left b (joined_bytes (set ss i new)) ≡ held_written (held_joined left b (joined_bytes ss)) (start_of r.listing e) y
      go false told = refl
      go true told = ap (held_joined left true) (bytes_written r ss is.shards i lt s here e has told new y size written)

-- what holds where the type tells holds of the bytes that are told
pub where_told : {P : Type 0} (left : Left) (tells : Bool) (ss : List Seen) → (tells ≡ true → P) → IfSome (whole_of left tells ss).held.bytes (λ t. P)
where_told left false ss holds = tt
where_told left true ss holds = holds refl

-- how a put ends, of a whole target before and afterwards
pub record PutEnds (l : Listing) (e : ℕ) (f : Fate) (w v : Whole) (res : Result Bool Failed) : Type 0 where
  pub ok : OnOk res (settled v.fates e ≡ true)
  pub origin : settled w.fates e ≡ false → settled v.fates e ≡ true → fate_at v.fates e ≡ f
  pub changed : res ≡ Ok true → (settled w.fates e ≡ false) × (v.fates ≡ set w.fates e f)
  pub err : OnErr res (v.fates ≡ w.fates)
  pub kept : res ≡ Ok false → (settled w.fates e ≡ true) × (v.fates ≡ w.fates)
  pub others : (j : ℕ) → j ≢ e → fate_at v.fates j ≡ fate_at w.fates j
  pub grows : Grows w.fates v.fates
  pub bytes : WhereTold w.held.bytes v.held.bytes (Fills l w.fates v.fates w.faults v.faults)
  pub faults : w.faults ≤ v.faults
  pub cause : OnErr res (Rose w.faults v.faults)
  pub failed : OnErr res (WhereTold w.held.bytes v.held.bytes (FillsTorn l w.fates v.fates w.faults v.faults e))

ok_apart : (A : Type 0) (x y : Result Bool Failed) → x ≡ Ok true → y ≡ Ok false → x ≡ y → A
ok_apart A x y is isnt same = absurd (true≢false (sym (ap of_ok is) ∙ (ap of_ok same ∙ ap of_ok isnt))) where
  of_ok : Result Bool Failed → Bool
  of_ok (Ok x) = x
  of_ok (Err x) = false

err_apart : (A : Type 0) (x : Failed) (b : Bool) (y z : Result Bool Failed) → y ≡ Err x → z ≡ Ok b → y ≡ z → A
err_apart A x b y z is isnt same = absurd (true≢false (sym (ap is_err is) ∙ (ap is_err same ∙ ap is_err isnt))) where
  is_err : Result Bool Failed → Bool
  is_err (Ok x) = false
  is_err (Err x) = true

module _ (l : Listing) (rules : Rules l) (e : ℕ) (listed : e < count_of l) (f : Fate) (set_is : is_settled f ≡ true) (made : is_made f ≡ true)
    (b : List ℕ) (size : length b ≡ size_of l e) (w v : Whole) (counted_w : length w.fates ≡ count_of l) (sized_w : IfSome w.held.bytes (λ t. length t ≡ w.held.size))
    (whole : w.held.size ≡ image_length l) (named : IfSome w.held.bytes (λ t. digest_of (kind_of l) b ≡ id_of l e)) (le : w.faults ≤ v.faults) where
  inside : e < length w.fates
  inside = omega (arith, listed, counted_w)

  pub put_ok : settled w.fates e ≡ false → v.fates ≡ set w.fates e f → v.held ≡ held_written w.held (start_of l e) b → PutEnds l e f w v (Ok true)
  put_ok unset fates held = record {
    ok = ap (λ m. settled m e) fates ∙ (ap is_settled (get_or-set_same w.fates e f fate.Open inside) ∙ set_is);
    origin = λ was now. ap (λ m. fate_at m e) fates ∙ get_or-set_same w.fates e f fate.Open inside;
    changed = λ same. (unset, fates);
    err = tt;
    kept = λ same. ok_apart _ (Ok true) (Ok false) refl refl same;
    others = λ j differ. ap (λ m. fate_at m j) fates ∙ get_or-set_other w.fates e j f fate.Open differ;
    grows = subst (Grows w.fates) (sym fates) (grows_set w.fates e f inside unset made);
    bytes = subst (λ m. WhereTold w.held.bytes v.held.bytes (Fills l w.fates m w.faults v.faults)) (sym fates)
        (told_written l rules e listed b (sym size) w.fates unset w.faults v.faults le f inside set_is w.held v.held (start_of l e) refl held whole sized_w named);
    faults = le;
    cause = tt;
    failed = tt;
  }

  pub put_kept : settled w.fates e ≡ true → v.fates ≡ w.fates → v.held ≡ w.held → PutEnds l e f w v (Ok false)
  put_kept was fates held = record {
    ok = ap (λ m. settled m e) fates ∙ was;
    origin = λ wasnt now. absurd (true≢false (sym was ∙ wasnt));
    changed = λ same. ok_apart _ (Ok true) (Ok false) refl refl (sym same);
    err = tt;
    kept = λ same. (was, fates);
    others = λ j differ. ap (λ m. fate_at m j) fates;
    grows = subst (Grows w.fates) (sym fates) (grows_none w.fates);
    bytes = subst (λ m. WhereTold w.held.bytes v.held.bytes (Fills l w.fates m w.faults v.faults)) (sym fates)
        (subst (λ (h : Held). WhereTold w.held.bytes h.bytes (Fills l w.fates w.fates w.faults v.faults)) (sym held) (fills_none l w.fates w.faults v.faults le w.held.bytes));
    faults = le;
    cause = tt;
    failed = tt;
  }

  pub put_torn : (x : Failed) → settled w.fates e ≡ false → v.fates ≡ w.fates → (y : List ℕ) → length y ≡ length b → v.held ≡ held_written w.held (start_of l e) y
      → Rose w.faults v.faults → PutEnds l e f w v (Err x)
  put_torn x unset fates y long held rose =
      let torn : WhereTold w.held.bytes v.held.bytes (FillsTorn l w.fates w.fates w.faults v.faults e) =
      told_torn l rules e listed y (sym (long ∙ size)) w.fates unset w.faults v.faults le w.held v.held (start_of l e) refl held whole sized_w rose in
      record {
        ok = tt;
        origin = λ was now. absurd (true≢false (sym (sym (ap (λ m. settled m e) fates) ∙ now) ∙ unset));
        changed = λ same. err_apart _ x true (Err x) (Ok true) refl refl same;
        err = fates;
        kept = λ same. err_apart _ x false (Err x) (Ok false) refl refl same;
        others = λ j differ. ap (λ m. fate_at m j) fates;
        grows = subst (Grows w.fates) (sym fates) (grows_none w.fates);
        bytes = subst (λ m. WhereTold w.held.bytes v.held.bytes (Fills l w.fates m w.faults v.faults)) (sym fates)
            (torn_fills l w.fates w.fates w.faults v.faults e w.held.bytes v.held.bytes torn);
        faults = le;
        cause = rose;
        failed = subst (λ m. WhereTold w.held.bytes v.held.bytes (FillsTorn l w.fates m w.faults v.faults e)) (sym fates) torn;
      }

-- the same of a put into one shard
pub put_ends : (r : Run) (left : Left) (tells : Bool) (ss : List Seen) (is : IsWhole r tells left ss) (i : ℕ) (lt : i < length ss) (s : Seen) (here : s ≡ get_or ss i s)
    (e : ℕ) (listed : e < count_of r.listing) (has : Has r s e) (new : Seen) (f : Fate) → is_settled f ≡ true → is_made f ≡ true → (b : List ℕ) → length b ≡ size_of r.listing e
    → IfSome (whole_of left tells ss).held.bytes (λ t. digest_of (kind_of r.listing) b ≡ id_of r.listing e)
    → (res : Result Bool Failed)
    → (res ≡ Ok true → (has_settled r s e ≡ false) × (new.fates ≡ set s.fates (e - first_in r s.number) f))
    → (res ≡ Ok true → new.held ≡ held_written s.held (begin_in (extent_of r s.number) e) b)
    → (res ≡ Ok false → has_settled r s e ≡ true)
    → (has_settled r s e ≡ true → new ≡ s)
    → OnErr res ((y : List ℕ) × (length y ≡ length b) × (new.held ≡ held_written s.held (begin_in (extent_of r s.number) e) y))
    → OnErr res (has_settled r s e ≡ false)
    → OnErr res (new.fates ≡ s.fates)
    → CountsRefusals s.faults new.faults res
    → PutEnds r.listing e f (whole_of left tells ss) (whole_of left tells (set ss i new)) res
put_ends r left tells ss is i lt s here e listed has new f set_is made b size named (Ok true) changed bytes left_as kept failed only err counts =
    let good = told_at r ss is.shards i lt s here in
    put_ok r.listing good.kept.dealt.valid.valid e listed f set_is made b size (whole_of left tells ss) (whole_of left tells (set ss i new)) (counted r left tells ss is) (sized r left tells ss is)
    is.size named (later r left tells ss is i lt s here e listed has new counts.never_falls)
    (settled_as r left tells ss is i lt s here e listed has new ∙ (changed refl).0)
    (fates_set r ss is.shards i lt s here e has new f (changed refl).1)
    (held_put r left tells ss is i lt s here e listed has new b size (bytes refl))
put_ends r left tells ss is i lt s here e listed has new f set_is made b size named (Ok false) changed bytes left_as kept failed only err counts =
    let good = told_at r ss is.shards i lt s here in
    let same : new ≡ s = kept (left_as refl) in
    put_kept r.listing good.kept.dealt.valid.valid e listed f set_is made b size (whole_of left tells ss) (whole_of left tells (set ss i new)) (counted r left tells ss is) (sized r left tells ss is)
    is.size named (later r left tells ss is i lt s here e listed has new counts.never_falls)
    (settled_as r left tells ss is i lt s here e listed has new ∙ left_as refl)
    (same_fates r left tells ss is i lt s here e listed has new (ap (λ (v : Seen). v.fates) same))
    (same_held r left tells ss is i lt s here e listed has new (ap (λ (v : Seen). v.held) same))
put_ends r left tells ss is i lt s here e listed has new f set_is made b size named (Err x) changed bytes left_as kept failed only err counts =
    let good = told_at r ss is.shards i lt s here in
    put_torn r.listing good.kept.dealt.valid.valid e listed f set_is made b size (whole_of left tells ss) (whole_of left tells (set ss i new)) (counted r left tells ss is) (sized r left tells ss is)
    is.size named (later r left tells ss is i lt s here e listed has new counts.never_falls) x
    (settled_as r left tells ss is i lt s here e listed has new ∙ only)
    (same_fates r left tells ss is i lt s here e listed has new err)
    failed.0 failed.1
    (held_put r left tells ss is i lt s here e listed has new failed.0 (failed.1 ∙ size) failed.2)
    (rises r left tells ss is i lt s here e listed has new counts.cause)

-- where the shard of an entry is found
pub record Found (r : Run) (ss : List Seen) (k e : ℕ) : Type 0 where
  pub lt : k < length ss
  pub from : first_in r k ≤ e
  pub to : e < first_in r (k + 1)

pub found : (r : Run) (ss : List Seen) → AreShards r 0 ss → (k e : ℕ) → first_in r k ≤ e → e < first_in r (k + 1) → k < r.shards → Found r ss k e
found r ss are k e from to lt = record {
  lt = omega (arith, lt, with_length r (IsTold r) 0 ss are);
  from = from;
  to = to;
}
