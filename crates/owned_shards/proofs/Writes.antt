-- What a write leaves of bytes, and of the entries of an index that lists them.
use Rattle.std.proofs.Common.{◌≡◌, ◌≢◌, ℕ, ◌+◌, ◌-◌, ◌<◌, ◌≤◌, List, [], ◌∷◌, ◌++◌, length, take, drop, set, slice_range, Option, Some, None, IfSome, true, false, refl, sym, ap, subst, ◌∙◌, inl, inr, arith}
use Rattle.std.specs.Option.{option_map}
use Rattle.std.proofs.lemmas.Bool.{cases_eq, cases_lt, true≢false}
use Rattle.std.proofs.lemmas.List.{take_at, take-append-le, drop-append-le, take-append-drop, length-append, length-take, length-drop, drop-drop, get_or-set_same, get_or-set_other, length-set}
use Rattle.std.proofs.lemmas.List.Elements.{Contains-push}
use Rattle.std.proofs.Math.Seq.{drop-append_seam}
use Rattle.std.specs.List.{Contains}
use Rattle.caibx_codec.specs.Listing.{Listing, Rules, count_of, end_of, id_of, image_length, kind_of, size_of, slice_of, start_of}
use Rattle.caibx_codec.specs.Right.{IsRightAt}
use Rattle.chunk_store.specs.Digests.{digest_of}
use Rattle.dsy_base.specs.Bytes.{Held, held_written, written}
use Rattle.dsy_base.specs.Counts.{Rose}
use Rattle.range_survey.proofs.Excused.{excuses_none, excuses_one}
use Rattle.range_survey.specs.Fates.{fate_at, is_made, is_settled, settled}
use Rattle.range_survey.specs.declared.fate.Fate.{Fate}
use Rattle.range_survey.specs.declared.fate.Fate.TheVariants as fate
use Rattle.range_ledger.specs.Fills.{Fills, FillsTorn, Grows, WhereTold}

slice_front : (xs ys : List ℕ) (a z : ℕ) → a ≤ z → z ≤ length xs → slice_range (xs ++ ys) a z ≡ slice_range xs a z
slice_front xs ys a z le inside =
    ap (take (z - a)) (drop-append-le a xs ys (omega arith)) ∙ take-append-le (z - a) (drop a xs) ys (omega (arith, length-drop a xs))

drop_front : (xs ys : List ℕ) (n : ℕ) → n ≡ length xs → drop n (xs ++ ys) ≡ ys
drop_front xs ys n e = ap (λ k. drop k (xs ++ ys)) e ∙ drop-append_seam xs ys

module _ (t b : List ℕ) (at : ℕ) (inside : at + length b ≤ length t) where
  front : length (take at t) ≡ at
  front = rw length-take (omega arith)

  pub length_written : length (written t at b) ≡ length t
  length_written = rw (length-append, length-append, length-drop, length-take) (omega arith)

  -- what lies below a write stays
  pub slice_below : (a z : ℕ) → a ≤ z → z ≤ at → slice_range (written t at b) a z ≡ slice_range t a z
  slice_below a z le below =
      slice_front (take at t) _ a z le (omega (arith, front))
      ∙ sym (slice_front (take at t) (drop at t) a z le (omega (arith, front)))
      ∙ ap (λ s. slice_range s a z) (take-append-drop at t)

  -- the bytes from a write on
  drop_at : drop at (written t at b) ≡ b ++ drop (at + length b) t
  drop_at = drop_front (take at t) (b ++ drop (at + length b) t) at (sym front)

  -- what lies above it stays
  drop_end : drop (at + length b) (written t at b) ≡ drop (at + length b) t
  drop_end = sym (drop-drop (length b) at (written t at b)) ∙ ap (drop (length b)) drop_at ∙ drop_front b _ (length b) refl

  drop_above : (a : ℕ) → at + length b ≤ a → drop a (written t at b) ≡ drop a t
  drop_above a above =
      let n = a - (at + length b) in
      let e : (at + length b) + n ≡ a = omega arith in
      ap (λ k. drop k (written t at b)) (sym e)
      ∙ sym (drop-drop n (at + length b) (written t at b)) ∙ ap (drop n) drop_end ∙ drop-drop n (at + length b) t
      ∙ ap (λ k. drop k t) e

  pub slice_above : (a z : ℕ) → at + length b ≤ a → slice_range (written t at b) a z ≡ slice_range t a z
  slice_above a z above = ap (take (z - a)) (drop_above a above)

  -- what was written stands in its range
  pub slice_here : (z : ℕ) → at + length b ≡ z → slice_range (written t at b) at z ≡ b
  slice_here z e = ap (take (z - at)) drop_at ∙ take_at b _ (z - at) (omega arith)

-- told bytes have the size that is known of them
as_long : (o : Option (List ℕ)) (n k : ℕ) → n ≡ k → IfSome o (λ t. length t ≡ n) → IfSome o (λ t. length t ≡ k)
as_long None n k same sized = tt
as_long (Some t) n k same sized = sized ∙ same

-- a write of x over entry i
module _ (l : Listing) (rules : Rules l) (i : ℕ) (lt : i < count_of l) (x : List ℕ) (fits : size_of l i ≡ length x) where
  abbrev over : List ℕ → List ℕ
  over t = written t (start_of l i) x

  bytes_after : (h k : Held) (at : ℕ) → at ≡ start_of l i → k ≡ held_written h at x → k.bytes ≡ option_map over h.bytes
  bytes_after h k at here is = ap (λ (e : Held). e.bytes) is ∙ ap (λ n. option_map (λ t. written t n x) h.bytes) here

  ends : start_of l i + length x ≡ end_of l i
  ends = omega (arith, fits, rules.rises i lt)

  inside_of : (t : List ℕ) → length t ≡ image_length l → start_of l i + length x ≤ length t
  inside_of t size = omega (arith, ends, rules.inside i lt, size)

  slice_apart : (t : List ℕ) → length t ≡ image_length l → (j : ℕ) → j < count_of l → j ≢ i → slice_of l (over t) j ≡ slice_of l t j
  slice_apart t size j less apart = elim (cases_lt j i) [
    | inl below ↦ slice_below t x (start_of l i) (inside_of t size) (start_of l j) (end_of l j) (omega (arith, rules.rises j less)) (rules.ordered j i below lt)
    | inr at_least ↦
        let above : i < j = omega (arith, apart) in
        slice_above t x (start_of l i) (inside_of t size) (start_of l j) (end_of l j) (omega (arith, ends, rules.ordered i j above less))
  ]

  module _ (m : List Fate) (is_open : settled m i ≡ false) (a b : ℕ) (ab : a ≤ b) where
    apart_from : (j : ℕ) → settled m j ≡ true → j ≢ i
    apart_from j is same = true≢false (sym is ∙ ap (settled m) same ∙ is_open)

    -- a write that failed
    fills_torn : (t : List ℕ) → length t ≡ image_length l → Rose a b → Fills l m m a b t (over t)
    fills_torn t size rose = record {
      failed = i ∷ [];
      excused = excuses_one i a b rose;
      size = length_written t x (start_of l i) (inside_of t size);
      kept = λ j less is. slice_apart t size j less (apart_from j is);
      fresh = λ j less isnt is. absurd (true≢false (sym is ∙ isnt));
      left = λ j less isnt. elim (cases_eq j i) [
        | inl same ↦ inr (subst (Contains (i ∷ [])) (sym same) (Contains-push [] i))
        | inr apart ↦ inl (slice_apart t size j less apart)
      ];
    }

    -- a write of the entry's chunk
    module _ (y : Fate) (inside : i < length m) (yes : is_settled y ≡ true) where
      set_here : fate_at (set m i y) i ≡ y
      set_here = get_or-set_same m i y fate.Open inside

      set_apart : (j : ℕ) → j ≢ i → fate_at (set m i y) j ≡ fate_at m j
      set_apart j apart = get_or-set_other m i j y fate.Open apart

      right_here : (t : List ℕ) → length t ≡ image_length l → digest_of (kind_of l) x ≡ id_of l i → IsRightAt (over t) l i
      right_here t size named = ap (digest_of (kind_of l)) (slice_here t x (start_of l i) (inside_of t size) (end_of l i) ends) ∙ named

      fills_written : (t : List ℕ) → length t ≡ image_length l → digest_of (kind_of l) x ≡ id_of l i → Fills l m (set m i y) a b t (over t)
      fills_written t size named = record {
        failed = [];
        excused = excuses_none a b ab;
        size = length_written t x (start_of l i) (inside_of t size);
        kept = λ j less is. slice_apart t size j less (apart_from j is);
        fresh = λ j less isnt is. elim (cases_eq j i) [
          | inl same ↦ subst (IsRightAt (over t) l) (sym same) (right_here t size named)
          | inr apart ↦ absurd (true≢false (sym is ∙ ap is_settled (set_apart j apart) ∙ isnt))
        ];
        left = λ j less isnt. inl (slice_apart t size j less (λ same. true≢false (sym yes ∙ sym (ap is_settled set_here) ∙ ap (settled (set m i y)) (sym same) ∙ isnt)));
      }

      told_of : (o p : Option (List ℕ)) → p ≡ option_map over o → IfSome o (λ t. length t ≡ image_length l)
          → IfSome o (λ t. digest_of (kind_of l) x ≡ id_of l i) → WhereTold o p (Fills l m (set m i y) a b)
      told_of None p is sized named = tt
      told_of (Some t) p is sized named = subst (λ q. IfSome q (Fills l m (set m i y) a b t)) (sym is) (fills_written t sized named)

      -- the same of an object that may tell its bytes
      pub told_written : (h k : Held) (at : ℕ) → at ≡ start_of l i → k ≡ held_written h at x → h.size ≡ image_length l
          → IfSome h.bytes (λ t. length t ≡ h.size) → IfSome h.bytes (λ t. digest_of (kind_of l) x ≡ id_of l i)
          → WhereTold h.bytes k.bytes (Fills l m (set m i y) a b)
      told_written h k at here is size sized named = told_of h.bytes k.bytes (bytes_after h k at here is) (as_long h.bytes h.size (image_length l) size sized) named

    torn_of : (o p : Option (List ℕ)) → p ≡ option_map over o → IfSome o (λ t. length t ≡ image_length l) → Rose a b
        → WhereTold o p (FillsTorn l m m a b i)
    unfolding fills_torn
    torn_of None p is sized rose = tt
    torn_of (Some t) p is sized rose = subst (λ q. IfSome q (FillsTorn l m m a b i t)) (sym is) (fills_torn t sized rose, Contains-push [] i)

    pub told_torn : (h k : Held) (at : ℕ) → at ≡ start_of l i → k ≡ held_written h at x → h.size ≡ image_length l
        → IfSome h.bytes (λ t. length t ≡ h.size) → Rose a b → WhereTold h.bytes k.bytes (FillsTorn l m m a b i)
    told_torn h k at here is size sized rose = torn_of h.bytes k.bytes (bytes_after h k at here is) (as_long h.bytes h.size (image_length l) size sized) rose

-- a write that failed, of which only this is told
pub torn_fills : (l : Listing) (m0 m1 : List Fate) (a b i : ℕ) (x y : Option (List ℕ)) → WhereTold x y (FillsTorn l m0 m1 a b i) → WhereTold x y (Fills l m0 m1 a b)
torn_fills l m0 m1 a b i None y torn = tt
torn_fills l m0 m1 a b i (Some t0) None torn = tt
torn_fills l m0 m1 a b i (Some t0) (Some t1) torn = torn.0

-- nothing was written
pub fills_none : (l : Listing) (m : List Fate) (a b : ℕ) → a ≤ b → (o : Option (List ℕ)) → WhereTold o o (Fills l m m a b)
fills_none l m a b ab None = tt
fills_none l m a b ab (Some t) = record {
  failed = [];
  excused = excuses_none a b ab;
  size = refl;
  kept = λ j less is. refl;
  fresh = λ j less isnt is. absurd (true≢false (sym is ∙ isnt));
  left = λ j less isnt. inl refl;
}

pub grows_none : (m : List Fate) → Grows m m
grows_none m = record { size = refl; kept = λ i _. refl; made = λ i isnt is. absurd (true≢false (sym is ∙ isnt)) }

-- an open entry was made right
pub grows_set : (m : List Fate) (i : ℕ) (x : Fate) → i < length m → settled m i ≡ false → is_made x ≡ true → Grows m (set m i x)
grows_set m i x inside isnt made = record {
  size = length-set m i x;
  kept = λ j was. get_or-set_other m i j x fate.Open (λ same. true≢false (sym was ∙ (ap (settled m) same ∙ isnt)));
  made = λ j not_yet is. elim (cases_eq j i) [
    | inl same ↦ subst (λ (n : ℕ). is_made (fate_at (set m i x) n) ≡ true) (sym same) (ap is_made (get_or-set_same m i x fate.Open inside) ∙ made)
    | inr apart ↦ absurd (true≢false (sym is ∙ (ap is_settled (get_or-set_other m i j x fate.Open apart) ∙ not_yet)))
  ];
}
