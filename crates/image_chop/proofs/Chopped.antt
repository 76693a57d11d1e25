-- What seeing to the entries in order has come to, and what it has come to where one of them ended early.
use Rattle.std.proofs.Common.{◌≡◌, ℕ, ◌+◌, ◌-◌, ◌<◌, ◌≤◌, List, [], Bool, true, false, Option, Some, None, IfSome, Err, refl, sym, subst, ◌⊎◌, inl, inr, arith, length, ◌∙◌, below_more, zero, suc}
use Rattle.std.proofs.lemmas.List.Sums.{count_by_more_no, count_by_more_yes}
use Rattle.std.proofs.lemmas.Slice.Eq.{bytes_eq-Decides}
use Rattle.std.specs.Str.{bytes_eq}
use Rattle.caibx_codec.specs.Listing.{Listing, count_of, id_of, image_length}
use Rattle.caibx_codec.specs.Right.{IsRight, IsRightAt}
use Rattle.chunk_store.specs.Said.{AskedOnce}
use Rattle.chunk_store.specs.declared.id.ChunkId.{ChunkId}
use Rattle.chunk_store.specs.declared.store.Store.{Ghosts as StoreWords}
use Rattle.image_store.proofs.Names.{equal_or_not}
use Rattle.image_store.proofs.Stored.{files_same, holds_none, stands_same}
use Rattle.image_chop.specs.Chopping.{AreRightTo, AsksListed, ChopStops, IsMismatch, StopsAt, TellsLength, most_seen, seen_to, times_listed}
use Rattle.image_chop.specs.declared.chop.ChopFault.{ChopFault}
use Rattle.image_chop.specs.declared.chop.ChopFault.TheVariants as faults

module _ (l : Listing) where
  -- ---- where entry i ended early

  module _ (i : ℕ) (told : Option (List ℕ)) where
    -- what holds of no entries, and of those before a mismatch, holds of those that were seen to
    pub seen_early : (P : ℕ → Type 0) (fault : ChopFault) → StopsAt l i told fault → P 0 → ((k : ℕ) (got : ChunkId) → fault ≡ faults.Mismatch k got → P i) → P (seen_to l (Err fault))
    seen_early P (faults.Length n) stops none here = absurd stops
    seen_early P (faults.Mismatch k got) stops none here = subst P (sym stops.0) (here k got refl)
    seen_early P faults.ImageFault stops none here = none
    seen_early P faults.StoreFault stops none here = none
    seen_early P faults.Memory stops none here = none

    pub most_early : (P : ℕ → Type 0) (fault : ChopFault) → StopsAt l i told fault → ((k : ℕ) (got : ChunkId) → fault ≡ faults.Mismatch k got → P i) → P (count_of l) → P (most_seen l (Err fault))
    most_early P (faults.Length n) stops here all = absurd stops
    most_early P (faults.Mismatch k got) stops here all = subst P (sym stops.0) (here k got refl)
    most_early P faults.ImageFault stops here all = all
    most_early P faults.StoreFault stops here all = all
    most_early P faults.Memory stops here all = all

    pub length_early : (size : ℕ) (fault : ChopFault) → StopsAt l i told fault → size ≡ image_length l → TellsLength l size (Err fault)
    length_early size (faults.Length n) stops is = absurd stops
    length_early size (faults.Mismatch k got) stops is = is
    length_early size faults.ImageFault stops is = is
    length_early size faults.StoreFault stops is = is
    length_early size faults.Memory stops is = is

    pub mismatch_early : (fault : ChopFault) → i < count_of l → StopsAt l i told fault → AreRightTo l i told → IsMismatch l told fault
    mismatch_early (faults.Length n) listed stops right = tt
    mismatch_early (faults.Mismatch k got) listed stops right =
        let P : ℕ → Type 0 = λ k. IsMismatch l told (faults.Mismatch k got) in
        subst P (sym stops.0) (listed, stops.1, stops.2, right)
    mismatch_early faults.ImageFault listed stops right = tt
    mismatch_early faults.StoreFault listed stops right = tt
    mismatch_early faults.Memory listed stops right = tt

  -- ---- the slices that are right

  pub right_none : (told : Option (List ℕ)) → AreRightTo l 0 told
  right_none None = tt
  right_none (Some t) = λ i less. absurd (omega arith)

  pub right_more : (told : Option (List ℕ)) (i : ℕ) → IfSome told (λ t. IsRightAt t l i) → AreRightTo l i told → AreRightTo l (i + 1) told
  right_more None i here before = tt
  right_more (Some t) i here before = below_more _ _ before here

  pub right_whole : (told : Option (List ℕ)) (i size : ℕ) → count_of l ≤ i → size ≡ image_length l → IfSome told (λ t. length t ≡ size) → AreRightTo l i told → IfSome told (λ t. IsRight t l)
  right_whole None i size all is sized before = tt
  right_whole (Some t) i size all is sized before = record { size = sized ∙ is; entries = λ j less. before j (omega (arith, less, all)) }

  -- ---- how often each id was asked for

  times_more : (i : ℕ) (q : List ℕ) → i < count_of l → (times_listed l (i + 1) q ≡ times_listed l i q) ⊎ (times_listed l (i + 1) q ≡ times_listed l i q + 1)
  times_more i q less = go (bytes_eq (id_of l i) q) refl where
    go : (b : Bool) → bytes_eq (id_of l i) q ≡ b → (times_listed l (i + 1) q ≡ times_listed l i q) ⊎ (times_listed l (i + 1) q ≡ times_listed l i q + 1)
    go true h = inr (count_by_more_yes (λ (e : ℕ × List ℕ). bytes_eq e.1 q) l.entries i (0, []) less h)
    go false h = inl (count_by_more_no (λ (e : ℕ × List ℕ). bytes_eq e.1 q) l.entries i (0, []) less h)

  times_of : (i : ℕ) → i < count_of l → times_listed l (i + 1) (id_of l i) ≡ times_listed l i (id_of l i) + 1
  times_of i less = count_by_more_yes (λ (e : ℕ × List ℕ). bytes_eq e.1 (id_of l i)) l.entries i (0, []) less ((bytes_eq-Decides (id_of l i) (id_of l i)).1 refl)

  times_rise : (i d : ℕ) (q : List ℕ) → i + d ≤ count_of l → times_listed l i q ≤ times_listed l (i + d) q
  times_rise i zero q inside = let e : i + 0 ≡ i = omega arith in subst (λ (n : ℕ). times_listed l i q ≤ times_listed l n q) (sym e) (omega arith)
  times_rise i (suc d) q inside =
      let e : i + suc d ≡ (i + d) + 1 = omega arith in
      let before = times_rise i d q (omega (arith, inside)) in
      let here : times_listed l i q ≤ times_listed l ((i + d) + 1) q = elim (times_more (i + d) q (omega (arith, inside))) [
        | inl same ↦ omega (arith, before, same)
        | inr more ↦ omega (arith, before, more)
      ] in
      subst (λ (n : ℕ). times_listed l i q ≤ times_listed l n q) (sym e) here

  pub asks_none : (k : ℕ) (first : List ℕ → ℕ) → AsksListed l k first first
  asks_none k first = record { no_less = λ q. omega arith; most = λ q. omega arith }

  pub asks_whole : (i : ℕ) (first now : List ℕ → ℕ) → i ≤ count_of l → AsksListed l i first now → AsksListed l (count_of l) first now
  asks_whole i first now le all = record {
    no_less = all.no_less;
    most = λ q.
        let d = count_of l - i in
        let e : i + d ≡ count_of l = omega (arith, le) in
        let rise = subst (λ (n : ℕ). times_listed l i q ≤ times_listed l n q) e (times_rise i d q (omega (arith, le))) in
        omega (arith, all.most q, rise);
  }

  pub asks_entry : (i : ℕ) (first now new : List ℕ → ℕ) → i < count_of l → AskedOnce now new (id_of l i) → AsksListed l i first now → AsksListed l (i + 1) first new
  asks_entry i first now new less once all = record {
    no_less = λ q. elim (equal_or_not q (id_of l i)) [
      | inl same ↦ let here : first (id_of l i) ≤ new (id_of l i) = omega (arith, once.no_less, all.no_less (id_of l i)) in subst (λ (x : List ℕ). first x ≤ new x) (sym same) here
      | inr other ↦ omega (arith, once.others q other, all.no_less q)
    ];
    most = λ q. elim (equal_or_not q (id_of l i)) [
      | inl same ↦
          let here : new (id_of l i) ≤ first (id_of l i) + times_listed l (i + 1) (id_of l i) = omega (arith, once.this, all.most (id_of l i), times_of i less) in
          subst (λ (x : List ℕ). new x ≤ first x + times_listed l (i + 1) x) (sym same) here
      | inr other ↦ elim (times_more i q less) [
        | inl same ↦ omega (arith, once.others q other, all.most q, same)
        | inr more ↦ omega (arith, once.others q other, all.most q, more)
      ]
    ];
  }

-- nothing was seen to
pub stops_none : {S : Type 0} (store : StoreWords S) (l : Listing) (told : Option (List ℕ)) (first : S) → ChopStops store l told first first
stops_none store l told first = record {
  stops = record {
    entry = 0;
    right = right_none l told;
    holds = holds_none l (store.holds first);
    changed = stands_same l told 1 (store.holds first);
    files = files_same l told (store.holds first) 1 (store.folder first);
  };
  says = λ i less other. absurd (omega arith);
  asks = asks_none l 1 (store.asked first);
}
