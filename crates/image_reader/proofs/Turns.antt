-- How a range is read on by one entry. `old` is the reader as it was first, `mid` and `new` are it before and after the
-- entry.
use Rattle.std.proofs.Common.{◌≡◌, ℕ, ◌+◌, ◌^◌, ◌<◌, ◌≤◌, ◌++◌, ◌⊎◌, Bool, true, false, cond, List, [], ◌∷◌, map, take, refl, sym, ap, subst, ◌∙◌, arith, inl, inr}
use Rattle.std.proofs.lemmas.Bool.{cases_lt}
use Rattle.std.proofs.lemmas.List.{append-nil}
use Rattle.std.proofs.lemmas.List.Sums.{sum_by_push}
use Rattle.std.proofs.lemmas.Slice.Eq.{bytes_eq-Decides}
use Rattle.std.specs.List.{AllZip, count_by}
use Rattle.std.specs.Str.{bytes_eq}
use Rattle.caibx_codec.specs.Listing.{count_of}
use Rattle.chunk_store.specs.Asks.{Ask, Get}
use Rattle.chunk_store.specs.Members.{told_together}
use Rattle.chunk_store.specs.Said.{AskedOnce}
use Rattle.chunk_store.specs.declared.id.DigestKind.{DigestKind}
use Rattle.chunk_store.specs.declared.store.Store.{Ghosts as StoreWords}
use Rattle.dsy_base.specs.Counts.{raised}
use Rattle.store_chain.proofs.Kept.{kept_on, kept_still, kept_weaker}
use Rattle.store_chain.proofs.Pairs.{all_zip_same}
use Rattle.store_chain.specs.Chains.{Chained, KeepsStores}
use Rattle.image_reader.proofs.Covering.{wants_taken}
use Rattle.image_reader.proofs.Got.{has_first, has_take, has_without, shown_still}
use Rattle.image_reader.proofs.Steps.{missed_push, step_push}
use Rattle.image_reader.specs.Covered.{IsCovered, IsCoveredGet, want_of, wants_to}
use Rattle.image_reader.specs.Keeping.{Stepped, has_want, missed, step, turn, without_want}
use Rattle.image_reader.specs.Reading.{AsksWants, HitsWant, IsGot, IsHad, MissesWant, ReaderState, ReadsTo}
use Rattle.image_reader.specs.declared.want.Want.{Want}

-- ---- how often an id was asked for

asks_none : (asked : List ℕ → ℕ) → AsksWants [] asked asked
asks_none asked = record { no_less = λ q. omega arith; most = λ q. omega arith }

count_push : (p : Want → Bool) (ws : List Want) (w : Want) (b : Bool) → p w ≡ b → count_by p (ws ++ w ∷ []) ≡ count_by p ws + cond b 1 0
count_push p ws w b h = sum_by_push (λ x. cond (p x) 1 0) ws w ∙ ap (λ c. count_by p ws + cond c 1 0) h

pub asks_once_more : (ws : List Want) (w : Want) (old mid new : List ℕ → ℕ) → AsksWants ws old mid → AskedOnce mid new w.id.0 → AsksWants (ws ++ w ∷ []) old new
asks_once_more ws w old mid new h one = record {
  no_less = λ q. by_id q (bytes_eq w.id.0 q) refl;
  most = λ q. most_by q (bytes_eq w.id.0 q) refl;
} where
  by_id : (q : List ℕ) (b : Bool) → bytes_eq w.id.0 q ≡ b → old q ≤ new q
  by_id q true s =
      let is : w.id.0 ≡ q = (bytes_eq-Decides w.id.0 q).0 s in
      let P : List ℕ → Type 0 = λ x. mid x ≤ new x in
      omega (arith, subst P is one.no_less, h.no_less q)
  by_id q false s =
      let other : new q ≡ mid q = one.others q (λ is. (let both : true ≡ false = sym ((bytes_eq-Decides w.id.0 q).1 (sym is)) ∙ s in absurd (cc))) in
      omega (arith, h.no_less q)

  most_by : (q : List ℕ) (b : Bool) → bytes_eq w.id.0 q ≡ b → new q ≤ old q + count_by (λ x. bytes_eq x.id.0 q) (ws ++ w ∷ [])
  most_by q true s =
      let is : w.id.0 ≡ q = (bytes_eq-Decides w.id.0 q).0 s in
      let P : List ℕ → Type 0 = λ x. new x ≤ mid x + 1 in
      let more = count_push (λ x. bytes_eq x.id.0 q) ws w true s in
      omega (arith, subst P is one.this, h.most q, more)
  most_by q false s =
      let other : new q ≡ mid q = one.others q (λ is. (let both : true ≡ false = sym ((bytes_eq-Decides w.id.0 q).1 (sym is)) ∙ s in absurd (cc))) in
      let more = count_push (λ x. bytes_eq x.id.0 q) ws w false s in
      omega (arith, h.most q, more)

-- three lists of stores
pub each_then : {A : Type 0} (P Q R : A → A → Type 0) → ((a b c : A) → P a b → Q b c → R a c) → (xs ys zs : List A) → AllZip P xs ys → AllZip Q ys zs → AllZip R xs zs
each_then P Q R go [] [] [] first then = tt
each_then P Q R go [] [] (z ∷ zs) first then = absurd then
each_then P Q R go [] (y ∷ ys) zs first then = absurd first
each_then P Q R go (x ∷ xs) [] zs first then = absurd first
each_then P Q R go (x ∷ xs) (y ∷ ys) [] first then = absurd then
each_then P Q R go (x ∷ xs) (y ∷ ys) (z ∷ zs) first then = (go x y z first.0 then.0, each_then P Q R go xs ys zs first.1 then.1)

raised_once : (a m : ℕ) → raised (raised a m) 1 ≡ raised a (m + 1)
raised_once a m = omega arith

-- ---- the reader

module _ {S : Type 0} (store : StoreWords S) (at n : ℕ) where
  -- nothing was read yet
  pub reads_none : (k : ℕ) (old : ReaderState S) → wants_to old.index at n k ≡ [] → old.chain.asks < 2 ^ 64 → ((i : ℕ) → i < k → IsCovered old.index at n i → ⊥) → ReadsTo store at n k old old
  reads_none k old none below uncovered =
      let P : List Want → Type 0 = λ ws. AllZip (λ a b. AsksWants (missed old.keep old.kept ws) (store.asked a) (store.asked b)) old.chain.stores old.chain.stores in
      let once : raised old.chain.asks 0 ≡ old.chain.asks = omega arith in
      record {
        kept = sym (ap (λ ws. (step old.keep old.kept ws).kept) none);
        asks = sym (ap (λ ws. raised old.chain.asks (step old.keep old.kept ws).misses) none ∙ once);
        had = λ i lt covered. absurd (uncovered i lt covered);
        known = λ w has. inl has;
        stores = kept_still store (IsCoveredGet old.index at n) old.chain.stores;
        times = subst P (sym none) (all_zip_same (λ a b. AsksWants [] (store.asked a) (store.asked b)) (λ s. asks_none (store.asked s)) old.chain.stores);
        queries = refl;
        kind = refl;
        index = refl;
        keep = refl;
      }

  module _ (i : ℕ) (old mid new : ReaderState S) (before : ReadsTo store at n i old mid) (covered : IsCovered old.index at n i) where
    -- what the wants lead to
    turned : step old.keep old.kept (wants_to old.index at n (i + 1)) ≡ turn old.keep (step old.keep old.kept (wants_to old.index at n i)) (want_of old.index i)
    turned = ap (step old.keep old.kept) (wants_taken old.index at n i covered) ∙ step_push old.keep old.kept (wants_to old.index at n i) (want_of old.index i)

    turned_by : (b : Bool) → has_want mid.kept (want_of old.index i) ≡ b → turn old.keep (step old.keep old.kept (wants_to old.index at n i)) (want_of old.index i)
        ≡ cond b (record { kept = want_of old.index i ∷ without_want (want_of old.index i) mid.kept; misses = (step old.keep old.kept (wants_to old.index at n i)).misses })
        (record { kept = take old.keep (want_of old.index i ∷ mid.kept); misses = (step old.keep old.kept (wants_to old.index at n i)).misses + 1 })
    turned_by b h =
        let m = (step old.keep old.kept (wants_to old.index at n i)).misses in
        let v = want_of old.index i in
        let here : List Want → Bool → Stepped = λ ks c. cond c (record { kept = v ∷ without_want v ks; misses = m }) (record { kept = take old.keep (v ∷ ks); misses = m + 1 }) in
        ap (λ ks. here ks (has_want ks v)) (sym before.kept) ∙ ap (here mid.kept) h

    -- those that were missed
    missed_by : (b : Bool) → has_want mid.kept (want_of old.index i) ≡ b → missed old.keep old.kept (wants_to old.index at n (i + 1)) ≡ missed old.keep old.kept (wants_to old.index at n i) ++ cond b [] (want_of old.index i ∷ [])
    missed_by b h = ap (missed old.keep old.kept) (wants_taken old.index at n i covered)
        ∙ missed_push old.keep old.kept (wants_to old.index at n i) (want_of old.index i) b (sym (ap (λ ks. has_want ks (want_of old.index i)) before.kept) ∙ h)

    -- ---- it was kept
    module _ (hit : HitsWant store (want_of old.index i) mid new) where
      same_chain : new.chain ≡ mid.chain
      same_chain = ap (λ (r : ReaderState S). r.chain) hit.now_is

      had_hit : (v : Want) → IsHad store v old mid → IsHad store v old new
      had_hit v h =
          let P : Chained S → Type 0 = λ c. (has_want old.kept v ≡ true) ⊎ IsGot store old.chain.kind v old.chain.stores c.stores in
          subst P (sym same_chain) h

      pub reads_hit : ReadsTo store at n (i + 1) old new
      reads_hit =
          let v = want_of old.index i in
          let all = turned ∙ turned_by true hit.had in
          let here : IsHad store v old mid = before.known v hit.had in
          let kept_is : new.kept ≡ v ∷ without_want v mid.kept = ap (λ (r : ReaderState S). r.kept) hit.now_is in
          let T : Chained S → Type 0 = λ c. AllZip (λ a b. AsksWants (missed old.keep old.kept (wants_to old.index at n (i + 1))) (store.asked a) (store.asked b)) old.chain.stores c.stores in
          let U : List Want → Type 0 = λ us. AllZip (λ a b. AsksWants us (store.asked a) (store.asked b)) old.chain.stores mid.chain.stores in
          let K : Chained S → Type 0 = λ c. KeepsStores store (IsCoveredGet old.index at n) old.chain.stores c.stores in
          record {
            kept = kept_is ∙ sym (ap (λ (x : Stepped). x.kept) all);
            asks = ap (λ (c : Chained S). c.asks) same_chain ∙ (before.asks ∙ sym (ap (λ (x : Stepped). raised old.chain.asks x.misses) all));
            had = λ j lt c. had_by j (cases_lt j i) lt c;
            known = λ u has. known_by u (has_first v (without_want v mid.kept) u (sym (ap (λ ks. has_want ks u) kept_is) ∙ has));
            stores = subst K (sym same_chain) before.stores;
            times = subst T (sym same_chain) (subst U (sym (missed_by true hit.had ∙ append-nil (missed old.keep old.kept (wants_to old.index at n i)))) before.times);
            queries = ap (λ (c : Chained S). map store.queried c.stores) same_chain ∙ before.queries;
            kind = ap (λ (c : Chained S). c.kind) same_chain ∙ before.kind;
            index = ap (λ (r : ReaderState S). r.index) hit.now_is ∙ before.index;
            keep = ap (λ (r : ReaderState S). r.keep) hit.now_is ∙ before.keep;
          }
        where
          had_by : (j : ℕ) → (j < i) ⊎ (i ≤ j) → j < i + 1 → IsCovered old.index at n j → IsHad store (want_of old.index j) old new
          had_by j (inl less) lt c = had_hit (want_of old.index j) (before.had j less c)
          had_by j (inr ge) lt c =
              let one : i ≡ j = omega arith in
              let P : ℕ → Type 0 = λ k. IsHad store (want_of old.index k) old new in
              subst P one (had_hit (want_of old.index i) (before.known (want_of old.index i) hit.had))

          known_by : (u : Want) → (want_of old.index i ≡ u) ⊎ (has_want (without_want (want_of old.index i) mid.kept) u ≡ true) → IsHad store u old new
          known_by u (inl is) = let P : Want → Type 0 = λ x. IsHad store x old new in subst P is (had_hit (want_of old.index i) (before.known (want_of old.index i) hit.had))
          known_by u (inr has) = had_hit u (before.known u (has_without (want_of old.index i) mid.kept u has))

    -- ---- it wasn't, and was asked for
    module _ (miss : MissesWant store (want_of old.index i) mid new) where
      had_miss : (v : Want) → IsHad store v old mid → IsHad store v old new
      had_miss v (inl has) = inl has
      had_miss v (inr got) = inr (record {
        bytes = got.bytes;
        chunk = got.chunk;
        shown = shown_still store.said v.id.0 got.bytes mid.chain.stores new.chain.stores miss.stores.says got.shown;
        held = got.held;
      })

      had_now : IsHad store (want_of old.index i) old new
      had_now =
          let got = miss.got in
          let P : DigestKind → Type 0 = λ k. IsGot store k (want_of old.index i) old.chain.stores new.chain.stores in
          inr (subst P before.kind (record {
            bytes = got.bytes;
            chunk = got.chunk;
            shown = got.shown;
            held = λ maps told. got.held maps (ap told_together before.stores.members ∙ told);
          }))

      pub reads_miss : ReadsTo store at n (i + 1) old new
      reads_miss =
          let v = want_of old.index i in
          let all = turned ∙ turned_by false miss.lacked in
          let kept_is : new.kept ≡ take old.keep (v ∷ mid.kept) = miss.kept ∙ ap (λ k. take k (v ∷ mid.kept)) before.keep in
          let U : List Want → Type 0 = λ us. AllZip (λ a b. AsksWants us (store.asked a) (store.asked b)) old.chain.stores new.chain.stores in
          let get : (a : Ask) → a ≡ Get v.id.0 → IsCoveredGet old.index at n a = λ a h. record { entry = i; covered = covered; asked = h } in
          record {
            kept = kept_is ∙ sym (ap (λ (x : Stepped). x.kept) all);
            asks = miss.asked.calls ∙ (ap (λ k. raised k 1) before.asks ∙ (raised_once old.chain.asks (step old.keep old.kept (wants_to old.index at n i)).misses ∙ sym (ap (λ (x : Stepped). raised old.chain.asks x.misses) all)));
            had = λ j lt c. had_by j (cases_lt j i) lt c;
            known = λ u has. known_by u (has_first v mid.kept u (has_take old.keep (v ∷ mid.kept) u (sym (ap (λ ks. has_want ks u) kept_is) ∙ has)));
            stores = kept_on store (IsCoveredGet old.index at n) old.chain.stores mid.chain.stores new.chain.stores before.stores
                (kept_weaker store (λ a. a ≡ Get v.id.0) (IsCoveredGet old.index at n) get mid.chain.stores new.chain.stores miss.stores);
            times = subst U (sym (missed_by false miss.lacked)) (each_then (λ a b. AsksWants (missed old.keep old.kept (wants_to old.index at n i)) (store.asked a) (store.asked b)) (λ a b. AskedOnce (store.asked a) (store.asked b) v.id.0)
                (λ a b. AsksWants (missed old.keep old.kept (wants_to old.index at n i) ++ v ∷ []) (store.asked a) (store.asked b)) (λ a b c h g. asks_once_more (missed old.keep old.kept (wants_to old.index at n i)) v (store.asked a) (store.asked b) (store.asked c) h g)
                old.chain.stores mid.chain.stores new.chain.stores before.times miss.asked.stores);
            queries = miss.asked.queries ∙ before.queries;
            kind = miss.asked.kind ∙ before.kind;
            index = miss.index ∙ before.index;
            keep = miss.keep ∙ before.keep;
          }
        where
          had_by : (j : ℕ) → (j < i) ⊎ (i ≤ j) → j < i + 1 → IsCovered old.index at n j → IsHad store (want_of old.index j) old new
          had_by j (inl less) lt c = had_miss (want_of old.index j) (before.had j less c)
          had_by j (inr ge) lt c =
              let one : i ≡ j = omega arith in
              let P : ℕ → Type 0 = λ k. IsHad store (want_of old.index k) old new in
              subst P one had_now

          known_by : (u : Want) → (want_of old.index i ≡ u) ⊎ (has_want mid.kept u ≡ true) → IsHad store u old new
          known_by u (inl is) = let P : Want → Type 0 = λ x. IsHad store x old new in subst P is had_now
          known_by u (inr has) = had_miss u (before.known u has)

  -- the covered entries of all are those of the first k
  pub reads_all : (k : ℕ) (old new : ReaderState S) → wants_to old.index at n (count_of old.index) ≡ wants_to old.index at n k → ((i : ℕ) → IsCovered old.index at n i → i < k) → ReadsTo store at n k old new → ReadsTo store at n (count_of old.index) old new
  reads_all k old new same inside reads =
      let K : List Want → Type 0 = λ ws. new.kept ≡ (step old.keep old.kept ws).kept in
      let A : List Want → Type 0 = λ ws. new.chain.asks ≡ raised old.chain.asks (step old.keep old.kept ws).misses in
      let T : List Want → Type 0 = λ ws. AllZip (λ a b. AsksWants (missed old.keep old.kept ws) (store.asked a) (store.asked b)) old.chain.stores new.chain.stores in
      record {
        kept = subst K (sym same) reads.kept;
        asks = subst A (sym same) reads.asks;
        had = λ i lt c. reads.had i (inside i c) c;
        known = reads.known;
        stores = reads.stores;
        times = subst T (sym same) reads.times;
        queries = reads.queries;
        kind = reads.kind;
        index = reads.index;
        keep = reads.keep;
      }
