-- A read after others, and what both leave as one. `old` is the reader as it was first, `mid` and `new` are it before and
-- after the last read.
use Rattle.std.proofs.Common.{◌≡◌, ℕ, ◌+◌, ◌<◌, ◌++◌, ◌⊎◌, cond, List, sym, ap, subst, ◌∙◌, arith, inl, inr}
use Rattle.std.proofs.lemmas.List.Sums.{sum_by-append}
use Rattle.std.specs.List.{AllZip}
use Rattle.std.specs.Str.{bytes_eq}
use Rattle.caibx_codec.specs.Listing.{Listing, id_of}
use Rattle.chunk_store.specs.Asks.{Ask, Get}
use Rattle.chunk_store.specs.Members.{told_together}
use Rattle.chunk_store.specs.declared.id.DigestKind.{DigestKind}
use Rattle.chunk_store.specs.declared.store.Store.{Ghosts as StoreWords}
use Rattle.dsy_base.specs.Counts.{raised}
use Rattle.store_chain.proofs.Kept.{kept_on as stores_on, kept_weaker}
use Rattle.store_chain.specs.Chains.{KeepsStores}
use Rattle.image_reader.proofs.Got.{shown_still}
use Rattle.image_reader.proofs.Steps.{kept_on, missed_on, misses_on}
use Rattle.image_reader.proofs.Turns.{each_then}
use Rattle.image_reader.specs.Covered.{IsCovered, IsCoveredGet, want_of, wants_to}
use Rattle.image_reader.specs.Keeping.{missed, step}
use Rattle.image_reader.specs.Reading.{AsksWants, IsGot, IsHad, ReaderState, ReadsTo}
use Rattle.image_reader.specs.declared.want.Want.{Want}

pub asks_both : (ws vs : List Want) (old mid new : List ℕ → ℕ) → AsksWants ws old mid → AsksWants vs mid new → AsksWants (ws ++ vs) old new
asks_both ws vs old mid new first then = record {
  no_less = λ q. omega (arith, first.no_less q, then.no_less q);
  most = λ q. (let both = sum_by-append (λ (w : Want). cond (bytes_eq w.id.0 q) 1 0) ws vs in omega (arith, first.most q, then.most q, both));
}

raised_twice : (a m k : ℕ) → raised (raised a m) k ≡ raised a (m + k)
raised_twice a m k = omega arith

module _ {S : Type 0} (store : StoreWords S) (old mid new : ReaderState S) where
  -- what was obtained before is obtained still
  pub had_later : (P : Ask → Type 0) → KeepsStores store P mid.chain.stores new.chain.stores → (w : Want) → IsHad store w old mid → IsHad store w old new
  had_later P keeps w (inl has) = inl has
  had_later P keeps w (inr got) = inr (record {
    bytes = got.bytes;
    chunk = got.chunk;
    shown = shown_still store.said w.id.0 got.bytes mid.chain.stores new.chain.stores keeps.says got.shown;
    held = got.held;
  })

  module _ (at n k : ℕ) (before : ReadsTo store at n k old mid) where
    -- what is obtained of a reader that has read
    pub had_then : (P : Ask → Type 0) → KeepsStores store P mid.chain.stores new.chain.stores → (w : Want) → IsHad store w mid new → IsHad store w old new
    had_then P keeps w (inl has) = had_later P keeps w (before.known w has)
    had_then P keeps w (inr got) =
        let K : DigestKind → Type 0 = λ k. IsGot store k w old.chain.stores new.chain.stores in
        inr (subst K before.kind (record { bytes = got.bytes; chunk = got.chunk; shown = got.shown; held = λ maps told. got.held maps (ap told_together before.stores.members ∙ told) }))

    -- the wants of the first `to` entries are those of the first k, and then those of the other read
    module _ (from m j to : ℕ) (then : ReadsTo store from m j mid new) (grows : wants_to old.index at n to ≡ wants_to old.index at n k ++ wants_to old.index from m j)
        (among : (i : ℕ) → i < to → IsCovered old.index at n i → (i < k) ⊎ ((i < j) × IsCovered old.index from m i)) (inside : (i : ℕ) → IsCovered old.index from m i → IsCovered old.index at n i) where
      abbrev first : List Want
      first = wants_to old.index at n k

      abbrev more : List Want
      more = wants_to old.index from m j

      abbrev between : List Want
      between = (step old.keep old.kept first).kept

      asked_inside : (a : Ask) → IsCoveredGet mid.index from m a → IsCoveredGet old.index at n a
      asked_inside a h =
          let C : Listing → Type 0 = λ l. IsCovered l from m h.entry in
          let A : Listing → Type 0 = λ l. a ≡ Get (id_of l h.entry) in
          record { entry = h.entry; covered = inside h.entry (subst C before.index h.covered); asked = subst A before.index h.asked }

      keeps : KeepsStores store (IsCoveredGet old.index at n) mid.chain.stores new.chain.stores
      keeps = kept_weaker store (IsCoveredGet mid.index from m) (IsCoveredGet old.index at n) asked_inside mid.chain.stores new.chain.stores then.stores

      had_here : (i : ℕ) → i < to → IsCovered old.index at n i → (i < k) ⊎ ((i < j) × IsCovered old.index from m i) → IsHad store (want_of old.index i) old new
      had_here i lt covered (inl less) = had_later (IsCoveredGet old.index at n) keeps (want_of old.index i) (before.had i less covered)
      had_here i lt covered (inr other) =
          let C : Listing → Type 0 = λ l. IsCovered l from m i in
          let H : Listing → Type 0 = λ l. IsHad store (want_of l i) mid new in
          had_then (IsCoveredGet old.index at n) keeps (want_of old.index i) (subst H before.index (then.had i other.0 (subst C (sym before.index) other.1)))

      pub reads_follow : ReadsTo store at n to old new
      reads_follow =
          let kept_is : new.kept ≡ (step old.keep between more).kept = then.kept ∙ (λ i. (step (before.keep i) (before.kept i) (wants_to (before.index i) from m j)).kept) in
          let asks_are : new.chain.asks ≡ raised (raised old.chain.asks (step old.keep old.kept first).misses) (step old.keep between more).misses =
          then.asks ∙ (λ i. raised (before.asks i) (step (before.keep i) (before.kept i) (wants_to (before.index i) from m j)).misses) in
          let M : List Want → Type 0 = λ us. AllZip (λ a b. AsksWants us (store.asked a) (store.asked b)) mid.chain.stores new.chain.stores in
          let U : List Want → Type 0 = λ us. AllZip (λ a b. AsksWants us (store.asked a) (store.asked b)) old.chain.stores new.chain.stores in
          let missed_then : missed mid.keep mid.kept (wants_to mid.index from m j) ≡ missed old.keep between more = λ i. missed (before.keep i) (before.kept i) (wants_to (before.index i) from m j) in
          let missed_all : missed old.keep old.kept first ++ missed old.keep between more ≡ missed old.keep old.kept (wants_to old.index at n to) =
          sym (missed_on old.keep old.kept first more) ∙ ap (missed old.keep old.kept) (sym grows) in
          record {
            kept = kept_is ∙ (sym (kept_on old.keep old.kept first more) ∙ ap (λ ws. (step old.keep old.kept ws).kept) (sym grows));
            asks = asks_are ∙ (raised_twice old.chain.asks (step old.keep old.kept first).misses (step old.keep between more).misses
                ∙ ap (raised old.chain.asks) (sym (misses_on old.keep old.kept first more) ∙ ap (λ ws. (step old.keep old.kept ws).misses) (sym grows)));
            had = λ i lt covered. had_here i lt covered (among i lt covered);
            known = λ w has. had_then (IsCoveredGet old.index at n) keeps w (then.known w has);
            stores = stores_on store (IsCoveredGet old.index at n) old.chain.stores mid.chain.stores new.chain.stores before.stores keeps;
            times = subst U missed_all (each_then (λ a b. AsksWants (missed old.keep old.kept first) (store.asked a) (store.asked b)) (λ a b. AsksWants (missed old.keep between more) (store.asked a) (store.asked b))
                (λ a b. AsksWants (missed old.keep old.kept first ++ missed old.keep between more) (store.asked a) (store.asked b))
                (λ a b c h g. asks_both (missed old.keep old.kept first) (missed old.keep between more) (store.asked a) (store.asked b) (store.asked c) h g)
                old.chain.stores mid.chain.stores new.chain.stores before.times (subst M missed_then then.times));
            queries = then.queries ∙ before.queries;
            kind = then.kind ∙ before.kind;
            index = then.index ∙ before.index;
            keep = then.keep ∙ before.keep;
          }
