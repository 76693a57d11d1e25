-- Where the chunks of settled entries came from, from one want to the next.
use Rattle.std.proofs.Common.{◌≡◌, ◌++◌, Some, ℕ, ◌<◌, Bool, List, length, Option, true, false, refl, sym, ◌∙◌, subst, inl, inr, arith, ap}
use Rattle.std.proofs.lemmas.Bool.{cases_Bool}
use Rattle.assembler.proofs.Others.{given_gave, given_told}
use Rattle.assembler.proofs.Stocking.{gave_by}
use Rattle.chunk_sources.proofs.SeedAnswers.{telling_on}
use Rattle.chunk_sources.specs.Caches.{Stocked, TakesWants, given_maps}
use Rattle.chunk_sources.specs.Losses.{Had}
use Rattle.chunk_sources.specs.Sources.{Sources, views_of}
use Rattle.chunk_sources.specs.Wants.{IsAmong, Task, want_chunk}
use Rattle.chunk_store.specs.declared.store.Store.{Ghosts as StoreWords}
use Rattle.chunk_store.specs.Members.{maps_of, told_together}
use Rattle.assembler.proofs.Entries.{among, among_of, listed_of}
use Rattle.assembler.specs.Passes.{HadAll, HadAt, want_at}
use Rattle.assembler.specs.Permits.{MayFillHad}
use Rattle.assembler.specs.Settling.{Settles}
use Rattle.assembler.specs.Stages.{Stage, Stretch, from}
use Rattle.caibx_codec.specs.Listing.{count_of, kind_of}
use Rattle.dsy_base.specs.Bytes.{Held}
use Rattle.dsy_base.specs.Maps.{Map}
use Rattle.dsy_base.specs.declared.view.View.{Ghosts as ViewWords}
use Rattle.extract_plan.specs.Deal.{AreWants, of_want}
use Rattle.range_survey.specs.Fates.{settled}
use Rattle.range_survey.specs.declared.fate.Fate.{Fate}

module _ (t : Task) (wants : AreWants t.listing t.plan.wants t.plan.want_of) where
  -- an entry that was settled before is its own source
  pub had_none : (m : List Fate) (views : List (Option Held)) (maps : List (Map (List ℕ))) (i : ℕ) → i < count_of t.listing → settled m i ≡ true → HadAt t m views maps i
  had_none m views maps i inside is =
      let size : length t.plan.want_of ≡ count_of t.listing = wants.size in
      inl (i, among t.plan (want_at t.plan i) i (omega arith) refl, is)

  -- what is known of an entry of a want is known of the want
  pub had_want : (m : List Fate) (views : List (Option Held)) (maps : List (Map (List ℕ))) (w i : ℕ) → IsAmong (of_want t.plan w) i
      → HadAt t m views maps i → Had m (want_chunk t w) views maps
  had_want m views maps w i one had = subst (λ v. Had m (want_chunk t v) views maps) (among_of t.plan w i one).1 had

  pub had_entry : (m : List Fate) (views : List (Option Held)) (maps : List (Map (List ℕ))) (w i : ℕ) → IsAmong (of_want t.plan w) i
      → Had m (want_chunk t w) views maps → HadAt t m views maps i
  had_entry m views maps w i one had = subst (λ v. Had m (want_chunk t v) views maps) (sym (among_of t.plan w i one).1) had

  module _ (m now new : List Fate) (views : List (Option Held)) (maps : List (Map (List ℕ))) (w : ℕ)
      (before : (i : ℕ) → i < count_of t.listing → settled now i ≡ true → HadAt t m views maps i) where
    -- what its call got
    had_by : Had now (want_chunk t w) views maps → Had m (want_chunk t w) views maps
    had_by (inl (j, other, settled_now)) = had_want m views maps w j other (before j (listed_of t.listing t.plan w j wants other) settled_now)
    had_by (inr source) = inr source

    had_on : ((i : ℕ) → settled now i ≡ false → settled new i ≡ true → IsAmong (of_want t.plan w) i)
        → ((i : ℕ) → settled now i ≡ false → settled new i ≡ true → Had now (want_chunk t w) views maps)
        → (i : ℕ) → i < count_of t.listing → settled new i ≡ true → HadAt t m views maps i
    had_on only had i inside is = elim (cases_Bool (settled now i)) [
      | inl was ↦ before i inside was
      | inr wasnt ↦ had_entry m views maps w i (only i wasnt is) (had_by (had i wasnt is))
    ]

  -- over a second pass: what it took from entries that were settled by then, these had from before
  pub had_through : (m0 m1 : List Fate) (views : List (Option Held)) (maps : List (Map (List ℕ))) (i : ℕ) → i < count_of t.listing
      → ((j : ℕ) → j < count_of t.listing → settled m1 j ≡ true → HadAt t m0 views maps j) → HadAt t m1 views maps i → HadAt t m0 views maps i
  had_through m0 m1 views maps i inside before had = had_by m0 m1 m1 views maps (want_at t.plan i) before had

  module _ {S V : Type 0} (store : StoreWords S) (view : ViewWords V) where
    pub had_all_none : (a : Stage S V) → HadAll store view t a a.fates
    had_all_none a = λ told cached maps has are i inside is. had_none a.fates (views_of view a.kit.seeds.items) (cached ++ maps) i inside is

    -- what was obtained from the cache as it was then was obtained from it as it was at first, or from a store
    pub had_from : (A : ℕ → Type 0) (old new : Sources S V) → views_of view new.seeds ≡ views_of view old.seeds
        → Stocked (TakesWants store t.listing t.plan A old.chain.stores) old.cache new.cache → (was now maps : List (Map (List ℕ))) → given_maps old.cache ≡ Some was
        → given_maps new.cache ≡ Some now → maps_of store.members old.chain.stores ≡ Some maps → (m : List Fate) (w : ℕ)
        → Had m (want_chunk t w) (views_of view new.seeds) (now ++ maps) → Had m (want_chunk t w) (views_of view old.seeds) (was ++ maps)
    had_from A old new seeds stocked was now maps told tells held m w (inl settled_then) = inl settled_then
    had_from A old new seeds stocked was now maps told tells held m w (inr (inl seed)) = subst (λ v. Had m (want_chunk t w) v (was ++ maps)) seeds (inr (inl seed))
    had_from A old new seeds stocked was now maps told tells held m w (inr (inr gives)) =
        let q = want_chunk t w in
        inr (inr (gave_by store t.listing t.plan A old.chain.stores was now maps held q.id q.size
        (given_gave (TakesWants store t.listing t.plan A old.chain.stores) (kind_of t.listing) q.id q.size old.cache new.cache was now stocked told tells) gives))

    -- what may be filled over a stage may be filled later
    pub permits_on : (A Among : ℕ → Type 0) (may : ℕ → Bool) (a b : Stage S V) → Stretch store view t A a b → HadAll store view t a b.fates
        → MayFillHad store view t may a Among → MayFillHad store view t may b Among
    permits_on A Among may a b over before permits w less among has = permits w less among (λ told cached maps tells are.
        let later = given_told (TakesWants store t.listing t.plan A a.kit.chain.stores) a.cache b.cache cached over.stocked tells in
        had_by a.fates b.fates b.fates (views_of view a.kit.seeds.items) (cached ++ maps) w (before told cached maps tells are)
        (had_from A (from a) (from b) over.step.seeds.held over.stocked cached later.0 maps tells later.1 are b.fates w
        (has (telling_on view.tells (views_of view a.kit.seeds.items) (views_of view b.kit.seeds.items) over.step.seeds.held told) later.0 maps later.1
        (ap told_together over.step.stores.members ∙ are))))

    -- after one more want
    pub had_more : (A : ℕ → Type 0) (a b c : Stage S V) (w : ℕ) → Stretch store view t A a b → Settles store view t w b c
        → HadAll store view t a b.fates → HadAll store view t a c.fates
    had_more A a b c w over by before = λ told cached maps has are.
        let later = given_told (TakesWants store t.listing t.plan A a.kit.chain.stores) a.cache b.cache cached over.stocked has in
        had_on a.fates b.fates c.fates (views_of view a.kit.seeds.items) (cached ++ maps) w (before told cached maps has are) by.only
        (λ i isnt is. had_from A (from a) (from b) over.step.seeds.held over.stocked cached later.0 maps has later.1 are b.fates w
        (by.had (telling_on view.tells (views_of view a.kit.seeds.items) (views_of view b.kit.seeds.items) over.step.seeds.held told) later.0 maps later.1
        (ap told_together over.step.stores.members ∙ are) i isnt is))
