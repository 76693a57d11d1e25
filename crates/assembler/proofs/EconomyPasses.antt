-- Both passes together: the second asks once more for each want that has no source, and for no other.
use Rattle.std.proofs.Common.{◌≡◌, ◌⊎◌, ◌++◌, ℕ, ◌+◌, ◌<◌, List, Bool, Option, true, false, refl, sym, ap, subst, ◌∙◌, inl, inr, arith}
use Rattle.std.proofs.lemmas.Bool.{cases_Bool}
use Rattle.assembler.proofs.EconomySources.{had_source, source_kept, source_open}
use Rattle.assembler.proofs.EconomySums.{raised_on, sum_both}
use Rattle.assembler.proofs.Tallies.{tallied_on}
use Rattle.assembler.proofs.Entries.{among_of, first_among, listed_of}
use Rattle.assembler.proofs.HadOn.{had_want}
use Rattle.assembler.specs.Economy.{AssembledBy, PassedBy}
use Rattle.assembler.specs.Passes.{HadAt, want_at}
use Rattle.range_survey.specs.Reports.{one_if, tally}
use Rattle.caibx_codec.specs.Listing.{count_of, kind_of, size_of}
use Rattle.chunk_sources.specs.Economy.{all_asks, pass_asks, source_over, stores_give, sum_below}
use Rattle.chunk_sources.specs.Wants.{IsAmong, Task}
use Rattle.dsy_base.specs.Bytes.{Held}
use Rattle.dsy_base.specs.Counts.{raised}
use Rattle.dsy_base.specs.Maps.{Map}
use Rattle.extract_plan.specs.Deal.{first_of, of_want, want_id, AreWants}
use Rattle.range_survey.specs.Fates.{settled}
use Rattle.range_survey.specs.declared.fate.Fate.{Fate}
use Rattle.range_survey.specs.declared.fate.Fate.TheVariants as fate
use Rattle.store_chain.specs.Chains.{Chained}

-- ---- one want, with the source s before the first pass and t before the second

-- it has none before both, or one and is settled then
abbrev Again : Fate → Fate → Type 0
Again s t = ((s ≡ fate.Open) × (t ≡ fate.Open)) ⊎ ((s ≡ fate.Open → ⊥) × (t ≡ fate.Kept))

asks_once : (s : Fate) → (s ≡ fate.Open → ⊥) → pass_asks s ≡ all_asks s
asks_once fate.Open some = absurd (some refl)
asks_once fate.Kept some = refl
asks_once fate.Copied some = refl
asks_once fate.Seeded some = refl
asks_once fate.Cached some = refl
asks_once fate.Fetched some = refl

asks_again : (s t : Fate) → Again s t → pass_asks s + pass_asks t ≡ all_asks s
asks_again s t (inl (none, still)) = omega (arith, ap pass_asks none, ap pass_asks still, ap all_asks none)
asks_again s t (inr (some, kept)) = omega (arith, asks_once s some, ap pass_asks kept)

seeds_again : (s t : Fate) → Again s t → one_if fate.Seeded s + one_if fate.Seeded t ≡ one_if fate.Seeded s
seeds_again s t (inl (none, still)) = omega (arith, ap (one_if fate.Seeded) still)
seeds_again s t (inr (some, kept)) = omega (arith, ap (one_if fate.Seeded) kept)

cache_again : (s t : Fate) → Again s t → one_if fate.Cached s + one_if fate.Cached t ≡ one_if fate.Cached s
cache_again s t (inl (none, still)) = omega (arith, ap (one_if fate.Cached) still)
cache_again s t (inr (some, kept)) = omega (arith, ap (one_if fate.Cached) kept)

stores_again : (s t : Fate) → Again s t → one_if fate.Fetched s + one_if fate.Fetched t ≡ one_if fate.Fetched s
stores_again s t (inl (none, still)) = omega (arith, ap (one_if fate.Fetched) still)
stores_again s t (inr (some, kept)) = omega (arith, ap (one_if fate.Fetched) kept)

-- ---- all wants

both_passes : {S : Type 0} (s t : ℕ → Fate) (wants n : ℕ) (m0 m1 m2 : List Fate) (c0 c1 c2 : Chained S) → ((w : ℕ) → w < wants → Again (s w) (t w))
    → PassedBy s wants n m0 m1 c0 c1 → PassedBy t wants n m1 m2 c1 c2 → AssembledBy s wants n m0 m2 c0 c2
both_passes s t wants n m0 m1 m2 c0 c1 c2 again first next =
    let both = tallied_on (sum_below (λ w. one_if fate.Seeded (s w)) wants) (sum_below (λ w. one_if fate.Cached (s w)) wants) (sum_below (λ w. one_if fate.Fetched (s w)) wants)
    (sum_below (λ w. one_if fate.Seeded (t w)) wants) (sum_below (λ w. one_if fate.Cached (t w)) wants) (sum_below (λ w. one_if fate.Fetched (t w)) wants) n m0 m1 m2 first.tallied next.tallied in
    record {
      calls = next.calls ∙ ap (λ k. raised k (sum_below (λ w. pass_asks (t w)) wants)) first.calls
          ∙ raised_on c0.asks (sum_below (λ w. pass_asks (s w)) wants) (sum_below (λ w. pass_asks (t w)) wants)
          ∙ ap (raised c0.asks) (sum_both (λ w. pass_asks (s w)) (λ w. pass_asks (t w)) (λ w. all_asks (s w)) wants (λ w less. asks_again (s w) (t w) (again w less)));
      tallied = record {
        from_seeds = both.from_seeds ∙ ap (λ k. tally fate.Seeded m0 n + k)
            (sum_both (λ w. one_if fate.Seeded (s w)) (λ w. one_if fate.Seeded (t w)) (λ w. one_if fate.Seeded (s w)) wants (λ w less. seeds_again (s w) (t w) (again w less)));
        from_cache = both.from_cache ∙ ap (λ k. tally fate.Cached m0 n + k)
            (sum_both (λ w. one_if fate.Cached (s w)) (λ w. one_if fate.Cached (t w)) (λ w. one_if fate.Cached (s w)) wants (λ w less. cache_again (s w) (t w) (again w less)));
        from_stores = both.from_stores ∙ ap (λ k. tally fate.Fetched m0 n + k)
            (sum_both (λ w. one_if fate.Fetched (s w)) (λ w. one_if fate.Fetched (t w)) (λ w. one_if fate.Fetched (s w)) wants (λ w less. stores_again (s w) (t w) (again w less)));
      };
    }

-- the cache gave `cached` before the first pass and `now` before the second: nothing that neither it nor a store gave
module _ (t : Task) (wants : AreWants t.listing t.plan.wants t.plan.want_of) (m n : List Fate) (views : List (Option Held)) (cached now maps : List (Map (List ℕ)))
    (had : (i : ℕ) → i < count_of t.listing → settled n i ≡ true → HadAt t m views (cached ++ maps) i)
    (left : (i : ℕ) → i < count_of t.listing → settled n i ≡ false → source_over t (settled m) views cached maps (want_at t.plan i) ≡ fate.Open) where
  abbrev Give : ℕ → List (Map (List ℕ)) → Bool
  Give w stores = stores_give (kind_of t.listing) (want_id t.listing t.plan w) (size_of t.listing (first_of t.plan w)) stores

  abbrev Before : ℕ → Fate
  Before w = source_over t (settled m) views cached maps w

  -- a want of which an entry was settled had a source
  had_one : (w i : ℕ) → IsAmong (of_want t.plan w) i → settled n i ≡ true → Before w ≡ fate.Open → ⊥
  had_one w i among is none =
      had_source t views maps w cached m (had_want t wants m views (cached ++ maps) w i among (had i (listed_of t.listing t.plan w i wants among) is)) none

  source_again : (w : ℕ) → w < t.plan.wants → (Give w now ≡ true → (Give w cached ≡ true) ⊎ (Give w maps ≡ true))
      → Again (Before w) (source_over t (settled n) views now maps w)
  source_again w below gave =
      let i = first_of t.plan w in
      let first = first_among t.listing t.plan w wants below in
      let at : want_at t.plan i ≡ w = (among_of t.plan w i first).1 in
      elim (cases_Bool (settled n i)) [
        | inl is ↦ inr (had_one w i first is, source_kept t views maps w now (settled n) i first is)
        | inr isnt ↦
            let none : Before w ≡ fate.Open = ap (source_over t (settled m) views cached maps) (sym at) ∙ left i (listed_of t.listing t.plan w i wants first) isnt in
            inl (
              none,
              source_open t views maps w cached now (settled m) (settled n) none (λ j among. elim (cases_Bool (settled n j)) [
                | inl is ↦ absurd (had_one w j among is none)
                | inr still ↦ still
              ]) gave,
            )
      ]

  pub passes_by : {S : Type 0} (o : List Fate) (after : List (Option Held)) (c0 c1 c2 : Chained S) → after ≡ views
      → ((w : ℕ) → Give w now ≡ true → (Give w cached ≡ true) ⊎ (Give w maps ≡ true))
      → PassedBy Before t.plan.wants (count_of t.listing) m n c0 c1 → PassedBy (source_over t (settled n) after now maps) t.plan.wants (count_of t.listing) n o c1 c2
      → AssembledBy Before t.plan.wants (count_of t.listing) m o c0 c2
  passes_by o after c0 c1 c2 same gave first next =
      both_passes Before (source_over t (settled n) views now maps) t.plan.wants (count_of t.listing) m n o c0 c1 c2 (λ w below. source_again w below (gave w)) first
      (subst (λ (v : List (Option Held)). PassedBy (source_over t (settled n) v now maps) t.plan.wants (count_of t.listing) n o c1 c2) same next)
