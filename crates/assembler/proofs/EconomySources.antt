-- The source of a want: what it depends on, and what was obtained from it.
use Rattle.std.proofs.Common.{◌≡◌, ◌⊎◌, ◌++◌, ℕ, List, Bool, true, false, if◌then◌else◌, Option, refl, sym, ap, ◌∙◌, inl, inr}
use Rattle.std.proofs.lemmas.Bool.{true≢false}
use Rattle.std.specs.List.{list_any}
use Rattle.chunk_sources.proofs.Cached.{gives_part}
use Rattle.chunk_sources.proofs.Origins.{kept_source, none_right, right_same, seeds_decide, some_right, stores_decide}
use Rattle.chunk_sources.specs.Economy.{seeds_give, source_over, stores_give}
use Rattle.chunk_sources.specs.Losses.{Had}
use Rattle.chunk_sources.specs.Wants.{IsAmong, Task, Wanted, want_chunk}
use Rattle.dsy_base.specs.Bytes.{Held}
use Rattle.dsy_base.specs.Maps.{Map}
use Rattle.extract_plan.specs.Deal.{of_want}
use Rattle.range_survey.specs.Fates.{is_settled, settled}
use Rattle.range_survey.specs.declared.fate.Fate.{Fate}
use Rattle.range_survey.specs.declared.fate.Fate.TheVariants as fate

-- ---- the first of four

abbrev pub of_four : Bool → Bool → Bool → Bool → Fate
of_four a b k c = if a then fate.Kept else if b then fate.Seeded else if k then fate.Cached else if c then fate.Fetched else fate.Open

not_open : (x : Fate) → is_settled x ≡ true → x ≡ fate.Open → ⊥
not_open x is same = true≢false (sym is ∙ ap is_settled same)

four_any : (a b k c : Bool) → (a ≡ true) ⊎ ((b ≡ true) ⊎ ((k ≡ true) ⊎ (c ≡ true))) → of_four a b k c ≡ fate.Open → ⊥
four_any true b k c some none = not_open fate.Kept refl none
four_any false true k c some none = not_open fate.Seeded refl none
four_any false false true c some none = not_open fate.Cached refl none
four_any false false false true some none = not_open fate.Fetched refl none
four_any false false false false (inl is) none = true≢false (sym is)
four_any false false false false (inr (inl is)) none = true≢false (sym is)
four_any false false false false (inr (inr (inl is))) none = true≢false (sym is)
four_any false false false false (inr (inr (inr is))) none = true≢false (sym is)

-- of what has none, none is found elsewhere
four_none : (a e b k h c : Bool) → of_four a b k c ≡ fate.Open → e ≡ false → (h ≡ true → (k ≡ true) ⊎ (c ≡ true)) → of_four e b h c ≡ fate.Open
four_none true e b k h c none isnt found = absurd (not_open fate.Kept refl none)
four_none false e true k h c none isnt found = absurd (not_open fate.Seeded refl none)
four_none false e false true h c none isnt found = absurd (not_open fate.Cached refl none)
four_none false e false false h true none isnt found = absurd (not_open fate.Fetched refl none)
four_none false e false false false false none isnt found = ap (λ x. of_four x false false false) isnt
four_none false e false false true false none isnt found = elim (found refl) [
  | inl is ↦ absurd (true≢false (sym is))
  | inr is ↦ absurd (true≢false (sym is))
]

-- ---- the source of a want

module _ (t : Task) (views : List (Option Held)) (maps : List (Map (List ℕ))) (w : ℕ) where
  abbrev chunk : Wanted
  chunk = want_chunk t w

  abbrev Source : List (Map (List ℕ)) → (ℕ → Bool) → Fate
  Source cached is_right = source_over t is_right views cached maps w

  abbrev Give : List (Map (List ℕ)) → Bool
  Give stores = stores_give chunk.kind chunk.id chunk.size stores

  abbrev Seeded : Bool
  Seeded = seeds_give views chunk.places chunk.id

  -- it depends on the entries of the want alone, and on whether the cache gives it
  pub source_same : (cached now : List (Map (List ℕ))) (f g : ℕ → Bool) → ((i : ℕ) → IsAmong (of_want t.plan w) i → f i ≡ g i) → Give cached ≡ Give now
      → Source cached f ≡ Source now g
  source_same cached now f g same give =
      ap (λ a. of_four a Seeded (Give cached) (Give maps)) (right_same f g (of_want t.plan w) same)
      ∙ ap (λ k. of_four (list_any g (of_want t.plan w)) Seeded k (Give maps)) give

  pub source_kept : (cached : List (Map (List ℕ))) (f : ℕ → Bool) (i : ℕ) → IsAmong (of_want t.plan w) i → f i ≡ true → Source cached f ≡ fate.Kept
  source_kept cached f i among is = kept_source f chunk views cached maps i among is

  -- a want that has none has none still, while no entry is right and the cache gives nothing that none gave
  pub source_open : (cached now : List (Map (List ℕ))) (f g : ℕ → Bool) → Source cached f ≡ fate.Open → ((i : ℕ) → IsAmong (of_want t.plan w) i → g i ≡ false)
      → (Give now ≡ true → (Give cached ≡ true) ⊎ (Give maps ≡ true)) → Source now g ≡ fate.Open
  source_open cached now f g none wrong gave =
      four_none (list_any f (of_want t.plan w)) (list_any g (of_want t.plan w)) Seeded (Give cached) (Give now) (Give maps) none
      (none_right g (of_want t.plan w) (λ i among is. true≢false (sym is ∙ wrong i among))) gave

  found : (cached : List (Map (List ℕ))) (m : List Fate) → Had m chunk views (cached ++ maps)
      → (list_any (settled m) (of_want t.plan w) ≡ true) ⊎ ((Seeded ≡ true) ⊎ ((Give cached ≡ true) ⊎ (Give maps ≡ true)))
  found cached m (inl (i, among, is)) = inl (some_right (settled m) (of_want t.plan w) i among is)
  found cached m (inr (inl seeds)) = inr (inl ((seeds_decide views chunk.places chunk.id).1 seeds))
  found cached m (inr (inr stores)) = elim (gives_part chunk.kind chunk.id chunk.size cached maps stores) [
    | inl cache ↦ inr (inr (inl ((stores_decide chunk.kind chunk.id chunk.size cached).1 cache)))
    | inr store ↦ inr (inr (inr ((stores_decide chunk.kind chunk.id chunk.size maps).1 store)))
  ]

  -- what was obtained came from one
  pub had_source : (cached : List (Map (List ℕ))) (m : List Fate) → Had m chunk views (cached ++ maps) → Source cached (settled m) ≡ fate.Open → ⊥
  had_source cached m had none =
      four_any (list_any (settled m) (of_want t.plan w)) Seeded (Give cached) (Give maps) (found cached m had) none
