-- Indexes that are obtained one after the other.
use Rattle.std.proofs.Common.{◌≡◌, ◌++◌, ◌∙◌, ℕ, List, [], ◌∷◌, length, Ok, Err, refl, sym, ap, inl, inr}
use Rattle.std.proofs.lemmas.List.{append-nil, append_assoc}
use Rattle.caibx_codec.specs.Listing.{Listing}
use Rattle.command_indexes.specs.Gets.{IndexGot, IndexesGot}
use Rattle.command_outcome.specs.declared.outcome.Outcome.{Outcome}
use Rattle.command_steps.specs.Seeds.{CountedWith}
use Rattle.command_steps.specs.Sources.{Storage}
use Rattle.command_worlds.specs.Worlds.{World, world}
use Rattle.dsy_base.specs.Disk.{Output}

-- the world of this storage
abbrev pub round : Output → Storage → World
round p w = world w.disk w.dial p

-- none is obtained
pub none_more : (names : List (List ℕ)) (n : ℕ) (w : Storage) (old : List Listing) → length names ≡ 0 → (ls : List Listing) × (old ≡ old ++ ls) × ((p : Output) → IndexesGot n names (round p w) (Ok ls) (round p w))
none_more [] n w old none = ([], sym (append-nil old), λ p. (refl, refl))
none_more (q ∷ names) n w old none = absurd (cc)

module _ (q : List ℕ) (names : List (List ℕ)) (n : ℕ) (w u : Storage) where
  -- the first wasn't
  pub first_refused : (o : Outcome) → IndexGot q w (Err o) u → (p : Output) → IndexesGot n (q ∷ names) (round p w) (Err o) (round p u)
  first_refused o h p = inl (h, refl)

  module _ (l : Listing) (got : IndexGot q w (Ok l) u) where
    -- it wasn't put to the others
    pub count_refused : (o : Outcome) → CountedWith n l (Err o) → (p : Output) → IndexesGot n (q ∷ names) (round p w) (Err o) (round p u)
    count_refused o h p = inr (record { disk = _; dial = _; out = _; gave = l; did = (got, refl); then = inl (h, refl) })

    module _ (m : ℕ) (counted : CountedWith n l (Ok m)) (v : Storage) where
      -- a later one wasn't
      pub later_refused : (o : Outcome) → ((p : Output) → IndexesGot m names (round p u) (Err o) (round p v)) → (p : Output) → IndexesGot n (q ∷ names) (round p w) (Err o) (round p v)
      later_refused o h p = inr (record { disk = _; dial = _; out = _; gave = l; did = (got, refl); then = inr (record { disk = _; dial = _; out = _; gave = m; did = (counted, refl); then = inl (h p) }) })

      -- all were
      pub one_more : (old mid new : List Listing) → mid ≡ old ++ l ∷ [] → (ls : List Listing) × (new ≡ mid ++ ls) × ((p : Output) → IndexesGot m names (round p u) (Ok ls) (round p v))
          → (ls : List Listing) × (new ≡ old ++ ls) × ((p : Output) → IndexesGot n (q ∷ names) (round p w) (Ok ls) (round p v))
      one_more old mid new same (ls, are, h) = (
        l ∷ ls,
        are ∙ ap (λ (k : List Listing). k ++ ls) same ∙ append_assoc old (l ∷ []) ls,
        λ p. record { disk = _; dial = _; out = _; gave = l; did = (got, refl); then = record { disk = _; dial = _; out = _; gave = m; did = (counted, refl); then = record { disk = _; dial = _; out = _; gave = ls; did = h p; then = (refl, refl) } } },
      )
