-- What the rules say of each chunk by its number.
use Rattle.std.proofs.Common.{◌≡◌, ℕ, zero, suc, ◌+◌, ◌-◌, ◌<◌, ◌≤◌, List, [], ◌∷◌, length, slice_index_or, add-one, if◌then◌else◌, ◌==◌, subst, arith, inl, inr}
use Rattle.std.proofs.lemmas.Bool.Decides.{nat_tests}
use Rattle.std.proofs.lemmas.Bool.{cases_lt}
use Rattle.std.proofs.lemmas.List.Elements.{All-from_recursion}
use Rattle.chunk_store.specs.Digests.{IsId}
use Rattle.caibx_codec.specs.Listing.{Listing, IsValid, Rules, AreChunks, start_of, end_of, count_of}

abbrev end_at : List (ℕ × List ℕ) → ℕ → ℕ
end_at es i = (slice_index_or es i (0, [])).0

abbrev start_at : ℕ → List (ℕ × List ℕ) → ℕ → ℕ
start_at start es i = if i == 0 then start else end_at es (i - 1)

start_at-suc : (start : ℕ) (es : List (ℕ × List ℕ)) (i : ℕ) → start_at start es (suc i) ≡ end_at es i
start_at-suc start es i = grind (arith, nat_tests)

chunk_at : (greatest start : ℕ) (es : List (ℕ × List ℕ)) → AreChunks greatest start es → (i : ℕ) → i < length es → (start_at start es i < end_at es i) × (end_at es i ≤ start_at start es i + greatest)
chunk_at greatest start [] h i lt = absurd (omega arith)
chunk_at greatest start (e ∷ es) h zero lt = (h.0, h.1)
chunk_at greatest start (e ∷ es) h (suc zero) lt = chunk_at greatest e.0 es h.2 zero (omega arith)
chunk_at greatest start (e ∷ es) h (suc (suc i)) lt =
    let rest = chunk_at greatest e.0 es h.2 (suc i) (omega arith) in
    let here : start_at start (e ∷ es) (suc (suc i)) ≡ end_at es i = start_at-suc start (e ∷ es) (suc i) in
    let there : start_at e.0 es (suc i) ≡ end_at es i = start_at-suc e.0 es i in
    (omega (arith, rest.0), omega (arith, rest.1))

module _ (l : Listing) (valid : IsValid l) where
  rises : (i : ℕ) → i < count_of l → start_of l i < end_of l i
  rises i lt = (chunk_at l.greatest 0 l.entries valid.chunks i lt).0

  same_end : (i j : ℕ) → i ≡ j → end_of l i ≤ end_of l j
  same_end i j e = subst (λ k. end_of l i ≤ end_of l k) e (omega arith)

  before : (i j : ℕ) → i < j → j ≤ count_of l → end_of l i ≤ start_of l j
  before i zero lt in_range = absurd (omega arith)
  before i (suc j) lt in_range =
      let here : end_of l i ≤ end_of l j = elim (cases_lt i j) [
        | inl below ↦ omega (arith, before i j below (omega arith), rises j (omega arith))
        | inr at_least ↦ same_end i j (omega arith)
      ] in
      let begins : start_of l (suc j) ≡ end_of l j = start_at-suc 0 l.entries j in
      omega arith

  pub rules_hold : Rules l
  rules_hold = record {
    size = valid.size;
    few = valid.few;
    rises = rises;
    fits = λ i lt. (chunk_at l.greatest 0 l.entries valid.chunks i lt).1;
    holds = λ i lt. let r = rises i lt in omega arith;
    at_most = λ i lt. let f = (chunk_at l.greatest 0 l.entries valid.chunks i lt).1 in omega arith;
    next = λ i. rw add-one (start_at-suc 0 l.entries i);
    inside = λ i lt. before i (count_of l) lt (omega arith);
    ordered = λ i j lt in_range. before i j lt (omega arith);
    ids = λ i lt. All-from_recursion (λ e. IsId e.1) l.entries valid.ids i (0, []) lt;
  }
