-- One shard more ends.
use Rattle.std.proofs.Common.{◌≡◌, ◌≢◌, ℕ, ◌+◌, ◌-◌, ◌<◌, List, [], ◌∷◌, ◌++◌, length, slice_index, ap, sym, ◌∙◌, arith, ⊎_elim}
use Rattle.std.proofs.lemmas.Bool.{cases_eq}
use Rattle.std.proofs.lemmas.Grind.{common_steps}
use Rattle.caibx_codec.specs.Listing.{Listing, count_of, start_of, end_of}
use Rattle.extract_plan.specs.Deal.{shard_start}

old_at : (xs : List ℕ) (y i : ℕ) → i < length xs → slice_index (xs ++ y ∷ []) i ≡ slice_index xs i
old_at xs y i h = grind (arith, common_steps)

new_at : (xs : List ℕ) (y i : ℕ) → i ≡ length xs → slice_index (xs ++ y ∷ []) i ≡ y
new_at xs y i h = grind (arith, common_steps)

pub ends_more : (l : Listing) (shards k x e : ℕ) (cuts new : List ℕ) → length cuts ≡ k →
    ((j : ℕ) → j < k → slice_index cuts j ≡ start_of l (shard_start (count_of l) shards (j + 1))) →
    x ≡ shard_start (count_of l) shards (k + 1) → 0 < x → e ≡ end_of l (x - 1) → start_of l (x - 1 + 1) ≡ end_of l (x - 1) →
    new ≡ cuts ++ e ∷ [] → (j : ℕ) → j < k + 1 → slice_index new j ≡ start_of l (shard_start (count_of l) shards (j + 1))
ends_more l shards k x e cuts new size ends is some end next items j h =
    let back : x - 1 + 1 ≡ x = omega arith in
    let value : e ≡ start_of l (shard_start (count_of l) shards (k + 1)) = end ∙ sym next ∙ ap (start_of l) back ∙ ap (start_of l) is in
    ap (λ (xs : List ℕ). slice_index xs j) items
    ∙ ⊎_elim
    (λ (here : j ≡ k). new_at cuts e j (here ∙ sym size) ∙ value ∙ ap (λ (i : ℕ). start_of l (shard_start (count_of l) shards (i + 1))) (sym here))
    (λ (other : j ≢ k). old_at cuts e j (omega arith) ∙ ends j (omega arith))
    (cases_eq j k)
