-- The plans of an index for one worker and for several: they have the same wants.
use Rattle.std.proofs.Common.{◌∙◌, ℕ, ◌+◌, List, slice_index, ap, subst}
use Rattle.caibx_codec.specs.Listing.{Listing, id_of, kind_of, size_of}
use Rattle.extract_plan.specs.Deal.{Deal, IsPlan}
use Rattle.extract_plan.specs.Places.{ArePlaces, IsSeedIndex, Placed, places_at}
use Rattle.image_assembly.proofs.OnePlan.{same_but_workers}

module _ (l : Listing) (count : ℕ) (p q : Deal) (one : IsPlan l 1 p) (several : IsPlan l count q) where
  -- so places by the one are places by the other
  pub seed_index_by : (ls : List Listing) (x : Placed) → IsSeedIndex l p ls x → IsSeedIndex l q ls x
  seed_index_by ls x is = record {
    size = is.size ∙ ap (λ (d : Deal). d.wants + 1) (same_but_workers l count p q one several);
    places = λ i lt. subst (λ (d : Deal). ArePlaces (kind_of l) ls (id_of l i) (size_of l i) (places_at x (slice_index d.want_of i))) (same_but_workers l count p q one several) (is.places i lt);
  }
