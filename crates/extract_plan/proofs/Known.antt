-- Places of a plan's wants are in the seeds, and have the wants' sizes.
use Rattle.std.proofs.Common.{◌≡◌, ℕ, ◌<◌, List, length, slice_index, subst, arith}
use Rattle.std.proofs.lemmas.List.{get_or_default}
use Rattle.std.proofs.lemmas.Option.{slice_get_within}
use Rattle.caibx_codec.specs.Listing.{Listing, count_of, id_of, kind_of, size_of}
use Rattle.chunk_store.specs.declared.id.DigestKind.{DigestKind}
use Rattle.chunk_store.specs.declared.id.DigestKind.TheVariants as kinds
use Rattle.extract_plan.specs.Deal.{AreWants, Deal, entries_of, first_of}
use Rattle.extract_plan.specs.Places.{ArePlaces, IsSeedIndex, Placed, PlacesFit, PlacesKnown, nth_place, place, places_at}
use Rattle.extract_plan.specs.declared.seed.SeedPlace.{SeedPlace}
use Rattle.extract_plan.proofs.Entries.{entry_inside, entry_of, entry_stands}

fit_of : (kind : DigestKind) (seeds : List Listing) (id : List ℕ) (n : ℕ) (ps : List SeedPlace) → ArePlaces kind seeds id n ps → PlacesFit kind (length seeds) n ps
fit_of kind seeds id n ps are k d inside =
    let is = are.sound k inside in
    let here : (nth_place ps k).seed < length seeds = slice_get_within seeds (nth_place ps k).seed is.listing is.seed in
    subst (λ (p : SeedPlace). (p.seed < length seeds) × (p.size ≡ n) × (p.kind ≡ kind)) (get_or_default ps k (place kinds.Sha512T256 0 0 0) d inside) (here, is.size, is.kind_is)

-- each want has a first entry
pub has_first : (l : Listing) (wants : ℕ) (want_of : List ℕ) (w : ℕ) → AreWants l wants want_of → w < wants →
    (slice_index (entries_of want_of w) 0 < count_of l) × (slice_index want_of (slice_index (entries_of want_of w) 0) ≡ w)
has_first l wants want_of w are below =
    let size : length want_of ≡ count_of l = are.size in
    let x = are.every w below in
    let inside : x.0 < count_of l = x.1 in
    let among = entry_stands want_of w x.0 (omega arith) x.2 in
    let some : 0 < length (entries_of want_of w) = omega (arith, among.1) in
    (omega (arith, entry_inside want_of w 0 some), entry_of want_of w 0 some)

pub known_of : (l : Listing) (d : Deal) (seeds : List Listing) (x : Placed) → AreWants l d.wants d.want_of → IsSeedIndex l d seeds x → PlacesKnown l d x (length seeds)
known_of l d seeds x wants is = record {
  size = is.size;
  fit = λ w below.
      let i = first_of d w in
      let first = has_first l d.wants d.want_of w wants below in
      let here = fit_of (kind_of l) seeds (id_of l i) (size_of l i) _ (is.places i first.0) in
      subst (λ (v : ℕ). PlacesFit (kind_of l) (length seeds) (size_of l i) (places_at x v)) first.1 here;
}
