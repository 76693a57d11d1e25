-- The entries of a want.
use Rattle.std.proofs.Common.{◌≡◌, ℕ, ◌<◌, List, length, slice_index, refl, sym, ap, ◌∙◌, arith}
use Rattle.caibx_codec.specs.Listing.{Listing, count_of, size_of}
use Rattle.chunk_sources.specs.Wants.{AllOf, IsAmong}
use Rattle.extract_plan.proofs.Entries.{entry_inside, entry_of, entry_stands}
use Rattle.extract_plan.specs.Deal.{AreAlike, AreWants, Deal, first_of, of_want, want_id}

-- the entries of a want are those that are dealt to it
pub among : (d : Deal) (w i : ℕ) → i < length d.want_of → slice_index d.want_of i ≡ w → IsAmong (of_want d w) i
among d w i inside is = entry_stands d.want_of w i inside is

pub among_of : (d : Deal) (w i : ℕ) → IsAmong (of_want d w) i → (i < length d.want_of) × (slice_index d.want_of i ≡ w)
among_of d w i is =
    let at = is.2 in
    let inside = entry_inside d.want_of w is.0 is.1 in
    let dealt = entry_of d.want_of w is.0 is.1 in
    (omega (arith, at, inside), ap (slice_index d.want_of) (sym at) ∙ dealt)

-- what stands in a list that isn't empty
head_among : (xs : List ℕ) (i : ℕ) → IsAmong xs i → IsAmong xs (slice_index xs 0)
head_among xs i (k, inside, is) = (0, omega (arith, inside), refl)

-- each want has a first entry
pub first_among : (l : Listing) (d : Deal) (w : ℕ) → AreWants l d.wants d.want_of → w < d.wants → IsAmong (of_want d w) (first_of d w)
first_among l d w wants below =
    let x = wants.every w below in
    let size : length d.want_of ≡ count_of l = wants.size in
    head_among (of_want d w) x.0 (among d w x.0 (omega (arith, x.1)) x.2)

pub listed_of : (l : Listing) (d : Deal) (w i : ℕ) → AreWants l d.wants d.want_of → IsAmong (of_want d w) i → i < count_of l
listed_of l d w i wants is = let size : length d.want_of ≡ count_of l = wants.size in omega (arith, (among_of d w i is).0)

-- two entries of one want are alike
pub ids_same : (l : Listing) (d : Deal) (w i j : ℕ) → AreWants l d.wants d.want_of → IsAmong (of_want d w) i → IsAmong (of_want d w) j → AreAlike l i j
ids_same l d w i j wants one other =
    (wants.alike i j (listed_of l d w i wants one) (listed_of l d w j wants other)).0 ((among_of d w i one).1 ∙ sym (among_of d w j other).1)

-- all of them have the id and the size of the first
pub all_of : (l : Listing) (d : Deal) (w : ℕ) → AreWants l d.wants d.want_of → w < d.wants → AllOf l (want_id l d w) (size_of l (first_of d w)) (of_want d w)
all_of l d w wants below = λ k inside.
    let is : IsAmong (of_want d w) (slice_index (of_want d w) k) = (k, inside, refl) in
    let same = ids_same l d w (slice_index (of_want d w) k) (first_of d w) wants is (first_among l d w wants below) in
    record { listed = listed_of l d w (slice_index (of_want d w) k) wants is; id_is = same.0; size_is = same.1 }
