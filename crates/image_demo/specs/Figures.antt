-- What making an image takes from zeros, from a seed and from a store that has each chunk. l is the index of the image,
-- m that of the seed. Entries count from 0.
use Rattle.std.specs.Prelude.{◌≡◌, ◌≢◌, ◌&&◌, ◌==◌, ℕ, zero, suc, ◌+◌, ◌-◌, Bool, true, not, if◌then◌else◌, List, ◌++◌}
use Rattle.std.specs.Prelude.{length, replicate, codes, decimal, ◌≤◌, Result, Ok, Err}
use Rattle.std.specs.List.{filter, list_any, range_with_len}
use Rattle.std.specs.Str.{bytes_eq}
use Rattle.range_survey.specs.Reports.{right_below}
use Rattle.buzhash_cut.specs.Image.{IsIndexOfImage}
use Rattle.caibx_codec.specs.Listing.{Listing, count_of, id_of, image_length, size_of}
use Rattle.chunk_store.specs.Digests.{digest_of}
use Rattle.chunk_store.specs.declared.id.DigestKind.{DigestKind}
use Rattle.image_demo.specs.Images.{image_of, seed_of, usual_sizes}
use Rattle.image_demo.specs.declared.fault.DemoFault.{DemoFault}
use Rattle.image_demo.specs.declared.fault.DemoFault.TheVariants as faults
use Rattle.image_demo.specs.declared.figures.Figures.{Figures}
use Rattle.range_survey.specs.Fates.{is_right_at}

-- ---- the figures

-- whether entry j of m has the id and the size of entry i of l
abbrev pub is_alike : Listing → ℕ → Listing → ℕ → Bool
is_alike l i m j = bytes_eq (id_of m j) (id_of l i) && size_of m j == size_of l i

-- the entries of m that have
abbrev pub alike_in : Listing → ℕ → Listing → List ℕ
alike_in l i m = filter (is_alike l i m) (range_with_len 0 (count_of m))

-- whether none of the entries before entry i has
abbrev pub is_first : Listing → ℕ → Bool
is_first l i = not (list_any (is_alike l i l) (range_with_len 0 i))

-- whether the chunk of entry i is in zeros already
abbrev pub is_in_zeros : Listing → ℕ → Bool
is_in_zeros l i = list_any (is_right_at l (replicate (image_length l) 0)) (alike_in l i l)

-- whether the seed's index m lists it
abbrev pub is_in_seed : Listing → Listing → ℕ → Bool
is_in_seed l m i = list_any (is_alike l i m) (range_with_len 0 (count_of m))

-- how many of the different chunks of the first k entries pass, each tried at its first entry
abbrev pub firsts_below : Listing → (ℕ → Bool) → ℕ → ℕ
firsts_below l passes zero = 0
firsts_below l passes (suc k) = firsts_below l passes k + (if is_first l k && passes k then 1 else 0)

abbrev pub firsts : Listing → (ℕ → Bool) → ℕ
firsts l passes = firsts_below l passes (count_of l)

-- the entries that are right in zeros; the different chunks that aren't there and that the seed gives; those that it
-- doesn't; and the rest of the entries
abbrev pub kept_entries : Listing → ℕ
kept_entries l = right_below l (replicate (image_length l) 0) (count_of l)

abbrev pub seeded_of : Listing → Listing → ℕ
seeded_of l m = firsts l (λ i. not (is_in_zeros l i) && is_in_seed l m i)

abbrev pub fetched_of : Listing → Listing → ℕ
fetched_of l m = firsts l (λ i. not (is_in_zeros l i) && not (is_in_seed l m i))

abbrev pub copied_of : Listing → Listing → ℕ
copied_of l m = count_of l - (kept_entries l + seeded_of l m + fetched_of l m)

-- the figures of making an image that l lists from zeros, a seed that m lists, and a store that has each chunk
abbrev pub figures_of : Listing → Listing → ℕ → Figures
figures_of l m size = record {
  bytes = size;
  chunks = count_of l;
  distinct = firsts l (λ i. true);
  kept = kept_entries l;
  copied = copied_of l m;
  seeded = seeded_of l m;
  fetched = fetched_of l m;
}

-- the figures of NUMBER and SIZE, by indexes of this kind: an image has one such index, so they are one
pub record AreFigures (kind : DigestKind) (number size : ℕ) (f : Figures) : Type 0 where
  pub listing : Listing
  pub of_image : IsIndexOfImage kind usual_sizes (image_of number size) listing
  pub seed : Listing
  pub of_seed : IsIndexOfImage kind usual_sizes (seed_of (image_of number size)) seed
  pub are : f ≡ figures_of listing seed size

-- a line of a figure
abbrev pub figure_line : List ℕ → ℕ → List ℕ
figure_line label n = label ++ (decimal n ++ codes "\n")

-- their lines
abbrev pub text_of_figures : Figures → List ℕ
text_of_figures f = figure_line (codes "bytes ") f.bytes ++ figure_line (codes "chunks ") f.chunks
    ++ figure_line (codes "distinct ") f.distinct ++ figure_line (codes "kept ") f.kept
    ++ figure_line (codes "copied ") f.copied ++ figure_line (codes "seeded ") f.seeded
    ++ figure_line (codes "fetched ") f.fetched

-- ---- why there are none

-- two unequal pieces of at most `most` bytes have this digest
pub record HasTwoPieces (kind : DigestKind) (most : ℕ) (name : List ℕ) : Type 0 where
  pub one : List ℕ
  pub other : List ℕ
  pub differ : one ≢ other
  pub small : (length one ≤ most) × (length other ≤ most)
  pub one_named : digest_of kind one ≡ name
  pub other_named : digest_of kind other ≡ name

-- a refusal names two unequal pieces of bytes, none larger than a chunk. Want of memory is free
abbrev pub IsDemoRefused : DigestKind → ℕ → DemoFault → Type 0
IsDemoRefused kind most (faults.Mismatch entry id) = HasTwoPieces kind most id.0
IsDemoRefused kind most faults.Memory = Unit {0}

-- what `demo` may answer
abbrev pub Rehearses : DigestKind → ℕ → ℕ → Result Figures DemoFault → Type 0
Rehearses kind number size (Ok f) = AreFigures kind number size f
Rehearses kind number size (Err fault) = IsDemoRefused kind usual_sizes.greatest fault
