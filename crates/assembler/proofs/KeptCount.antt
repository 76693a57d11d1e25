-- The entries that were right at first, counted at the end.
use Rattle.std.proofs.Common.{◌≡◌, ◌⊎◌, ℕ, zero, suc, ◌<◌, ◌≤◌, List, Bool, true, false, if◌then◌else◌, refl, sym, ap, ◌∙◌, inl, inr, arith}
use Rattle.std.proofs.lemmas.Bool.{cases_Bool, true≢false}
use Rattle.std.proofs.lemmas.Slice.Eq.{bytes_eq-Decides}
use Rattle.range_ledger.specs.Fills.{Grows}
use Rattle.range_survey.specs.Reports.{one_if, right_below, tally}
use Rattle.caibx_codec.specs.Listing.{Listing, count_of, id_of, kind_of, slice_of}
use Rattle.chunk_sources.proofs.Lacking.{quiet_never}
use Rattle.chunk_store.specs.Digests.{digest_of}
use Rattle.dsy_base.specs.Counts.{Quiet}
use Rattle.range_survey.proofs.Excused.{excused_rose}
use Rattle.range_survey.specs.Fates.{FirstFates, OpenWrong, SettledRight, fate_at, is_made, is_right_at, is_settled, settled}
use Rattle.range_survey.specs.declared.fate.Fate.{Fate}
use Rattle.range_survey.specs.declared.fate.Fate.TheVariants as fate

made_not_kept : (x : Fate) → is_made x ≡ true → one_if fate.Kept x ≡ 0
made_not_kept fate.Open is = refl
made_not_kept fate.Kept is = let bad : false ≡ true = is in absurd (cc)
made_not_kept fate.Copied is = refl
made_not_kept fate.Seeded is = refl
made_not_kept fate.Cached is = refl
made_not_kept fate.Fetched is = refl

open_not_kept : (x : Fate) → is_settled x ≡ false → one_if fate.Kept x ≡ 0
open_not_kept fate.Open is = refl
open_not_kept fate.Kept is = let bad : true ≡ false = is in absurd (cc)
open_not_kept fate.Copied is = refl
open_not_kept fate.Seeded is = refl
open_not_kept fate.Cached is = refl
open_not_kept fate.Fetched is = refl

kept_first : (x : Fate) → (x ≡ fate.Open) ⊎ (x ≡ fate.Kept) → is_settled x ≡ true → x ≡ fate.Kept
kept_first x (inl e) is = absurd (true≢false (sym is ∙ ap is_settled e))
kept_first x (inr e) is = e

abbrev counted : Bool → ℕ
counted b = if b then 1 else 0

module _ (l : Listing) (t : List ℕ) (m0 m1 : List Fate) (a b : ℕ) (quiet : Quiet a b) (yes_there : SettledRight l t m0 (count_of l))
    (none_there : OpenWrong l t m0 a b (count_of l)) (first : FirstFates m0 (count_of l)) (grows : Grows m0 m1) where
  was_kept : (i : ℕ) → i < count_of l → settled m0 i ≡ true → one_if fate.Kept (fate_at m1 i) ≡ counted (is_right_at l t i)
  was_kept i inside is =
      let kept : fate_at m1 i ≡ fate.Kept = grows.kept i is ∙ kept_first (fate_at m0 i) (first i inside) is in
      let right : is_right_at l t i ≡ true = (bytes_eq-Decides (digest_of (kind_of l) (slice_of l t i)) (id_of l i)).1 (yes_there i inside is) in
      ap (one_if fate.Kept) kept ∙ ap counted (sym right)

  not_kept : (i : ℕ) → settled m0 i ≡ false → one_if fate.Kept (fate_at m1 i) ≡ 0
  not_kept i isnt = elim (cases_Bool (settled m1 i)) [
    | inl is ↦ made_not_kept (fate_at m1 i) (grows.made i isnt is)
    | inr still ↦ open_not_kept (fate_at m1 i) still
  ]

  was_open : (i : ℕ) → i < count_of l → settled m0 i ≡ false → one_if fate.Kept (fate_at m1 i) ≡ counted (is_right_at l t i)
  was_open i inside isnt = elim (cases_Bool (is_right_at l t i)) [
    | inl right ↦ absurd (quiet_never a b quiet (excused_rose none_there.failed i a b
        (none_there.missed i inside isnt ((bytes_eq-Decides (digest_of (kind_of l) (slice_of l t i)) (id_of l i)).0 right)) none_there.excused))
    | inr wrong ↦ not_kept i isnt ∙ ap counted (sym wrong)
  ]

  one_kept : (i : ℕ) → i < count_of l → one_if fate.Kept (fate_at m1 i) ≡ counted (is_right_at l t i)
  one_kept i inside = elim (cases_Bool (settled m0 i)) [
    | inl is ↦ was_kept i inside is
    | inr isnt ↦ was_open i inside isnt
  ]

  pub kept_count : (k : ℕ) → k ≤ count_of l → tally fate.Kept m1 k ≡ right_below l t k
  kept_count zero le = refl
  kept_count (suc k) le =
      let rest = kept_count k (omega arith) in
      let here = one_kept k (omega arith) in
      omega (arith, rest, here)
