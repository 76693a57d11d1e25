-- What making an image gives, where nothing fails: its figures, or two unequal pieces of bytes of one name.
use Rattle.std.proofs.Common.{◌≡◌, ◌≢◌, ◌⊎◌, ℕ, zero, suc, ◌+◌, ◌-◌, ◌<◌, ◌≤◌, ◌&&◌, not, List, [], ◌∷◌, true, length, drop, replicate, Option, Some, None, Result, Ok, Err, refl, sym, ap, subst, ◌∙◌, inl, inr, arith, IfSome, IfOk, is_some}
use Rattle.std.proofs.lemmas.List.{length-take, length-take-le, length-drop}
use Rattle.assembler.specs.Assemblies.{IsObtainable, Verdict}
use Rattle.assembler.specs.Economy.{ReportsExactly}
use Rattle.range_survey.specs.Reports.{right_below}
use Rattle.assembler.specs.declared.fault.ExtractFault.{ExtractFault}
use Rattle.assembler.specs.declared.fault.ExtractFault.TheVariants as faults
use Rattle.range_survey.specs.declared.report.Report.{Report}
use Rattle.buzhash_cut.specs.Image.{IsIndexOfImage}
use Rattle.buzhash_cut.specs.Sizes.{Sizes}
use Rattle.caibx_codec.specs.Listing.{Listing, Rules, count_of, end_of, id_of, image_length, kind_of, size_of, slice_of, start_of}
use Rattle.caibx_codec.specs.Right.{IsRight, IsRightAt}
use Rattle.chunk_sources.specs.Economy.{source_of, sum_below}
use Rattle.chunk_store.specs.declared.id.ChunkId.{ChunkId}
use Rattle.chunk_store.specs.declared.id.DigestKind.{DigestKind}
use Rattle.dsy_base.specs.Bytes.{Held, resized}
use Rattle.dsy_base.specs.Maps.{Map}
use Rattle.extract_plan.specs.Deal.{AreWants, Deal}
use Rattle.extract_plan.specs.Places.{IsSeedIndex, Placed}
use Rattle.image_demo.proofs.FirstEntries.{sum_counted, wants_counted}
use Rattle.image_demo.proofs.Generated.{length-bytes_after}
use Rattle.image_demo.proofs.Sources.{cached_none, fetched_each, seeded_each, zeros_filled}
use Rattle.image_demo.specs.Figures.{AreFigures, HasTwoPieces, IsDemoRefused, copied_of, fetched_of, figures_of, firsts, is_in_seed, is_in_zeros, kept_entries, seeded_of}
use Rattle.image_demo.specs.Images.{image_of, seed_of, usual_sizes}
use Rattle.image_demo.specs.Stocks.{IsNamed, IsStocked, demo_fault}
use Rattle.image_demo.specs.Tasks.{task_of}
use Rattle.image_demo.specs.declared.figures.Figures.{Figures}
use Rattle.image_store.specs.PutChunks.{HoldsAll, IsStored, Stands}

no_sum : (f : ℕ → ℕ) (n : ℕ) → ((w : ℕ) → f w ≡ 0) → sum_below f n ≡ 0
no_sum f zero none = refl
no_sum f (suc n) none = omega (arith, no_sum f n none, none n)

-- the base of an empty target
abbrev pub base_of : Listing → List ℕ
base_of l = resized [] (image_length l)

zeros_of : (l : Listing) → base_of l ≡ replicate (image_length l) 0
zeros_of l = zeros_filled (image_length l)

module _ (l m : Listing) (d : Deal) (x : Placed) (wants : AreWants l d.wants d.want_of) (index : IsSeedIndex l d (m ∷ []) x) (held : Held) (t : List ℕ) (told : held.bytes ≡ Some t) (right : IsRight t m) (same_kind : kind_of m ≡ kind_of l) (rules : Rules m) (size : image_length m ≡ held.size) (chunks : Map (List ℕ)) where
  pub made_figures : (n : ℕ) (r : Report) → ((i : ℕ) → i < count_of l → IsObtainable (task_of l d x) (base_of l) (Some held ∷ []) (chunks ∷ []) i)
      → ReportsExactly (source_of (task_of l d x) (base_of l) (Some held ∷ []) [] (chunks ∷ [])) d.wants r → r.kept + r.copied + r.seeded + r.cached + r.fetched ≡ count_of l → r.kept ≡ right_below l (base_of l) (count_of l)
      → (f : Figures) → f ≡ record { bytes = n; chunks = count_of l; distinct = d.wants; kept = r.kept; copied = r.copied; seeded = r.seeded; fetched = r.fetched } → f ≡ figures_of l m n
  made_figures n r obtainable reported all right_ones f is = is ∙ (λ i. record { bytes = n; chunks = count_of l; distinct = distinct i; kept = kept i; copied = copied i; seeded = seeded i; fetched = fetched i }) where
    distinct : d.wants ≡ firsts l (λ i. true)
    distinct = wants_counted l d wants

    kept : r.kept ≡ kept_entries l
    kept = right_ones ∙ ap (λ b. right_below l b (count_of l)) (zeros_of l)

    seeded : r.seeded ≡ seeded_of l m
    seeded = reported.0 ∙ sum_counted l d wants _ (λ i. not (is_in_zeros l i) && is_in_seed l m i) (seeded_each l m d x wants index held t told right same_kind rules size (base_of l) (zeros_of l) chunks obtainable)

    fetched : r.fetched ≡ fetched_of l m
    fetched = reported.2 ∙ sum_counted l d wants _ (λ i. not (is_in_zeros l i) && not (is_in_seed l m i)) (fetched_each l m d x wants index held t told right same_kind rules size (base_of l) (zeros_of l) chunks obtainable)

    cached : r.cached ≡ 0
    cached = reported.1 ∙ no_sum _ d.wants (cached_none l m d x wants index held t told right same_kind rules size (base_of l) (zeros_of l) chunks)

    copied : r.copied ≡ copied_of l m
    copied = omega (arith, kept, seeded, fetched, cached, all)

-- no slice of an entry is larger than a chunk
slice_small : (l : Listing) → Rules l → (t : List ℕ) (k : ℕ) → k < count_of l → length (slice_of l t k) ≤ l.greatest
slice_small l rules t k inside =
    let most : size_of l k ≤ l.greatest = rules.at_most k inside in
    let taken = length-take (end_of l k - start_of l k) (drop (start_of l k) t) in
    omega (arith, taken, most)

module _ (l : Listing) (d : Deal) (x : Placed) (base : List ℕ) (views : List (Option Held)) (rules : Rules l) (t : List ℕ) (right : IsRight t l) where
  slice_size : (k : ℕ) → k < count_of l → length (slice_of l t k) ≡ size_of l k
  slice_size k inside =
      let rises : start_of l k < end_of l k = rules.rises k inside in
      let within : end_of l k ≤ image_length l = rules.inside k inside in
      let all : length t ≡ image_length l = right.size in
      let left : length (drop (start_of l k) t) ≡ length t - start_of l k = length-drop (start_of l k) t in
      length-take-le (end_of l k - start_of l k) (drop (start_of l k) t) (omega (arith, left, all, within, rises))

  -- where the store holds bytes of each digest, what can't be obtained shows two unequal pieces of one digest
  pub two_pieces : (held : Option (Map (List ℕ))) (stocked : IsStocked l t held) (k : ℕ) → k < count_of l → (IsObtainable (task_of l d x) base views (stocked.map ∷ []) k → ⊥) → (id : ChunkId) → id.0 ≡ id_of l k → HasTwoPieces (kind_of l) l.greatest id.0
  two_pieces held stocked k inside lacked id is = elim (stocked.each (id_of l k)) [
    | inl none ↦ absurd (clash (stocked.all k inside).0 (sym none ∙ (stocked.all k inside).1))
    | inr s ↦ record {
      one = slice_of l t k;
      other = slice_of l t s.entry;
      differ = λ same. lacked (inr (inr (
        0,
        stocked.map,
        omega arith,
        refl,
        (
          slice_of l t s.entry,
          s.slice,
          record { named = s.right ∙ sym s.id; sized = ap length (sym same) ∙ slice_size k inside },
        ),
      )));
      small = (slice_small l rules t k inside, slice_small l rules t s.entry s.below);
      one_named = right.entries k inside ∙ sym is;
      other_named = s.right ∙ sym s.id ∙ sym is;
    }
  ] where
    clash : (b : List ℕ) → None ≡ Some b → ⊥
    clash b e = cc

  -- so a refusal names them
  pub refusal : (held : Option (Map (List ℕ))) (stocked : IsStocked l t held) (fault : ExtractFault) → Verdict l (IsObtainable (task_of l d x) base views (stocked.map ∷ [])) (Err fault) → IsNamed {A = Report} l (Err fault) → IsDemoRefused (kind_of l) l.greatest (demo_fault fault)
  refusal held stocked (faults.Missing k id) verdict named = two_pieces held stocked k named.0 verdict.1 id named.1
  refusal held stocked (faults.Damaged k id store shows) verdict named = two_pieces held stocked k named.0 verdict.1 id named.1
  refusal held stocked (faults.StoreFault store) verdict named = tt
  refusal held stocked faults.TargetFault verdict named = tt
  refusal held stocked faults.Memory verdict named = tt

pub told_bytes : (o : Option (List ℕ)) → is_some o ≡ true → (t : List ℕ) × (o ≡ Some t)
told_bytes None h = absurd (cc)
told_bytes (Some t) h = (t, refl)

-- what an assembly answers of an empty target
module _ (l : Listing) (d : Deal) (x : Placed) (views : List (Option Held)) (maps : List (Map (List ℕ))) (told : Option (List ℕ)) (empty : told ≡ Some []) where
  pub judged : (r s : Result Report ExtractFault) → r ≡ s → IfSome told (λ o. Verdict l (IsObtainable (task_of l d x) (resized o (image_length l)) views maps) r) → Verdict l (IsObtainable (task_of l d x) (base_of l) views maps) s
  judged r s same judge =
      let h = subst (λ o. IfSome o (λ b. Verdict l (IsObtainable (task_of l d x) (resized b (image_length l)) views maps) r)) empty judge in
      subst (λ e. Verdict l (IsObtainable (task_of l d x) (base_of l) views maps) e) same h

  pub told_report : (r : Result Report ExtractFault) (report : Report) → r ≡ Ok report → IfSome told (λ o. IfOk r (ReportsExactly (source_of (task_of l d x) (resized o (image_length l)) views [] maps) d.wants))
      → ReportsExactly (source_of (task_of l d x) (base_of l) views [] maps) d.wants report
  told_report r report same says =
      let h = subst (λ o. IfSome o (λ b. IfOk r (ReportsExactly (source_of (task_of l d x) (resized b (image_length l)) views [] maps) d.wants))) empty says in
      subst (λ e. IfOk e (ReportsExactly (source_of (task_of l d x) (base_of l) views [] maps) d.wants)) same h

-- a store that was empty holds each chunk
pub stocked : (l : Listing) (told : Option (List ℕ)) (old new : Option (Map (List ℕ))) → old ≡ Some (λ _. None) → is_some new ≡ is_some old → IfSome new (λ m. HoldsAll l (count_of l) m)
    → IfSome told (λ t. IfSome old (λ o. IfSome new (λ n. Stands l t (count_of l) o n))) → IfSome told (λ t. IsStocked l t new)
stocked l None old new empty tells all stands = tt
stocked l (Some t) None new empty tells all stands = absurd (cc)
stocked l (Some t) (Some o) None empty tells all stands = absurd (cc)
stocked l (Some t) (Some o) (Some n) empty tells all stands =
    let none : o ≡ (λ _. None) = cc in
    record { map = n; told = refl; all = all; each = λ q. subst (λ f. (n q ≡ f q) ⊎ IsStored l t (count_of l) q (n q)) none (stands q) }

-- two slices of one entry that are unequal
pub two_slices : (l : Listing) (t u : List ℕ) (i : ℕ) (id : ChunkId) → Rules l → i < count_of l → IsRightAt t l i → IsRightAt u l i → slice_of l t i ≢ slice_of l u i → id.0 ≡ id_of l i → HasTwoPieces (kind_of l) l.greatest id.0
two_slices l t u i id rules inside one other differ is = record { one = slice_of l t i; other = slice_of l u i; differ = differ; small = (slice_small l rules t i inside, slice_small l rules u i inside); one_named = one ∙ sym is; other_named = other ∙ sym is }

-- the figures of the image and its seed, by their indexes
pub are_figures : (kind : DigestKind) (number size : ℕ) (l m : Listing) (f : Figures) (t u : List ℕ) → t ≡ image_of number size → u ≡ seed_of (image_of number size) → IsIndexOfImage kind usual_sizes t l → IsIndexOfImage kind usual_sizes u m
    → ((kind : DigestKind) (s : Sizes) (image : List ℕ) (l : Listing) → IsIndexOfImage kind s image l → IsRight image l) → f ≡ figures_of l m (image_length l) → AreFigures kind number size f
are_figures kind number size l m f t u image seed of_image of_seed right is = record {
  listing = l;
  of_image = subst (λ b. IsIndexOfImage kind usual_sizes b l) image of_image;
  seed = m;
  of_seed = subst (λ b. IsIndexOfImage kind usual_sizes b m) seed of_seed;
  are = is ∙ ap (figures_of l m) (sym (right kind usual_sizes t l of_image).size ∙ ap length image ∙ length-bytes_after number size);
}
