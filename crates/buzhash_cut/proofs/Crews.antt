-- The workers of one image, by their places.
use Rattle.std.proofs.Common.{◌≡◌, ℕ, ◌+◌, ◌-◌, ◌<◌, ◌≤◌, List, [], ◌∷◌, ◌++◌, length, map, reverse, take, slice_index, slice_index_or, All, sym, ap, subst, ◌∙◌, arith, inl, inr, length-append, Option, IfSome, Result, Ok, Err, IfOk, IfErr, OnOk}
use Rattle.std.proofs.lemmas.Bool.{cases_lt}
use Rattle.std.proofs.lemmas.List.{get_or-map, get_or-reverse, take-append-le, take_all, get_or_append_left, get_or-append-add, get_or_past, length-map, length-reverse, map-append, reverse-append}
use Rattle.buzhash_cut.specs.Entries.{AreAll, AreEntries, AreTooMany, IsEntryRun}
use Rattle.buzhash_cut.specs.Image.{AreOfOneImage, CountsViews, HasTooManyCuts}
use Rattle.buzhash_cut.specs.Runs.{AreRuns, HasCut, HasCutFirst, Slices}
use Rattle.chunk_ends.specs.Sizes.{Sizes}
use Rattle.chunk_store.specs.declared.id.DigestKind.{DigestKind}
use Rattle.buzhash_cut.specs.declared.image.CutFault.{CutFault}
use Rattle.buzhash_cut.specs.declared.image.CutFault.TheVariants as faults
use Rattle.buzhash_cut.specs.declared.run.Run.{Run}
use Rattle.buzhash_cut.specs.declared.worker.Worker.{Worker}
use Rattle.caibx_codec.specs.Seen.{pairs}
use Rattle.dsy_base.specs.Bytes.{Held}
use Rattle.dsy_base.specs.Counts.{CountsFaults}

pub if_ok : {A E : Type 0} (r : Result A E) (P Q : A → Type 0) → ((x : A) → P x → Q x) → IfOk r P → IfOk r Q
if_ok (Ok x) P Q f h = f x h
if_ok (Err e) P Q f h = tt

pub if_err : {A E : Type 0} (r : Result A E) (P Q : E → Type 0) → ((e : E) → P e → Q e) → IfErr r P → IfErr r Q
if_err (Ok x) P Q f h = tt
if_err (Err e) P Q f h = f e h

-- what is said of one view of an image holds of another
module _ (kind : DigestKind) (s : Sizes) (h k : Held) (size : k.size ≡ h.size) (bytes : k.bytes ≡ h.bytes) where
  entries_alike : (a b : ℕ) (es : List (ℕ × List ℕ)) → AreEntries kind s h.bytes a es b → AreEntries kind s k.bytes a es b
  entries_alike a b es p = subst (λ (o : Option (List ℕ)). AreEntries kind s o a es b) (sym bytes) p

  run_alike : (a : ℕ) (es : List (ℕ × List ℕ)) → IsEntryRun kind s h a es → IsEntryRun kind s k a es
  run_alike a es run = record { end = run.end; inside = omega (arith, run.inside, size); entries = entries_alike a run.end es run.entries }

  pub runs_alike : (rs : List Run) → AreRuns kind s h rs → AreRuns kind s k rs
  runs_alike rs runs i d lt = run_alike (slice_index_or rs i d).start (pairs (slice_index_or rs i d).entries.items) (runs i d lt)

  all_alike : (es : List (ℕ × List ℕ)) → AreAll kind s h es → AreAll kind s k es
  all_alike es all = record {
    few = all.few;
    entries = subst (λ (n : ℕ). AreEntries kind s k.bytes 0 es n) (sym size) (entries_alike 0 h.size es all.entries);
    sized = subst (λ (o : Option (List ℕ)). IfSome o (λ t. length t ≡ k.size)) (sym bytes) (subst (λ (n : ℕ). IfSome h.bytes (λ t. length t ≡ n)) (sym size) all.sized);
  }

  many_alike : AreTooMany s h → AreTooMany s k
  many_alike many = subst (λ (o : Option (List ℕ)). IfSome o (HasTooManyCuts s)) (sym bytes) many

last_at : {W : Type 0} (rest : List W) (m d : W) → slice_index_or (rest ++ m ∷ []) (length rest) d ≡ m
last_at {W = W} rest m d =
    let is : length rest ≡ length rest + 0 = omega arith in
    ap (λ (k : ℕ). slice_index_or (rest ++ m ∷ []) k d) is ∙ get_or-append-add rest (m ∷ []) 0 d

-- the workers before and after they have cut. The first of them, which comes last, is taken out
module _ {V : Type 0} (held : V → Held) (failed : V → ℕ) (kind : DigestKind) (s : Sizes) (olds lent mids more rest : List (Worker V)) (m : Worker V) (n : ℕ) (lent_is : lent ≡ olds) (size : length lent ≡ n)
    (popped : take n (mids ++ more) ≡ rest ++ m ∷ []) (same : map (λ w. held w.view) mids ≡ map (λ w. held w.view) lent) (alike : AreOfOneImage (map (λ w. held w.view) olds)) where
  abbrev W : Type 0
  W = Worker V

  abbrev H : W → Held
  H w = held w.view

  abbrev F : W → ℕ
  F w = failed w.view

  kept : map H mids ≡ map H olds
  kept = same ∙ ap (map H) lent_is

  long : length olds ≡ length mids
  long = sym (length-map olds H) ∙ sym (ap length kept) ∙ length-map mids H

  count : n ≡ length olds
  count = sym size ∙ ap length lent_is

  is : mids ≡ rest ++ m ∷ []
  is = sym (take-append-le n mids more (omega (arith, count, long)) ∙ take_all n mids (omega (arith, count, long))) ∙ popped

  longer : length mids ≡ length rest + 1
  longer = ap length is ∙ length-append rest (m ∷ [])

  place : length olds - 1 ≡ length rest
  place = omega (arith, long, longer)

  last_is : slice_index_or mids (length rest) m ≡ m
  last_is = ap (λ (xs : List W). slice_index_or xs (length rest) m) is ∙ last_at rest m m

  -- the view of the first holds what it held
  held_at : (k : ℕ) → k < length olds → H (slice_index_or olds k m) ≡ H (slice_index_or mids k m)
  held_at k lt = sym (get_or-map H olds k m (H m) lt) ∙ ap (λ (hs : List Held). slice_index_or hs k (H m)) (sym kept) ∙ get_or-map H mids k m (H m) (omega (arith, lt, long))

  held_first : H (slice_index_or olds (length olds - 1) m) ≡ H m
  held_first =
      ap (λ (k : ℕ). H (slice_index_or olds k m)) place ∙ held_at (length rest) (omega (arith, long, longer)) ∙ ap H last_is

  alike_first : (k : ℕ) (e : Held) → k < length (map H olds) → ((slice_index_or (map H olds) k e).size ≡ (H m).size) × ((slice_index_or (map H olds) k e).bytes ≡ (H m).bytes)
  alike_first k e lt =
      let many : length olds - 1 < length (map H olds) = omega (arith, long, longer, length-map olds H) in
      let there : slice_index_or (map H olds) (length olds - 1) e ≡ H m = get_or-map H olds (length olds - 1) m e (omega (arith, long, longer)) ∙ held_first in
      subst (λ (h : Held). ((slice_index_or (map H olds) k e).size ≡ h.size) × ((slice_index_or (map H olds) k e).bytes ≡ h.bytes)) there (alike (length olds - 1) e many k e lt)

  pub all_of : (es : List (ℕ × List ℕ)) → AreAll kind s (H m) es → All (λ h. AreAll kind s h es) (map H olds)
  all_of es all k e lt = let same = alike_first k e lt in all_alike kind s (H m) (slice_index_or (map H olds) k e) same.0 same.1 es all

  pub many_of : AreTooMany s (H m) → All (AreTooMany s) (map H olds)
  many_of many k e lt = let same = alike_first k e lt in many_alike kind s (H m) (slice_index_or (map H olds) k e) same.0 same.1 many

  -- what the first has cut
  pub first_cut : ((d : W) → HasCutFirst held failed kind s (slice_index_or lent (length lent - 1) d) (slice_index_or mids (length lent - 1) d))
      → HasCutFirst held failed kind s (slice_index_or olds (length olds - 1) m) m
  first_cut cut =
      let at : slice_index_or mids (length olds - 1) m ≡ m = ap (λ (k : ℕ). slice_index_or mids k m) place ∙ last_is in
      let here = subst (λ (xs : List W). HasCutFirst held failed kind s (slice_index_or xs (length xs - 1) m) (slice_index_or mids (length xs - 1) m)) lent_is (cut m) in
      subst (λ (w : W). HasCutFirst held failed kind s (slice_index_or olds (length olds - 1) m) w) at here

  pub first_end : ((d : W) → HasCutFirst held failed kind s (slice_index_or lent (length lent - 1) d) (slice_index_or mids (length lent - 1) d))
      → IfOk m.end (λ e. (e ≤ (H m).size) × AreEntries kind s (H m).bytes 0 (pairs m.entries.items) e)
  first_end cut = subst (λ (h : Held). IfOk m.end (λ e. (e ≤ h.size) × AreEntries kind s h.bytes 0 (pairs m.entries.items) e)) held_first (first_cut cut).end

  pub first_many : ((d : W) → HasCutFirst held failed kind s (slice_index_or lent (length lent - 1) d) (slice_index_or mids (length lent - 1) d))
      → IfErr m.end (λ f. f ≡ faults.TooManyItems → AreTooMany s (H m))
  first_many cut = subst (λ (h : Held). IfErr m.end (λ f. f ≡ faults.TooManyItems → AreTooMany s h)) held_first (first_cut cut).many

  pub first_slices : ((d : W) → HasCutFirst held failed kind s (slice_index_or lent (length lent - 1) d) (slice_index_or mids (length lent - 1) d))
      → OnOk m.end (Slices kind s (H m).size m.slicer)
  first_slices cut = subst (λ (h : Held). OnOk m.end (Slices kind s h.size m.slicer)) held_first (first_cut cut).slices

  -- and the others
  pub others_cut : ((k : ℕ) (d : W) → k < length lent → HasCut held failed kind s (slice_index_or lent k d) (slice_index_or mids k d)) → All (λ w. AreRuns kind s (H m) w.runs.items) rest
  others_cut cut k d lt =
      let inside : k < length olds = omega (arith, lt, long, longer) in
      let o : W = slice_index_or olds k d in
      let at : slice_index_or mids k d ≡ slice_index_or rest k d = ap (λ (xs : List W). slice_index_or xs k d) is ∙ get_or_append_left rest (m ∷ []) d k lt in
      let here : HasCut held failed kind s o (slice_index_or rest k d) =
      subst (λ (w : W). HasCut held failed kind s o w) at (subst (λ (xs : List W). HasCut held failed kind s (slice_index_or xs k d) (slice_index_or mids k d)) lent_is (cut k d (omega (arith, inside, count, size)))) in
      let own : H o ≡ slice_index_or (map H olds) k (H m) = sym (get_or-map H olds k d (H m) inside) in
      let same = alike_first k (H m) (omega (arith, inside, length-map olds H)) in
      let size : (H m).size ≡ (H o).size = sym (ap (λ (h : Held). h.size) own ∙ same.0) in
      let bytes : (H m).bytes ≡ (H o).bytes = sym (ap (λ (h : Held). h.bytes) own ∙ same.1) in
      runs_alike kind s (H o) (H m) size bytes (slice_index_or rest k d).runs.items here.runs

  -- and how the counts went, when the first has gone on to the view of `next`
  module _ (cut : (k : ℕ) (d : W) → k < length lent → HasCut held failed kind s (slice_index_or lent k d) (slice_index_or mids k d)) {A : Type 0} (next : W) (result : Result A CutFault) (counts : CountsFaults faults.ImageFault faults.Memory (F (slice_index_or olds (length olds - 1) m)) (F next) result) where
    count_at : (k : ℕ) → k < length olds → F (slice_index_or olds k m) ≤ F (slice_index_or (rest ++ next ∷ []) k m)
    count_at k lt = elim (cases_lt k (length rest)) [
      | inl inside ↦
          let at : slice_index_or mids k m ≡ slice_index_or (rest ++ next ∷ []) k m =
          ap (λ (xs : List W). slice_index_or xs k m) is ∙ get_or_append_left rest (m ∷ []) m k inside ∙ sym (get_or_append_left rest (next ∷ []) m k inside) in
          let rose : F (slice_index_or olds k m) ≤ F (slice_index_or mids k m) =
          (subst (λ (xs : List W). HasCut held failed kind s (slice_index_or xs k m) (slice_index_or mids k m)) lent_is (cut k m (omega (arith, lt, count, size)))).never_falls in
          subst (λ (w : W). F (slice_index_or olds k m) ≤ F w) at rose
      | inr past ↦
          let place_is : k ≡ length rest = omega (arith, long, longer) in
          let end : length olds - 1 ≡ k = omega (arith, long, longer) in
          let there : next ≡ slice_index_or (rest ++ next ∷ []) k m = sym (ap (λ (j : ℕ). slice_index_or (rest ++ next ∷ []) j m) place_is ∙ last_at rest next m) in
          subst (λ (w : W). F (slice_index_or olds k m) ≤ F w) there (subst (λ (j : ℕ). F (slice_index_or olds j m) ≤ F next) end counts.never_falls)
    ]

    length_news : length (map F (rest ++ next ∷ [])) ≡ length (map F olds)
    length_news = omega (arith, length-map (rest ++ next ∷ []) F, length-map olds F, length-append rest (next ∷ []), long, longer)

    fell_at : (k : ℕ) → slice_index (reverse (map F olds)) k ≤ slice_index (reverse (map F (rest ++ next ∷ []))) k
    fell_at k = elim (cases_lt k (length (map F olds))) [
      | inl inside ↦
          let j : ℕ = length (map F olds) - 1 - k in
          let lt : j < length olds = omega (arith, length-map olds F) in
          let old : slice_index (reverse (map F olds)) k ≡ F (slice_index_or olds j m) = get_or-reverse (map F olds) k 0 inside ∙ get_or-map F olds j m 0 lt in
          let new : slice_index (reverse (map F (rest ++ next ∷ []))) k ≡ F (slice_index_or (rest ++ next ∷ []) j m) =
          get_or-reverse (map F (rest ++ next ∷ [])) k 0 (omega (arith, length_news))
          ∙ ap (λ (i : ℕ). slice_index (map F (rest ++ next ∷ [])) (i - 1 - k)) length_news
          ∙ get_or-map F (rest ++ next ∷ []) j m 0 (omega (arith, length_news, length-map (rest ++ next ∷ []) F, length-map olds F)) in
          let fell = count_at j lt in
          omega (arith, old, new, fell)
      | inr past ↦ omega (arith, get_or_past (reverse (map F olds)) k 0 (omega (arith, length-reverse (map F olds))))
    ]

    first_old : slice_index (reverse (map F olds)) 0 ≡ F (slice_index_or olds (length olds - 1) m)
    first_old =
        let some : 0 < length (map F olds) = omega (arith, length-map olds F, long, longer) in
        let at : length (map F olds) - 1 - 0 ≡ length olds - 1 = omega (arith, length-map olds F) in
        get_or-reverse (map F olds) 0 0 some ∙ ap (slice_index (map F olds)) at ∙ get_or-map F olds (length olds - 1) m 0 (omega (arith, long, longer))

    first_new : slice_index (reverse (map F (rest ++ next ∷ []))) 0 ≡ F next
    first_new =
        ap (λ (xs : List ℕ). slice_index xs 0) (ap reverse (map-append F rest (next ∷ [])) ∙ reverse-append (map F rest) (F next ∷ []))

    pub counts_of : CountsViews faults.ImageFault faults.Memory (reverse (map F olds)) (reverse (map F (rest ++ next ∷ []))) result
    counts_of = record {
      never_falls = fell_at;
      first = subst (λ (a : ℕ). CountsFaults faults.ImageFault faults.Memory a (slice_index (reverse (map F (rest ++ next ∷ []))) 0) result) (sym first_old)
          (subst (λ (b : ℕ). CountsFaults faults.ImageFault faults.Memory (F (slice_index_or olds (length olds - 1) m)) b result) (sym first_new) counts);
    }
