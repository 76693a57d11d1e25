-- What several workers report, by what each of them knows. The survey left the fates m, and the lists are those of the
-- workers in their order.
use Rattle.std.proofs.Common.{◌≡◌, ◌⊎◌, ◌+◌, ◌++◌, ◌∙◌, ◌%◌, ◌<◌, ◌≤◌, ℕ, zero, suc, Bool, List, [], ◌∷◌, length, map, Option, slice_index_or, true, false, if◌then◌else◌, refl, sym, ap, subst, inl, inr, arith, zero-add}
use Rattle.std.proofs.lemmas.Bool.{cases_Bool, true≢false}
use Rattle.std.proofs.lemmas.Slice.Eq.{bytes_eq-Decides}
use Rattle.assembler.proofs.EconomySources.{had_source, source_same}
use Rattle.assembler.proofs.EconomySettled.{origin_upstream}
use Rattle.assembler.proofs.EconomySums.{sum_both, sum_same}
use Rattle.assembler.proofs.Entries.{among, first_among, ids_same, listed_of}
use Rattle.assembler.proofs.Tallies.{either_upstream, fate_upstream, seeded_upstream}
use Rattle.assembler.specs.Assemblies.{IsObtainable}
use Rattle.assembler.specs.Economy.{ReportsExactly, ReportsTogether, Tallied, TalliedShared}
use Rattle.assembler.specs.Passes.{want_at}
use Rattle.assembler.specs.Permits.{deals_to}
use Rattle.cache_store.specs.Giving.{SomeGives}
use Rattle.caibx_codec.specs.Listing.{Listing, count_of, id_of, kind_of, size_of, slice_of}
use Rattle.chunk_sources.specs.Economy.{as_upstream, origin_of, source_if, source_of, source_over, sum_below}
use Rattle.chunk_sources.specs.Losses.{Had}
use Rattle.chunk_sources.specs.Sources.{SeedsGive}
use Rattle.chunk_sources.specs.Wants.{Task, want_chunk}
use Rattle.chunk_store.specs.Digests.{digest_of}
use Rattle.dsy_base.specs.Bytes.{Held}
use Rattle.dsy_base.specs.Maps.{Map}
use Rattle.extract_plan.specs.Deal.{AreWants, Deal, first_of, want_id}
use Rattle.extract_plan.specs.Places.{places_at}
use Rattle.image_workers.proofs.Dealt.{dealt_entries, dealt_wants, none_first, owner, owner_below, tally_is}
use Rattle.image_workers.proofs.Tallying.{with_fate}
use Rattle.image_workers.specs.Reporting.{CountsFates, fate_told, known_at, reported_at}
use Rattle.range_ledger.specs.Fills.{Grows}
use Rattle.range_survey.specs.Fates.{FirstFates, fate_at, is_made, is_right_at, is_settled, settled}
use Rattle.range_survey.specs.Reports.{one_if, right_below, tally}
use Rattle.range_survey.specs.declared.fate.Fate.{Fate}
use Rattle.range_survey.specs.declared.fate.Fate.TheVariants as fate
use Rattle.range_survey.specs.declared.report.Report.{Report}

-- ---- one entry

-- what its worker has settled is told so
told_same : (x last : Fate) → is_settled x ≡ true → fate_told x last ≡ x
told_same fate.Open last is = absurd (true≢false (sym is))
told_same fate.Kept last is = refl
told_same fate.Copied last is = refl
told_same fate.Seeded last is = refl
told_same fate.Cached last is = refl
told_same fate.Fetched last is = refl

origin_not_kept : (x : Fate) → one_if fate.Kept (origin_of x) ≡ 0
origin_not_kept fate.Open = refl
origin_not_kept fate.Kept = refl
origin_not_kept fate.Copied = refl
origin_not_kept fate.Seeded = refl
origin_not_kept fate.Cached = refl
origin_not_kept fate.Fetched = refl

-- what its worker doesn't know as kept isn't told as kept
told_not_kept : (x last : Fate) → (is_settled x ≡ true → is_made x ≡ true) → one_if fate.Kept (fate_told x last) ≡ 0
told_not_kept fate.Open last made = origin_not_kept last
told_not_kept fate.Kept last made = absurd (true≢false (sym (made refl)))
told_not_kept fate.Copied last made = refl
told_not_kept fate.Seeded last made = refl
told_not_kept fate.Cached last made = refl
told_not_kept fate.Fetched last made = refl

kept_at_first : (x : Fate) → (x ≡ fate.Open) ⊎ (x ≡ fate.Kept) → is_settled x ≡ true → x ≡ fate.Kept
kept_at_first x (inl e) is = absurd (true≢false (sym is ∙ ap is_settled e))
kept_at_first x (inr e) is = e

abbrev counted : Bool → ℕ
counted b = if b then 1 else 0

-- ---- what was kept

module _ (l : Listing) (d : Deal) (any : 0 < d.workers) (base : List ℕ) (m : List Fate) (firsts : FirstFates m (count_of l)) (lists : List (List Fate))
    (right : (i : ℕ) → i < count_of l → settled m i ≡ is_right_at l base i) (grows : (k : ℕ) → k < d.workers → Grows m (slice_index_or lists k [])) where
  one_kept : (last : List Fate) (i : ℕ) → i < count_of l → one_if fate.Kept (reported_at d lists last i) ≡ counted (is_right_at l base i)
  one_kept last i inside =
      let w = want_at d i in
      let by = grows (owner d any w) (owner_below d any w) in
      let known = known_at lists (owner d any w) i in
      elim (cases_Bool (settled m i)) [
        | inl is ↦
            let kept : known ≡ fate.Kept = by.kept i is ∙ kept_at_first (fate_at m i) (firsts i inside) is in
            ap (λ x. one_if fate.Kept (fate_told x (fate_at last i))) kept ∙ ap counted (sym (sym (right i inside) ∙ is))
        | inr isnt ↦ told_not_kept known (fate_at last i) (by.made i isnt) ∙ ap counted (sym (sym (right i inside) ∙ isnt))
      ]

  pub all_kept : (last : List Fate) (k : ℕ) → k ≤ count_of l → with_fate fate.Kept (reported_at d lists last) k ≡ right_below l base k
  all_kept last zero le = refl
  all_kept last (suc k) le =
      let rest = all_kept last k (omega arith) in
      let here = one_kept last k (omega arith) in
      omega (arith, rest, here)

-- ---- what was got

module _ (t : Task) (wants : AreWants t.listing t.plan.wants t.plan.want_of) (base : List ℕ) (m : List Fate)
    (right : (i : ℕ) → i < count_of t.listing → settled m i ≡ is_right_at t.listing base i) (views : List (Option Held)) (cached maps : List (Map (List ℕ))) where
  -- what holds for its source at first holds over the base
  pub source_first : (w : ℕ) → source_over t (settled m) views cached maps w ≡ source_of t base views cached maps w
  source_first w = source_same t views maps w cached cached (settled m) (is_right_at t.listing base)
      (λ i other. right i (listed_of t.listing t.plan w i wants other)) refl

  had_first : (i : ℕ) → i < count_of t.listing → IsObtainable t base views (cached ++ maps) i → Had m (want_chunk t (want_at t.plan i)) views (cached ++ maps)
  had_first i inside (inl (j, listed, alike, is)) =
      let size : length t.plan.want_of ≡ count_of t.listing = wants.size in
      let decides = bytes_eq-Decides (digest_of (kind_of t.listing) (slice_of t.listing base j)) (id_of t.listing j) in
      inl (j, among t.plan (want_at t.plan i) j (omega (arith, listed, size)) ((wants.alike j i listed inside).1 alike), right j listed ∙ decides.1 is)
  had_first i inside (inr source) =
      let l = t.listing in
      let d = t.plan in
      let w = want_at d i in
      let size : length d.want_of ≡ count_of l = wants.size in
      let like = ids_same l d w i (first_of d w) wants (among d w i (omega (arith, inside, size)) refl) (first_among l d w wants (wants.within i inside)) in
      inr (subst (λ n. SeedsGive views (places_at t.places w) (want_id l d w) ⊎ SomeGives (kind_of l) (want_id l d w) n (cached ++ maps)) like.1
      (subst (λ q. SeedsGive views (places_at t.places w) q ⊎ SomeGives (kind_of l) q (size_of l i) (cached ++ maps)) like.0 source))

  -- what can be obtained has a source
  pub had_not_open : (i : ℕ) → i < count_of t.listing → IsObtainable t base views (cached ++ maps) i → source_of t base views cached maps (want_at t.plan i) ≡ fate.Open → ⊥
  had_not_open i inside can none =
      had_source t views maps (want_at t.plan i) cached m (had_first i inside can) (source_first (want_at t.plan i) ∙ none)

-- what the workers know of all entries, where each has settled what it was dealt: of those with the fate f there are as
-- many as wants with this source
module _ (d : Deal) (any : 0 < d.workers) (count wants : ℕ) (m : List Fate) (firsts : FirstFates m count) (source : ℕ → Fate) (lists : List (List Fate)) (last : List Fate)
    (others : (k i : ℕ) → k < d.workers → deals_to d k (want_at d i) ≡ false → known_at lists k i ≡ fate_at m i)
    (made : (i : ℕ) → i < count → is_settled (known_at lists (owner d any (want_at d i)) i) ≡ true) where
  pub got_so : (f : Fate) → one_if f fate.Open ≡ 0 → one_if f fate.Kept ≡ 0
      → ((k : ℕ) → k < d.workers → tally f (slice_index_or lists k []) count ≡ tally f m count + sum_below (λ w. one_if f (source_if (deals_to d k) source w)) wants)
      → with_fate f (reported_at d lists last) count ≡ sum_below (λ w. one_if f (source w)) wants
  got_so f no_open no_kept each =
      sum_same (λ i. one_if f (reported_at d lists last i)) (λ i. one_if f (known_at lists (owner d any (want_at d i)) i)) count
      (λ i inside. ap (one_if f) (told_same (known_at lists (owner d any (want_at d i)) i) (fate_at last i) (made i inside)))
      ∙ dealt_entries d any f no_open no_kept m count firsts lists others
      ∙ sum_same (λ k. with_fate f (known_at lists k) count) (λ k. sum_below (λ w. one_if f (source_if (deals_to d k) source w)) wants) d.workers
      (λ k less. sym (tally_is f (slice_index_or lists k []) count) ∙ each k less
      ∙ ap (λ n. n + sum_below (λ w. one_if f (source_if (deals_to d k) source w)) wants) (none_first d any f no_open no_kept m count firsts)
      ∙ zero-add (sum_below (λ w. one_if f (source_if (deals_to d k) source w)) wants))
      ∙ dealt_wants d any f no_open no_kept source wants

  pub got_exactly : ((k : ℕ) → k < d.workers → Tallied (sum_below (λ w. one_if fate.Seeded (source_if (deals_to d k) source w)) wants)
      (sum_below (λ w. one_if fate.Cached (source_if (deals_to d k) source w)) wants) (sum_below (λ w. one_if fate.Fetched (source_if (deals_to d k) source w)) wants) count m (slice_index_or lists k []))
      → (r : Report) → CountsFates (reported_at d lists last) count r → ReportsExactly source wants r
  got_exactly each r counts = (
    counts.seeded ∙ got_so fate.Seeded refl refl (λ k less. (each k less).from_seeds),
    counts.cached ∙ got_so fate.Cached refl refl (λ k less. (each k less).from_cache),
    counts.fetched ∙ got_so fate.Fetched refl refl (λ k less. (each k less).from_stores),
  )

-- ---- with cache and stores as one

map_nth : (lists : List (List Fate)) (k : ℕ) → slice_index_or (map (map as_upstream) lists) k [] ≡ map as_upstream (slice_index_or lists k [])
map_nth [] k = refl
map_nth (m ∷ ms) zero = refl
map_nth (m ∷ ms) (suc k) = map_nth ms k

settled_upstream : (x : Fate) → is_settled (as_upstream x) ≡ is_settled x
settled_upstream fate.Open = refl
settled_upstream fate.Kept = refl
settled_upstream fate.Copied = refl
settled_upstream fate.Seeded = refl
settled_upstream fate.Cached = refl
settled_upstream fate.Fetched = refl

told_upstream : (x last : Fate) → fate_told (as_upstream x) (as_upstream last) ≡ as_upstream (fate_told x last)
told_upstream fate.Open last = sym (origin_upstream last)
told_upstream fate.Kept last = refl
told_upstream fate.Copied last = refl
told_upstream fate.Seeded last = refl
told_upstream fate.Cached last = refl
told_upstream fate.Fetched last = refl

module _ (d : Deal) (lists : List (List Fate)) (last : List Fate) where
  known_upstream : (k i : ℕ) → known_at (map (map as_upstream) lists) k i ≡ as_upstream (known_at lists k i)
  known_upstream k i = ap (λ (m : List Fate). fate_at m i) (map_nth lists k) ∙ fate_upstream (slice_index_or lists k []) i

  reported_upstream : (i : ℕ) → reported_at d (map (map as_upstream) lists) (map as_upstream last) i ≡ as_upstream (reported_at d lists last i)
  reported_upstream i =
      let k = want_at d i % d.workers in
      ap (λ x. fate_told x (fate_at (map as_upstream last) i)) (known_upstream k i)
      ∙ ap (fate_told (as_upstream (known_at lists k i))) (fate_upstream last i)
      ∙ told_upstream (known_at lists k i) (fate_at last i)

  module _ (any : 0 < d.workers) (count wants : ℕ) (m : List Fate) (firsts : FirstFates m count) (source : ℕ → Fate)
      (others : (k i : ℕ) → k < d.workers → deals_to d k (want_at d i) ≡ false → known_at lists k i ≡ fate_at m i)
      (made : (i : ℕ) → i < count → is_settled (known_at lists (owner d any (want_at d i)) i) ≡ true)
      (each : (k : ℕ) → k < d.workers → TalliedShared (deals_to d k) source wants count m (slice_index_or lists k [])) where
    got_upstream : (f : Fate) → one_if f fate.Open ≡ 0 → one_if f fate.Kept ≡ 0
        → ((k : ℕ) → k < d.workers → tally f (map as_upstream (slice_index_or lists k [])) count ≡ tally f (map as_upstream m) count + sum_below (λ w. one_if f (source_if (deals_to d k) (λ v. as_upstream (source v)) w)) wants)
        → sum_below (λ i. one_if f (as_upstream (reported_at d lists last i))) count ≡ sum_below (λ w. one_if f (as_upstream (source w))) wants
    got_upstream f no_open no_kept by =
        sum_same (λ i. one_if f (as_upstream (reported_at d lists last i))) (λ i. one_if f (reported_at d (map (map as_upstream) lists) (map as_upstream last) i)) count
        (λ i inside. ap (one_if f) (sym (reported_upstream i)))
        ∙ got_so d any count wants (map as_upstream m)
        (λ i inside. elim (firsts i inside) [
          | inl is ↦ inl (fate_upstream m i ∙ ap as_upstream is)
          | inr is ↦ inr (fate_upstream m i ∙ ap as_upstream is)
        ])
        (λ w. as_upstream (source w)) (map (map as_upstream) lists) (map as_upstream last)
        (λ k i less isnt. known_upstream k i ∙ ap as_upstream (others k i less isnt) ∙ sym (fate_upstream m i))
        (λ i inside. ap is_settled (known_upstream (owner d any (want_at d i)) i) ∙ settled_upstream (known_at lists (owner d any (want_at d i)) i) ∙ made i inside)
        f no_open no_kept
        (λ k less. ap (λ (n : List Fate). tally f n count) (map_nth lists k) ∙ by k less)

    pub got_together : (r : Report) → CountsFates (reported_at d lists last) count r → ReportsTogether source wants r
    got_together r counts =
        let at = reported_at d lists last in
        let both = sum_both (λ i. one_if fate.Cached (at i)) (λ i. one_if fate.Fetched (at i)) (λ i. one_if fate.Fetched (as_upstream (at i))) count (λ i inside. sym (either_upstream (at i))) in (
          counts.seeded
              ∙ sum_same (λ i. one_if fate.Seeded (at i)) (λ i. one_if fate.Seeded (as_upstream (at i))) count (λ i inside. sym (seeded_upstream (at i)))
              ∙ got_upstream fate.Seeded refl refl (λ k less. (each k less).from_seeds)
              ∙ sum_same (λ w. one_if fate.Seeded (as_upstream (source w))) (λ w. one_if fate.Seeded (source w)) wants (λ w less. seeded_upstream (source w)),
          omega (arith, counts.cached, counts.fetched, both, got_upstream fate.Fetched refl refl (λ k less. (each k less).from_stores)),
        )
