-- What holds for kits in lanes holds for the kits before and after they were there.
use Rattle.std.proofs.Common.{◌≡◌, ◌<◌, ◌≤◌, ◌∷◌, ℕ, List, [], Bool, false, Option, Some, None, IfSome, IsSome, IsSomeAnd, All, is_some, length, map, refl, slice_index_or, sym, ap, subst, ◌∙◌, arith}
use Rattle.std.proofs.lemmas.Bool.{true≢false}
use Rattle.std.proofs.lemmas.List.{get_or-map, length-map}
use Rattle.std.specs.Option.{option_map}
use Rattle.assembler.proofs.Stepped.{seeds_count}
use Rattle.assembler.specs.Stages.{Ready}
use Rattle.cache_store.specs.Shelves.{Shelf}
use Rattle.caibx_codec.specs.Listing.{kind_of, size_of}
use Rattle.chunk_sources.specs.Wants.{Task}
use Rattle.chunk_sources.specs.declared.kit.Kit.{Kit}
use Rattle.chunk_store.specs.declared.id.DigestKind.{DigestKind}
use Rattle.chunk_store.specs.declared.store.Store.{Ghosts as StoreWords}
use Rattle.dsy_base.specs.declared.view.View.{Ghosts as ViewWords}
use Rattle.extract_plan.specs.Places.{PlacesKnown}
use Rattle.image_workers.proofs.Permitting.{FilledBy}
use Rattle.image_workers.specs.Beside.{joined_stage}
use Rattle.image_workers.specs.Lanes.{HasWorked, IsReadyFor, LaneWorks, OfTools, kit_of, known_of, tools_of}
use Rattle.image_workers.specs.declared.lanes.Lane.{Lane}
use Rattle.image_workers.specs.declared.lanes.Tools.{Tools}
use Rattle.extract_plan.specs.Deal.{AreWants, Deal}
use Rattle.extract_plan.specs.Places.{Placed}
use Rattle.owned_shards.specs.Wholes.{KeptWhole, Whole}
use Rattle.range_ledger.specs.Runs.{Run}
use Rattle.range_survey.specs.declared.fate.Fate.{Fate}

abbrev list_or : List Fate → Option (List Fate) → List Fate
list_or n None = n
list_or n (Some m) = m

module _ {S V : Type 0} where
  pub a_kit : (kits : List (Kit S V)) → 0 < length kits → Kit S V
  a_kit [] some = absurd (omega (arith, some))
  a_kit (q ∷ rest) some = q

  abbrev kit_or : Kit S V → Option (Kit S V × List Fate) → Kit S V
  kit_or q None = q
  kit_or q (Some p) = p.0

  abbrev known_or : List Fate → Option (Kit S V × List Fate) → List Fate
  known_or m None = m
  known_or m (Some p) = p.1

  abbrev only_or : Kit S V → Option (Kit S V) → Kit S V
  only_or q None = q
  only_or q (Some p) = p

  in_tools : (P : Kit S V → List Fate → Type 0) (q : Kit S V) (m : List Fate) (o : Option (Tools S V)) → option_map {U = Kit S V × List Fate} (λ x. (x.kit, x.known.items)) o ≡ Some (q, m) → P q m
      → IsSomeAnd o (λ x. P x.kit x.known.items)
  in_tools P q m None is has = absurd (true≢false (sym (ap is_some is)))
  in_tools P q m (Some x) is has = subst (λ n. P x.kit n) (sym (ap (known_or m) is)) (subst (λ k. P k m) (sym (ap (kit_or q) is)) has)

  out_tools : (P : Kit S V → List Fate → Type 0) (q : Kit S V) (m : List Fate) (o : Option (Tools S V)) → option_map {U = Kit S V × List Fate} (λ x. (x.kit, x.known.items)) o ≡ Some (q, m)
      → IsSomeAnd o (λ x. P x.kit x.known.items) → P q m
  out_tools P q m None is has = absurd has
  out_tools P q m (Some x) is has = subst (λ n. P q n) (ap (known_or m) is) (subst (λ k. P k x.known.items) (ap (kit_or q) is) has)

  out_kit : (P : Kit S V → List Fate → Type 0) (q : Kit S V) (o : Option (Tools S V)) → option_map (λ x. x.kit) o ≡ Some q → IsSomeAnd o (λ x. P x.kit x.known.items) → (n : List Fate) × P q n
  out_kit P q None is has = absurd has
  out_kit P q (Some x) is has = (x.known.items, subst (λ k. P k x.known.items) (ap (only_or q) is) has)

  out_both : (P : Kit S V → List Fate → Type 0) (q : Kit S V) (n : List Fate) (o : Option (Tools S V)) → option_map (λ x. x.kit) o ≡ Some q → option_map (λ x. x.known.items) o ≡ Some n
      → IsSomeAnd o (λ x. P x.kit x.known.items) → P q n
  out_both P q n None is so has = absurd has
  out_both P q n (Some x) is so has = subst (λ m. P q m) (ap (list_or n) so) (subst (λ k. P k x.known.items) (ap (only_or q) is) has)

  is_there : (P : Kit S V → List Fate → Type 0) (o : Option (Tools S V)) → IsSomeAnd o (λ x. P x.kit x.known.items) → IsSome (option_map (λ x. x.kit) o)
  is_there P None has = absurd has
  is_there P (Some x) has = refl

  module _ (kits : List (Kit S V)) (m : List Fate) (xs : List (Lane S V)) (same : map tools_of xs ≡ map (λ q. Some (q, m)) kits) where
    pub as_many : length xs ≡ length kits
    as_many = sym (length-map xs tools_of) ∙ ap length same ∙ length-map kits (λ q. Some (q, m))

    tools_at : (k : ℕ) (a : Lane S V) (q : Kit S V) → k < length xs → tools_of (slice_index_or xs k a) ≡ Some (slice_index_or kits k q, m)
    tools_at k a q less = sym (get_or-map tools_of xs k a None less) ∙ ap (λ zs. slice_index_or zs k None) same ∙ get_or-map (λ p. Some (p, m)) kits k q None (omega (arith, less, as_many))

    pub ready_at : (P : ℕ → Kit S V → List Fate → Type 0) → ((k : ℕ) (q : Kit S V) → k < length kits → P k (slice_index_or kits k q) m) → (k : ℕ) (a : Lane S V) → k < length xs
        → OfTools (slice_index_or xs k a) (P k)
    ready_at P are k a less =
        let q = a_kit kits (omega (arith, less, as_many)) in
        in_tools (P k) (slice_index_or kits k q) m (slice_index_or xs k a).tools (tools_at k a q less) (are k q (omega (arith, less, as_many)))

    module _ (store : StoreWords S) (view : ViewWords V) (r : Run) (t : Task) (e : Option Shelf) (never cache_never : Bool) (ys : List (Lane S V)) (long : length ys ≡ length xs)
        (each : (k : ℕ) (a : Lane S V) → k < length xs → LaneWorks store view r t e never cache_never k (slice_index_or xs k a) (slice_index_or ys k a)) where
      abbrev none_there : Lane S V
      none_there = record { tools = None; lacked = false }

      pub all_there : All (λ a. IsSome (kit_of a)) ys
      all_there k d less =
          let q = a_kit kits (omega (arith, less, long, as_many)) in
          let y = slice_index_or ys k d in
          is_there (λ b n. HasWorked store view r t e never cache_never k (slice_index_or kits k q) m b n y.lacked) y.tools
          (out_tools (λ a p. OfTools y (λ b n. HasWorked store view r t e never cache_never k a p b n y.lacked)) (slice_index_or kits k q) m (slice_index_or xs k d).tools (tools_at k d q (omega (arith, less, long)))
          (each k d (omega (arith, less, long))))

      pub worked_at : (outs : List (Kit S V)) → map (λ q. Some q) outs ≡ map kit_of ys → (k : ℕ) (q p : Kit S V) → k < length kits
          → (n : List Fate) × HasWorked store view r t e never cache_never k (slice_index_or kits k q) m (slice_index_or outs k p) n (slice_index_or ys k none_there).lacked
      worked_at outs are k q p less =
          let y = slice_index_or ys k none_there in
          let in_xs : k < length xs = omega (arith, less, as_many) in
          let in_ys : k < length ys = omega (arith, in_xs, long) in
          let outs_long : length (map (λ (z : Kit S V). Some z) outs) ≡ length outs = length-map outs (λ (z : Kit S V). Some z) in
          let ys_long : length (map kit_of ys) ≡ length ys = length-map ys kit_of in
          let in_outs : k < length outs = omega (arith, in_ys, outs_long, ys_long, ap length are) in
          out_kit (λ b n. HasWorked store view r t e never cache_never k (slice_index_or kits k q) m b n y.lacked) (slice_index_or outs k p) y.tools
          (sym (get_or-map kit_of ys k none_there None in_ys) ∙ ap (λ zs. slice_index_or zs k None) (sym are) ∙ get_or-map (λ z. Some z) outs k p None in_outs)
          (out_tools (λ a w. OfTools y (λ b n. HasWorked store view r t e never cache_never k a w b n y.lacked)) (slice_index_or kits k q) m (slice_index_or xs k none_there).tools (tools_at k none_there q in_xs)
          (each k none_there in_xs))

      -- the same, where the lists of what each knows were taken too
      pub knew_at : (outs : List (Kit S V)) → map (λ q. Some q) outs ≡ map kit_of ys → (lists : List (List Fate)) → map (λ n. Some n) lists ≡ map known_of ys → (k : ℕ) (q p : Kit S V) → k < length kits
          → HasWorked store view r t e never cache_never k (slice_index_or kits k q) m (slice_index_or outs k p) (slice_index_or lists k []) (slice_index_or ys k none_there).lacked
      knew_at outs are lists so k q p less =
          let y = slice_index_or ys k none_there in
          let in_xs : k < length xs = omega (arith, less, as_many) in
          let in_ys : k < length ys = omega (arith, in_xs, long) in
          let outs_long : length (map (λ (z : Kit S V). Some z) outs) ≡ length outs = length-map outs (λ (z : Kit S V). Some z) in
          let lists_long : length (map (λ (z : List Fate). Some z) lists) ≡ length lists = length-map lists (λ (z : List Fate). Some z) in
          let kits_long : length (map kit_of ys) ≡ length ys = length-map ys kit_of in
          let known_long : length (map known_of ys) ≡ length ys = length-map ys known_of in
          let in_outs : k < length outs = omega (arith, in_ys, outs_long, kits_long, ap length are) in
          let in_lists : k < length lists = omega (arith, in_ys, lists_long, known_long, ap length so) in
          out_both (λ b n. HasWorked store view r t e never cache_never k (slice_index_or kits k q) m b n y.lacked) (slice_index_or outs k p) (slice_index_or lists k []) y.tools
          (sym (get_or-map kit_of ys k none_there None in_ys) ∙ ap (λ zs. slice_index_or zs k None) (sym are) ∙ get_or-map (λ z. Some z) outs k p None in_outs)
          (sym (get_or-map known_of ys k none_there None in_ys) ∙ ap (λ zs. slice_index_or zs k None) (sym so) ∙ get_or-map (λ z. Some z) lists k [] None in_lists)
          (out_tools (λ a w. OfTools y (λ b n. HasWorked store view r t e never cache_never k a w b n y.lacked)) (slice_index_or kits k q) m (slice_index_or xs k none_there).tools (tools_at k none_there q in_xs)
          (each k none_there in_xs))

module _ {S V : Type 0} (store : StoreWords S) (view : ViewWords V) (r : Run) (d : Deal) (x : Placed) where
  abbrev t : Task
  t = record { listing = r.listing; plan = d; places = x }

  -- the first kit is as it must be for the second pass
  pub ready_again : (e : Option Shelf) (never cache_never : Bool) (a b : Kit S V) (m n : List Fate) (lacked : Bool) (w : Whole) (c1 : Option Shelf) → IfSome c1 (λ s. s.kind ≡ kind_of r.listing)
      → IsReadyFor store view r t e 0 a m → HasWorked store view r t e never cache_never 0 a m b n lacked → Ready t (joined_stage w c1 b)
  ready_again e never cache_never a b m n lacked w c1 kind is by =
      let step = by.passed.stretch.step in
      let same : b.chain.kind ≡ kind_of r.listing = step.kind ∙ is.ready.kind in
      record {
        wants = is.ready.wants;
        places = subst (λ (c : ℕ). PlacesKnown r.listing d x c) (sym (seeds_count view a.seeds.items b.seeds.items step.seeds)) is.ready.places;
        kind = same;
        room = λ i less. subst (λ (c : ℕ). size_of r.listing i ≤ c) (sym step.room) (is.ready.room i less);
        cache = subst (λ (k : DigestKind). IfSome c1 (λ s. s.kind ≡ k)) (sym same) kind;
      }

  pub filled_of : (wants : AreWants r.listing d.wants d.want_of) (w : Whole) (o : Option (List ℕ)) → is_some o ≡ r.tells → IfSome o (KeptWhole r w) → FilledBy r d x wants w.fates
  filled_of wants w None told kept tells = absurd (true≢false (sym tells ∙ sym told))
  filled_of wants w (Some y) told kept tells = kept.filled
