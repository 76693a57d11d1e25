-- What holds for all kits, from what holds for the first one and for each worker.
use Rattle.std.proofs.Common.{◌≡◌, ◌⊎◌, ◌∙◌, ◌++◌, ◌<◌, ℕ, List, Bool, Option, Some, None, IfOk, IfSome, IsTrue, Result, Ok, Err, length, slice_index_or, true, refl, sym, ap, subst, inl, inr}
use Rattle.std.proofs.lemmas.List.{get_or_default}
use Rattle.assembler.proofs.Based.{some_map, told_map}
use Rattle.assembler.specs.Assemblies.{Assembles, IsObtainable, Verdict}
use Rattle.assembler.specs.Economy.{ReportsExactly, ReportsTogether}
use Rattle.assembler.specs.Obtainable.{OnlyObtainable}
use Rattle.assembler.specs.OneKit.{lent}
use Rattle.assembler.specs.declared.fault.ExtractFault.{ExtractFault}
use Rattle.assembler.specs.declared.fault.ExtractFault.TheVariants as faults
use Rattle.cache_store.specs.Shelves.{Shelf}
use Rattle.caibx_codec.specs.Listing.{Listing, count_of, image_length, kind_of}
use Rattle.chunk_sources.specs.Caches.{HaveOneSize, Stocked, TakesListed, cached_in, IsListedAs}
use Rattle.chunk_sources.specs.Economy.{source_of}
use Rattle.chunk_sources.specs.Sources.{Sources, SourcesQuiet, Telling, views_of}
use Rattle.chunk_sources.specs.Wants.{Task}
use Rattle.chunk_sources.specs.declared.kit.Kit.{Kit}
use Rattle.chunk_store.specs.Members.{maps_of, told_together}
use Rattle.chunk_store.specs.declared.store.Store.{Ghosts as StoreWords}
use Rattle.dsy_base.specs.Bytes.{Held, resized}
use Rattle.dsy_base.specs.Maps.{Map}
use Rattle.dsy_base.specs.declared.view.View.{Ghosts as ViewWords}
use Rattle.image_workers.specs.Beside.{AddsOwn, AssembledBeside, FillsObtainable}
use Rattle.image_workers.specs.Kits.{AllKitsTell, AreKitsAlike, IsAssembledBy, IsUnshared, KitUsed, MayFillFrom, NoneUsed, SomeKitHas, at_kit}
use Rattle.image_workers.specs.Shared.{all_stores}
use Rattle.range_ledger.specs.Fills.{WhereTold}
use Rattle.range_ledger.specs.Runs.{Run}
use Rattle.range_survey.specs.Reports.{right_below}
use Rattle.range_survey.specs.declared.fate.Fate.{Fate}
use Rattle.range_survey.specs.declared.report.Report.{Report}
use Rattle.std.proofs.lemmas.Option.{same_Some}

-- ---- values that are told

told_so : (o p : Option (List ℕ)) (P Q : List ℕ → List ℕ → Type 0) → ((y z : List ℕ) → P y z → Q y z) → WhereTold o p P → WhereTold o p Q
told_so None p P Q f has = tt
told_so (Some y) None P Q f has = tt
told_so (Some y) (Some z) P Q f has = f y z has

-- ---- other words for the same

-- a target that was made into shards isn't one for which nothing else was used
assembles_so : (l : Listing) (Unused : Type 0) (a b : ℕ) (res : Result Report ExtractFault) (o z : List ℕ) → Assembles l ⊥ a b res o z → Assembles l Unused a b res o z
assembles_so l Unused a b (Ok r) o z is = is
assembles_so l Unused a b (Err (faults.Missing k id)) o z is = is
assembles_so l Unused a b (Err (faults.Damaged k id s shows)) o z is = is
assembles_so l Unused a b (Err (faults.StoreFault s)) o z is = is
assembles_so l Unused a b (Err faults.TargetFault) o z (inl none) = absurd none.0
assembles_so l Unused a b (Err faults.TargetFault) o z (inr torn) = inr torn
assembles_so l Unused a b (Err faults.Memory) o z is = is

only_so : (l : Listing) (P Q : ℕ → Type 0) → ((i : ℕ) → i < count_of l → P i → Q i) → (a b : ℕ) (res : Result Report ExtractFault) (o z : List ℕ)
    → OnlyObtainable l P a b res o z → OnlyObtainable l Q a b res o z
only_so l P Q f a b (Ok r) o z is = λ i inside. f i inside (is i inside)
only_so l P Q f a b (Err e) o z (inl same) = inl same
only_so l P Q f a b (Err e) o z (inr only) = inr (record {
  failed = only.failed;
  excused = only.excused;
  each = λ i inside. elim (only.each i inside) [
    | inl is ↦ inl (f i inside is)
    | inr base ↦ inr base
  ];
})

module _ {S V : Type 0} (store : StoreWords S) (view : ViewWords V) (r : Run) (t : Task) (kits : List (Kit S V)) where
  -- ---- kits that are alike

  module _ (q : Kit S V) (maps : List (Map (List ℕ))) (alike : AreKitsAlike store view t kits) (telling : Telling view.tells (views_of view (slice_index_or kits 0 q).seeds.items))
      (told : maps_of store.members (slice_index_or kits 0 q).chain.stores ≡ Some maps) where
    abbrev views : List (Option Held)
    views = views_of view (slice_index_or kits 0 q).seeds.items

    views_at : (k : ℕ) (z : Kit S V) → k < length kits → views_of view (slice_index_or kits k z).seeds.items ≡ views
    views_at k z less = ap (λ (p : Kit S V). views_of view p.seeds.items) (get_or_default kits k z q less) ∙ (alike k q less).0

    told_at : (k : ℕ) (z : Kit S V) → k < length kits → maps_of store.members (slice_index_or kits k z).chain.stores ≡ Some maps
    told_at k z less = ap (λ (p : Kit S V). maps_of store.members p.chain.stores) (get_or_default kits k z q less) ∙ ap told_together (alike k q less).1 ∙ told

    -- all tell where the first does
    all_tell : AllKitsTell store view t kits
    all_tell k z less = (subst (Telling view.tells) (sym (views_at k z less)) telling, (maps, told_at k z less))

    -- what one of them has the first has
    first_has : (cached : List (Map (List ℕ))) (y : List ℕ) (i : ℕ) → SomeKitHas store view t kits cached y i → IsObtainable t (resized y (image_length t.listing)) views (cached ++ maps) i
    first_has cached y i (k, z, less, at, (more, holds, has)) =
        let held : views_of view z.seeds.items ≡ views = subst (λ (p : Kit S V). views_of view p.seeds.items ≡ views) at (views_at k z less) in
        let here : maps_of store.members z.chain.stores ≡ Some maps = subst (λ (p : Kit S V). maps_of store.members p.chain.stores ≡ Some maps) at (told_at k z less) in
        let same : more ≡ maps = same_Some more maps (sym holds ∙ here) in
        subst (λ v. IsObtainable t (resized y (image_length t.listing)) v (cached ++ maps) i) held
        (subst (λ ms. IsObtainable t (resized y (image_length t.listing)) (views_of view z.seeds.items) (cached ++ ms) i) same has)

    fills_first : (o : Option (List ℕ)) (c0 : Option Shelf) → MayFillFrom store view t r.may o c0 kits → (old : Sources S V) → old.seeds ≡ (slice_index_or kits 0 q).seeds.items → (cached : List (Map (List ℕ)))
        → cached_in c0 ≡ Some cached → IfSome o (FillsObtainable store view r t old cached maps)
    fills_first o c0 fill old seeds cached told_cache =
        some_map o (λ y. (i : ℕ) → i < count_of t.listing → r.may i ≡ true → SomeKitHas store view t kits cached y i) (FillsObtainable store view r t old cached maps)
        (λ y has i inside may.
        subst (λ s. IsObtainable t (resized y (image_length t.listing)) (views_of view s) (cached ++ maps) i) (sym seeds) (first_has cached y i (has i inside may)))
        (fill all_tell cached told_cache)

  -- ---- all of it

  module _ (never cache_never : Bool) (o p : Option (List ℕ)) (f g : ℕ) (outs : List (Kit S V)) (e : Option Shelf) (res : Result Report ExtractFault) where
    -- that each want is counted by its source, where nothing fails and the cache was this
    abbrev pub ReportedOver : ((ℕ → Fate) → ℕ → Report → Type 0) → Option Shelf → Type 0
    ReportedOver Reports c = IsTrue never → AreKitsAlike store view t kits → (q j : Kit S V) (cached maps : List (Map (List ℕ)))
        → ((k : ℕ) → k < length kits → SourcesQuiet store view (kind_of t.listing) (IsListedAs t.listing) (at_kit (lent f kits c) k q) (at_kit (lent g outs e) k j) cached maps) → HaveOneSize t.listing c cached maps
        → IfSome o (λ y. Verdict t.listing (IsObtainable t (resized y (image_length t.listing)) (views_of view (slice_index_or kits 0 q).seeds.items) (cached ++ maps)) res)
        → IfSome o (λ y. IfOk res (Reports (source_of t (resized y (image_length t.listing)) (views_of view (slice_index_or kits 0 q).seeds.items) cached maps) t.plan.wants))

    -- what an assembly has done, by what its first worker did and what became of each kit. It had this cache, which was
    -- that between the passes
    pub assembled_by : (c0 c1 : Option Shelf) → MayFillFrom store view t r.may o c0 kits
        → ((q j : Kit S V) → AssembledBeside store view r t o p (at_kit (lent f kits c0) 0 q) c1 (at_kit (lent g outs e) 0 j) res)
        → Kit S V → (AreKitsAlike store view t kits → (q : Kit S V) → AddsOwn store view r t (at_kit (lent f kits c0) 0 q) c1)
        → Stocked (TakesListed store t.listing (all_stores kits)) c0 e
        → (IsUnshared (lent f kits c0) ⊎ AreKitsAlike store view t kits → (q : Kit S V) → Stocked (TakesListed store t.listing (slice_index_or kits 0 q).chain.stores) c0 e)
        → length outs ≡ length kits
        → ((k : ℕ) (q j : Kit S V) → k < length kits → KitUsed store view t never cache_never o (lent f kits c0) k (at_kit (lent f kits c0) k q) (at_kit (lent g outs e) k j) res)
        → 0 < length kits
        → (IsUnshared (lent f kits c0) → ReportedOver ReportsExactly c0) → (IsTrue cache_never → ReportedOver ReportsTogether c0)
        → (IsTrue never → IfOk res (λ rep. IfSome o (λ y. rep.kept ≡ right_below t.listing (resized y (image_length t.listing)) (count_of t.listing))))
        → IsAssembledBy store view t never cache_never o p (lent f kits c0) (lent g outs e) res
    assembled_by c0 c1 fill did some own stocked first_stocked long each any report together kept =
        let old = lent f kits c0 in
        let new = lent g outs e in
        let May : ℕ → Type 0 = λ i. r.may i ≡ true in
        record {
          bytes = told_so o p (Assembles t.listing ⊥ f g res) (Assembles t.listing (NoneUsed old new) f g res) (λ y z. assembles_so t.listing (NoneUsed old new) f g res y z) (did some some).bytes;
          lost = λ q j. (did q j).lost;
          had = λ tell cached is. told_map o p (λ y. (i : ℕ) → i < count_of t.listing → May i → SomeKitHas store view t kits cached y i) (OnlyObtainable t.listing May f g res)
              (λ y z. OnlyObtainable t.listing (SomeKitHas store view t kits cached y) f g res y z)
              (λ y z has. only_so t.listing May (SomeKitHas store view t kits cached y) (λ i inside may. has i inside may) f g res y z)
              (fill tell cached is) (did some some).had;
          exactly = λ alike q j cached maps nothing one. (did q j).exactly (own alike q) cached maps nothing one
              (fills_first q maps alike nothing.telling nothing.told o c0 fill (at_kit old 0 q) refl cached nothing.told_cache);
          after = λ alike q j cached maps nothing one. (did q j).after (own alike q) cached maps nothing one
              (fills_first q maps alike nothing.telling nothing.told o c0 fill (at_kit old 0 q) refl cached nothing.told_cache);
          reported = λ unshared sure alike q j cached maps quiet one. report unshared sure alike q j cached maps quiet one
              ((did q j).exactly (own alike q) cached maps (quiet 0 any) one
              (fills_first q maps alike (quiet 0 any).telling (quiet 0 any).told o c0 fill (at_kit old 0 q) refl cached (quiet 0 any).told_cache));
          shared = λ sure calm alike q j cached maps quiet one. together calm sure alike q j cached maps quiet one
              ((did q j).exactly (own alike q) cached maps (quiet 0 any) one
              (fills_first q maps alike (quiet 0 any).telling (quiet 0 any).told o c0 fill (at_kit old 0 q) refl cached (quiet 0 any).told_cache));
          kept = kept;
          stocked = stocked;
          first = first_stocked;
          kits = long;
          each = each;
        }
