-- What an assembly with kits of one store and one seed has done, where nothing fails: by the plan for one worker.
use Rattle.std.proofs.Common.{◌≡◌, ◌∙◌, ℕ, ◌<◌, ◌≤◌, List, [], ◌∷◌, All, Option, Some, None, Bool, IsTrue, Result, IfOk, IfSome, length, map, slice_index_or, inr, refl, sym, ap, subst, arith}
use Rattle.assembler.specs.Assemblies.{IsObtainable, Verdict}
use Rattle.assembler.specs.Economy.{ReportsExactly}
use Rattle.assembler.specs.OneKit.{lent}
use Rattle.assembler.specs.declared.fault.ExtractFault.{ExtractFault}
use Rattle.cache_store.specs.Shelves.{Shelf}
use Rattle.caibx_codec.specs.Listing.{Listing, image_length, kind_of}
use Rattle.chunk_sources.specs.Caches.{TakesListed, IsListedAs}
use Rattle.chunk_sources.specs.Economy.{source_of}
use Rattle.chunk_sources.specs.Sources.{SourcesQuiet, views_of}
use Rattle.chunk_sources.specs.declared.kit.Kit.{Kit}
use Rattle.chunk_store.specs.declared.id.DigestKind.{DigestKind}
use Rattle.chunk_store.specs.declared.store.Store.{Ghosts as StoreWords}
use Rattle.dsy_base.specs.Bytes.{Held, resized}
use Rattle.dsy_base.specs.Maps.{Map}
use Rattle.dsy_base.specs.declared.view.View.{Ghosts as ViewWords}
use Rattle.extract_plan.specs.Deal.{Deal, IsPlan}
use Rattle.extract_plan.specs.Places.{Placed, PlacesKnown}
use Rattle.extract_plan.specs.declared.seed.Seed.{Seed}
use Rattle.image_assembly.proofs.OnePlan.{same_but_workers}
use Rattle.image_demo.proofs.Quiet.{no_sizes, nothing_fails}
use Rattle.image_demo.specs.SharedKits.{IsKitOf}
use Rattle.image_demo.specs.Tasks.{task_of}
use Rattle.image_workers.specs.Kits.{AreKitsAlike, IsAssembledBy, at_kit}
use Rattle.range_survey.specs.declared.report.Report.{Report}
use Rattle.store_chain.specs.Chains.{Chained}

-- kits that name chunks by one digest do by what equals it
pub kits_as : {S V : Type 0} (a b : DigestKind) → a ≡ b → (s : S) (v : V) (kits : List (Kit S V)) → All (IsKitOf a s v) kits → All (IsKitOf b s v) kits
kits_as a b is s v kits all = subst (λ k. All (IsKitOf k s v) kits) is all

-- the first of some
pub first_of : {X : Type 0} (xs : List X) → 1 ≤ length xs → X
first_of [] some = absurd (omega (arith, some))
first_of (x ∷ xs) some = x

module _ {S V : Type 0} (kind : DigestKind) (s : S) (v : V) (kits : List (Kit S V)) (all : All (IsKitOf kind s v) kits) where
  -- each of them takes places in one seed, and names chunks by this digest
  pub places_known : (l : Listing) (d : Deal) (x : Placed) → PlacesKnown l d x 1 → All (λ k. PlacesKnown l d x (length k.seeds.items)) kits
  places_known l d x known = λ n k lt. subst (λ (z : List (Seed V)). PlacesKnown l d x (length z)) (sym (all n k lt).seeds) known

  pub kinds_are : All (λ k. k.chain.kind ≡ kind) kits
  kinds_are = λ n k lt. ap (λ (c : Chained S). c.kind) (all n k lt).chain

  module _ (store : StoreWords S) (view : ViewWords V) where
    seeds_hold : (n : ℕ) (k : Kit S V) → n < length kits → views_of view (slice_index_or kits n k).seeds.items ≡ Some (view.held v) ∷ []
    seeds_hold n k lt = ap (views_of view) (all n k lt).seeds

    members_hold : (n : ℕ) (k : Kit S V) → n < length kits → map store.members (slice_index_or kits n k).chain.stores ≡ store.members s ∷ []
    members_hold n k lt = ap (λ (c : Chained S). map store.members c.stores) (all n k lt).chain

    stores_hold : (n : ℕ) (k : Kit S V) → n < length kits → map store.holds (slice_index_or kits n k).chain.stores ≡ store.holds s ∷ []
    stores_hold n k lt = ap (λ (c : Chained S). map store.holds c.stores) (all n k lt).chain

    module _ (l : Listing) (x : Placed) (e d : Deal) (one : IsPlan l 1 e) (several : IsPlan l (length kits) d) (some : 1 ≤ length kits) (tells : IsTrue view.tells) (never cache_never : Bool) (sure : IsTrue never)
        (o p : Option (List ℕ)) (f0 f1 : ℕ) (new : List (Kit S V)) (e1 : Option Shelf) (r : Result Report ExtractFault) (done : IsAssembledBy store view (task_of l d x) never cache_never o p (lent f0 kits None) (lent f1 new e1) r)
        (old_is : f0 ≡ 0) (new_is : f1 ≡ 0) (stores : (t : S) → store.faults t ≡ 0) (views : (w : V) → view.faults w ≡ 0) (chunks : Map (List ℕ)) (told : store.holds s ≡ Some chunks)
        (alone : (t : S) → IfSome (store.holds t) (λ m. store.members t ≡ Some (m ∷ []))) where
      abbrev k : Kit S V
      k = first_of kits some

      alike : AreKitsAlike store view (task_of l d x) kits
      alike = λ n q lt. (seeds_hold n q lt ∙ sym (seeds_hold 0 q (omega (arith, lt))), members_hold n q lt ∙ sym (members_hold 0 q (omega (arith, lt))))

      quiet : (n : ℕ) → n < length kits → SourcesQuiet store view (kind_of l) (IsListedAs l) (at_kit (lent f0 kits None) n k) (at_kit (lent f1 new e1) n k) [] (chunks ∷ [])
      quiet n lt =
          nothing_fails store view (kind_of l) (IsListedAs l) alone f0 f1 (slice_index_or kits n k).seeds.items (slice_index_or new n k).seeds.items e1 (slice_index_or kits n k).chain (slice_index_or new n k).chain (chunks ∷ []) (TakesListed store l (slice_index_or kits 0 k).chain.stores)
          tells old_is new_is stores views (done.first (inr alike) k) (stores_hold n k lt ∙ ap (λ (q : Option (Map (List ℕ))). q ∷ []) told)

      -- what holds by the plan for as many workers, over what the first kit's seeds hold, holds by the plan for one
      by_one : (P : Deal → List (Option Held) → Type 0) → P (record { workers = 1; wants = d.wants; want_of = d.want_of; cuts = e.cuts }) (views_of view (slice_index_or kits 0 k).seeds.items) → P e (Some (view.held v) ∷ [])
      by_one P has = subst (λ (q : Deal). P q (Some (view.held v) ∷ [])) (sym (same_but_workers l (length kits) e d one several)) (subst (P (record { workers = 1; wants = d.wants; want_of = d.want_of; cuts = e.cuts })) (seeds_hold 0 k some) has)

      pub judged_alike : IfSome o (λ y. Verdict l (IsObtainable (task_of l e x) (resized y (image_length l)) (Some (view.held v) ∷ []) (chunks ∷ [])) r)
      judged_alike = by_one (λ q z. IfSome o (λ y. Verdict l (IsObtainable (task_of l q x) (resized y (image_length l)) z (chunks ∷ [])) r))
          (done.exactly alike k k [] (chunks ∷ []) (quiet 0 some) (no_sizes l (chunks ∷ [])))

      pub reported_alike : IfSome o (λ y. IfOk r (ReportsExactly (source_of (task_of l e x) (resized y (image_length l)) (Some (view.held v) ∷ []) [] (chunks ∷ [])) e.wants))
      reported_alike = by_one (λ q z. IfSome o (λ y. IfOk r (ReportsExactly (source_of (task_of l q x) (resized y (image_length l)) z [] (chunks ∷ [])) q.wants)))
          (done.reported (inr refl) sure alike k k [] (chunks ∷ []) (λ n lt. quiet n lt) (no_sizes l (chunks ∷ [])))
