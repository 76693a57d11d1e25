-- An assembly from sources that never fail.
use Rattle.std.proofs.Common.{◌≡◌, ℕ, zero, suc, List, [], ◌∷◌, map, slice_index, Option, Some, None, IfSome, IsTrue, refl, arith, inl, inr, sym, subst, unwrap_or, Result, Ok, Err, ◌<◌}
use Rattle.std.specs.Option.{option_map}
use Rattle.assembler.specs.Faults.{fault_of}
use Rattle.assembler.specs.Passes.{EndsBy}
use Rattle.assembler.specs.declared.fault.ExtractFault.{ExtractFault}
use Rattle.assembler.specs.declared.fault.Lost.{Lost}
use Rattle.cache_store.specs.Shelves.{Shelf}
use Rattle.caibx_codec.specs.Listing.{Listing, count_of, id_of}
use Rattle.chunk_sources.specs.Caches.{HaveOneSize, Stocked, cache_faults}
use Rattle.chunk_sources.specs.Sources.{SourcesQuiet, sources}
use Rattle.chunk_store.proofs.Members.{agree_alone, told_alone}
use Rattle.chunk_store.specs.Giving.{GivesChunk}
use Rattle.chunk_store.specs.declared.id.ChunkId.{ChunkId}
use Rattle.chunk_store.specs.declared.id.DigestKind.{DigestKind}
use Rattle.chunk_store.specs.declared.store.Store.{Ghosts as StoreWords}
use Rattle.dsy_base.specs.Counts.{Quiet, Rose}
use Rattle.dsy_base.specs.Maps.{Map}
use Rattle.dsy_base.specs.declared.view.View.{Ghosts as ViewWords}
use Rattle.extract_plan.specs.Seeds.{faults_in}
use Rattle.extract_plan.specs.declared.seed.Seed.{Seed}
use Rattle.image_demo.specs.Stocks.{IsNamed}
use Rattle.store_chain.specs.Chains.{Chained}
use Rattle.store_chain.specs.Faults.{EachQuiet}
use Rattle.store_chain.specs.declared.refused.Refused.{Refused}
use Rattle.store_chain.specs.declared.refused.Refused.TheVariants as refused

still : (a b : ℕ) → a ≡ 0 → b ≡ 0 → Quiet a b
still a b old new = record { same = omega (arith, old, new); below = omega (arith, new) }

no_count : {X : Type 0} (f : X → ℕ) → ((x : X) → f x ≡ 0) → (xs : List X) (k : ℕ) → slice_index (map f xs) k ≡ 0
no_count f none [] k = refl
no_count f none (x ∷ xs) zero = none x
no_count f none (x ∷ xs) (suc k) = no_count f none xs k

all_still : {X : Type 0} (f : X → ℕ) → ((x : X) → f x ≡ 0) → (xs ys : List X) → EachQuiet (map f xs) (map f ys)
all_still f none xs ys k = still _ _ (no_count f none xs k) (no_count f none ys k)

seed_still : {V : Type 0} (f : V → ℕ) → ((v : V) → f v ≡ 0) → (s : Seed V) → faults_in f s ≡ 0
seed_still f none s = go s.view where
  go : (o : Option _) → unwrap_or (option_map f o) 0 ≡ 0
  go None = refl
  go (Some v) = none v

no_cache : (Takes : List ℕ → List ℕ → Type 0) (e : Option Shelf) → Stocked Takes None e → cache_faults e ≡ 0
no_cache Takes None h = refl
no_cache Takes (Some s) h = absurd h

module _ {S V : Type 0} (store : StoreWords S) (view : ViewWords V) where
  pub nothing_fails : (kind : DigestKind) (Among : List ℕ → ℕ → Type 0) → ((s : S) → IfSome (store.holds s) (λ m. store.members s ≡ Some (m ∷ []))) → (old new : ℕ) (s0 s1 : List (Seed V)) (e1 : Option Shelf) (c0 c1 : Chained S) (maps : List (Map (List ℕ))) (Takes : List ℕ → List ℕ → Type 0)
      → IsTrue view.tells → old ≡ 0 → new ≡ 0 → ((s : S) → store.faults s ≡ 0) → ((v : V) → view.faults v ≡ 0) → Stocked Takes None e1 → map store.holds c0.stores ≡ map Some maps
      → SourcesQuiet store view kind Among (sources old s0 None c0) (sources new s1 e1 c1) [] maps
  nothing_fails kind Among alone old new s0 s1 e1 c0 c1 maps Takes t o n stores views none told = record {
    target = still old new o n;
    telling = λ _. t;
    seeds = all_still (faults_in view.faults) (seed_still view.faults views) s0 s1;
    told_cache = refl;
    cache = still 0 (cache_faults e1) refl (no_cache Takes e1 none);
    told = told_alone store.holds store.members alone c0.stores maps told;
    agree = λ id size among. agree_alone store.holds store.members alone (λ m. GivesChunk kind id size (m id)) c0.stores maps told;
    stores = all_still store.faults stores c0.stores c1.stores;
  }

-- where there is no cache, sizes don't matter
pub no_sizes : (l : Listing) (maps : List (Map (List ℕ))) → HaveOneSize l None [] maps
no_sizes l maps h = absurd (cc)

pub not_risen : (a b : ℕ) → a ≡ 0 → b ≡ 0 → Rose a b → ⊥
not_risen a b old new (inl up) = omega (arith, old, new, up)
not_risen a b old new (inr top) = omega (arith, new, top)

-- an entry that no source gave is named
named : (A : Type 0) (l : Listing) (k : ℕ) (id : ChunkId) (r : Refused) → (k < count_of l) × (id.0 ≡ id_of l k) → IsNamed {A = A} l (Err (fault_of k id r))
named A l k id refused.Missing is = is
named A l k id (refused.Damaged s shows) is = is
named A l k id (refused.StoreFault s) is = tt
named A l k id refused.Memory is = tt

pub named_by : {A : Type 0} (l : Listing) (P : Lost → Type 0) (F : Type 0) (r : Result A ExtractFault) → ((x : Lost) → P x → (x.entry < count_of l) × (x.id.0 ≡ id_of l x.entry)) → EndsBy P F r
    → IsNamed l r
named_by l P F (Ok a) is ends = tt
named_by {A} l P F (Err e) is (inl (lost, same, has)) = subst (λ f. IsNamed {A = A} l (Err f)) (sym same) (named A l lost.entry lost.id lost.refused (is lost has))
named_by {A} l P F (Err e) is (inr (inl (same, failed))) = subst (λ f. IsNamed {A = A} l (Err f)) (sym same) tt
named_by {A} l P F (Err e) is (inr (inr same)) = subst (λ f. IsNamed {A = A} l (Err f)) (sym same) tt
