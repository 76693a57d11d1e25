-- How an assembly may end. `o` are the target's bytes before it, the base is `o` with the image's length, t are the
-- bytes after it. The count of the target's faults goes from old to new.
use Rattle.std.specs.Prelude.{◌≡◌, ◌⊎◌, ℕ, ◌<◌, List, ◌++◌, length, true, Bool, Option, Some, IfOk, IfSome}
use Rattle.std.specs.Prelude.{IsSomeAnd, Result, Ok, Err}
use Rattle.std.specs.List.{Contains}
use Rattle.assembler.specs.Economy.{AsksExactly, ReportsExactly}
use Rattle.assembler.specs.Obtainable.{OnlyObtainable}
use Rattle.assembler.specs.OneKit.{AreUnused}
use Rattle.assembler.specs.Passes.{EndsBy, RefusedOnce, WhereQuiet, two_passes, want_at}
use Rattle.assembler.specs.declared.fault.ExtractFault.{ExtractFault}
use Rattle.assembler.specs.declared.fault.ExtractFault.TheVariants as faults
use Rattle.assembler.specs.declared.fault.Lost.{Lost}
use Rattle.cache_store.specs.Giving.{SomeGives}
use Rattle.caibx_codec.specs.Asks.{IsListedGet}
use Rattle.caibx_codec.specs.Listing.{Listing, count_of, id_of, image_length, kind_of, size_of, slice_of}
use Rattle.caibx_codec.specs.Right.{IsRight, IsRightAt}
use Rattle.chunk_sources.specs.Asks.{AsksAtMost, IsSpared, asks_below, calls_below}
use Rattle.chunk_sources.specs.Caches.{CacheLacks, Stocked, TakesListed, cached_in}
use Rattle.chunk_sources.specs.Economy.{source_of}
use Rattle.chunk_sources.specs.Sources.{KeepsSeeds, SeedsFailed, SeedsGive, Sources, Telling, counts_of, views_of}
use Rattle.chunk_sources.specs.Wants.{Task}
use Rattle.chunk_store.specs.declared.store.Store.{Ghosts as StoreWords}
use Rattle.chunk_store.specs.Members.{maps_of}
use Rattle.dsy_base.specs.Bytes.{Held, resized}
use Rattle.dsy_base.specs.Counts.{Rose}
use Rattle.dsy_base.specs.Maps.{Map}
use Rattle.dsy_base.specs.declared.view.View.{Ghosts as ViewWords}
use Rattle.extract_plan.specs.Deal.{AreAlike, want_id}
use Rattle.extract_plan.specs.Places.{places_at}
use Rattle.range_ledger.specs.Fills.{WhereTold}
use Rattle.range_survey.specs.Excuses.{Excuses}
use Rattle.range_survey.specs.declared.report.Report.{Report}
use Rattle.store_chain.specs.Chains.{KeepsStores}

-- an entry that is alike to entry i is right in the base
abbrev pub RightAlike : Listing → List ℕ → ℕ → Type 0
RightAlike l base i = (j : ℕ) × (j < count_of l) × AreAlike l j i × IsRightAt base l j

-- entry i can be obtained: an alike one is right in the base, or a seed gives its chunk, or the cache or a store does,
-- which hold these maps
abbrev pub IsObtainable : Task → List ℕ → List (Option Held) → List (Map (List ℕ)) → ℕ → Type 0
IsObtainable t base views maps i = RightAlike t.listing base i
    ⊎ (SeedsGive views (places_at t.places (want_at t.plan i)) (id_of t.listing i)
    ⊎ SomeGives (kind_of t.listing) (id_of t.listing i) (size_of t.listing i) maps)

-- each range is right or the base's, and a range that is right in the base was never written, but for a list of entries
-- that is no longer than the number of calls on the target that failed
pub record KeepsBase (l : Listing) (old new : ℕ) (base t : List ℕ) : Type 0 where
  pub failed : List ℕ
  pub excused : Excuses failed old new
  pub size : length t ≡ image_length l
  pub each : (i : ℕ) → i < count_of l → IsRightAt t l i ⊎ ((slice_of l t i ≡ slice_of l base i) ⊎ Contains failed i)
  pub kept : (i : ℕ) → i < count_of l → IsRightAt base l i → (slice_of l t i ≡ slice_of l base i) ⊎ Contains failed i

-- the same, after a write that failed: into this entry, or into a torn one that is alike to it. It wasn't right in the
-- base, unless a read of it failed, and all entries before it are right: none of them was lost
pub record KeepsTorn (l : Listing) (old new : ℕ) (base t : List ℕ) : Type 0 where
  pub keeps : KeepsBase l old new base t
  pub entry : ℕ
  pub listed : entry < count_of l
  pub wrong : IsRightAt base l entry → Contains keeps.failed entry
  pub before : (i : ℕ) → i < entry → IsRightAt t l i
  pub torn : ℕ
  pub inside : torn < count_of l
  pub alike : AreAlike l torn entry
  pub is_torn : Contains keeps.failed torn

-- the bytes after it: where no entry is named the length may not have been set. Where no write ended it, the target
-- couldn't be made into shards, and then nothing else was used
abbrev pub Assembles : Listing → Type 0 → ℕ → ℕ → Result Report ExtractFault → List ℕ → List ℕ → Type 0
Assembles l Unused old new (Ok r) o t = IsRight t l × KeepsBase l old new (resized o (image_length l)) t
Assembles l Unused old new (Err (faults.Missing k id)) o t =
    KeepsBase l old new (resized o (image_length l)) t × ((i : ℕ) → i < k → IsRightAt t l i)
Assembles l Unused old new (Err (faults.Damaged k id s shows)) o t =
    KeepsBase l old new (resized o (image_length l)) t × ((i : ℕ) → i < k → IsRightAt t l i)
Assembles l Unused old new (Err (faults.StoreFault s)) o t = KeepsBase l old new (resized o (image_length l)) t
Assembles l Unused old new (Err faults.TargetFault) o t =
    (Unused × ((t ≡ o) ⊎ (t ≡ resized o (image_length l)))) ⊎ KeepsTorn l old new (resized o (image_length l)) t
Assembles l Unused old new (Err faults.Memory) o t = (t ≡ o) ⊎ KeepsBase l old new (resized o (image_length l)) t

-- all entries below k can be obtained, and k can't
abbrev pub IsLeast : (ℕ → Type 0) → ℕ → Type 0
IsLeast P k = ((i : ℕ) → i < k → P i) × (P k → ⊥)

-- how it ends where nothing fails: all entries can be obtained, or the least that can't be obtained is named. Want of
-- memory is free
abbrev pub Verdict : Listing → (ℕ → Type 0) → Result Report ExtractFault → Type 0
Verdict l P (Ok r) = (i : ℕ) → i < count_of l → P i
Verdict l P (Err (faults.Missing k id)) = IsLeast P k
Verdict l P (Err (faults.Damaged k id s shows)) = IsLeast P k
Verdict l P (Err (faults.StoreFault s)) = ⊥
Verdict l P (Err faults.TargetFault) = ⊥
Verdict l P (Err faults.Memory) = Unit {0}

-- what stands afterwards where nothing fails: each entry that can be obtained is right, and each other has the base's
-- bytes
abbrev pub After : Listing → (ℕ → Type 0) → List ℕ → List ℕ → Result Report ExtractFault → Type 0
After l P base t (Err faults.Memory) = Unit {0}
After l P base t r = (i : ℕ) → i < count_of l → (P i → IsRightAt t l i)
    × ((P i → ⊥) → slice_of l t i ≡ slice_of l base i)

module _ {S V : Type 0} (store : StoreWords S) (view : ViewWords V) (t : Task) where
  -- no source gave the chunk of this entry: an alike entry that is right in the base couldn't be read, a seed that has
  -- the chunk failed, the cache lacks it or failed, and the stores refused it
  pub record IsUnobtained (o : Option (List ℕ)) (old new : Sources S V) (lost : Lost) : Type 0 where
    pub listed : lost.entry < count_of t.listing
    pub id_is : lost.id.0 ≡ id_of t.listing lost.entry
    pub copies : IfSome o (λ b. RightAlike t.listing (resized b (image_length t.listing)) lost.entry
        → Rose old.faults new.faults)
    pub seeds : SeedsFailed (views_of view old.seeds) (places_at t.places (want_at t.plan lost.entry)) lost.id.0
        (counts_of view old.seeds) (counts_of view new.seeds)
    pub cache : CacheLacks (kind_of t.listing) (id_of t.listing lost.entry) (size_of t.listing lost.entry) old.cache
        new.cache
    pub stores : RefusedOnce store view t lost old.chain.stores new.chain.stores

  -- want w is got without the stores: an entry of it is right in the base, and the target didn't fail; or a seed gives
  -- it that didn't fail; or the opening cache does, which didn't fail
  abbrev pub SparedOver : Option (List ℕ) → Sources S V → Sources S V → ℕ → Type 0
  SparedOver o old new w = IsSpared store view t
      (λ j. IsSomeAnd o (λ b. IsRightAt (resized b (image_length t.listing)) t.listing j)) old new w

  -- how often an assembly asks: for each want at most twice, and not for a spared one
  abbrev pub AssemblyAsks : Option (List ℕ) → Sources S V → Sources S V → Type 0
  AssemblyAsks o old new = (spared : ℕ → Bool)
      → ((w : ℕ) → w < t.plan.wants → spared w ≡ true → SparedOver o old new w)
      → AsksAtMost store (two_passes (calls_below spared t.plan.wants))
      (λ q. two_passes (asks_below (want_id t.listing t.plan) spared t.plan.wants q)) old.chain new.chain

  -- what an assembly has done, from these bytes and sources to those
  pub record IsAssembled (o p : Option (List ℕ)) (old new : Sources S V) (answer : Result Report ExtractFault)
      : Type 0 where
    pub bytes : WhereTold o p (Assembles t.listing (AreUnused old new) old.faults new.faults answer)
    pub lost : EndsBy (IsUnobtained o old new) (Rose old.faults new.faults) answer
    pub had : Telling view.tells (views_of view old.seeds) → (cached maps : List (Map (List ℕ)))
        → cached_in old.cache ≡ Some cached → maps_of store.members old.chain.stores ≡ Some maps
        → WhereTold o p (λ y z. OnlyObtainable t.listing (IsObtainable t (resized y (image_length t.listing))
        (views_of view old.seeds) (cached ++ maps)) old.faults new.faults answer y z)
    pub exactly : WhereQuiet store view t.listing old new (λ cached maps. IfSome o (λ y. Verdict t.listing
        (IsObtainable t (resized y (image_length t.listing)) (views_of view old.seeds) (cached ++ maps)) answer))
    pub after : WhereQuiet store view t.listing old new (λ cached maps. WhereTold o p (λ y z. After t.listing
        (IsObtainable t (resized y (image_length t.listing)) (views_of view old.seeds) (cached ++ maps))
        (resized y (image_length t.listing)) z answer))
    pub economy : WhereQuiet store view t.listing old new (λ cached maps. IfSome o (λ y. AsksExactly
        (source_of t (resized y (image_length t.listing)) (views_of view old.seeds) cached maps) t.plan.wants old.chain
        new.chain answer))
    pub reported : WhereQuiet store view t.listing old new (λ cached maps. IfSome o (λ y. IfOk answer (ReportsExactly
        (source_of t (resized y (image_length t.listing)) (views_of view old.seeds) cached maps) t.plan.wants)))
    pub asks : AssemblyAsks o old new
    pub stores : KeepsStores store (IsListedGet t.listing) old.chain.stores new.chain.stores
    pub kind : new.chain.kind ≡ old.chain.kind
    pub stocked : Stocked (TakesListed store t.listing old.chain.stores) old.cache new.cache
    pub seeds : KeepsSeeds view old.seeds new.seeds
