-- One stretch of a run after another.
use Rattle.std.proofs.Common.{◌≡◌, ℕ, List, length, IfSome, refl, sym, ap, ◌∙◌, subst, inl, inr, arith}
use Rattle.std.proofs.lemmas.List.{length-map}
use Rattle.assembler.proofs.Filled.{grows_none, grows_on, told_none, told_on}
use Rattle.assembler.proofs.Others.{alone_on, suits_on}
use Rattle.assembler.proofs.Stocking.{stocking_on, stocking_wider}
use Rattle.assembler.specs.Stages.{Ready, Stage, Progress, Stretch}
use Rattle.cache_store.specs.declared.cache.Cache.{Ghosts as CacheWords}
use Rattle.caibx_codec.specs.Asks.{IsListedGet}
use Rattle.caibx_codec.specs.Listing.{Listing}
use Rattle.chunk_sources.proofs.Cached.{stocked_kind, stocked_none, stocked_some}
use Rattle.chunk_sources.proofs.SeedAnswers.{falls_on}
use Rattle.chunk_sources.specs.AnyCaches.{Suits}
use Rattle.chunk_sources.specs.Caches.{IsAlone, TakesWants}
use Rattle.chunk_sources.specs.Losses.{MayLack}
use Rattle.chunk_sources.specs.Sources.{KeepsSeeds, counts_of}
use Rattle.chunk_sources.specs.Wants.{Task}
use Rattle.chunk_store.specs.declared.id.DigestKind.{DigestKind}
use Rattle.chunk_store.specs.declared.store.Store.{Ghosts as StoreWords}
use Rattle.dsy_base.specs.declared.view.View.{Ghosts as ViewWords}
use Rattle.extract_plan.specs.Places.{PlacesKnown}
use Rattle.extract_plan.specs.Seeds.{seed_held}
use Rattle.extract_plan.specs.declared.seed.Seed.{Seed}
use Rattle.store_chain.proofs.Kept.{kept_still, kept_on}

-- ---- seeds

module _ {V : Type 0} (view : ViewWords V) where
  pub seeds_none : (s : List (Seed V)) → KeepsSeeds view s s
  seeds_none s = record { held = refl; never_fall = λ k. omega arith }

  pub seeds_on : (s0 s1 s2 : List (Seed V)) → KeepsSeeds view s0 s1 → KeepsSeeds view s1 s2 → KeepsSeeds view s0 s2
  seeds_on s0 s1 s2 first next = record {
    held = next.held ∙ first.held;
    never_fall = falls_on (counts_of view s0) (counts_of view s1) (counts_of view s2) first.never_fall next.never_fall;
  }

  -- they are as many
  pub seeds_count : (s0 s1 : List (Seed V)) → KeepsSeeds view s0 s1 → length s1 ≡ length s0
  seeds_count s0 s1 kept = sym (length-map s1 (seed_held view.held)) ∙ ap (λ xs. length xs) kept.held ∙ length-map s0 (seed_held view.held)

-- ---- steps

module _ {S V : Type 0} (store : StoreWords S) (view : ViewWords V) where
  pub step_none : (l : Listing) (a : Stage S V) → Progress store view l a a
  step_none l a = record {
    grows = grows_none a.fates;
    bytes = told_none l a.fates a.faults a.faults (omega arith) a.held.bytes;
    tells = refl;
    name = refl;
    size = refl;
    never_falls = omega arith;
    stores = kept_still store (IsListedGet l) a.kit.chain.stores;
    kind = refl;
    seeds = seeds_none view a.kit.seeds.items;
    room = refl;
  }

  pub step_on : (l : Listing) (a b c : Stage S V) → Progress store view l a b → Progress store view l b c → Progress store view l a c
  step_on l a b c first next = record {
    grows = grows_on a.fates b.fates c.fates first.grows next.grows;
    bytes = told_on l a.fates b.fates c.fates a.faults b.faults c.faults a.held.bytes b.held.bytes c.held.bytes (sym first.tells) (sym next.tells)
        next.never_falls first.grows next.grows first.bytes next.bytes;
    tells = next.tells ∙ first.tells;
    name = next.name ∙ first.name;
    size = next.size ∙ first.size;
    never_falls = omega (arith, first.never_falls, next.never_falls);
    stores = kept_on store (IsListedGet l) a.kit.chain.stores b.kit.chain.stores c.kit.chain.stores first.stores next.stores;
    kind = next.kind ∙ first.kind;
    seeds = seeds_on view a.kit.seeds.items b.kit.seeds.items c.kit.seeds.items first.seeds next.seeds;
    room = next.room ∙ first.room;
  }

  -- ---- stretches

  module _ (t : Task) where
    abbrev Over : (ℕ → Type 0) → Stage S V → Stage S V → Type 0
    Over A a b = Stretch store view t A a b

    pub stretch_none : (A : ℕ → Type 0) (a : Stage S V) → Over A a a
    stretch_none A a = record {
      step = step_none t.listing a;
      stocked = stocked_none (TakesWants store t.listing t.plan A a.kit.chain.stores) a.cache;
    }

    pub stretch_on : (A B C : ℕ → Type 0) → ((w : ℕ) → A w → C w) → ((w : ℕ) → B w → C w) → (a b c : Stage S V) → Over A a b → Over B b c → Over C a c
    stretch_on A B C one other a b c first next = record {
      step = step_on t.listing a b c first.step next.step;
      stocked = stocking_on store t.listing t.plan A B C one other a.kit.chain.stores b.kit.chain.stores first.step.stores.members a.cache b.cache c.cache
          first.stocked next.stocked;
    }

    pub stretch_wider : (A B : ℕ → Type 0) → ((w : ℕ) → A w → B w) → (a b : Stage S V) → Over A a b → Over B a b
    stretch_wider A B more a b over = record {
      step = over.step;
      stocked = stocking_wider store t.listing t.plan A B more a.kit.chain.stores a.cache b.cache over.stocked;
    }

    -- what must be so before entries are settled is so afterwards
    pub ready_on : (A : ℕ → Type 0) (a b : Stage S V) → Over A a b → Ready t a → Ready t b
    ready_on A a b over ready = record {
      wants = ready.wants;
      places = subst (PlacesKnown t.listing t.plan t.places) (sym (seeds_count view a.kit.seeds.items b.kit.seeds.items over.step.seeds)) ready.places;
      kind = over.step.kind ∙ ready.kind;
      room = λ i inside. omega (arith, ready.room i inside, over.step.room);
      cache = subst (λ (k : DigestKind). IfSome b.cache (λ s. s.kind ≡ k)) (sym over.step.kind)
          (stocked_kind (TakesWants store t.listing t.plan A a.kit.chain.stores) a.cache b.cache a.kit.chain.kind over.stocked ready.cache);
    }

    -- what suits the cache suits it afterwards, and who else fills it
    pub suits_since : {C : Type 0} (words : CacheWords C) (A : ℕ → Type 0) (a b : Stage S V) → Over A a b → Suits words store t.listing a.kit.chain.stores a.cache
        → Suits words store t.listing b.kit.chain.stores b.cache
    suits_since words A a b over suits =
        suits_on words store t.listing (TakesWants store t.listing t.plan A a.kit.chain.stores) a.kit.chain.stores b.kit.chain.stores a.cache b.cache over.step.stores.members over.stocked suits

    pub alone_since : (A : ℕ → Type 0) (a b : Stage S V) → Over A a b → IsAlone a.cache → IsAlone b.cache
    alone_since A a b over alone = alone_on (TakesWants store t.listing t.plan A a.kit.chain.stores) a.cache b.cache over.stocked alone

    -- if there is a cache now there was one
    pub may_lack_before : (A : ℕ → Type 0) (a b : Stage S V) → Over A a b → MayLack store b.cache → MayLack store a.cache
    may_lack_before A a b over (inl stores) = inl stores
    may_lack_before A a b over (inr cache) = inr (stocked_some (TakesWants store t.listing t.plan A a.kit.chain.stores) a.cache b.cache over.stocked cache)
