-- Both passes as one: a before them, b between and c after them.
use Rattle.std.proofs.Common.{◌≡◌, ◌++◌, ℕ, ◌+◌, ◌<◌, Result, false, inl, inr, sym, ◌∙◌, arith, ap}
use Rattle.assembler.proofs.Asked.{asks_on, asks_up, spared_first, spared_rest}
use Rattle.assembler.proofs.EconomyPasses.{passes_by}
use Rattle.assembler.proofs.EconomyQuiet.{nothing_first, nothing_next}
use Rattle.assembler.proofs.EconomyRetried.{unless_map}
use Rattle.assembler.proofs.Filled.{open_before, torn_on}
use Rattle.assembler.proofs.HadOn.{had_from, had_through}
use Rattle.assembler.proofs.Lost.{lost_since}
use Rattle.assembler.proofs.Others.{alone_given, given_told}
use Rattle.assembler.proofs.Stepped.{may_lack_before, stretch_on}
use Rattle.assembler.proofs.Stocking.{give_before, one_size_on}
use Rattle.assembler.proofs.TwoPasses.{ends_map, err_map}
use Rattle.assembler.specs.Economy.{AssembledBy, PassedBy, UnlessMemory}
use Rattle.assembler.specs.Passes.{Ends, HasPassed, WhereQuiet, one_pass, source_at, two_passes, want_at}
use Rattle.assembler.specs.Stages.{Stage, from}
use Rattle.assembler.specs.declared.fault.ExtractFault.{ExtractFault}
use Rattle.caibx_codec.specs.Listing.{count_of}
use Rattle.chunk_sources.proofs.Cached.{stocked_told}
use Rattle.chunk_sources.proofs.SeedAnswers.{telling_on}
use Rattle.chunk_sources.specs.Asks.{asks_below, calls_below}
use Rattle.chunk_sources.specs.Caches.{IsAlone, TakesWants}
use Rattle.chunk_sources.specs.Sources.{views_of}
use Rattle.chunk_sources.specs.Wants.{Task}
use Rattle.chunk_store.specs.declared.store.Store.{Ghosts as StoreWords}
use Rattle.chunk_store.specs.Members.{told_together}
use Rattle.dsy_base.proofs.Counts.{rose_later}
use Rattle.dsy_base.specs.declared.view.View.{Ghosts as ViewWords}
use Rattle.extract_plan.specs.Deal.{AreWants, want_id}
use Rattle.range_survey.specs.Fates.{settled}
use Rattle.range_survey.specs.declared.fate.Fate.TheVariants as fate

module _ {S V : Type 0} (store : StoreWords S) (view : ViewWords V) (t : Task) (wants : AreWants t.listing t.plan.wants t.plan.want_of) where
  abbrev All : ℕ → Type 0
  All w = w < t.plan.wants

  -- a pass that was ended for want of memory
  pub passed_once : (a b : Stage S V) → HasPassed store view t one_pass a b → HasPassed store view t two_passes a b
  passed_once a b passed = record {
    had = passed.had;
    asks = λ spared are.
        let n = calls_below spared t.plan.wants in
        let q = asks_below (want_id t.listing t.plan) spared t.plan.wants in
        asks_up store n (n + n) q (λ id. q id + q id) a.kit.chain b.kit.chain (omega arith) (λ id. omega arith) (passed.asks spared are);
    stretch = passed.stretch;
  }

  module _ (a b c : Stage S V) (first : HasPassed store view t one_pass a b) (next : HasPassed store view t one_pass b c) where
    pub passed_both : HasPassed store view t two_passes a c
    passed_both = record {
      had = λ tells cached maps has told i inside is.
          let over = first.stretch in
          let views : Stage S V → _ = λ x. views_of view x.kit.seeds.items in
          let later = given_told (TakesWants store t.listing t.plan All a.kit.chain.stores) a.cache b.cache cached over.stocked has in
          let had = next.had (telling_on view.tells (views a) (views b) over.step.seeds.held tells) later.0 maps later.1 (ap told_together over.step.stores.members ∙ told) i inside is in
          had_through t wants a.fates b.fates (views a) (cached ++ maps) i inside (first.had tells cached maps has told)
          (had_from t wants store view All (from a) (from b) over.step.seeds.held over.stocked cached later.0 maps has later.1 told b.fates (want_at t.plan i) had);
      asks = λ spared are.
          let n = calls_below spared t.plan.wants in
          let q = asks_below (want_id t.listing t.plan) spared t.plan.wants in
          asks_on store n n q q a.kit.chain b.kit.chain c.kit.chain
          (first.asks spared (λ w below is. spared_first store view t All a b c w wants next.stretch (are w below is)))
          (next.asks spared (λ w below is. spared_rest store view t All a b c w wants (λ v within. within) first.stretch (are w below is)));
      stretch = stretch_on store view t All All All (λ w below. below) (λ w below. below) a b c first.stretch next.stretch;
    }

    pub ends_both : (r : Result Unit ExtractFault) → Ends store view t b c r → Ends store view t a c r
    ends_both r ends =
        let over = first.stretch in
        record {
          ok = ends.ok;
          first = ends_map _ _ _ _ r (λ lost h. (lost_since store view t All a b c lost over h.0, h.1))
              (λ rose. rose_later a.faults b.faults c.faults over.step.never_falls rose) ends.first;
          failed = λ is.
              let h = ends.failed is in
              record {
                entry = h.entry;
                listed = h.listed;
                was_open = open_before a.fates b.fates over.step.grows h.entry h.was_open;
                before = h.before;
                torn = h.torn;
                among = h.among;
                is_torn = torn_on t.listing a.fates b.fates c.fates a.faults b.faults c.faults h.torn next.stretch.step.never_falls over.step.grows next.stretch.step.grows
                    a.held.bytes b.held.bytes c.held.bytes (sym over.step.tells) (sym next.stretch.step.tells) over.step.bytes h.is_torn;
              };
          left = err_map _ _ r (λ e h. elim h [
            | inl memory ↦ inl memory
            | inr rest ↦ elim rest [
              | inl rose ↦ inr (inl (rose_later a.faults b.faults c.faults over.step.never_falls rose))
              | inr all ↦ inr (inr (λ i inside not_yet.
                  let was = all i inside not_yet in
                  (was.0, was.1, lost_since store view t All a b c was.0 over was.2)))
            ]
          ]) ends.left;
          memory = λ is. may_lack_before store view t All a b over (ends.memory is);
        }

    pub exactly_both : (r : Result Unit ExtractFault) → IsAlone a.cache
        → WhereQuiet store view t.listing (from a) (from b) (λ cached maps. PassedBy (source_at view t a cached maps) t.plan.wants (count_of t.listing) a.fates b.fates a.kit.chain b.kit.chain)
        → WhereQuiet store view t.listing (from a) (from b) (λ cached maps. (i : ℕ) → i < count_of t.listing → settled b.fates i ≡ false
        → source_at view t a cached maps (want_at t.plan i) ≡ fate.Open)
        → WhereQuiet store view t.listing (from b) (from c) (λ cached maps. UnlessMemory (PassedBy (source_at view t b cached maps) t.plan.wants (count_of t.listing) b.fates c.fates b.kit.chain c.kit.chain) r)
        → WhereQuiet store view t.listing (from a) (from c) (λ cached maps. UnlessMemory (AssembledBy (source_at view t a cached maps) t.plan.wants (count_of t.listing) a.fates c.fates a.kit.chain c.kit.chain) r)
    exactly_both r alone passed left again = λ cached maps nothing one.
        let over = first.stretch in
        let views = views_of view a.kit.seeds.items in
        let later = stocked_told (TakesWants store t.listing t.plan All a.kit.chain.stores) a.cache b.cache cached over.stocked nothing.told_cache in
        let sooner = nothing_first store view t All a b c cached maps next.stretch nothing in
        let since = nothing_next store view t All a b c cached maps over later.0 later.1 nothing in
        let still = one_size_on store t.listing t.plan All a.kit.chain.stores a.cache b.cache cached later.0 maps over.stocked nothing.told_cache later.1 nothing.told one in
        unless_map _ _ r
        (λ more. passes_by t wants a.fates b.fates views cached later.0 maps
        (first.had sooner.telling cached maps (alone_given a.cache alone ∙ sooner.told_cache) sooner.told) (left cached maps sooner one)
        c.fates (views_of view b.kit.seeds.items) a.kit.chain b.kit.chain c.kit.chain over.step.seeds.held
        (give_before store t.listing t.plan All a.kit.chain.stores a.cache b.cache cached later.0 maps over.stocked nothing.told_cache later.1 nothing.told wants (λ w below. below) one)
        (passed cached maps sooner one) more)
        (again later.0 maps since still)
