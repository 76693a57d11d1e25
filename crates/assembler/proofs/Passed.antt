-- What a pass has done when these wants are done, and what one more call leaves.
use Rattle.std.proofs.Common.{◌≡◌, ◌≢◌, ℕ, ◌<◌, Bool, true, false, sym, ap, ◌∙◌}
use Rattle.std.proofs.lemmas.Bool.{true≢false}
use Rattle.assembler.proofs.Asked.{AsksDone, asks_done_all, asks_done_more, asks_done_none, asks_done_share, asks_share_all}
use Rattle.assembler.proofs.HadOn.{had_all_none, had_more}
use Rattle.assembler.proofs.Stepped.{stretch_none, stretch_on, stretch_wider}
use Rattle.assembler.specs.Passes.{HadAll, HasPassed, HasPassedShare, one_pass}
use Rattle.assembler.specs.Settling.{Settles}
use Rattle.assembler.specs.Stages.{Stage, Stretch}
use Rattle.chunk_sources.specs.Caches.{IsAlone}
use Rattle.chunk_sources.specs.Wants.{Task}
use Rattle.chunk_store.specs.declared.store.Store.{Ghosts as StoreWords}
use Rattle.dsy_base.specs.declared.view.View.{Ghosts as ViewWords}
use Rattle.extract_plan.specs.Deal.{AreWants}

-- want w is done too
pub record OneMore (done later : ℕ → Bool) (w n : ℕ) : Type 0 where
  pub below : w < n
  pub wasnt : done w ≡ false
  pub now : later w ≡ true
  pub others : (v : ℕ) → v ≢ w → later v ≡ done v
  pub within : (v : ℕ) → done v ≡ true → v < n

module _ {S V : Type 0} (store : StoreWords S) (view : ViewWords V) (t : Task) where
  pub record WantsDone (done : ℕ → Bool) (a b : Stage S V) : Type 0 where
    pub had : HadAll store view t a b.fates
    pub asks : AsksDone store view t done a b
    pub stretch : Stretch store view t (λ v. done v ≡ true) a b

  pub done_none : AreWants t.listing t.plan.wants t.plan.want_of → (done : ℕ → Bool) (a : Stage S V) → WantsDone done a a
  done_none wants done a = record {
    had = had_all_none t wants store view a;
    asks = asks_done_none store view t done a;
    stretch = stretch_none store view t (λ v. done v ≡ true) a;
  }

  pub done_more : AreWants t.listing t.plan.wants t.plan.want_of → (done later : ℕ → Bool) (w : ℕ) → OneMore done later w t.plan.wants → (a b c : Stage S V) → WantsDone done a b → Settles store view t w b c → WantsDone later a c
  done_more wants done later w more a b c first next = record {
    had = had_more t wants store view (λ v. done v ≡ true) a b c w first.stretch next first.had;
    asks = asks_done_more store view t done later (λ v. v ≡ w) a b c w wants more.within more.below more.wasnt more.now more.others first.stretch next.stretch next.asks first.asks;
    stretch = stretch_on store view t (λ v. done v ≡ true) (λ v. v ≡ w) (λ v. later v ≡ true)
        (λ v is. more.others v (λ same. true≢false (sym is ∙ ap done same ∙ more.wasnt)) ∙ is) (λ v same. ap later same ∙ more.now) a b c first.stretch next.stretch;
  }

  -- what it leaves in the end, where nobody else fills the cache
  pub done_all : (done : ℕ → Bool) (a b : Stage S V) → IsAlone a.cache → ((v : ℕ) → done v ≡ true → v < t.plan.wants) → WantsDone done a b → HasPassed store view t one_pass a b
  done_all done a b alone within passed = record {
    had = passed.had;
    asks = asks_done_all store view t done a b alone passed.asks;
    stretch = stretch_wider store view t (λ v. done v ≡ true) (λ v. v < t.plan.wants) within a b passed.stretch;
  }

  -- and what it leaves of these wants, which are all or not
  pub done_share : (done these : ℕ → Bool) (a b : Stage S V) → ((v : ℕ) → done v ≡ true → (v < t.plan.wants) × (these v ≡ true)) → WantsDone done a b
      → HasPassedShare store view t these a b
  done_share done these a b within passed = record {
    had = passed.had;
    asks = asks_done_share store view t done these (λ v is. (within v is).1) a b passed.asks;
    stretch = stretch_wider store view t (λ v. done v ≡ true) (λ v. (v < t.plan.wants) × (these v ≡ true)) within a b passed.stretch;
  }

  pub share_all : (these : ℕ → Bool) (a b : Stage S V) → IsAlone a.cache → ((v : ℕ) → these v ≡ true) → HasPassedShare store view t these a b → HasPassed store view t one_pass a b
  share_all these a b alone all passed = record {
    had = passed.had;
    asks = asks_share_all store view t these all a b alone passed.asks;
    stretch = stretch_wider store view t (λ v. (v < t.plan.wants) × (these v ≡ true)) (λ v. v < t.plan.wants) (λ v both. both.0) a b passed.stretch;
  }
