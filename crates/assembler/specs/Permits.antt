-- Which wants a worker is dealt, and which entries may be filled: those of a want whose chunk was got.
use Rattle.std.specs.Prelude.{◌≡◌, ◌==◌, ◌%◌, ℕ, ◌<◌, Bool, true}
use Rattle.assembler.specs.Stages.{Stage, from}
use Rattle.chunk_sources.specs.Losses.{HadOver}
use Rattle.chunk_sources.specs.Wants.{IsAmong, Task, want_chunk}
use Rattle.chunk_store.specs.declared.store.Store.{Ghosts as StoreWords}
use Rattle.dsy_base.specs.declared.view.View.{Ghosts as ViewWords}
use Rattle.extract_plan.specs.Deal.{Deal, of_want}

-- whether want w is dealt to worker k
abbrev pub deals_to : Deal → ℕ → ℕ → Bool
deals_to d k w = w % d.workers == k

module _ {S V : Type 0} (store : StoreWords S) (view : ViewWords V) (t : Task) (may : ℕ → Bool) (a : Stage S V) where
  -- if the chunk of want w can be got over a stage, its entries may be filled
  abbrev pub MayFillWant : ℕ → Type 0
  MayFillWant w = HadOver store view a.fates (want_chunk t w) (from a)
      → (i : ℕ) → IsAmong (of_want t.plan w) i → may i ≡ true

  -- so it is of each of these wants
  abbrev pub MayFillHad : (ℕ → Type 0) → Type 0
  MayFillHad Among = (w : ℕ) → w < t.plan.wants → Among w → MayFillWant w
