-- What the second pass of the first worker leaves, over the target's first bytes: it began at a and ended at b.
use Rattle.std.proofs.Common.{◌≡◌, ◌<◌, ◌≤◌, ℕ, List, Option, None, Some, IfSome, Result, Ok, OnOk, Err, true, length, refl, sym, subst, ◌∙◌, inr, arith, ap}
use Rattle.assembler.proofs.Based.{StandsOver, ends_map, only_such, some_map, told_map}
use Rattle.assembler.proofs.Finished.{Finished, Since, after_fault, after_ok, bytes_err, bytes_ok, exactly_err, exactly_ok, finished_retry, lost_err, some_between, stands_joined, told_between}
use Rattle.assembler.specs.Assemblies.{IsUnobtained}
use Rattle.assembler.specs.Obtainable.{OnlyObtainable}
use Rattle.assembler.specs.Passes.{Ends, HasPassed, one_pass}
use Rattle.assembler.specs.Stages.{Stage, from}
use Rattle.assembler.specs.declared.fault.ExtractFault.{ExtractFault}
use Rattle.assembler.specs.declared.fault.Lost.{Lost}
use Rattle.cache_store.specs.Shelves.{Shelf}
use Rattle.caibx_codec.specs.Listing.{count_of, image_length}
use Rattle.chunk_sources.proofs.Cached.{stocked_none}
use Rattle.chunk_sources.specs.Caches.{IsAlone, Stocked, TakesWants, cache_faults}
use Rattle.chunk_sources.specs.Sources.{Sources, sources, views_of}
use Rattle.chunk_sources.specs.Wants.{Task}
use Rattle.chunk_sources.specs.declared.kit.Kit.{Kit}
use Rattle.chunk_store.specs.Members.{maps_of, told_together}
use Rattle.chunk_store.specs.declared.store.Store.{Ghosts as StoreWords}
use Rattle.dsy_base.proofs.Counts.{rose_later}
use Rattle.dsy_base.specs.Bytes.{resized}
use Rattle.dsy_base.specs.Counts.{Rose}
use Rattle.dsy_base.specs.Maps.{Map}
use Rattle.dsy_base.specs.declared.view.View.{Ghosts as ViewWords}
use Rattle.extract_plan.specs.Deal.{AreWants, Deal}
use Rattle.extract_plan.specs.Places.{Placed}
use Rattle.image_workers.proofs.Going.{filled_of}
use Rattle.image_workers.proofs.Permitting.{settled_may}
use Rattle.image_workers.specs.Beside.{AddsOwn, AssembledBeside, ComesFrom, joined_stage}
use Rattle.owned_shards.specs.Wholes.{KeptWhole, Whole}
use Rattle.range_ledger.specs.Fills.{Fills, WhereTold}
use Rattle.range_ledger.specs.Runs.{Run}
use Rattle.range_survey.specs.Fates.{settled}
use Rattle.range_survey.specs.declared.report.Report.{Report}

-- what nobody else fills nobody else filled
alone_before : (Takes : List ℕ → List ℕ → Type 0) (e f : Option Shelf) → Stocked Takes e f → IsAlone f → IsAlone e
alone_before Takes None None stocked alone = tt
alone_before Takes None (Some t) stocked alone = absurd stocked
alone_before Takes (Some s) None stocked alone = absurd stocked
alone_before Takes (Some s) (Some t) stocked alone = sym stocked.others ∙ alone

module _ {S V : Type 0} (store : StoreWords S) (view : ViewWords V) (r : Run) (d : Deal) (x : Placed) where
  abbrev t : Task
  t = record { listing = r.listing; plan = d; places = x }

  module _ (o : Option (List ℕ)) (given : Option (List (Map (List ℕ)))) (old : Sources S V) (w : Whole) (c1 : Option Shelf) (kit : Kit S V) (b : Stage S V) (res : Result Unit ExtractFault)
      (wants : AreWants r.listing d.wants d.want_of) (alone : IsAlone c1) (comes : ComesFrom store view r t o given old w c1 kit) (rises : w.faults_before ≤ w.faults)
      (sized : IfSome w.held.bytes (λ y. length y ≡ w.held.size)) (long : w.held.size ≡ image_length r.listing) (kept : IfSome w.held.bytes (KeptWhole r w))
      (passed : HasPassed store view t one_pass (joined_stage w c1 kit) b) (ends : Ends store view t (joined_stage w c1 kit) b res) where
    abbrev a : Stage S V
    a = joined_stage w c1 kit

    abbrev May : ℕ → Type 0
    May e = r.may e ≡ true

    -- over what it was, or over these sources with the cache as it stood between the passes
    done_over : (from_there : Sources S V) → Since store view t from_there (from a) → IsAlone from_there.cache → from_there.faults ≡ old.faults → Finished store view t o from_there May a b res
    done_over s since own same = finished_retry store view t o s May a b res wants since own (comes.tells ∙ sym comes.told)
        (stands_joined r w s.faults (omega (arith, comes.before, same)) o comes.base (some_map w.held.bytes (λ y. length y ≡ w.held.size) (λ y. length y ≡ image_length r.listing) (λ y is. is ∙ long) sized) kept)
        passed ends

    abbrev between : Sources S V
    between = sources old.faults old.seeds c1 old.chain

    done : Finished store view t o between May a b res
    done = done_over between
        (record {
          rises = omega (arith, comes.before, rises);
          seeds = comes.seeds;
          stores = comes.stores;
          stocked = stocked_none (TakesWants store t.listing t.plan (λ v. v < t.plan.wants) old.chain.stores) c1;
        })
        alone refl

    done_own : AddsOwn store view r t old c1 → Finished store view t o old May a b res
    done_own own = done_over old
        (record { rises = omega (arith, comes.before, rises); seeds = comes.seeds; stores = comes.stores; stocked = own })
        (alone_before (TakesWants store t.listing t.plan (λ v. v < t.plan.wants) old.chain.stores) old.cache c1 own alone) refl

    -- ---- what is settled may be filled

    all_may : (i : ℕ) → i < count_of r.listing → settled b.fates i ≡ true → May i
    all_may = settled_may r d x wants store view (views_of view old.seeds) given (maps_of store.members old.chain.stores) comes.permits a b.fates comes.gives comes.seeds.held (ap told_together comes.stores.members)
        (filled_of store view r d x wants w w.held.bytes comes.tells kept) passed.had

    abbrev over_base : List ℕ → List ℕ
    over_base y = resized y (image_length r.listing)

    abbrev Kept : List ℕ → List ℕ → Type 0
    Kept y t0 = StandsOver r.listing May w.fates old.faults w.faults (over_base y) t0

    abbrev Filled : List ℕ → List ℕ → Type 0
    Filled y z = (t0 : List ℕ) × Kept y t0 × Fills r.listing w.fates b.fates w.faults b.faults t0 z

    founds : IfSome o (λ y. (t0 : List ℕ) × Kept y t0)
    founds = some_between o w.held.bytes Kept done.tells done.whole

    filled : WhereTold o b.held.bytes Filled
    filled = told_between o w.held.bytes b.held.bytes Kept (Fills r.listing w.fates b.fates w.faults b.faults) done.tells done.whole passed.stretch.step.bytes

    only_err : (why : ExtractFault) → WhereTold o b.held.bytes (OnlyObtainable r.listing May old.faults b.faults (Err why))
    only_err why = told_map o b.held.bytes (λ y. (t0 : List ℕ) × Kept y t0) Filled (OnlyObtainable r.listing May old.faults b.faults (Err why))
        (λ y z found s. inr (only_such r.listing May w.fates b.fates old.faults w.faults b.faults done.since.rises passed.stretch.step.never_falls passed.stretch.step.grows (over_base y) s.0 z s.1 s.2 May all_may))
        founds filled

    only_ok : (u : Unit {0}) → res ≡ Ok u → (report : Report) → WhereTold o b.held.bytes (OnlyObtainable r.listing May old.faults b.faults (Ok report))
    only_ok u so report = told_map o b.held.bytes (λ y. (t0 : List ℕ) × Kept y t0) Filled (OnlyObtainable r.listing May old.faults b.faults (Ok report))
        (λ y z found s i inside. all_may i inside (subst (λ q. OnOk q ((i : ℕ) → i < count_of r.listing → settled b.fates i ≡ true)) so ends.ok i inside)) founds filled

    -- ---- what was lost

    lost_before : (lost : Lost) → IsUnobtained store view t o between (from b) lost → IsUnobtained store view t o old (from b) lost
    lost_before lost is = record {
      listed = is.listed;
      id_is = is.id_is;
      copies = is.copies;
      seeds = is.seeds;
      cache = λ now told gives. rose_later (cache_faults old.cache) (cache_faults c1) (cache_faults b.cache) comes.falls (is.cache now told gives);
      stores = is.stores;
    }

    -- ---- all of it

    pub beside_err : (why : ExtractFault) → res ≡ Err why → AssembledBeside store view r t o b.held.bytes old c1 (from b) (Err why)
    beside_err why so = record {
      bytes = bytes_err store view t o between May a b res done ⊥ why so;
      lost = ends_map (IsUnobtained store view t o between (from b)) (IsUnobtained store view t o old (from b)) (Rose old.faults b.faults) (Rose old.faults b.faults) why lost_before (λ rose. rose)
          (lost_err store view t o between May a b res done why so);
      had = only_err why;
      exactly = λ own cached maps nothing one such. exactly_err store view t o old May a b res (done_own own) cached maps nothing one such why so;
      after = λ own cached maps nothing one such. after_fault store view t o old May a b res (done_own own) cached maps nothing one such why so;
    }

    pub beside_ok : (u : Unit {0}) → res ≡ Ok u → (report : Report) → AssembledBeside store view r t o b.held.bytes old c1 (from b) (Ok report)
    beside_ok u so report = record {
      bytes = bytes_ok store view t o between May a b res done ⊥ u so report;
      lost = tt;
      had = only_ok u so report;
      exactly = λ own cached maps nothing one such. exactly_ok store view t o old May a b res (done_own own) cached maps nothing one such u so report;
      after = λ own cached maps nothing one such. after_ok store view t o old May a b res (done_own own) cached maps nothing one such u so report;
    }
