-- How the assembly of an index ends.
use Rattle.std.specs.Prelude.{◌≡◌, ◌+◌, ◌≤◌, List, length, Bool, IfOk, IfSome, Result}
use Rattle.assembler.specs.Assemblies.{Assembles, IsAssembled}
use Rattle.assembler.specs.OneKit.{ByPlan, Lent}
use Rattle.assembler.specs.declared.fault.ExtractFault.{ExtractFault}
use Rattle.caibx_codec.specs.Listing.{Listing, count_of, image_length}
use Rattle.chunk_sources.specs.Wants.{Task}
use Rattle.chunk_sources.specs.declared.kit.Kit.{Kit}
use Rattle.chunk_store.specs.declared.store.Store.{Ghosts as StoreWords}
use Rattle.dsy_base.specs.Bytes.{Held, resized}
use Rattle.dsy_base.specs.Counts.{Quiet}
use Rattle.dsy_base.specs.declared.view.View.{Ghosts as ViewWords}
use Rattle.extract_plan.specs.Deal.{Deal, IsPlan}
use Rattle.extract_plan.specs.Places.{Placed}
use Rattle.image_workers.specs.Kits.{IsAssembledBy, NoneUsed}
use Rattle.range_ledger.specs.Fills.{WhereTold}
use Rattle.range_survey.specs.Reports.{right_below}
use Rattle.range_survey.specs.declared.report.Report.{Report}

-- so it is of the assembly of an index, by its plan for as many workers as there are kits
abbrev pub ByPlanOfAll : {S V : Type 0} → Listing → Placed → List (Kit S V) → (Task → Type 0) → Type 0
ByPlanOfAll l x kits So = (d : Deal) × IsPlan l (length kits) d
    × So (record { listing = l; plan = d; places = x })

-- what is handed over to an assembly, and comes back: a target that holds this, and what is lent
pub record Handed (S V : Type 0) : Type 0 where
  pub held : Held
  pub lent : Lent S V

-- both as one value
abbrev pub handed : {S V : Type 0} → Held → Lent S V → Handed S V
handed held lent = record { held = held; lent = lent }

-- the assembly of an index has ended, with these places in the seeds. `assembled` and `kept` are so with one kit
pub record HasAssembled {S V : Type 0} (store : StoreWords S) (view : ViewWords V)
    (never_fails cache_never_fails : Bool) (l : Listing) (x : Placed) (old new : Handed S V)
    (answer : Result Report ExtractFault) : Type 0 where
  pub bytes : WhereTold old.held.bytes new.held.bytes (Assembles l (NoneUsed old.lent new.lent) old.lent.faults
      new.lent.faults answer)
  pub assembled : ByPlan l x old.lent new.lent (λ t a b. IsAssembled store view t old.held.bytes new.held.bytes a b
      answer)
  pub kept : length old.lent.kits ≡ 1 → IfOk answer (λ r. Quiet old.lent.faults new.lent.faults
      → IfSome old.held.bytes (λ o. r.kept ≡ right_below l (resized o (image_length l)) (count_of l)))
  pub kits : ByPlanOfAll l x old.lent.kits (λ t. IsAssembledBy store view t never_fails cache_never_fails old.held.bytes
      new.held.bytes old.lent new.lent answer)
  pub report : IfOk answer (λ r. r.kept + r.copied + r.seeded + r.cached + r.fetched ≡ count_of l)
  pub size : length new.lent.kits ≡ length old.lent.kits
  pub name : new.held.name ≡ old.held.name
  pub faults : old.lent.faults ≤ new.lent.faults
