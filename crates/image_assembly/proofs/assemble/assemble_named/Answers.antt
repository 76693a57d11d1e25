use Rattle.std.proofs.Common.{◌≡◌, ◌⊎◌, ◌∙◌, ◌+◌, ◌≤◌, ℕ, List, Err, IfOk, IfSome, length, refl, inl, inr, sym, ap, subst, arith}
use Rattle.assembler.proofs.Assembled.{told_as}
use Rattle.assembler.specs.Assemblies.{Assembles, IsAssembled}
use Rattle.assembler.specs.Begun.{HasBegun}
use Rattle.assembler.specs.OneKit.{lent}
use Rattle.assembler.specs.declared.fault.ExtractFault.{ExtractFault}
use Rattle.assembler.specs.declared.fault.ExtractFault.TheVariants as faults
use Rattle.caibx_codec.specs.Listing.{Listing, count_of, image_length}
use Rattle.chunk_sources.specs.Caches.{seen}
use Rattle.chunk_sources.specs.Wants.{Task}
use Rattle.chunk_sources.specs.declared.kit.Kit.{Kit}
use Rattle.chunk_store.specs.Kinds.{kind_named}
use Rattle.dsy_base.specs.Bytes.{Held, resized}
use Rattle.dsy_base.specs.Counts.{Quiet, Rose}
use Rattle.extract_plan.specs.Deal.{IsPlan}
use Rattle.extract_plan.specs.Places.{Placed}
use Rattle.image_assembly.proofs.Handing.{refused}
use Rattle.image_assembly.proofs.Lending.{as_long, by_same, permits_same}
use Rattle.image_assembly.proofs.OnePlan.{by_kit}
use Rattle.image_assembly.proofs.Planned.{is_plan, plan_of}
use Rattle.image_assembly.specs.Endings.{HasAssembled, handed}
use Rattle.image_workers.specs.Kits.{IsAssembledBy, NoneUsed}
use Rattle.image_assembly.specs.Readied.{Permits, unprepared}
use Rattle.image_assembly.specs.declared.fault.PrepareFault.{PrepareFault}
use Rattle.image_assembly.specs.declared.fault.PrepareFault.TheVariants as refusals
use Rattle.range_ledger.specs.Fills.{WhereTold}
use Rattle.range_survey.specs.Reports.{right_below}
use Rattle.image_assembly.proofs.assemble.assemble_named.Goals as goal

pub run-requires-clause-permits : goal.run-requires-clause-permits
run-requires-clause-permits g c κs within = λ many.
    let l = c.args.index.now in
    let x = c.args.places.now in
    let kits = c.args.kits.items in
    let p = c.in-Ok.prepared in
    let e = c.in-Ok.ensures in
    let n = g.N.FolderName in
    let cache = seen g.F.Look c.args.cache in
    let t : Task = record { listing = l; plan = p.task.plan; places = x } in
    let task_is : (◌≡◌ {A = Task} p.task t) =
    ap (λ (m : Listing). record { listing = m; plan = p.task.plan; places = p.task.places }) e.dealt.0
    ∙ ap (λ (y : Placed). record { listing = l; plan = p.task.plan; places = y }) e.dealt.2 in
    let long = as_long p.kits kits e.chain e.seeds in
    subst (λ (s : Task). Permits g.S.Store g.V.View g.R.RunName.run s p.kits (kind_named n.kind) n.opening n.place n.faults n.pairs n.stores cache) (sym task_is)
    (permits_same g.S.Store g.V.View p.kits kits e.chain e.seeds g.R.RunName.run t (kind_named n.kind) n.opening n.place n.faults n.pairs n.stores cache
    (c.requires.may (omega (arith, many, long, c.args.kits.ok.0)) p.task.plan e.dealt.1))

pub returns-in-Ok : goal.returns-in-Ok
returns-in-Ok g c =
    let l = c.args.index.now in
    let x = c.args.places.now in
    let kits = c.args.kits.items in
    let old = g.T.View.held c.args.target in
    let f = g.T.View.faults c.args.target in
    let p = c.in-Ok.prepared in
    let e = c.in-Ok.ensures in
    let r = c.run.result in
    let does = c.run.ensures in
    let n = g.T.View.faults r.target in
    let new = g.T.View.held r.target in
    let cache = seen g.F.Look c.args.cache in
    let left = seen g.F.Look r.cache in
    let before = lent f kits cache in
    let after = lent n r.kits.items left in
    let t : Task = record { listing = l; plan = p.task.plan; places = x } in
    let task_is : (◌≡◌ {A = Task} p.task t) =
    ap (λ (m : Listing). record { listing = m; plan = p.task.plan; places = p.task.places }) e.dealt.0
    ∙ ap (λ (y : Placed). record { listing = l; plan = p.task.plan; places = y }) e.dealt.2 in
    let plan : IsPlan l (length kits) p.task.plan = subst (λ (k : ℕ). IsPlan l k p.task.plan) c.args.kits.ok.0 e.dealt.1 in
    let begun : HasBegun p.task.listing old f p.whole = subst (λ (m : Listing). HasBegun m old f p.whole) (sym e.dealt.0) e.ok in
    let early : (length p.kits ≡ 1) ⊎ (f ≤ p.whole.faults_before) = inr (omega (arith, e.before)) in
    let plain : WhereTold old.bytes new.bytes (Assembles l ⊥ f n r.answer) =
    subst (λ (m : Listing). WhereTold old.bytes new.bytes (Assembles m ⊥ f n r.answer)) e.dealt.0 (does.bytes old f begun early) in
    let bytes = told_as l f n r.answer old.bytes new.bytes (λ (no : ⊥). absurd {A = NoneUsed before after} no) plain in
    let by_all : IsAssembledBy g.S.Store g.V.View t g.T.View.never_fails g.F.Look.never_fails old.bytes new.bytes (lent f p.kits cache) after r.answer =
    subst (λ (s : Task). IsAssembledBy g.S.Store g.V.View s g.T.View.never_fails g.F.Look.never_fails old.bytes new.bytes (lent f p.kits cache) after r.answer) task_is (does.kits old f begun early) in
    let many = as_long p.kits kits e.chain e.seeds in
    record {
      bytes = bytes;
      assembled = by_kit l x p.task f n cache left kits p.kits r.kits.items e.dealt.0 plan e.dealt.2 e.chain e.seeds
          {So = λ s a b. IsAssembled g.S.Store g.V.View s old.bytes new.bytes a b r.answer} (does.assembled old f begun);
      kept = λ one. subst (λ (m : Listing). IfOk r.answer (λ a. Quiet f n → IfSome old.bytes (λ o. a.kept ≡ right_below m (resized o (image_length m)) (count_of m)))) e.dealt.0
          (does.kept (many ∙ one) old f begun);
      kits = (p.task.plan, plan, by_same g.S.Store g.V.View p.kits kits e.chain e.seeds t g.T.View.never_fails g.F.Look.never_fails old.bytes new.bytes f cache after r.answer bytes by_all);
      report = subst (λ (m : Listing). IfOk r.answer (λ a. a.kept + a.copied + a.seeded + a.cached + a.fetched ≡ count_of m)) e.dealt.0 does.report;
      size = does.size.0 ∙ many;
      name = does.name ∙ ap (λ (h : Held). h.name) e.ok.held;
      faults = omega (arith, e.before, does.before);
    }

-- why it couldn't be prepared
why_none : (x : PrepareFault) (a b : ℕ) → (x ≡ refusals.TargetFault → Rose a b) → ((unprepared x ≡ faults.TargetFault) × Rose a b) ⊎ (unprepared x ≡ faults.Memory)
why_none refusals.TargetFault a b rose = inl (refl, rose refl)
why_none refusals.Memory a b rose = inr refl

pub returns-in-Err : goal.returns-in-Err
returns-in-Err g c =
    let l = c.args.index.now in
    let kits = c.args.kits.items in
    let old = g.T.View.held c.args.target in
    let new = g.T.View.held c.in-Err.target in
    let f = g.T.View.faults c.args.target in
    let n = g.T.View.faults c.in-Err.target in
    let e = c.in-Err.ensures in
    let cache = seen g.F.Look c.args.cache in
    let plan = is_plan l 1 (length kits) c.requires.places.0 c.requires.places.1 in
    subst (λ (x : ExtractFault). HasAssembled g.S.Store g.V.View g.T.View.never_fails g.F.Look.never_fails l c.args.places.now (handed old (lent f kits cache)) (handed new (lent n c.in-Err.kits.items cache)) (Err x)) (sym c.fault.ensures)
    (subst (λ (ks : List (Kit g.row.S.Denot g.row.V.Denot)). HasAssembled g.S.Store g.V.View g.T.View.never_fails g.F.Look.never_fails l c.args.places.now (handed old (lent f kits cache)) (handed new (lent n ks cache))
    (Err (unprepared c.in-Err.fault))) (sym e.kept)
    (refused g.S.Store g.V.View g.T.View.never_fails g.F.Look.never_fails l c.args.places.now (plan_of l (length kits)) kits (omega (arith, c.requires.size.0, c.args.kits.ok.0)) plan old new f n e.faults cache (unprepared c.in-Err.fault)
    (why_none c.in-Err.fault f n e.cause) e.err))
