use Rattle.std.proofs.Common.{◌≡◌, ◌⊎◌, ◌∙◌, ◌+◌, ◌++◌, ◌≤◌, ◌∷◌, ℕ, [], List, Option, IfOk, IfSome, is_some, length, inl, inr, slice_index_or, sym, ap, subst, arith}
use Rattle.std.proofs.lemmas.Bool.{true≢false}
use Rattle.assembler.specs.Assemblies.{Assembles, IsAssembled}
use Rattle.assembler.specs.Begun.{HasBegun}
use Rattle.assembler.specs.OneKit.{OfKit, lent}
use Rattle.assembler.specs.Stages.{Ready}
use Rattle.cache_store.specs.Shelves.{Shelved}
use Rattle.caibx_codec.specs.Listing.{Listing, count_of, image_length, kind_of}
use Rattle.chunk_sources.specs.Caches.{seen}
use Rattle.chunk_sources.specs.Sources.{sources}
use Rattle.chunk_sources.specs.Wants.{Task}
use Rattle.chunk_sources.specs.declared.kit.Kit.{Kit}
use Rattle.chunk_store.specs.Kinds.{kind_named}
use Rattle.dsy_base.specs.Bytes.{Held, resized}
use Rattle.dsy_base.specs.Counts.{Quiet}
use Rattle.image_assembly.proofs.Lending.{by_one, kept_sure}
use Rattle.image_assembly.proofs.OnePlan.{last_alone, none_left, of_only}
use Rattle.image_assembly.proofs.Readying.{digest_so, begun_beside, fills_from, pairs_so, permits_at, ready_for, ready_kit}
use Rattle.image_workers.specs.Beside.{BegunBeside}
use Rattle.image_workers.specs.Kits.{IsAssembledBy}
use Rattle.image_assembly.specs.Readied.{AreRoomsFor, OfTarget, OfTargetWith, Permits, Readied, readied}
use Rattle.range_ledger.specs.Fills.{WhereTold}
use Rattle.range_survey.specs.Reports.{right_below}
use Rattle.image_assembly.proofs.prepare.Prepared.run.Given.{Over}
use Rattle.image_assembly.proofs.prepare.Prepared.run.Goals.{In-Ok, In-Some, In-Some-pop}
use Rattle.image_assembly.proofs.prepare.Prepared.run.Goals as goal

-- ---- what is prepared

abbrev Kits : Over → Type 0
Kits g = List (Kit g.row.S.Denot g.row.V.Denot)

abbrev All : Over → Type 0
All g = Readied g.row.S.Denot g.row.V.Denot

-- ---- one kit

one : (g : Over) (c : In-Some-pop g) → length c.self.inside.kits.items ≡ 1
one g c = c.self.invariant.1 c.in_default.is

only : (g : Over) (c : In-Some-pop g) → c.self.inside.kits.items ≡ c.in-Some-pop.kit ∷ []
only g c = last_alone c.self.inside.kits.items c.pop.new.self.items c.in-Some-pop.kit c.in-Some-pop.ensures.items (one g c)

-- and in the end
last : (g : Over) (c : In-Ok g) → c.push.new.self.items ≡ c.run_surveyed-target.result.kit ∷ []
last g c = c.in-Ok.ensures.items ∙ ap (λ (xs : Kits g). xs ++ c.run_surveyed-target.result.kit ∷ [])
    (none_left c.self.inside.kits.items c.pop.new.self.items c.in-Some-pop.kit c.in-Some-pop.ensures.items (c.self.invariant.1 c.in_default.is))

pub run_surveyed-target-requires-clause-ready : goal.run_surveyed-target-requires-clause-ready
run_surveyed-target-requires-clause-ready g c =
    let here = (goal.at.run_surveyed-target-requires-clause-ready g c).In-Some-pop in
    let i = c.self.inside in
    let w = i.shards in
    let v : All g = readied (record { listing = i.index.now; plan = i.plan; places = i.places.now }) w i.kits.items in
    let k = c.in-Some-pop.kit in
    let cache = seen g.F.Look c.args.cache in
    let t : Task = record { listing = g.R.RunName.run.listing; plan = i.plan; places = i.places.now } in
    subst (λ (q : Kit g.row.S.Denot g.row.V.Denot). Ready t (record { held = w.held; faults = w.faults; fates = w.fates; kit = q; cache = cache })) (ap (λ (xs : Kits g). slice_index_or xs 0 k) (only g here))
    (ready_kit g.S.Store g.V.View g.R.RunName.run g.T.View.tells i.tried.items v c.self.invariant.0 0 k c.self.invariant.0.some w.held w.faults w.fates cache
    (subst (λ (x : All g). IfSome cache (λ s. s.kind ≡ kind_of x.task.listing)) (sym c.self.view_is) c.requires.cache))

pub run_surveyed-target-requires-clause-may : goal.run_surveyed-target-requires-clause-may
run_surveyed-target-requires-clause-may g c = c.self.invariant.0.one (one g (goal.at.run_surveyed-target-requires-clause-may g c).In-Some-pop)

pub run_surveyed-target-requires-clause-workers : goal.run_surveyed-target-requires-clause-workers
run_surveyed-target-requires-clause-workers g c = c.self.invariant.0.plan.workers ∙ one g (goal.at.run_surveyed-target-requires-clause-workers g c).In-Some-pop

pub returns-clause-bytes : goal.returns-clause-bytes
returns-clause-bytes g c =
    let r = c.run_surveyed-target.result in
    subst (λ (x : All g). OfTargetWith (length x.kits) x.task.listing x.whole (λ old f. WhereTold old.bytes (g.T.View.held r.target).bytes (Assembles x.task.listing ⊥ f (g.T.View.faults r.target) r.answer)))
    c.self.view_is (λ old f begun early. subst (λ (l : Listing). (old : Held) (f : ℕ) → HasBegun l old f c.self.inside.shards
    → WhereTold old.bytes (g.T.View.held r.target).bytes (Assembles l ⊥ f (g.T.View.faults r.target) r.answer)) (sym c.self.invariant.0.listing) c.run_surveyed-target.ensures.bytes old f begun)

-- by the run's index
assembled_so : (g : Over) (c : In-Ok g) (old : Held) (f : ℕ) → HasBegun c.self.inside.index.now old f c.self.inside.shards
    → IsAssembled g.S.Store g.V.View (record { listing = c.self.inside.index.now; plan = c.self.inside.plan; places = c.self.inside.places.now }) old.bytes (g.T.View.held c.run_surveyed-target.result.target).bytes
    (sources f c.in-Some-pop.kit.seeds.items (seen g.F.Look c.args.cache) c.in-Some-pop.kit.chain)
    (sources (g.T.View.faults c.run_surveyed-target.result.target) c.run_surveyed-target.result.kit.seeds.items (seen g.F.Look c.run_surveyed-target.result.cache) c.run_surveyed-target.result.kit.chain)
    c.run_surveyed-target.result.answer
assembled_so g c old f begun =
    let r = c.run_surveyed-target.result in
    let k = c.in-Some-pop.kit in
    subst (λ (l : Listing). HasBegun l old f c.self.inside.shards → IsAssembled g.S.Store g.V.View (record { listing = l; plan = c.self.inside.plan; places = c.self.inside.places.now }) old.bytes
    (g.T.View.held r.target).bytes (sources f k.seeds.items (seen g.F.Look c.args.cache) k.chain) (sources (g.T.View.faults r.target) r.kit.seeds.items (seen g.F.Look r.cache) r.kit.chain) r.answer)
    (sym c.self.invariant.0.listing) (c.run_surveyed-target.ensures.assembled old f) begun

pub returns-clause-assembled : goal.returns-clause-assembled
returns-clause-assembled g c =
    let here = (goal.at.returns-clause-assembled g c).In-Some-pop in
    let end = (goal.at.returns-clause-assembled g c).In-Ok in
    let r = c.run_surveyed-target.result in
    let cache = seen g.F.Look c.args.cache in
    let left = seen g.F.Look r.cache in
    subst (λ (x : All g). OfTarget x.task.listing x.whole (λ old f. OfKit x.kits c.push.new.self.items (λ q p. IsAssembled g.S.Store g.V.View x.task old.bytes (g.T.View.held r.target).bytes
    (sources f q.seeds.items cache q.chain) (sources (g.T.View.faults r.target) p.seeds.items left p.chain) r.answer))) c.self.view_is
    (λ old f begun. of_only c.self.inside.kits.items c.push.new.self.items c.in-Some-pop.kit r.kit (only g here) (last g end)
    {So = λ q p. IsAssembled g.S.Store g.V.View (record { listing = c.self.inside.index.now; plan = c.self.inside.plan; places = c.self.inside.places.now }) old.bytes (g.T.View.held r.target).bytes
    (sources f q.seeds.items cache q.chain) (sources (g.T.View.faults r.target) p.seeds.items left p.chain) r.answer} (assembled_so g end old f begun))

pub returns-clause-kits : goal.returns-clause-kits
returns-clause-kits g c =
    let here = (goal.at.returns-clause-kits g c).In-Some-pop in
    let end = (goal.at.returns-clause-kits g c).In-Ok in
    let r = c.run_surveyed-target.result in
    let n = g.T.View.faults r.target in
    let p = (g.T.View.held r.target).bytes in
    let cache = seen g.F.Look c.args.cache in
    let left = seen g.F.Look r.cache in
    let i = c.self.inside in
    let t : Task = record { listing = i.index.now; plan = i.plan; places = i.places.now } in
    subst (λ (x : All g). OfTargetWith (length x.kits) x.task.listing x.whole (λ old f. IsAssembledBy g.S.Store g.V.View x.task g.T.View.never_fails g.F.Look.never_fails old.bytes p (lent f x.kits cache)
    (lent n c.push.new.self.items left) r.answer)) c.self.view_is
    (λ old f begun early.
    subst (λ (xs : Kits g). IsAssembledBy g.S.Store g.V.View t g.T.View.never_fails g.F.Look.never_fails old.bytes p (lent f xs cache) (lent n c.push.new.self.items left) r.answer) (sym (only g here))
    (subst (λ (ys : Kits g). IsAssembledBy g.S.Store g.V.View t g.T.View.never_fails g.F.Look.never_fails old.bytes p (lent f (c.in-Some-pop.kit ∷ []) cache) (lent n ys left) r.answer) (sym (last g end))
    (by_one g.S.Store g.V.View t g.T.View.never_fails g.F.Look.never_fails old.bytes p (c.self.invariant.0.plan.workers ∙ one g here) f n c.in-Some-pop.kit r.kit cache left r.answer
    (subst (λ (l : Listing). HasBegun l old f i.shards → WhereTold old.bytes p (Assembles l ⊥ f n r.answer)) (sym c.self.invariant.0.listing) (c.run_surveyed-target.ensures.bytes old f) begun)
    (assembled_so g end old f begun)
    (λ sure. kept_sure r.answer (λ x. IfSome old.bytes (λ y. x.kept ≡ right_below i.index.now (resized y (image_length i.index.now)) (count_of i.index.now))) f n (g.met.T.View.sure r.target sure)
    (subst (λ (l : Listing). HasBegun l old f i.shards → IfOk r.answer (λ x. Quiet f n → IfSome old.bytes (λ y. x.kept ≡ right_below l (resized y (image_length l)) (count_of l))))
    (sym c.self.invariant.0.listing) (c.run_surveyed-target.ensures.kept old f) begun)))))

pub returns-clause-report : goal.returns-clause-report
returns-clause-report g c =
    let r = c.run_surveyed-target.result in
    subst (λ (x : All g). IfOk r.answer (λ n. n.kept + n.copied + n.seeded + n.cached + n.fetched ≡ count_of x.task.listing)) c.self.view_is
    (subst (λ (l : Listing). IfOk r.answer (λ n. n.kept + n.copied + n.seeded + n.cached + n.fetched ≡ count_of l)) (sym c.self.invariant.0.listing) c.run_surveyed-target.ensures.report)

pub returns-clause-kept : goal.returns-clause-kept
returns-clause-kept g c =
    let r = c.run_surveyed-target.result in
    subst (λ (x : All g). length x.kits ≡ 1 → OfTarget x.task.listing x.whole (λ old f. IfOk r.answer (λ n. Quiet f (g.T.View.faults r.target)
    → IfSome old.bytes (λ o. n.kept ≡ right_below x.task.listing (resized o (image_length x.task.listing)) (count_of x.task.listing))))) c.self.view_is
    (λ alone. subst (λ (l : Listing). (old : Held) (f : ℕ) → HasBegun l old f c.self.inside.shards → IfOk r.answer (λ n. Quiet f (g.T.View.faults r.target)
    → IfSome old.bytes (λ o. n.kept ≡ right_below l (resized o (image_length l)) (count_of l)))) (sym c.self.invariant.0.listing) c.run_surveyed-target.ensures.kept)

pub returns-clause-faults : goal.returns-clause-faults
returns-clause-faults g c =
    let r = c.run_surveyed-target.result in
    subst (λ (x : All g). length x.kits ≡ 1 → x.whole.faults ≤ g.T.View.faults r.target) c.self.view_is (λ alone. c.run_surveyed-target.ensures.faults)

pub returns-clause-size : goal.returns-clause-size
returns-clause-size g c =
    let here = (goal.at.returns-clause-size g c).In-Some-pop in
    let end = (goal.at.returns-clause-size g c).In-Ok in
    let r = c.run_surveyed-target.result in
    subst (λ (x : All g). (length c.push.new.self.items ≡ length x.kits) × ((g.T.View.held r.target).size ≡ image_length x.task.listing)) c.self.view_is
    (ap (λ (xs : Kits g). length xs) (last g end) ∙ sym (one g here), c.run_surveyed-target.ensures.size ∙ ap (λ (l : Listing). image_length l) (sym c.self.invariant.0.listing))

pub returns-clause-before : goal.returns-clause-before
returns-clause-before g c =
    let r = c.run_surveyed-target.result in
    subst (λ (x : All g). x.whole.faults_before ≤ g.T.View.faults r.target) c.self.view_is (omega (arith, c.self.invariant.0.rises, c.run_surveyed-target.ensures.faults))

-- ---- several kits

many : (g : Over) (c : In-Some g) → 2 ≤ length c.self.inside.kits.items
many g c = (subst (λ o. IfSome o (λ y. (2 ≤ length c.self.inside.kits.items) × AreRoomsFor g.R.RunName.run (length c.self.inside.kits.items) y.locks y.lanes y.known)) c.in-Some.is c.self.invariant.2).0

rooms_so : (g : Over) (c : In-Some g) → AreRoomsFor g.R.RunName.run (length c.self.inside.kits.items) c.in-Some.rooms.locks c.in-Some.rooms.lanes c.in-Some.rooms.known
rooms_so g c = (subst (λ o. IfSome o (λ y. (2 ≤ length c.self.inside.kits.items) × AreRoomsFor g.R.RunName.run (length c.self.inside.kits.items) y.locks y.lanes y.known)) c.in-Some.is c.self.invariant.2).1

abbrev prepared : (g : Over) (c : In-Some g) → All g
prepared g c = readied (record { listing = c.self.inside.index.now; plan = c.self.inside.plan; places = c.self.inside.places.now }) c.self.inside.shards c.self.inside.kits.items

-- what the run permits with this cache
permitted : (g : Over) (c : In-Some g) → Permits g.S.Store g.V.View g.R.RunName.run (prepared g c).task c.self.inside.kits.items (kind_named g.N.FolderName.kind) g.N.FolderName.opening g.N.FolderName.place g.N.FolderName.faults g.N.FolderName.pairs
    g.N.FolderName.stores (seen g.F.Look c.args.cache)
permitted g c = subst (λ (x : All g). 2 ≤ length x.kits → Permits g.S.Store g.V.View g.R.RunName.run x.task x.kits (kind_named g.N.FolderName.kind) g.N.FolderName.opening g.N.FolderName.place g.N.FolderName.faults g.N.FolderName.pairs g.N.FolderName.stores
    (seen g.F.Look c.args.cache)) (sym c.self.view_is) c.requires.permits (many g c)

pub run_workers-requires-clause-named : goal.run_workers-requires-clause-named
run_workers-requires-clause-named g c κs within = (permitted g (goal.at.run_workers-requires-clause-named g c).In-Some).shelf

pub run_workers-requires-clause-kind : goal.run_workers-requires-clause-kind
run_workers-requires-clause-kind g c κs within =
    let here = (goal.at.run_workers-requires-clause-kind g c).In-Some in
    let n = g.N.FolderName in
    digest_so g.S.Store g.V.View g.R.RunName.run g.T.View.tells c.self.inside.tried.items (prepared g here) c.self.invariant.0 (kind_named n.kind) n.opening n.place n.faults n.pairs n.stores (seen g.F.Look c.args.cache) (permitted g here)

pub run_workers-requires-clause-pairs : goal.run_workers-requires-clause-pairs
run_workers-requires-clause-pairs g c κs within =
    let here = (goal.at.run_workers-requires-clause-pairs g c).In-Some in
    let n = g.N.FolderName in
    pairs_so g.S.Store g.V.View g.R.RunName.run g.T.View.tells c.self.inside.tried.items (prepared g here) c.self.invariant.0 (kind_named n.kind) n.opening n.place n.faults n.pairs n.stores (seen g.F.Look c.args.cache) (permitted g here)

pub run_workers-requires-clause-stores : goal.run_workers-requires-clause-stores
run_workers-requires-clause-stores g c κs within = (permitted g (goal.at.run_workers-requires-clause-stores g c).In-Some).stores

pub run_workers-requires-clause-few : goal.run_workers-requires-clause-few
run_workers-requires-clause-few g c κs within = omega (arith, c.self.invariant.0.shards)

pub run_workers-requires-clause-any : goal.run_workers-requires-clause-any
run_workers-requires-clause-any g c κs within = λ some. omega (arith, some, c.self.invariant.0.some, c.self.invariant.0.shards)

pub run_workers-requires-clause-many : goal.run_workers-requires-clause-many
run_workers-requires-clause-many g c κs within = omega (arith, many g (goal.at.run_workers-requires-clause-many g c).In-Some, c.self.inside.kits.ok.0)

pub run_workers-requires-clause-ready : goal.run_workers-requires-clause-ready
run_workers-requires-clause-ready g c κs within =
    let here = (goal.at.run_workers-requires-clause-ready g c).In-Some in
    let n = g.N.FolderName in
    ready_for g.S.Store g.V.View g.R.RunName.run g.T.View.tells c.self.inside.tried.items (prepared g here) c.self.invariant.0 (kind_named n.kind) n.opening n.place n.faults n.pairs n.stores (seen g.F.Look c.args.cache) (permitted g here)

pub run_workers-requires-clause-permits : goal.run_workers-requires-clause-permits
run_workers-requires-clause-permits g c κs within = λ q.
    let here = (goal.at.run_workers-requires-clause-permits g c).In-Some in
    let n = g.N.FolderName in
    permits_at g.S.Store g.V.View g.R.RunName.run g.T.View.tells c.self.inside.tried.items (prepared g here) c.self.invariant.0 (kind_named n.kind) n.opening n.place n.faults n.pairs n.stores (seen g.F.Look c.args.cache) (permitted g here) 0 q
    c.self.invariant.0.some

pub run_workers-requires-clause-none : goal.run_workers-requires-clause-none
run_workers-requires-clause-none g c κs within = (rooms_so g (goal.at.run_workers-requires-clause-none g c).In-Some).none

pub run_workers-requires-clause-locks : goal.run_workers-requires-clause-locks
run_workers-requires-clause-locks g c κs within = (rooms_so g (goal.at.run_workers-requires-clause-locks g c).In-Some).locks

pub run_workers-requires-clause-lanes : goal.run_workers-requires-clause-lanes
run_workers-requires-clause-lanes g c κs within = omega (arith, (rooms_so g (goal.at.run_workers-requires-clause-lanes g c).In-Some).lanes, c.self.inside.kits.ok.0)

pub run_workers-requires-clause-workers : goal.run_workers-requires-clause-workers
run_workers-requires-clause-workers g c κs within = c.self.invariant.0.plan.workers ∙ sym c.self.inside.kits.ok.0

pub run_workers-requires-clause-size : goal.run_workers-requires-clause-size
run_workers-requires-clause-size g c κs within = (rooms_so g (goal.at.run_workers-requires-clause-size g c).In-Some).size ∙ sym c.self.inside.kits.ok.0

pub run_workers-requires-clause-known : goal.run_workers-requires-clause-known
run_workers-requires-clause-known g c κs within = (rooms_so g (goal.at.run_workers-requires-clause-known g c).In-Some).known

-- the shards are those of a target whose count stood so at most before it was split
beside : (g : Over) (c : In-Some g) (old : Held) (f : ℕ) → HasBegun c.self.inside.index.now old f c.self.inside.shards → (length c.self.inside.kits.items ≡ 1) ⊎ (f ≤ c.self.inside.shards.faults_before)
    → BegunBeside g.R.RunName.run old f c.self.inside.shards
beside g c old f begun early =
    begun_beside g.S.Store g.V.View g.R.RunName.run g.T.View.tells c.self.inside.tried.items (prepared g c) c.self.invariant.0 old begun.held f (elim early [
      | inl alone ↦ absurd (omega (arith, many g c, alone))
      | inr before ↦ before
    ])

pub returns-in-Some-clause-bytes : goal.returns-in-Some-clause-bytes
returns-in-Some-clause-bytes g c =
    let here = (goal.at.returns-in-Some-clause-bytes g c).In-Some in
    let r = c.run_workers.result in
    subst (λ (x : All g). OfTargetWith (length x.kits) x.task.listing x.whole (λ old f. WhereTold old.bytes (g.T.View.held r.target).bytes (Assembles x.task.listing ⊥ f (g.T.View.faults r.target) r.answer)))
    c.self.view_is (λ old f begun early. subst (λ (l : Listing). WhereTold old.bytes (g.T.View.held r.target).bytes (Assembles l ⊥ f (g.T.View.faults r.target) r.answer)) (sym c.self.invariant.0.listing)
    (c.run_workers.ensures.bytes old f (beside g here old f begun early)))

pub returns-in-Some-clause-assembled : goal.returns-in-Some-clause-assembled
returns-in-Some-clause-assembled g c =
    let here = (goal.at.returns-in-Some-clause-assembled g c).In-Some in
    subst (λ (x : All g). OfTarget x.task.listing x.whole (λ old f. OfKit x.kits c.run_workers.result.kits.items (λ q p. IsAssembled g.S.Store g.V.View x.task old.bytes (g.T.View.held c.run_workers.result.target).bytes
    (sources f q.seeds.items (seen g.F.Look c.args.cache) q.chain) (sources (g.T.View.faults c.run_workers.result.target) p.seeds.items (seen g.F.Look c.run_workers.result.cache) p.chain) c.run_workers.result.answer))) c.self.view_is
    (λ old f begun. record { so = λ q p first last. absurd (let alone : length c.self.inside.kits.items ≡ 1 = ap (λ (xs : Kits g). length xs) first in omega (arith, many g here, alone)) })

pub returns-in-Some-clause-kept : goal.returns-in-Some-clause-kept
returns-in-Some-clause-kept g c =
    let here = (goal.at.returns-in-Some-clause-kept g c).In-Some in
    λ one. absurd (let alone : length c.self.inside.kits.items ≡ 1 = ap (λ (x : All g). length x.kits) c.self.view_is ∙ one in omega (arith, many g here, alone))

pub returns-in-Some-clause-faults : goal.returns-in-Some-clause-faults
returns-in-Some-clause-faults g c =
    let here = (goal.at.returns-in-Some-clause-faults g c).In-Some in
    λ one. absurd (let alone : length c.self.inside.kits.items ≡ 1 = ap (λ (x : All g). length x.kits) c.self.view_is ∙ one in omega (arith, many g here, alone))

pub returns-in-Some-clause-kits : goal.returns-in-Some-clause-kits
returns-in-Some-clause-kits g c =
    let here = (goal.at.returns-in-Some-clause-kits g c).In-Some in
    let i = c.self.inside in
    let r = c.run_workers.result in
    let n = g.T.View.faults r.target in
    let p = (g.T.View.held r.target).bytes in
    let cache = seen g.F.Look c.args.cache in
    let after = lent n r.kits.items (seen g.F.Look r.cache) in
    subst (λ (x : All g). OfTargetWith (length x.kits) x.task.listing x.whole (λ old f. IsAssembledBy g.S.Store g.V.View x.task g.T.View.never_fails g.F.Look.never_fails old.bytes p (lent f x.kits cache) after r.answer)) c.self.view_is
    (λ old f begun early.
    subst (λ (l : Listing). IsAssembledBy g.S.Store g.V.View (record { listing = l; plan = i.plan; places = i.places.now }) g.T.View.never_fails g.F.Look.never_fails old.bytes p (lent f i.kits.items cache) after r.answer)
    (sym c.self.invariant.0.listing)
    (c.run_workers.ensures.kits old f (beside g here old f begun early)
    (fills_from g.S.Store g.V.View g.R.RunName.run g.T.View.tells i.tried.items (prepared g here) c.self.invariant.0 old begun.held cache (permitted g here).had)))

pub returns-in-Some-clause-report : goal.returns-in-Some-clause-report
returns-in-Some-clause-report g c =
    let r = c.run_workers.result in
    subst (λ (x : All g). IfOk r.answer (λ n. n.kept + n.copied + n.seeded + n.cached + n.fetched ≡ count_of x.task.listing)) c.self.view_is
    (subst (λ (l : Listing). IfOk r.answer (λ n. n.kept + n.copied + n.seeded + n.cached + n.fetched ≡ count_of l)) (sym c.self.invariant.0.listing) c.run_workers.ensures.report)

pub returns-in-Some-clause-memory : goal.returns-in-Some-clause-memory
returns-in-Some-clause-memory g c = c.run_workers.ensures.memory

pub returns-in-Some-clause-only : goal.returns-in-Some-clause-only
returns-in-Some-clause-only g c = λ never empty is. elim (c.run_workers.ensures.memory is) [
  | inl may ↦ absurd (true≢false (sym may ∙ never))
  | inr some ↦ absurd (true≢false (sym some ∙ ap (λ (o : Option (Shelved g.row.F.Denot)). is_some (seen g.F.Look o)) empty))
]

pub returns-in-Some-clause-size : goal.returns-in-Some-clause-size
returns-in-Some-clause-size g c =
    let r = c.run_workers.result in
    subst (λ (x : All g). (length r.kits.items ≡ length x.kits) × ((g.T.View.held r.target).size ≡ image_length x.task.listing)) c.self.view_is
    (c.run_workers.ensures.size.0, c.run_workers.ensures.size.1 ∙ ap (λ (l : Listing). image_length l) (sym c.self.invariant.0.listing))

pub returns-in-Some-clause-name : goal.returns-in-Some-clause-name
returns-in-Some-clause-name g c = subst (λ (x : All g). (g.T.View.held c.run_workers.result.target).name ≡ x.whole.held.name) c.self.view_is c.run_workers.ensures.name

pub returns-in-Some-clause-before : goal.returns-in-Some-clause-before
returns-in-Some-clause-before g c = subst (λ (x : All g). x.whole.faults_before ≤ g.T.View.faults c.run_workers.result.target) c.self.view_is c.run_workers.ensures.faults
