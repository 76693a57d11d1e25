use Rattle.std.proofs.Common.{◌≡◌, ◌%◌, ◌∙◌, ℕ, List, map, ap, arith}
use Rattle.std.specs.Global.{Vec}
use Rattle.assembler.specs.Passes.{want_at}
use Rattle.caibx_codec.specs.Listing.{count_of}
use Rattle.image_workers.proofs.Tallying.{all_settled, each_one, one_more, read_at, told_settled}
use Rattle.image_workers.specs.Reporting.{known_at, reported_at}
use Rattle.range_survey.specs.Fates.{fate_at}
use Rattle.range_survey.specs.declared.fate.Fate.{Fate}
use Rattle.range_survey.specs.declared.fate.Fate.TheVariants as fate
use Rattle.image_workers.proofs.counting.report_of.Goals as goal

pub count-requires : goal.count-requires
count-requires g c =
    let inv = c.loop-entry.invariant in
    let at : ℕ → Fate = reported_at c.args.wants.now.plan.now (map (λ (v : Vec Fate). v.items) c.args.known.now) (g.L.Ledger.fates c.args.ledger.now) in
    omega (arith, inv.kept, inv.copied, inv.seeded, inv.cached, inv.fetched, each_one at c.loop-entry.entry, c.loop-entry-test.true)

pub loop-entry-preserved : goal.loop-entry-preserved
loop-entry-preserved g c =
    let inv = c.loop-entry.invariant in
    let n = c.count.ensures in
    let d = c.args.wants.now.plan.now in
    let vecs : List (Vec Fate) = c.args.known.now in
    let last : List Fate = g.L.Ledger.fates c.args.ledger.now in
    let at : ℕ → Fate = reported_at d (map (λ (v : Vec Fate). v.items) vecs) last in
    let k = c.loop-entry.entry in
    let x = c.fate_of.result in
    let counted : c.count-entry-end.result ≡ count_of g.L.Ledger.run.listing = c.count-entry-end.ensures ∙ ap count_of c.requires.listing in
    let here : x ≡ at k = c.fate_of.ensures ∙ read_at d vecs last (count_of g.L.Ledger.run.listing) k c.worker_of-worker.result c.index-known-worker.result c.index.result.now c.fate.result
    (c.worker_of-worker.ensures.value ∙ ap (λ (w : ℕ). w % d.workers) c.want_of-want.ensures) (omega (arith, c.worker_of-worker.ensures.inside, c.requires.workers)) c.index-known-worker.is
    c.requires.size (omega (arith, c.loop-entry-test.true, counted)) c.index.ensures c.fate.ensures.value in
    record {
      kept = one_more fate.Kept at k c.loop-entry.report.kept c.count.new.self.kept x here inv.kept n.kept;
      copied = one_more fate.Copied at k c.loop-entry.report.copied c.count.new.self.copied x here inv.copied n.copied;
      seeded = one_more fate.Seeded at k c.loop-entry.report.seeded c.count.new.self.seeded x here inv.seeded n.seeded;
      cached = one_more fate.Cached at k c.loop-entry.report.cached c.count.new.self.cached x here inv.cached n.cached;
      fetched = one_more fate.Fetched at k c.loop-entry.report.fetched c.count.new.self.fetched x here inv.fetched n.fetched;
    }

pub returns-clause-all : goal.returns-clause-all
returns-clause-all g c = λ all.
    let inv = c.loop-entry.invariant in
    let d = c.args.wants.now.plan.now in
    let lists : List (List Fate) = map (λ (v : Vec Fate). v.items) c.args.known.now in
    let last : List Fate = g.L.Ledger.fates c.args.ledger.now in
    let at : ℕ → Fate = reported_at d lists last in
    let i = c.loop-entry.entry in
    let counted : c.count-entry-end.result ≡ count_of g.L.Ledger.run.listing = c.count-entry-end.ensures ∙ ap count_of c.requires.listing in
    let end : i ≡ count_of g.L.Ledger.run.listing = omega (arith, c.loop-entry-test.false, c.loop-entry.auto.entry-end, counted) in
    omega (
      arith,
      inv.kept,
      inv.copied,
      inv.seeded,
      inv.cached,
      inv.fetched,
      each_one at i,
      all_settled at i (λ j less. told_settled (known_at lists (want_at d j % d.workers) j) (fate_at last j) (all j (omega (arith, end, less)))),
      end,
    )
