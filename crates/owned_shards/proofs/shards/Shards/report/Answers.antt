use Rattle.std.proofs.Common.{◌≡◌, ℕ, suc, ◌+◌, List, length, sym, ap, ◌∙◌, subst, arith}
use Rattle.caibx_codec.specs.Listing.{count_of}
use Rattle.range_survey.proofs.Reported.{none_open, sum_of}
use Rattle.range_survey.specs.Fates.{fate_at}
use Rattle.range_survey.specs.Reports.{one_if, tally}
use Rattle.range_survey.specs.declared.fate.Fate.{Fate}
use Rattle.range_survey.specs.declared.fate.Fate.TheVariants as fate
use Rattle.owned_shards.proofs.shards.Shards.report.Goals as goal

-- one entry more is counted
more : (f x : Fate) (m : List Fate) (k n new : ℕ) → x ≡ fate_at m k → n ≡ tally f m k → new ≡ n + one_if f x → new ≡ tally f m (k + 1)
more f x m k n new here so_far next =
    let last : suc k ≡ k + 1 = omega arith in
    subst (λ i. new ≡ tally f m i) last (next ∙ (ap (λ y. n + one_if f y) here ∙ ap (λ y. y + one_if f (fate_at m k)) so_far))

pub loop-entry-preserved : goal.loop-entry-preserved
loop-entry-preserved g c =
    let m = c.args.self.now.fates in
    let k = c.loop-entry.entry in
    let inv = c.loop-entry.invariant in
    let n = c.count.ensures in
    record {
      kept = more fate.Kept c.fate.result m k c.loop-entry.report.kept c.count.new.self.kept c.fate.ensures.value inv.kept n.kept;
      copied = more fate.Copied c.fate.result m k c.loop-entry.report.copied c.count.new.self.copied c.fate.ensures.value inv.copied n.copied;
      seeded = more fate.Seeded c.fate.result m k c.loop-entry.report.seeded c.count.new.self.seeded c.fate.ensures.value inv.seeded n.seeded;
      cached = more fate.Cached c.fate.result m k c.loop-entry.report.cached c.count.new.self.cached c.fate.ensures.value inv.cached n.cached;
      fetched = more fate.Fetched c.fate.result m k c.loop-entry.report.fetched c.count.new.self.fetched c.fate.ensures.value inv.fetched n.fetched;
    }

pub count-requires : goal.count-requires
count-requires g c =
    let inv = c.loop-entry.invariant in
    omega (arith, inv.kept, inv.copied, inv.seeded, inv.cached, inv.fetched, sum_of c.args.self.now.fates c.loop-entry.entry, c.loop-entry-test.true)

pub returns-clause-all : goal.returns-clause-all
returns-clause-all g c = λ all.
    let m = c.args.self.now.fates in
    let i = c.loop-entry.entry in
    let inv = c.loop-entry.invariant in
    let counted : c.count-entry-end.result ≡ length m = c.count-entry-end.ensures ∙ (ap count_of c.self.invariant.0 ∙ sym c.rules.ensures.counted) in
    let end : i ≡ length m = omega (arith, c.loop-entry-test.false, c.loop-entry.auto.entry-end, counted) in
    omega (arith, inv.kept, inv.copied, inv.seeded, inv.cached, inv.fetched, sum_of m i, none_open m i (λ j less. all j (omega (arith, end, less))), end)
