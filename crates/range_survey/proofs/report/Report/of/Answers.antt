use Rattle.std.proofs.Common.{◌≡◌, length, arith}
use Rattle.range_survey.proofs.Reported.{none_open, sum_of}
use Rattle.range_survey.proofs.report.Report.of.Goals as goal

pub count-requires : goal.count-requires
count-requires c =
    let inv = c.loop-i.invariant in
    omega (arith, inv.kept, inv.copied, inv.seeded, inv.cached, inv.fetched, sum_of c.args.fates.now c.loop-i.i, c.loop-i-test.true)

pub returns-clause-all : goal.returns-clause-all
returns-clause-all c = λ all.
    let m = c.args.fates.now in
    let i = c.loop-i.i in
    let inv = c.loop-i.invariant in
    let end : i ≡ length m = omega (arith, c.loop-i-test.false, c.loop-i.auto.i-end) in
    omega (arith, inv.kept, inv.copied, inv.seeded, inv.cached, inv.fetched, sum_of m i, none_open m i (λ j less. all j (omega (arith, end, less))), end)
