use Rattle.std.proofs.Common.{◌<◌, length, arith}
use Rattle.std.proofs.lemmas.List.{length-map}
use Rattle.buzhash_cut.proofs.Joins.{taken_end, taken_chunks, taken_many}
use Rattle.caibx_codec.specs.Seen.{pair, pairs}
use Rattle.buzhash_cut.proofs.walk.walk_on.Goals as goal

pub returns-in-Some-clause-end : goal.returns-in-Some-clause-end
returns-in-Some-clause-end g c =
    let h = g.V.View.held c.args.view.now in
    let kind = c.args.slicer.now.kind in
    let s = c.args.slicer.now.cutter.sizes in
    let es = c.in-Some.run'.now in
    let some : 0 < length (pairs es) = omega (arith, length-map es pair, c.in-Some.ensures.some) in
    taken_end kind s h c.args.at (pairs c.args.entries.now.items) (pairs c.add_run.new.entries.items) (pairs es) c.add_run.result some (c.in-Some.ensures.chunks kind s h c.requires.runs) c.requires.chunks c.add_run.ensures.end

pub returns-in-Some-clause-chunks : goal.returns-in-Some-clause-chunks
returns-in-Some-clause-chunks g c =
    let h = g.V.View.held c.args.view.now in
    let kind = c.args.slicer.now.kind in
    let s = c.args.slicer.now.cutter.sizes in
    let es = c.in-Some.run'.now in
    let some : 0 < length (pairs es) = omega (arith, length-map es pair, c.in-Some.ensures.some) in
    taken_chunks kind s h c.args.at (pairs c.args.entries.now.items) (pairs c.add_run.new.entries.items) (pairs es) c.add_run.result some (c.in-Some.ensures.chunks kind s h c.requires.runs) c.requires.chunks c.add_run.ensures.end c.add_run.ensures.added

pub returns-in-Some-clause-many : goal.returns-in-Some-clause-many
returns-in-Some-clause-many g c =
    let h = g.V.View.held c.args.view.now in
    let kind = c.args.slicer.now.kind in
    let s = c.args.slicer.now.cutter.sizes in
    let es = c.in-Some.run'.now in
    let some : 0 < length (pairs es) = omega (arith, length-map es pair, c.in-Some.ensures.some) in
    taken_many kind s h c.args.at (pairs c.args.entries.now.items) (pairs c.add_run.new.entries.items) (pairs es) c.add_run.result some (c.in-Some.ensures.chunks kind s h c.requires.runs) c.requires.chunks (g.met.V.View.sized c.args.view.now) c.add_run.ensures.many
