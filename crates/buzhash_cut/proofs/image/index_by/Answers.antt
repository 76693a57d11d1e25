use Rattle.std.proofs.Common.{◌<◌, None, [], length, map, arith}
use Rattle.std.proofs.lemmas.List.{length-map}
use Rattle.buzhash_cut.proofs.Chunks.{listed_kind, listed_length, listed_index}
use Rattle.buzhash_cut.proofs.Cutting.{index_taken}
use Rattle.buzhash_cut.proofs.Joins.{if_both}
use Rattle.caibx_codec.specs.Seen.{pairs}
use Rattle.dsy_base.specs.Bytes.{Held}
use Rattle.buzhash_cut.proofs.image.index_by.Goals as goal

pub unreachable-requires : goal.unreachable-requires
unreachable-requires g c =
    let none : Held = record { bytes = None; size = 0; name = [] } in
    let some : 0 < length (map (λ w. g.V.View.held w.view) c.args.workers.now.items) = omega (arith, length-map c.args.workers.now.items (λ w. g.V.View.held w.view), c.requires.some) in
    index_taken c.args.kind c.args.sizes.now _ (pairs c.in-Ok.entries.items) c.min.result c.avg.result c.max.result _ c.rules.ensures.known (c.in-Ok.ensures.all 0 none some)
    c.min.ensures.value c.avg.ensures.value c.max.ensures.value c.in_default.ensures

-- all of the image was cut
pub returns-clause-size : goal.returns-clause-size
returns-clause-size g c = λ k d lt.
    listed_length c.args.kind c.args.sizes.now _ (pairs c.in-Ok.entries.items) c.head_flags-flags.result c.min.result c.avg.result c.max.result c.in-Ok-new.index c.in-Ok-new.ensures.1 c.head_flags-flags.ensures.value (c.in-Ok.ensures.all k d lt)

pub returns-clause-exactly : goal.returns-clause-exactly
returns-clause-exactly g c = λ k d lt.
    let all = c.in-Ok.ensures.all k d lt in
    if_both _ _ _ _ all.entries.chunks all.sized (λ t chunks long.
    listed_index c.args.kind c.args.sizes.now _ (pairs c.in-Ok.entries.items) c.head_flags-flags.result c.min.result c.avg.result c.max.result c.in-Ok-new.index c.in-Ok-new.ensures.1 c.head_flags-flags.ensures.value all
    t long chunks c.min.ensures.value c.avg.ensures.value c.max.ensures.value)

-- its flags say how its chunks are named
pub returns-clause-kind : goal.returns-clause-kind
returns-clause-kind g c =
    let none : Held = record { bytes = None; size = 0; name = [] } in
    let some : 0 < length (map (λ w. g.V.View.held w.view) c.args.workers.now.items) = omega (arith, length-map c.args.workers.now.items (λ w. g.V.View.held w.view), c.requires.some) in
    listed_kind c.args.kind c.args.sizes.now _ (pairs c.in-Ok.entries.items) c.head_flags-flags.result c.min.result c.avg.result c.max.result c.in-Ok-new.index c.in-Ok-new.ensures.1 c.head_flags-flags.ensures.value (c.in-Ok.ensures.all 0 none some)
