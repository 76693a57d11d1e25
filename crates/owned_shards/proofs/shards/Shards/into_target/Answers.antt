use Rattle.std.proofs.Common.{sym, ap, ◌∙◌}
use Rattle.dsy_base.specs.Counts.{raised}
use Rattle.dsy_base.specs.Splits.{held_joined}
use Rattle.owned_shards.proofs.Wholes.{all_sizes, parts_bytes, parts_faults, parts_size}
use Rattle.owned_shards.specs.Wholes.{Whole}
use Rattle.owned_shards.proofs.shards.Shards.into_target.Goals as goal

pub rejoin-requires : goal.rejoin-requires
rejoin-requires g c =
    let ss = c.self.inside.shards.items in
    let parts = c.parts_of-parts.result.items in
    let held = g.T.Piece.View.held in
    let faults = g.T.Piece.View.faults in
    let p = c.parts_of-parts.ensures in
    let is = c.self.invariant.1 in
    parts_size held faults parts ss p.held p.faults ∙ (all_sizes g.R.RunName.run ss is.shards is.some ∙ sym is.size)

pub returns-clause-held : goal.returns-clause-held
returns-clause-held g c =
    let ss = c.self.inside.shards.items in
    let parts = c.parts_of-parts.result.items in
    let held = g.T.Piece.View.held in
    let faults = g.T.Piece.View.faults in
    let p = c.parts_of-parts.ensures in
    c.rejoin.ensures.bytes ∙ (ap (held_joined (g.T.Target.left c.self.inside.rest) g.T.View.tells) (parts_bytes held faults parts ss p.held p.faults)
    ∙ ap (λ (w : Whole). w.held) c.self.view_is)

pub returns-clause-faults : goal.returns-clause-faults
returns-clause-faults g c =
    let ss = c.self.inside.shards.items in
    let parts = c.parts_of-parts.result.items in
    let held = g.T.Piece.View.held in
    let faults = g.T.Piece.View.faults in
    let p = c.parts_of-parts.ensures in
    c.rejoin.ensures.faults ∙ (ap (raised (g.T.Target.left c.self.inside.rest).faults) (parts_faults held faults parts ss p.held p.faults)
    ∙ ap (λ (w : Whole). w.faults) c.self.view_is)
