use Rattle.std.proofs.Common.{◌<◌, length, vec_len, ap, ◌∙◌, arith}
use Rattle.owned_shards.proofs.Dealt.{places_alike, some_of}
use Rattle.owned_shards.proofs.lanes.survey_all.Goals as goal

pub go_all-requires-clause-room : goal.go_all-requires-clause-room
go_all-requires-clause-room g c κs within = λ k d lt i less.
    let there : k < length c.args.lanes.now = omega (arith, lt, c.change_buffers.auto.lanes) in
    omega (arith, ap (λ b. vec_len b) (c.change_buffers.ensures.buffers k d.buffer d there), c.requires.room k d.buffer (omega (arith, there, c.requires.size)) i less)

pub returns-clause-room : goal.returns-clause-room
returns-clause-room g c =
    let a = some_of c.args.lanes.now c.requires.some in
    places_alike (λ b. vec_len b) (λ b. vec_len b) c.args.buffers.now c.change_buffers-2.new.buffers (omega (arith, c.change_buffers-2.auto.buffers, c.change_buffers.auto.buffers)) (λ i d e lt.
    let here : i < length c.args.lanes.now = omega (arith, lt, c.requires.size) in
    let given : i < length c.change_buffers.new.lanes = omega (arith, here, c.change_buffers.auto.lanes) in
    let gone : i < length c.go_all.new.lanes = omega (arith, given, c.go_all.auto.lanes) in
    ap (λ b. vec_len b) (c.change_buffers-2.ensures.changed i e a gone) ∙ c.go_all.ensures.room i a given ∙ ap (λ b. vec_len b) (c.change_buffers.ensures.buffers i d a here))
