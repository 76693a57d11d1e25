use Rattle.std.proofs.Common.{◌≡◌, ◌++◌, ◌∷◌, [], All, length, sym, subst, rules}
use Rattle.std.proofs.lemmas.List.Elements.{All-push}
use Rattle.image_assembly.specs.Readied.{IsRoomOf}
use Rattle.image_assembly.proofs.prepare.buffers_of.Goals as goal

pub loop-preserved : goal.loop-preserved
loop-preserved c =
    let l = c.args.index.now in
    let room = c.in_ok-room.field-0 in
    let pushed : c.push.new.self.items ≡ c.loop.buffers.items ++ room ∷ [] = c.in_ok-push.ensures.items in (
      search rules,
      subst (λ vs. All (λ v. IsRoomOf l (length v.items)) vs) (sym pushed)
          (All-push (λ v. IsRoomOf l (length v.items)) c.loop.buffers.items room c.loop.invariant.1 (record { enough = c.in_ok-room.ensures.inside; exactly = c.in_ok-room.ensures.exactly })),
    )
