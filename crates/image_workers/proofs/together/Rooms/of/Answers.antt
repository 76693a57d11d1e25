use Rattle.std.proofs.Common.{◌≡◌, ◌++◌, ◌∷◌, ◌≤◌, [], All, vec_capacity, sym, subst, rules}
use Rattle.std.proofs.lemmas.List.Elements.{All-push}
use Rattle.image_workers.proofs.together.Rooms.of.Goals as goal

pub loop-preserved : goal.loop-preserved
loop-preserved g c =
    let room = c.in_ok-with_capacity.field-0 in
    let pushed : c.push.new.self.items ≡ c.loop.known.items ++ room ∷ [] = c.in_ok-push.ensures.items in (
      search rules,
      subst (λ vs. All (λ v. (v.items ≡ []) × (c.args.entries ≤ vec_capacity v)) vs) (sym pushed)
          (All-push (λ v. (v.items ≡ []) × (c.args.entries ≤ vec_capacity v)) c.loop.known.items room c.loop.invariant.1 (search rules, search rules)),
    )
