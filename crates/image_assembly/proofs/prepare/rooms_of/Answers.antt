use Rattle.std.proofs.Common.{◌≡◌, ◌∙◌, ◌≤◌, ℕ, [], All, vec_capacity, subst, arith}
use Rattle.image_assembly.proofs.prepare.rooms_of.Goals as goal

pub returns-clause-many : goal.returns-clause-many
returns-clause-many g c =
    let rooms = c.in_ok-of.field-0 in
    let has = c.in_ok-of.ensures in (
      omega (arith, c.requires.some, c.if-workers-eq1.false),
      record {
        none = has.none;
        locks = subst (λ (n : ℕ). n ≤ vec_capacity rooms.locks) (c.shards.ensures ∙ c.requires.shards) has.locks;
        lanes = has.lanes;
        size = has.size;
        known = subst (λ (n : ℕ). All (λ v. (v.items ≡ []) × (n ≤ vec_capacity v)) rooms.known.items) c.requires.entries has.known;
      },
    )
