use Rattle.std.proofs.Common.{◌≡◌, ◌∙◌, length, vec_len, subst, arith, rules}
use Rattle.owned_shards.proofs.Wholes.{with_length}
use Rattle.owned_shards.specs.Wholes.{IsTold, Whole, joined_faults}
use Rattle.owned_shards.proofs.shards.Shards.lock.Goals as goal

pub lock_all-shards-requires-clause-room : goal.lock_all-shards-requires-clause-room
lock_all-shards-requires-clause-room g c =
    let r = g.R.RunName.run in
    let all = with_length r (IsTold r) 0 c.self.inside.shards.items c.self.invariant.1.shards in
    let size : length c.self.inside.shards.items ≡ vec_len c.self.inside.shards = search rules in
    omega (arith, all, size, c.requires.room)

pub invariant_of-frame : goal.invariant_of-frame
invariant_of-frame g c =
    let r = g.R.RunName.run in
    let is = c.self.invariant.1 in
    let all = with_length r (IsTold r) 0 c.self.inside.shards.items is.shards in
    let size : length c.self.inside.shards.items ≡ vec_len c.self.inside.shards = search rules in (
      c.self.invariant.0,
      is.tells,
      λ ss are. record { shards = are; some = is.some; few = is.few; size = is.size; counted = is.counted; tells = is.tells },
      c.lock_all-shards.ensures.none,
      c.self.invariant.2,
      omega (arith, all, size, c.lock_all-shards.ensures.room),
      omega (arith, all, size, c.self.invariant.3),
    )

pub returns-clause-count : goal.returns-clause-count
returns-clause-count g c =
    let r = g.R.RunName.run in
    let all = with_length r (IsTold r) 0 c.self.inside.shards.items c.self.invariant.1.shards in
    let size : length c.self.inside.shards.items ≡ vec_len c.self.inside.shards = search rules in
    omega (arith, all, size, c.lock_all-shards.ensures.size)

pub returns-clause-sure : goal.returns-clause-sure
returns-clause-sure g c = λ never.
    let none : joined_faults c.self.inside.shards.items ≡ 0 = c.lock_all-shards.ensures.sure (g.met.T.Target.parts_fail ∙ never) in
    subst (λ (w : Whole). w.faults ≡ w.faults_before) c.self.view_is (omega (arith, none, c.self.invariant.1.counted))
