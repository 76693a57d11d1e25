use Rattle.std.proofs.Common.{◌≡◌, false, subst, ◌∙◌, rules}
use Rattle.owned_shards.proofs.Missed.{missed}
use Rattle.range_ledger.specs.Extents.{IsIn}
use Rattle.range_ledger.specs.Runs.{Has, Seen, extent_of, has_settled}
use Rattle.owned_shards.proofs.lock.ShardLock.read.Goals as goal

pub returns-in-Kept-clause-only : goal.returns-in-Kept-clause-only
returns-in-Kept-clause-only g c = λ no tells never.
    let r = g.R.RunName.run in
    let s : Seen = c.deref_mut-shard.result.now in
    let number : c.args.number ≡ s.number = search rules in
    let has : Has r s c.args.entry = subst (λ n. IsIn (extent_of r n) c.args.entry) number c.requires.inside in
    let unset : has_settled r s c.args.entry ≡ false = search rules in
    missed r s c.args.entry has unset (c.requires.kept tells c.in-Kept.is) (c.rules.ensures.sure never) s.held.bytes
    (c.rules.ensures.tells ∙ (c.requires.tells ∙ tells)) (c.rules.ensures.kept.kept tells)
