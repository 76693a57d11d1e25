use Rattle.std.proofs.Common.{◌≡◌, ◌+◌, ◌++◌, ◌∷◌, [], suc, length, reverse, sym, subst, ap, ◌∙◌, arith, rules}
use Rattle.std.proofs.lemmas.List.{length_push, reverse-append}
use Rattle.range_ledger.specs.Runs.{Seen}
use Rattle.owned_shards.specs.Wholes.{AreShards, IsTold}
use Rattle.owned_shards.proofs.frame.unlock_all.Goals as goal

pub loop-lock-init : goal.loop-lock-init
loop-lock-init g c =
    let r = g.R.RunName.run in
    let n : length c.args.locks.items ≡ r.shards = search rules in (
      subst (λ xs. AreShards r (length c.args.locks.items) (reverse xs)) (sym c.requires.none) n,
      omega (arith, ap length c.requires.none, n),
      c.requires.room,
    )

pub loop-lock-preserved : goal.loop-lock-preserved
loop-lock-preserved g c =
    let r = g.R.RunName.run in
    let inv = c.loop-lock.invariant in
    let left = c.pop.new.self.items in
    let all = c.loop-lock.locks.items in
    let pushed : all ≡ left ++ c.in-Some.lock ∷ [] = c.in-Some.ensures.items in
    let long : length all ≡ suc (length left) = let h = length_push left c.in-Some.lock in omega (arith, h, ap length pushed) in
    let num : c.len-number.result ≡ length left = search rules in
    let shard : Seen = c.taken_out.result in
    let turned : reverse c.put_back.new.values.items ≡ shard ∷ reverse c.loop-lock.shards.items =
    ap reverse c.put_back.ensures.items ∙ reverse-append c.loop-lock.shards.items (shard ∷ []) in
    let next : length all ≡ length left + 1 = omega (arith, long) in
    let good : IsTold r shard = record {
      kept = c.taken_out.ensures.kept;
      tells = c.taken_out.ensures.tells ∙ c.requires.tells;
      sized = c.taken_out.ensures.sized;
    } in (
      subst (λ xs. AreShards r (length left) xs) (sym turned)
          (c.taken_out.ensures.number ∙ num, (good, subst (λ k. AreShards r k (reverse c.loop-lock.shards.items)) next inv.0)),
      omega (arith, ap length c.put_back.ensures.items, length_push c.loop-lock.shards.items shard, inv.1, next),
      omega (arith, c.put_back.ensures.kept, inv.2),
    )

pub returns-clause-all : goal.returns-clause-all
returns-clause-all g c =
    let r = g.R.RunName.run in
    let none : length c.loop-lock.locks.items ≡ 0 = search rules in
    subst (λ xs. AreShards r 0 xs) (sym c.reverse.ensures.items) (subst (λ k. AreShards r k (reverse c.loop-lock.shards.items)) none c.loop-lock.invariant.0)
