use Rattle.std.proofs.Common.{◌≡◌, ◌-◌, length, vec_len, sym, subst, ◌∙◌, arith, rules}
use Rattle.owned_shards.proofs.Putting.{Found, found}
use Rattle.owned_shards.proofs.Wholes.{fate_in, has_it, with_length}
use Rattle.range_ledger.specs.Runs.{first_in}
use Rattle.owned_shards.specs.Wholes.{IsTold, Whole}
use Rattle.range_survey.specs.Fates.{fate_at}
use Rattle.owned_shards.proofs.shards.ShardsLedger.fate.Goals as goal

pub shard_with-k-requires-clause-size : goal.shard_with-k-requires-clause-size
shard_with-k-requires-clause-size g c =
    let r = g.R.RunName.run in
    let all = with_length r (IsTold r) 0 c.self.inside.shards.items c.self.invariant.1.shards in
    let size : c.len.result ≡ length c.self.inside.shards.items = search rules in
    omega (arith, all, size)

pub index-requires : goal.index-requires
index-requires g c =
    let r = g.R.RunName.run in
    let ss = c.self.inside.shards.items in
    let is = c.self.invariant.1 in
    let k = c.shard_with-k.result in
    let at : Found r ss k c.args.entry = found r ss is.shards k c.args.entry
    c.shard_with-k.ensures.from c.shard_with-k.ensures.to c.shard_with-k.ensures.inside in
    let size : length ss ≡ vec_len c.self.inside.shards = search rules in
    omega (arith, at.lt, size)

pub fate-requires : goal.fate-requires
fate-requires g c =
    let r = g.R.RunName.run in
    let ss = c.self.inside.shards.items in
    let is = c.self.invariant.1 in
    let k = c.shard_with-k.result in
    let at : Found r ss k c.args.entry = found r ss is.shards k c.args.entry
    c.shard_with-k.ensures.from c.shard_with-k.ensures.to c.shard_with-k.ensures.inside in
    record { inside = has_it r ss is.shards k at.lt c.index.result.now c.index.ensures c.args.entry at.from at.to }

pub returns : goal.returns
returns g c =
    let r = g.R.RunName.run in
    let ss = c.self.inside.shards.items in
    let is = c.self.invariant.1 in
    let k = c.shard_with-k.result in
    let at : Found r ss k c.args.entry = found r ss is.shards k c.args.entry
    c.shard_with-k.ensures.from c.shard_with-k.ensures.to c.shard_with-k.ensures.inside in
    let s = c.index.result.now in
    let has = has_it r ss is.shards k at.lt s c.index.ensures c.args.entry at.from at.to in
    record {
      value = c.fate.ensures.value ∙ subst (λ (w : Whole). fate_at s.fates (c.args.entry - first_in r s.number) ≡ fate_at w.fates c.args.entry) c.self.view_is
          (sym (fate_in r ss is.shards k at.lt s c.index.ensures c.args.entry has));
    }
