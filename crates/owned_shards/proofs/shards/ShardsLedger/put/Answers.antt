use Rattle.std.proofs.Common.{◌≡◌, length, set, vec_len, IfSome, sym, subst, ◌∙◌, arith, rules}
use Rattle.std.proofs.lemmas.List.{get_or-set_same}
use Rattle.caibx_codec.specs.Listing.{id_of, kind_of}
use Rattle.chunk_store.specs.Digests.{digest_of}
use Rattle.owned_shards.proofs.Putting.{Found, PutEnds, found, put_ends, stays_whole, where_told}
use Rattle.owned_shards.proofs.Wholes.{has_it, with_length}
use Rattle.range_ledger.specs.Runs.{Has, Seen}
use Rattle.owned_shards.specs.Wholes.{IsTold, Whole, whole_of}
use Rattle.owned_shards.proofs.shards.ShardsLedger.put.Goals as goal

pub shard_with-k-requires-clause-size : goal.shard_with-k-requires-clause-size
shard_with-k-requires-clause-size g c =
    let r = g.R.RunName.run in
    let all = with_length r (IsTold r) 0 c.self.inside.shards.items c.self.invariant.1.shards in
    let size : c.len.result ≡ length c.self.inside.shards.items = search rules in
    omega (arith, all, size)

pub index_mut-requires : goal.index_mut-requires
index_mut-requires g c =
    let r = g.R.RunName.run in
    let ss = c.self.inside.shards.items in
    let is = c.self.invariant.1 in
    let k = c.shard_with-k.result in
    let at : Found r ss k c.args.entry = found r ss is.shards k c.args.entry
    c.shard_with-k.ensures.from c.shard_with-k.ensures.to c.shard_with-k.ensures.inside in
    let size : length ss ≡ vec_len c.self.inside.shards = search rules in
    omega (arith, at.lt, size)

pub put-put-requires-clause-inside : goal.put-put-requires-clause-inside
put-put-requires-clause-inside g c =
    let r = g.R.RunName.run in
    let ss = c.self.inside.shards.items in
    let is = c.self.invariant.1 in
    let k = c.shard_with-k.result in
    let at : Found r ss k c.args.entry = found r ss is.shards k c.args.entry
    c.shard_with-k.ensures.from c.shard_with-k.ensures.to c.shard_with-k.ensures.inside in
    has_it r ss is.shards k at.lt c.index_mut.result.now c.index_mut.ensures.value c.args.entry at.from at.to

pub put-put-requires-clause-may : goal.put-put-requires-clause-may
put-put-requires-clause-may g c = record {
  size = c.requires.chunk;
  named = λ told. c.requires.right (sym c.self.invariant.1.tells ∙ told);
  may = c.requires.may;
}

pub index-requires : goal.index-requires
index-requires g c =
    let r = g.R.RunName.run in
    let ss = c.self.inside.shards.items in
    let is = c.self.invariant.1 in
    let k = c.shard_with-k.result in
    let at : Found r ss k c.args.entry = found r ss is.shards k c.args.entry
    c.shard_with-k.ensures.from c.shard_with-k.ensures.to c.shard_with-k.ensures.inside in
    let size : length ss ≡ vec_len c.self.inside.shards = search rules in
    omega (arith, at.lt, size)

pub invariant_of-self : goal.invariant_of-self
invariant_of-self g c =
    let r = g.R.RunName.run in
    let ss = c.self.inside.shards.items in
    let is = c.self.invariant.1 in
    let k = c.shard_with-k.result in
    let at : Found r ss k c.args.entry = found r ss is.shards k c.args.entry
    c.shard_with-k.ensures.from c.shard_with-k.ensures.to c.shard_with-k.ensures.inside in
    let s : Seen = c.index_mut.result.now in
    let here = c.index_mut.ensures.value in
    let new : Seen = c.put-put.new.self in
    let n = c.put-put.ensures in
    let left = g.T.Target.left c.self.inside.rest in
    let tells = g.T.View.tells in
    let has : Has r s c.args.entry = has_it r ss is.shards k at.lt s here c.args.entry at.from at.to in
    let now : c.index.result.now ≡ new = c.index.ensures ∙ get_or-set_same ss k new c.index.result.now at.lt in
    let good : IsTold r new = subst (IsTold r) now (record {
      kept = c.rules.ensures.kept;
      tells = c.rules.ensures.tells ∙ (g.met.T.Target.parts_tell ∙ sym is.tells);
      sized = c.rules.ensures.sized;
    }) in (
      c.self.invariant.0,
      stays_whole r left tells ss is k at.lt s here c.args.entry c.requires.listed has new n.number good,
      c.self.invariant.2,
      c.self.invariant.3,
    )

pub returns : goal.returns
returns g c =
    let r = g.R.RunName.run in
    let ss = c.self.inside.shards.items in
    let is = c.self.invariant.1 in
    let k = c.shard_with-k.result in
    let at : Found r ss k c.args.entry = found r ss is.shards k c.args.entry
    c.shard_with-k.ensures.from c.shard_with-k.ensures.to c.shard_with-k.ensures.inside in
    let s : Seen = c.index_mut.result.now in
    let here = c.index_mut.ensures.value in
    let new : Seen = c.put-put.new.self in
    let n = c.put-put.ensures in
    let left = g.T.Target.left c.self.inside.rest in
    let tells = g.T.View.tells in
    let has : Has r s c.args.entry = has_it r ss is.shards k at.lt s here c.args.entry at.from at.to in
    let right : IfSome (whole_of left tells ss).held.bytes (λ t. digest_of (kind_of r.listing) c.args.chunk.now ≡ id_of r.listing c.args.entry) =
    where_told left tells ss c.requires.right in
    let ends = subst (λ (w : Whole). PutEnds r.listing c.args.entry c.args.fate w (whole_of left tells (set ss k new)) c.put-put.result) c.self.view_is
    (put_ends r left tells ss is k at.lt s here c.args.entry c.requires.listed has new c.args.fate c.requires.fate c.requires.made c.args.chunk.now c.requires.chunk right c.put-put.result
    n.changed n.bytes n.left n.kept n.failed n.only n.err n.faults) in
    record {
      ok = ends.ok;
      origin = ends.origin;
      changed = ends.changed;
      err = ends.err;
      kept = ends.kept;
      others = ends.others;
      grows = ends.grows;
      bytes = ends.bytes;
      faults = ends.faults;
      cause = ends.cause;
      failed = ends.failed;
      tells = search rules;
      name = search rules;
      size = search rules;
    }
