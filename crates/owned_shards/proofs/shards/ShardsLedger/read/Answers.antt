use Rattle.std.proofs.Common.{◌≡◌, ◌≤◌, length, set, vec_len, true, false, IfSome, sym, subst, ap, ◌∙◌, arith, rules}
use Rattle.std.proofs.lemmas.List.{get_or-set_same}
use Rattle.caibx_codec.specs.Listing.{slice_of}
use Rattle.dsy_base.specs.Counts.{Rose}
use Rattle.owned_shards.proofs.Putting.{Found, found, later, read_as, read_named, rises, same_fates, same_held, settled_as, stays_whole}
use Rattle.owned_shards.proofs.Wholes.{has_it, with_length}
use Rattle.range_ledger.specs.Runs.{Has, Seen}
use Rattle.owned_shards.specs.Wholes.{IsTold, Whole, whole_of}
use Rattle.range_survey.specs.Fates.{settled}
use Rattle.owned_shards.proofs.shards.ShardsLedger.read.Goals as goal

pub shard_with-k-requires-clause-size : goal.shard_with-k-requires-clause-size
shard_with-k-requires-clause-size g c =
    let r = g.R.RunName.run in
    let all = with_length r (IsTold r) 0 c.self.inside.shards.items c.self.invariant.1.shards in
    let size : c.len.result ≡ length c.self.inside.shards.items = search rules in
    omega (arith, all, size)

pub index_mut-requires : goal.index_mut-requires
index_mut-requires g c =
    let r = g.R.RunName.run in
    let ss = c.self.inside.shards.items in
    let is = c.self.invariant.1 in
    let k = c.shard_with-k.result in
    let at : Found r ss k c.args.entry = found r ss is.shards k c.args.entry
    c.shard_with-k.ensures.from c.shard_with-k.ensures.to c.shard_with-k.ensures.inside in
    let size : length ss ≡ vec_len c.self.inside.shards = search rules in
    omega (arith, at.lt, size)

pub read-read-requires-clause-inside : goal.read-read-requires-clause-inside
read-read-requires-clause-inside g c =
    let r = g.R.RunName.run in
    let ss = c.self.inside.shards.items in
    let is = c.self.invariant.1 in
    let k = c.shard_with-k.result in
    let at : Found r ss k c.args.entry = found r ss is.shards k c.args.entry
    c.shard_with-k.ensures.from c.shard_with-k.ensures.to c.shard_with-k.ensures.inside in
    has_it r ss is.shards k at.lt c.index_mut.result.now c.index_mut.ensures.value c.args.entry at.from at.to

pub index-requires : goal.index-requires
index-requires g c =
    let r = g.R.RunName.run in
    let ss = c.self.inside.shards.items in
    let is = c.self.invariant.1 in
    let k = c.shard_with-k.result in
    let at : Found r ss k c.args.entry = found r ss is.shards k c.args.entry
    c.shard_with-k.ensures.from c.shard_with-k.ensures.to c.shard_with-k.ensures.inside in
    let size : length ss ≡ vec_len c.self.inside.shards = search rules in
    omega (arith, at.lt, size)

pub invariant_of-self : goal.invariant_of-self
invariant_of-self g c =
    let r = g.R.RunName.run in
    let ss = c.self.inside.shards.items in
    let is = c.self.invariant.1 in
    let k = c.shard_with-k.result in
    let at : Found r ss k c.args.entry = found r ss is.shards k c.args.entry
    c.shard_with-k.ensures.from c.shard_with-k.ensures.to c.shard_with-k.ensures.inside in
    let s : Seen = c.index_mut.result.now in
    let here = c.index_mut.ensures.value in
    let new : Seen = c.read-read.new.self in
    let n = c.read-read.ensures in
    let left = g.T.Target.left c.self.inside.rest in
    let tells = g.T.View.tells in
    let has : Has r s c.args.entry = has_it r ss is.shards k at.lt s here c.args.entry at.from at.to in
    let now : c.index.result.now ≡ new = c.index.ensures ∙ get_or-set_same ss k new c.index.result.now at.lt in
    let good : IsTold r new = subst (IsTold r) now (record {
      kept = c.rules.ensures.kept;
      tells = c.rules.ensures.tells ∙ (g.met.T.Target.parts_tell ∙ sym is.tells);
      sized = c.rules.ensures.sized;
    }) in (
      c.self.invariant.0,
      stays_whole r left tells ss is k at.lt s here c.args.entry c.requires.listed has new n.number good,
      c.self.invariant.2,
      c.self.invariant.3,
    )

pub returns : goal.returns
returns g c =
    let r = g.R.RunName.run in
    let ss = c.self.inside.shards.items in
    let is = c.self.invariant.1 in
    let k = c.shard_with-k.result in
    let at : Found r ss k c.args.entry = found r ss is.shards k c.args.entry
    c.shard_with-k.ensures.from c.shard_with-k.ensures.to c.shard_with-k.ensures.inside in
    let s : Seen = c.index_mut.result.now in
    let here = c.index_mut.ensures.value in
    let new : Seen = c.read-read.new.self in
    let n = c.read-read.ensures in
    let left = g.T.Target.left c.self.inside.rest in
    let tells = g.T.View.tells in
    let has : Has r s c.args.entry = has_it r ss is.shards k at.lt s here c.args.entry at.from at.to in
    record {
      found = subst (λ (w : Whole). c.read-read.result ≡ true → (settled w.fates c.args.entry ≡ true) × IfSome w.held.bytes (λ t. c.read-read.new.out ≡ slice_of r.listing t c.args.entry)) c.self.view_is
          (λ yes. (settled_as r left tells ss is k at.lt s here c.args.entry c.requires.listed has new ∙ (n.found yes).0, read_as r left tells ss is k at.lt s here c.args.entry c.requires.listed has new c.read-read.new.out (n.found yes).1));
      named = λ yes told. read_named r left tells ss is c.args.entry c.requires.listed c.read-read.new.out
          (settled_as r left tells ss is k at.lt s here c.args.entry c.requires.listed has new ∙ (n.found yes).0)
          (read_as r left tells ss is k at.lt s here c.args.entry c.requires.listed has new c.read-read.new.out (n.found yes).1) told;
      absent = subst (λ (w : Whole). c.read-read.result ≡ false → settled w.fates c.args.entry ≡ true → Rose w.faults (whole_of left tells (set ss k new)).faults) c.self.view_is
          (λ no was. rises r left tells ss is k at.lt s here c.args.entry c.requires.listed has new (n.absent no (sym (settled_as r left tells ss is k at.lt s here c.args.entry c.requires.listed has new) ∙ was)));
      kept = same_held r left tells ss is k at.lt s here c.args.entry c.requires.listed has new n.held ∙ ap (λ (w : Whole). w.held) c.self.view_is;
      fates = same_fates r left tells ss is k at.lt s here c.args.entry c.requires.listed has new n.kept ∙ ap (λ (w : Whole). w.fates) c.self.view_is;
      faults = subst (λ (w : Whole). w.faults ≤ (whole_of left tells (set ss k new)).faults) c.self.view_is (later r left tells ss is k at.lt s here c.args.entry c.requires.listed has new n.faults);
    }
