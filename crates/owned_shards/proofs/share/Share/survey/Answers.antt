use Rattle.std.proofs.Common.{All, length, map, reverse, subst, ap, sym, ◌∙◌, arith}
use Rattle.std.proofs.lemmas.List.{length_push}
use Rattle.std.proofs.lemmas.List.Elements.{All-push}
use Rattle.owned_shards.proofs.Dealt.{all_before, last_so, moved_seen}
use Rattle.owned_shards.specs.Shares.{IsUnsurveyed}
use Rattle.owned_shards.specs.Wholes.{Begun}
use Rattle.range_ledger.specs.Runs.{Seen}
use Rattle.owned_shards.proofs.share.Share.survey.Goals as goal

pub surveyed-requires-clause-unread : goal.surveyed-requires-clause-unread
surveyed-requires-clause-unread g c =
    last_so (IsUnsurveyed g.R.RunName.run) c.loop-unread.self.unread.items c.pop.new.self.items c.in-Some.unread c.in-Some.ensures.items c.loop-unread.invariant.unread

pub surveyed-requires-clause-room : goal.surveyed-requires-clause-room
surveyed-requires-clause-room g c = λ i lt. omega (arith, c.requires.room i lt, c.loop-unread.invariant.buf)

pub loop-unread-preserved : goal.loop-unread-preserved
loop-unread-preserved g c =
    let r = g.R.RunName.run in
    let inv = c.loop-unread.invariant in
    let unread : Seen = c.in-Some.unread in
    let shard : Seen = c.surveyed.result in
    let left = c.pop.new.self.items in
    let all = c.in-Some.ensures.items in
    record {
      unread = all_before (IsUnsurveyed r) c.loop-unread.self.unread.items left unread all inv.unread;
      numbers = moved_seen (λ (s : Seen). s.number) (λ (s : Seen). s.number) c.loop-unread.self.unread.items left unread c.loop-unread.self.shards.items c.put_back.new.values.items shard
          (reverse (map (λ s. s.number) c.args.self.now.unread.items)) all c.put_back.ensures.items c.surveyed.ensures.number inv.numbers;
      begun = subst (λ xs. All (Begun r) xs) (sym c.put_back.ensures.items) (All-push (Begun r) c.loop-unread.self.shards.items shard inv.begun c.surveyed.ensures.begun);
      room = omega (arith, c.put_back.ensures.kept, c.put_back.ensures.size, ap length all, length_push left unread, inv.room);
      buf = c.surveyed.ensures.room ∙ inv.buf;
    }
