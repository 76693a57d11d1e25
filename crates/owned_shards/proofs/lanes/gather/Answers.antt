use Rattle.std.proofs.Common.{◌++◌, reverse, ap, ◌∙◌, arith}
use Rattle.std.proofs.lemmas.List.{length-reverse, reverse-reverse}
use Rattle.std.specs.List.{flat_map}
use Rattle.owned_shards.proofs.Dealt.{gathered_fits, gathered_more}
use Rattle.owned_shards.specs.declared.lanes.Lane.{Lane}
use Rattle.owned_shards.proofs.lanes.gather.Goals as goal

pub loop-lane-init : goal.loop-lane-init
loop-lane-init g c =
    let turned = ap reverse c.reverse.ensures.items ∙ reverse-reverse c.args.lanes.items in
    record {
      items = ap (λ zs. zs ++ flat_map (λ (a : Lane g.row.P.Denot g.row.R.Denot). reverse a.share.shards.items) (reverse c.reverse.new.self.items)) c.requires.none
          ∙ ap (flat_map (λ (a : Lane g.row.P.Denot g.row.R.Denot). reverse a.share.shards.items)) turned;
      room = c.requires.room;
    }

pub give-requires : goal.give-requires
give-requires g c =
    let lane : Lane g.row.P.Denot g.row.R.Denot = c.in-Some.lane in
    record {
      room = omega (
        arith,
        gathered_fits (λ (a : Lane g.row.P.Denot g.row.R.Denot). reverse a.share.shards.items) c.loop-lane.lanes.items c.pop.new.self.items lane c.loop-lane.shards.items
            (flat_map (λ (a : Lane g.row.P.Denot g.row.R.Denot). reverse a.share.shards.items) c.args.lanes.items) c.in-Some.ensures.items c.loop-lane.invariant.items,
        length-reverse lane.share.shards.items,
        c.loop-lane.invariant.room,
      );
    }

pub loop-lane-preserved : goal.loop-lane-preserved
loop-lane-preserved g c =
    let lane : Lane g.row.P.Denot g.row.R.Denot = c.in-Some.lane in
    record {
      items = gathered_more (λ (a : Lane g.row.P.Denot g.row.R.Denot). reverse a.share.shards.items) c.loop-lane.lanes.items c.pop.new.self.items lane c.loop-lane.shards.items c.give.new.shards.items
          (flat_map (λ (a : Lane g.row.P.Denot g.row.R.Denot). reverse a.share.shards.items) c.args.lanes.items) c.in-Some.ensures.items c.give.ensures.items c.loop-lane.invariant.items;
      room = omega (arith, c.give.ensures.room, c.loop-lane.invariant.room);
    }
