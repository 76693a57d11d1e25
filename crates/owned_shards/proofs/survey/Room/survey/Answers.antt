use Rattle.std.proofs.Common.{◌≡◌, List, All, length, reverse, vec_len, subst, ap, sym, ◌∙◌, arith, rules}
use Rattle.std.proofs.lemmas.List.{with_items_is}
use Rattle.std.specs.List.{flat_map}
use Rattle.std.specs.Vec.{with_items}
use Rattle.owned_shards.proofs.Gathered.{all_ready, all_surveyed}
use Rattle.owned_shards.proofs.Wholes.{with_length}
use Rattle.owned_shards.specs.Shares.{AwaitsSurvey}
use Rattle.owned_shards.specs.Wholes.{Begun, ShardsWith}
use Rattle.owned_shards.specs.declared.lanes.Lane.{Lane}
use Rattle.owned_shards.proofs.survey.Room.survey.Goals as goal

pub survey_all-requires-clause-ready : goal.survey_all-requires-clause-ready
survey_all-requires-clause-ready g c κs within =
    subst (λ xs. All (λ a. AwaitsSurvey g.R.RunName.run a.share) xs) (sym c.deref_mut.ensures.value)
    (all_ready g.R.RunName.run c.deal-lanes.result.items (reverse c.unread_shards-unread.result.0.items) c.deal-lanes.ensures.unread c.unread_shards-unread.ensures.unread
    c.deal-lanes.ensures.none c.deal-lanes.ensures.room)

pub gather-requires-clause-room : goal.gather-requires-clause-room
gather-requires-clause-room g c =
    let r = g.R.RunName.run in
    let after : List (Lane g.row.P.Denot g.row.R.Denot) = c.survey_all.new.lanes in
    let kept : (with_items c.deal-lanes.result after).items ≡ after = with_items_is c.deal-lanes.result after (omega (arith, c.survey_all.auto.lanes, c.deref_mut.ensures.len)) in
    let begun = all_surveyed r c.deal-lanes.result.items (reverse c.unread_shards-unread.result.0.items) c.deal-lanes.ensures.unread c.unread_shards-unread.ensures.unread c.deref_mut.result.now after
    c.deref_mut.ensures.value (omega (arith, c.survey_all.auto.lanes)) c.survey_all.ensures.each in
    omega (
      arith,
      with_length r (Begun r) 0 (flat_map (λ a. reverse a.share.shards.items) after) begun,
      ap (λ (xs : List (Lane g.row.P.Denot g.row.R.Denot)). length (flat_map (λ a. reverse a.share.shards.items) xs)) kept,
      c.requires.capacity.1,
    )

pub returns-clause-begun : goal.returns-clause-begun
returns-clause-begun g c =
    let r = g.R.RunName.run in
    let after : List (Lane g.row.P.Denot g.row.R.Denot) = c.survey_all.new.lanes in
    let kept : (with_items c.deal-lanes.result after).items ≡ after = with_items_is c.deal-lanes.result after (omega (arith, c.survey_all.auto.lanes, c.deref_mut.ensures.len)) in
    let begun = all_surveyed r c.deal-lanes.result.items (reverse c.unread_shards-unread.result.0.items) c.deal-lanes.ensures.unread c.unread_shards-unread.ensures.unread c.deref_mut.result.now after
    c.deref_mut.ensures.value (omega (arith, c.survey_all.auto.lanes)) c.survey_all.ensures.each in
    subst (ShardsWith (Begun r) r 0) (sym (c.gather.ensures.items ∙ ap (flat_map (λ (a : Lane g.row.P.Denot g.row.R.Denot). reverse a.share.shards.items)) kept)) begun

pub returns-clause-capacity : goal.returns-clause-capacity
returns-clause-capacity g c =
    let size : length c.gather.result.items ≡ vec_len c.gather.result = search rules in
    omega (
      arith,
      size,
      with_length g.R.RunName.run (Begun g.R.RunName.run) 0 c.gather.result.items (returns-clause-begun g c),
      c.unread_shards-unread.ensures.capacity,
      c.unread_shards-unread.ensures.size,
    )
