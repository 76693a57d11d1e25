use Rattle.std.proofs.Common.{inr, rules}
use Rattle.image_views.proofs.views.add_view.Goals as goal

pub returns-in_default-push-clause-changed : goal.returns-in_default-push-clause-changed
returns-in_default-push-clause-changed g c =
    inr (
      _,
      c.in_default-push.ensures.items,
      (
        c.in-Ok.ensures.fresh.0,
        record {
          name = c.in-Ok.ensures.fresh.1;
          size = search rules;
          holds = c.in-Ok.ensures.found;
        },
        c.in-Ok.ensures.known,
      ),
    )
