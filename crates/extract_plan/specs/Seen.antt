-- What contracts see of a plan, and what it keeps.
use Rattle.std.specs.Prelude.{◌≡◌, ◌<◌, ◌≤◌, length}
use Rattle.caibx_fields.specs.Limits.{item_limit}
use Rattle.extract_plan.specs.Deal.{Deal, deal_shards}
use Rattle.extract_plan.specs.Links.{AreSorted}
use Rattle.extract_plan.specs.declared.plan.Plan.TheInside.{Inside}

-- what contracts see of a plan
abbrev pub deal_of : Inside → Deal
deal_of p = record { workers = p.workers; wants = p.wants; want_of = p.want_of.items; cuts = p.cuts.items }

-- what holds of a plan's lists: the wants are sorted, and the numbers are within their limits
pub record IsSoundPlan (p : Inside) : Type 0 where
  pub some : 0 < p.workers
  pub few : p.workers ≤ 32
  pub entries : length p.want_of.items ≤ item_limit
  pub sorted : AreSorted p.want_of.items p.starts.items p.order.items p.wants
  pub shards : length p.cuts.items ≡ deal_shards (deal_of p)
