use Rattle.std.proofs.Common.{sym, ◌∙◌}
use Rattle.owned_shards.proofs.frame.Frame.unlock.Goals as goal

pub unlock_all-shards-requires-clause-tells : goal.unlock_all-shards-requires-clause-tells
unlock_all-shards-requires-clause-tells g c = g.met.T.Target.parts_tell ∙ sym c.self.invariant.1

pub new-whole-requires-clause-whole : goal.new-whole-requires-clause-whole
new-whole-requires-clause-whole g c = c.self.invariant.2 c.unlock_all-shards.result.items c.unlock_all-shards.ensures.all
