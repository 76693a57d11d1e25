use Rattle.std.proofs.Common.{◌≡◌}
use Rattle.chunk_store.specs.Asks.{Has}
use Rattle.store_chain.proofs.Kept.{kept_still, none_more}
use Rattle.verify_tool.proofs.count.count_one.Goals as goal

pub returns-then-not-is_new-clause-kept : goal.returns-then-not-is_new-clause-kept
returns-then-not-is_new-clause-kept g c =
    kept_still g.S.Store (λ a. a ≡ Has c.args.id.now.0) c.args.chain.now.stores

pub returns-then-not-is_new-clause-queries : goal.returns-then-not-is_new-clause-queries
returns-then-not-is_new-clause-queries g c = none_more g.S.Store.queried c.args.id.now.0 c.args.chain.now.stores
