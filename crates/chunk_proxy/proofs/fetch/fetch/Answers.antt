use Rattle.std.proofs.Common.{◌≡◌, length, sym, ap, ◌∙◌, arith}
use Rattle.cache_store.proofs.Stocked.{stocks_weaker}
use Rattle.chunk_proxy.proofs.Asked.{asks_one}
use Rattle.chunk_proxy.specs.Leaving.{asks_none}
use Rattle.caibx_fields.specs.Limits.{size_limit}
use Rattle.chunk_proxy.specs.Obtaining.{IsRightChunk}
use Rattle.chunk_proxy.proofs.fetch.fetch.Goals as goal

pub returns-clause-stocks : goal.returns-clause-stocks
returns-clause-stocks g c =
    let room : length c.as_mut_slice.result.now ≡ size_limit = ap length c.as_mut_slice.ensures.value ∙ c.in_ok-take_room.ensures.ok in
    stocks_weaker _ (IsRightChunk c.args.cached.now.chain.kind) (λ q b t. record { named = t.1.named ∙ sym t.0; few = omega (arith, t.1.fits, room) }) _ _ c.obtain-obtained.ensures.stocks

pub returns-in_err-take_room-clause-asks : goal.returns-in_err-take_room-clause-asks
returns-in_err-take_room-clause-asks g c = asks_none g.S.Store c.args.cached.now.chain.stores

pub returns-clause-asks : goal.returns-clause-asks
returns-clause-asks g c =
    let after = c.obtain-obtained.new in
    asks_one g.F.Look.files g.F.Look.place g.F.Look.faults g.S.Store c.args.id.now _ c.args.cached.now after.self c.obtain-obtained.result after.out c.obtain-obtained.ensures.ends c.obtain-obtained.ensures.stores
