use Rattle.std.proofs.Common.{◌≡◌, Err, length, ap, ◌∙◌}
use Rattle.caibx_fields.specs.Limits.{size_limit}
use Rattle.locked_proxy.proofs.Chained.{withholds}
use Rattle.locked_proxy.proofs.chain.obtain_from.Goals as goal

pub returns-in-Err-obtain-clause-err : goal.returns-in-Err-obtain-clause-err
returns-in-Err-obtain-clause-err g c =
    let room : length c.as_mut_slice.result.now ≡ size_limit = ap length c.as_mut_slice.ensures.value ∙ c.in_default.ensures.ok in
    withholds g.S.Store.faults g.S.Store.never_fails (λ s. g.met.S.Store.sure s) g.S.Store.holds c.args.chain.now.kind c.args.id.now (length c.as_mut_slice.result.now) c.in-Err-obtain.refused c.args.chain.now.stores c.obtain.new.self.stores room
    (λ ms e. c.in-Err-obtain.ensures.first ms e) (λ s e. c.in-Err-obtain.ensures.cause s (ap Err e))
