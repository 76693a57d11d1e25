use Rattle.std.proofs.Common.{[], refl, ap}
use Rattle.caibx_codec.specs.Reading.{index_start}
use Rattle.caibx_codec.proofs.Checked.{begins}
use Rattle.caibx_codec.proofs.check.Front.new.Goals as goal

pub returns-clause-ok : goal.returns-clause-ok
unfolding index_start
returns-clause-ok c = λ bytes. begins bytes _ (ap (λ s. record { fields = s; entries = []; part = [] }) c.new.ensures) refl
