use Rattle.std.proofs.Common.{Err, ap, ◌∙◌}
use Rattle.caibx_fields.specs.declared.fault.IndexFault.TheVariants as faults
use Rattle.caibx_codec.proofs.Checked.{ends_cut, ends_whole}
use Rattle.caibx_codec.proofs.check.Front.finish.Goals as goal

pub returns-in-Nothing : goal.returns-in-Nothing
returns-in-Nothing c = record { value = λ bytes left h size short. ends_whole c.args.self bytes left h short c.in-Nothing.is }

pub returns-in_default : goal.returns-in_default
returns-in_default c = record {
  value = λ bytes left h size short. ends_cut c.args.self bytes left h short c.in_default.not-Nothing ∙ ap (λ n. Err (faults.Truncated n)) size;
}
