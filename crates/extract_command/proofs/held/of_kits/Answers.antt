use Rattle.std.proofs.Common.{arith, refl, sym}
use Rattle.command_steps.proofs.InTurn.{first_out}
use Rattle.extract_command.proofs.held.of_kits.Goals as goal

pub returns-clause-kits : goal.returns-clause-kits
returns-clause-kits g c = record {
  kit = c.remove-chain.result;
  first = first_out c.args.kits.items c.remove-chain.new.self.items c.remove-chain.result (omega (arith, c.args.kits.ok.0, c.requires.some)) c.remove-chain.ensures.value c.remove-chain.ensures.items;
  stores_are = sym c.into_stores.ensures.value;
  seeds_are = refl;
}
