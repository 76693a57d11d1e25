use Rattle.std.proofs.Common.{◌∙◌, ap}
use Rattle.command_steps.proofs.InTurn.{put_first}
use Rattle.extract_command.proofs.held.into_kits.Goals as goal

pub returns-clause-kits : goal.returns-clause-kits
returns-clause-kits g c =
    let chain = c.new-kit.ensures.chain ∙ c.with_kind.ensures.value in (
      record {
        kit = c.new-kit.result;
        first = put_first c.args.held.kits.items c.insert.new.self.items c.new-kit.result c.insert.result c.unwrap.result c.unwrap.ensures c.insert.ensures.items;
        stores_are = ap (λ q. q.stores) chain;
        seeds_are = ap (λ v. v.items) c.new-kit.ensures.seeds;
      },
      ap (λ q. q.kind) chain,
    )
