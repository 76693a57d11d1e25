use Rattle.std.proofs.Common.{◌≡◌, [], rules, subst, List}
use Rattle.command_steps.proofs.Consulted.{reads_twice}
use Rattle.command_groups.proofs.LentChains.{chains_later}
use Rattle.command_steps.proofs.InTurn.{all_last}
use Rattle.command_steps.proofs.Used.{uses_twice}
use Rattle.command_groups.specs.Chains.{CanGiveChain, chain_groups}
use Rattle.command_groups.specs.Groups.{stores_of}
use Rattle.command_steps.specs.Uses.{Uses, folders_among}
use Rattle.command_words.specs.declared.command.Location.{Location}
use Rattle.command_groups.proofs.chains.+drop_chains.Goals as goal

pub drop_chain-requires : goal.drop_chain-requires
drop_chain-requires g t c =
    let can = CanGiveChain g.F.Look.Look (g.F.Files.disk c.args.files.now) in
    record { given = (all_last can c.args.chains.items c.pop.new.self.items c.in-Some.chain c.in-Some.ensures.items c.requires.given).1 }

pub drop_chains-requires : goal.drop_chains-requires
drop_chains-requires g t c =
    let at = g.F.Files.disk in
    let d = at c.args.files.now in
    let rest = c.pop.new.self.items in
    let before = (all_last (CanGiveChain g.F.Look.Look d) c.args.chains.items rest c.in-Some.chain c.in-Some.ensures.items c.requires.given).0 in
    let given = chains_later g.F.Look.Look d (at c.drop_chain.new.files) c.drop_chain.ensures.kept rest before in
    search rules

pub returns-in-Some : goal.returns-in-Some
returns-in-Some g t c =
    let at = g.F.Files.disk in
    let d = at c.args.files.now in
    let b = at c.drop_chain.new.files in
    let e = at c.drop_chains.new.files in
    let look = g.F.Look.Look in
    let rest = c.pop.new.self.items in
    record {
      kept = reads_twice d b e c.drop_chain.ensures.kept c.drop_chains.ensures.kept;
      used = λ groups named.
          let both = all_last (λ c. chain_groups look c ≡ groups) c.args.chains.items rest c.in-Some.chain c.in-Some.ensures.items named in
          uses_twice [] (folders_among (stores_of groups)) d b e (subst (λ (l : List (List Location)). Uses [] (folders_among (stores_of l)) d b) both.1 c.drop_chain.ensures.used) (c.drop_chains.ensures.used groups both.0);
    }
