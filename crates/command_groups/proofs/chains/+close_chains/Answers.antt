use Rattle.std.proofs.Common.{rules}
use Rattle.command_groups.proofs.LentChains.{chains_later}
use Rattle.command_steps.proofs.InTurn.{all_last, turn_last}
use Rattle.command_groups.specs.Chains.{CanGiveChain, IsChainGiven}
use Rattle.command_steps.specs.Sources.{storage}
use Rattle.command_groups.proofs.chains.+close_chains.Goals as goal

pub close_chain-requires : goal.close_chain-requires
close_chain-requires g t c =
    let can = CanGiveChain g.F.Look.Look (g.F.Files.disk c.args.files.now) in
    record { given = (all_last can c.args.chains.items c.pop.new.self.items c.in-Some.chain c.in-Some.ensures.items c.requires.given).1 }

pub close_chains-requires : goal.close_chains-requires
close_chains-requires g t c =
    let at = g.F.Files.disk in
    let d = at c.args.files.now in
    let rest = c.pop.new.self.items in
    let before = (all_last (CanGiveChain g.F.Look.Look d) c.args.chains.items rest c.in-Some.chain c.in-Some.ensures.items c.requires.given).0 in
    let given = chains_later g.F.Look.Look d (at c.close_chain.new.files) c.close_chain.ensures.given.consults.0.disk rest before in
    search rules

pub returns-in-Some : goal.returns-in-Some
returns-in-Some g t c =
    let at = g.F.Files.disk in
    let state = g.D.Dial.state in
    record { given = turn_last (IsChainGiven g.F.Look.Look state) c.args.chains.items c.pop.new.self.items c.in-Some.chain (storage (at c.args.files.now) (state c.args.dial.now)) (storage (at c.close_chain.new.files) (state c.close_chain.new.dial)) (storage (at c.close_chains.new.files) (state c.close_chains.new.dial)) c.in-Some.ensures.items c.close_chain.ensures.given c.close_chains.ensures.given }
