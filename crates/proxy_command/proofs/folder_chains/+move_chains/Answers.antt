use Rattle.std.proofs.Common.{arith, rules}
use Rattle.command_steps.proofs.InTurn.{first_out}
use Rattle.proxy_command.proofs.OfFolders.{chain_ready, chains_given, chains_later, known_later, moved_all_known}
use Rattle.proxy_command.proofs.OfFolders.{chains_more, groups_known, groups_later}
use Rattle.proxy_command.proofs.folder_chains.+move_chains.Goals as goal

pub move_chains-requires : goal.move_chains-requires
move_chains-requires g t c κs within =
    let at = g.F.Files.disk in
    let place = g.F.Look.Look.place in
    let old = (at c.args.files.now).folder_counts in
    let new = (at c.chain_of.new.files).folder_counts in
    let on = c.in-Ok.ensures.kept.folder_known in
    let chain = c.remove-chain.result in
    let rest = c.remove-chain.new.self.items in
    let is = first_out c.args.from.items rest chain (omega (arith, c.args.from.ok.0)) c.remove-chain.ensures.value c.remove-chain.ensures.items in
    let ready = chain_ready place old c.args.retries c.args.from.items rest chain is c.requires.chains in
    let chains = chains_later place old new on c.args.retries rest ready.1 in
    let one = moved_all_known place new c.in-Ok.chain.stores chain.stores c.in-Ok.ensures.groups (groups_known place new c.args.retries chain.stores (groups_later place old new on c.args.retries chain.stores ready.0.groups)) in
    let known = chains_more place new c.args.to.now.items c.push_reserved.new.self.items c.in-Ok.chain c.push_reserved.ensures.items (known_later place old new on c.args.to.now.items c.requires.known) one in
    search rules

pub drop_chains-requires : goal.drop_chains-requires
drop_chains-requires g t c =
    let at = g.F.Files.disk in
    let place = g.F.Look.Look.place in
    let old = (at c.args.files.now).folder_counts in
    let new = (at c.chain_of.new.files).folder_counts in
    let chain = c.remove-chain.result in
    let rest = c.remove-chain.new.self.items in
    let is = first_out c.args.from.items rest chain (omega (arith, c.args.from.ok.0)) c.remove-chain.ensures.value c.remove-chain.ensures.items in
    let ready = chain_ready place old c.args.retries c.args.from.items rest chain is c.requires.chains in
    record { given = chains_given place new c.args.retries rest (chains_later place old new c.in-Err.ensures.kept.folder_known c.args.retries rest ready.1) }
