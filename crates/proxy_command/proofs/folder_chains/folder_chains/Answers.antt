use Rattle.proxy_command.proofs.OfFolders.{chains_given}
use Rattle.proxy_command.proofs.folder_chains.folder_chains.Goals as goal

pub drop_chains-requires : goal.drop_chains-requires
drop_chains-requires g c =
    record { given = chains_given g.F.Look.Look.place (g.F.Files.disk c.args.files.now).folder_counts c.args.retries c.args.chains.items c.requires.chains }
