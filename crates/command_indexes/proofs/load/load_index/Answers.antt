use Rattle.command_indexes.proofs.Got.{got_lacking}
use Rattle.command_indexes.proofs.load.load_index.Goals as goal
use Rattle.command_steps.specs.Sources.{storage}
use Rattle.command_words.specs.Locations.{index_place_of}

pub returns : goal.returns
returns g c = record { ends = got_lacking c.args.name (index_place_of c.args.name) (storage (g.F.Files.disk c.args.files.now) (g.D.Dial.state c.args.dial.now)) c.requires }
