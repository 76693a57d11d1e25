-- The texts that tell how the program is called, as bytes. Each is a constant of the source.
use Rattle.std.specs.Prelude.{ℕ, List}
use Rattle.command_help.specs.declared.help.Topic.{Topic}
use Rattle.command_help.specs.declared.help.Topic.TheVariants as topics
use Rattle.command_help.specs.declared.texts.TheConstants.{HELP, VERSION, MAKE, EXTRACT, CAT, VERIFY_INDEX, CHOP, CACHE}
use Rattle.command_help.specs.declared.texts.TheConstants.{LIST_CHUNKS, INFO, VERIFY, PRUNE, CHUNK_SERVER, INDEX_SERVER}
use Rattle.command_help.specs.declared.texts.TheConstants.{DEMO}
use Rattle.command_words.specs.declared.option_table.CommandKind.{CommandKind}
use Rattle.command_words.specs.declared.option_table.CommandKind.TheVariants as kinds

-- `COMMAND --help`
abbrev pub command_text : CommandKind → List ℕ
command_text kinds.Make = MAKE.now
command_text kinds.Extract = EXTRACT.now
command_text kinds.Cat = CAT.now
command_text kinds.VerifyIndex = VERIFY_INDEX.now
command_text kinds.Chop = CHOP.now
command_text kinds.Cache = CACHE.now
command_text kinds.ListChunks = LIST_CHUNKS.now
command_text kinds.Info = INFO.now
command_text kinds.Verify = VERIFY.now
command_text kinds.Prune = PRUNE.now
command_text kinds.ChunkServer = CHUNK_SERVER.now
command_text kinds.IndexServer = INDEX_SERVER.now
command_text kinds.Demo = DEMO.now

-- what is printed on a topic
abbrev pub help_text : Topic → List ℕ
help_text topics.All = HELP.now
help_text topics.Version = VERSION.now
help_text (topics.Command kind) = command_text kind
