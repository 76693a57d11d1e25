-- What every command answers and leaves where nothing fails.
use Rattle.std.specs.List.{All}
use Rattle.std.proofs.Common.{◌≡◌, ◌⊎◌, length, ◌&&◌, ℕ, List, [], ◌∷◌, Bool, true, false, IsTrue, Some, IfSome, Result, Ok, Err, refl, inl, inr}
use Rattle.command_help.specs.Help.{help_text}
use Rattle.command_help.specs.declared.help.Topic.TheVariants as topics
use Rattle.command_line.specs.CommandLine.{command_line}
use Rattle.command_outcome.specs.declared.outcome.Outcome.{Outcome}
use Rattle.command_outcome.specs.declared.outcome.Outcome.TheVariants as ends
use Rattle.command_indexes.specs.Places.{are_files, is_file}
use Rattle.command_indexes.specs.Blames.{Parts}
use Rattle.command_words.specs.Limits.{AreFewStores, Fits}
use Rattle.command_words.specs.declared.command.Command.{Command}
use Rattle.command_words.specs.declared.command.Command.TheVariants as commands
use Rattle.command_words.specs.declared.command.Location.{Location}
use Rattle.command_words.specs.declared.usage.WordsFault.{WordsFault}
use Rattle.command_worlds.specs.Steps.{outcome_of}
use Rattle.command_worlds.specs.Worlds.{World}
use Rattle.desync_cli.proofs.ExactCache.{caches_so}
use Rattle.desync_cli.proofs.ExactExtract.{extracts_so}
use Rattle.desync_cli.proofs.ExactFolders.{prunes_so, verifies_so}
use Rattle.desync_cli.proofs.ExactImages.{chops_so, makes_so}
use Rattle.desync_cli.proofs.ExactRanges.{puts_so}
use Rattle.desync_cli.proofs.ExactServing.{chunk_server_so, index_server_so, proxy_server_so}
use Rattle.desync_cli.proofs.ExactTexts.{demonstrates_so, lists_so, prints_so, tells_so, verifies_index_so}
use Rattle.desync_cli.proofs.Fair.{begun, if_any, if_some}
use Rattle.desync_cli.proofs.Grouped.{AreTelling}
use Rattle.desync_cli.proofs.Readings.{EndsSo, IsQuiet, at_first}
use Rattle.desync_cli.specs.Commands.{CommandEnds, DesyncEnds, GroupsTell, NoCommand, SureTypes, command_of, command_said, parts, refusal_in}
use Rattle.desync_cli.specs.Contents.{Contents}
use Rattle.desync_cli.specs.Exact.{EndingOf, IsExact, IsFaultless}
use Rattle.extract_command.specs.Extract.{never_fail}
use Rattle.server_commands.specs.Serving.{Heard}
use Rattle.std.proofs.lemmas.Option.{none-some}

quiet : {p : Parts} {w v : World} {x : Contents} → IsFaultless p w v x → IsQuiet w v
quiet f = record { disk = f.disk; out = f.out }

-- the one index of a command
the_file : (q : List ℕ) → IsTrue (are_files (q ∷ [])) → IsTrue (is_file q)
the_file q t = go (is_file q) t where
  go : (b : Bool) → IsTrue (b && true) → IsTrue b
  go true t = refl
  go false t = absurd (cc)

-- groups of few stores, which tell
telling : {sure : Bool} (groups : List (List Location)) (retries : ℕ) → AreFewStores groups retries → All (λ (g : List Location). length g ≡ 1) groups ⊎ IsTrue sure → AreTelling sure groups
telling groups retries few tell = record { have = few.0; tell = tell }

module _ (sure : SureTypes) (k : Heard) (x : Contents) (w v : World) where
  command_exact : (c : Command) → Fits c → GroupsTell sure.looks.never_fail c → IsFaultless (parts k c) w v x → (r : Result Unit Outcome) → CommandEnds sure k c w r v → EndsSo x v (EndingOf k c) (outcome_of r)
  command_exact (commands.Make store sizes workers digest index image) fit alone f = makes_so x w v (quiet f) store digest sizes index image f.folders f.tells
  command_exact (commands.VerifyIndex workers index image) fit alone f = verifies_index_so x w v (quiet f) index image (the_file index f.indexes) f.tells
  command_exact (commands.Chop store workers index image) fit alone f = chops_so x w v (quiet f) store index image f.folders (the_file index f.indexes) f.tells
  command_exact (commands.Cache stores retries cache workers indexes) fit alone f = caches_so x w v (quiet f) sure.looks.never_fail stores retries (telling stores retries fit.1 alone) cache workers indexes f.folders f.indexes f.tells
  command_exact (commands.ListChunks index) fit alone f = lists_so x w v (quiet f) index (the_file index f.indexes) f.tells
  command_exact (commands.Extract stores retries seeds cache in_place workers index target) fit alone f = extracts_so x w v (quiet f) (never_fail sure.target k.never_fails) (record { groups = stores; retries = retries; sure = sure.looks.never_fail }) (telling stores retries fit.1 alone) f.folders cache seeds in_place index target (the_file index f.indexes) f.tells
  command_exact (commands.Cat stores retries offset length index) fit alone f = puts_so x w v (quiet f) sure.looks.never_fail stores retries (telling stores retries fit.1 alone) offset length index f.folders (the_file index f.indexes) f.tells
  command_exact (commands.Info stores retries index) fit alone f = tells_so x w v (quiet f) sure.looks.never_fail stores retries (telling stores retries fit.0 alone) index f.folders (the_file index f.indexes) f.tells
  command_exact (commands.Verify store repair workers digest) fit alone f = verifies_so x w v (quiet f) digest store repair f.tells
  command_exact (commands.Prune store indexes) fit alone f = prunes_so x w v (quiet f) store indexes f.indexes f.tells
  command_exact (commands.Demo number size workers digest) fit alone f = demonstrates_so x w v (quiet f) digest number size f.tells
  command_exact commands.Help fit alone f = prints_so x w v (quiet f) (help_text topics.All) w (at_first x w f.tells)
  command_exact commands.Version fit alone f = prints_so x w v (quiet f) (help_text topics.Version) w (at_first x w f.tells)
  command_exact (commands.HelpOn kind) fit alone f = prints_so x w v (quiet f) (help_text (topics.Command kind)) w (at_first x w f.tells)
  command_exact (commands.ChunkServer store host port writable workers digest) fit alone f = chunk_server_so x w v (quiet f) k f.listener digest store writable workers f.tells
  command_exact (commands.Proxy stores retries cache host port workers digest) fit alone f = proxy_server_so x w v (quiet f) k f.listener sure.looks stores retries cache digest workers f.folders f.tells
  command_exact (commands.IndexServer store host port writable) fit alone f = index_server_so x w v (quiet f) k f.listener store writable f.tells

-- words that are no command, or for which there was no memory
words_exact : (sure : SureTypes) (words : List (List ℕ)) (k : Heard) (w v : World) (o : Outcome) → NoCommand words o → IfSome (command_of words) (λ c. GroupsTell sure.looks.never_fail c → (x : Contents) → IsFaultless (parts k c) w v x → IsExact k c x o v)
words_exact sure words k w v (ends.Usage place why) h = go (command_line words) h where
  go : (r : Result Command WordsFault) → refusal_in r ≡ Some (place, why) → IfSome (command_said r) (λ c. GroupsTell sure.looks.never_fail c → (x : Contents) → IsFaultless (parts k c) w v x → IsExact k c x (ends.Usage place why) v)
  go (Ok c) is = absurd (none-some _ is)
  go (Err fault) is = tt
words_exact sure words k w v ends.Memory h = if_any (command_of words) _ (λ c alone x f. inl refl)
words_exact sure words k w v other h = absurd h

pub exact : (sure : SureTypes) (k : Heard) (words : List (List ℕ)) (w v : World) (r : Result Unit Outcome) → DesyncEnds sure k words w r v → IfSome (command_of words) (λ c. GroupsTell sure.looks.never_fail c → (x : Contents) → IsFaultless (parts k c) w v x → IsExact k c x (outcome_of r) v)
exact sure k words w v (Ok u) h = let b = begun sure k words w v (Ok u) h in if_some (command_of words) _ b.0 b.1 (λ alone x f. command_exact sure k x w v b.0 b.3 alone f (Ok u) b.2)
exact sure k words w v (Err o) (inl h) = words_exact sure words k w v o h.0
exact sure k words w v (Err o) (inr h) = let b = begun sure k words w v (Err o) h in if_some (command_of words) _ b.0 b.1 (λ alone x f. command_exact sure k x w v b.0 b.3 alone f (Err o) b.2)
