-- `make`, and then `extract` of the index that it wrote.
use Rattle.std.specs.Prelude.{◌≡◌, ◌⊎◌, ℕ, false, true, List, Option, Some}
use Rattle.buzhash_cut.specs.Right.{HasTwins}
use Rattle.caibx_codec.specs.Listing.{Listing}
use Rattle.command_outcome.specs.declared.outcome.Outcome.{Outcome}
use Rattle.command_worlds.specs.Steps.{answer_of}
use Rattle.command_worlds.specs.Worlds.{World}
use Rattle.command_words.specs.declared.command.Command.{Command}
use Rattle.command_words.specs.declared.command.Command.TheVariants as commands
use Rattle.desync_cli.specs.Commands.{DesyncEnds, sure_types}
use Rattle.server_commands.specs.Serving.{heard}
use Rattle.dsy_base.specs.Links.{ListenState}
use Rattle.dsy_base.specs.Maps.{Map}
use Rattle.proxy_command.specs.ProxyServing.{look_types}

-- OUT holds afterwards what IMAGE held before, or a chunk shows two unequal pieces of bytes that have one digest
pub record ComesBack (before after : Map (List ℕ)) (image out : List ℕ) : Type 0 where
  pub bytes : List ℕ
  pub was : before image ≡ Some bytes
  pub now : List ℕ
  pub is : after out ≡ Some now
  pub listing : Listing
  pub same : (now ≡ bytes) ⊎ HasTwins now bytes listing

-- so it is where the first command is a `make` and the second an `extract` with the same INDEX
abbrev pub RoundTrip : Option Command → Option Command → Map (List ℕ) → Map (List ℕ) → Type 0
RoundTrip (Some (commands.Make store sizes workers digest index image))
    (Some (commands.Extract stores retries seeds cache in_place n other out)) before after =
    other ≡ index → ComesBack before after image out
RoundTrip first then before after = Unit {0}

-- two commands, one after the other: each ended so from what stood there before it
abbrev pub InTurn : ListenState → ListenState → List (List ℕ) → List (List ℕ)
    → World → Outcome → Outcome → World → Type 0
InTurn old new first then w one two v =
    (mid : ListenState) × (between : World)
    × DesyncEnds (sure_types false (look_types false true)) (heard false old mid) first w (answer_of one) between
    × DesyncEnds (sure_types false (look_types false true)) (heard false mid new) then between (answer_of two) v
