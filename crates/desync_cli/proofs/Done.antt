-- What the outcome Done says: a line a command that has a headline.
use Rattle.std.proofs.Common.{◌≡◌, ℕ, List, IfSome, is_some, Result, Ok, subst}
use Rattle.command_outcome.specs.declared.outcome.Outcome.{Outcome}
use Rattle.command_outcome.specs.declared.outcome.Outcome.TheVariants as ends
use Rattle.command_worlds.specs.Steps.{answer_of, outcome_of}
use Rattle.command_worlds.specs.Worlds.{World}
use Rattle.command_words.specs.declared.command.Command.{Command}
use Rattle.command_words.specs.declared.command.Command.TheVariants as commands
use Rattle.desync_cli.specs.Commands.{Achieves, CommandEnds, DesyncEnds, SureTypes, command_of}
use Rattle.extract_command.specs.Extract.{never_fail}
use Rattle.server_commands.specs.Serving.{Heard}
use Rattle.desync_cli.proofs.Fair.{answered, begun, if_some}
use Rattle.desync_cli.proofs.Cached.{cached}
use Rattle.desync_cli.proofs.Chopped.{chopped}
use Rattle.desync_cli.proofs.Extracted.{extracted}
use Rattle.desync_cli.proofs.Made.{made}
use Rattle.desync_cli.proofs.Pruned.{pruned_to, verified_store}
use Rattle.desync_cli.proofs.Verified.{verified}

achieves : (sure : SureTypes) (k : Heard) (c : Command) (w v : World) → is_some w.disk.files ≡ is_some w.disk.folders → CommandEnds sure k c w (Ok tt) v → Achieves sure k c w v
achieves sure k (commands.Make store sizes workers digest index image) w v told h = made store digest sizes index image w v told h
achieves sure k (commands.Extract stores retries seeds cache in_place workers index target) w v told h = extracted (never_fail sure.target k.never_fails) (record { groups = stores; retries = retries; sure = sure.looks.never_fail }) cache seeds in_place index target w v told h
achieves sure k (commands.VerifyIndex workers index image) w v told h = verified index image w v h
achieves sure k (commands.Chop store workers index image) w v told h = chopped store index image w v h
achieves sure k (commands.Cache stores retries cache workers indexes) w v told h = cached sure.looks.never_fail stores retries cache workers indexes w v h
achieves sure k (commands.Verify store repair workers digest) w v told h = verified_store digest store repair w v h
achieves sure k (commands.Prune store indexes) w v told h = pruned_to store indexes w v h
achieves sure k other w v told h = h

pub achieved : (sure : SureTypes) (k : Heard) (words : List (List ℕ)) (w v : World) (r : Result Unit Outcome) → is_some w.disk.files ≡ is_some w.disk.folders → DesyncEnds sure k words w r v → outcome_of r ≡ ends.Done → IfSome (command_of words) (λ c. Achieves sure k c w v)
achieved sure k words w v r told h done =
    let a : DesyncEnds sure k words w (Ok tt) v = subst (λ o. DesyncEnds sure k words w (answer_of o) v) done (answered sure k words w v r h) in
    let b = begun sure k words w v (Ok tt) a in
    if_some (command_of words) (λ c. Achieves sure k c w v) b.0 b.1 (achieves sure k b.0 w v told b.2)
