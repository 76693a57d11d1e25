-- A command that needs no server is done, unless there was no memory.
use Rattle.std.proofs.Common.{◌⊎◌, ◌≡◌, ℕ, List, Option, Some, None, IfSome, refl, inl, inr, Result, Ok, Err}
use Rattle.std.proofs.lemmas.Option.{none-some}
use Rattle.command_line.specs.CommandLine.{command_line}
use Rattle.command_outcome.specs.declared.outcome.Outcome.{Outcome}
use Rattle.command_outcome.specs.declared.outcome.Outcome.TheVariants as ends
use Rattle.command_words.specs.declared.command.Command.{Command}
use Rattle.command_words.specs.declared.command.Command.TheVariants as commands
use Rattle.command_words.specs.declared.usage.WordsFault.{WordsFault}
use Rattle.command_worlds.specs.Steps.{outcome_of}
use Rattle.command_worlds.specs.Worlds.{DiskQuiet, World}
use Rattle.desync_cli.proofs.ExtractAtHand.{extracted_at_hand}
use Rattle.desync_cli.proofs.Fair.{begun, if_any, if_some}
use Rattle.desync_cli.proofs.OthersAtHand.{cached_at_hand, range_at_hand}
use Rattle.desync_cli.specs.AtHand.{EndsAtHand, NeedsNoServer, into, CacheNeedsNoServer, CatNeedsNoServer}
use Rattle.desync_cli.specs.Commands.{CommandEnds, DesyncEnds, NoCommand, SureTypes, command_of, command_said, refusal_in}
use Rattle.dsy_base.specs.Disk.{Disk}
use Rattle.dsy_base.specs.Maps.{Map}
use Rattle.extract_command.specs.Extract.{never_fail}
use Rattle.server_commands.specs.Serving.{Heard}

-- ---- what the top call says

-- where it is done, or there was no memory
fine : (c : Command) (d : Disk) (o : Outcome) → (o ≡ ends.Done) ⊎ (o ≡ ends.Memory) → EndsAtHand c d o
fine (commands.Extract stores retries seeds cache place workers index target) d o is = if_any d.files _ (λ b. if_any d.folders _ (λ n. λ no. is))
fine (commands.Cache stores retries cache workers indexes) d o is = if_any d.files _ (λ b. if_any d.folders _ (λ n. λ no. is))
fine (commands.Cat stores retries offset size index) d o is = if_any d.files _ (λ b. if_any d.folders _ (λ n. λ no. elim is [ inl done ↦ inl done | inr memory ↦ inr (inr memory) ]))
fine other d o is = tt

-- where files and folders tell
where_told : (d : Disk) (P : Map (List ℕ) → Map (Map (List ℕ)) → Type 0) → ((b : Map (List ℕ)) (n : Map (Map (List ℕ))) → d.files ≡ Some b → d.folders ≡ Some n → P b n) → IfSome d.files (λ b. IfSome d.folders (λ n. P b n))
where_told d P f = go d.files d.folders refl refl where
  go : (x : Option (Map (List ℕ))) (y : Option (Map (Map (List ℕ)))) → d.files ≡ x → d.folders ≡ y → IfSome x (λ b. IfSome y (λ n. P b n))
  go None y is same = tt
  go (Some b) None is same = tt
  go (Some b) (Some n) is same = f b n is same

refused_at_hand : (sure : SureTypes) (c : Command) (k : Heard) (w v : World) (o : Outcome) → DiskQuiet w.disk v.disk → CommandEnds sure k c w (Err o) v → EndsAtHand c w.disk o
refused_at_hand sure (commands.Extract stores retries seeds cache place workers index target) k w v o quiet h =
    where_told w.disk (λ b n. NeedsNoServer b n stores cache seeds (into place target) index → (o ≡ ends.Done) ⊎ (o ≡ ends.Memory))
    (λ b n is y no. inr (extracted_at_hand (never_fail sure.target k.never_fails) (record { groups = stores; retries = retries; sure = sure.looks.never_fail }) cache seeds place index target w v quiet b n is y no o h))
refused_at_hand sure (commands.Cache stores retries cache workers indexes) k w v o quiet h =
    where_told w.disk (λ b n. CacheNeedsNoServer b n stores cache indexes → (o ≡ ends.Done) ⊎ (o ≡ ends.Memory))
    (λ b n is y no. inr (cached_at_hand sure.looks.never_fail retries stores cache w v quiet b n is y workers indexes no o h))
refused_at_hand sure (commands.Cat stores retries offset size index) k w v o quiet h =
    where_told w.disk (λ b n. CatNeedsNoServer b n stores offset size index → (o ≡ ends.Done) ⊎ ((o ≡ ends.OutFault) ⊎ (o ≡ ends.Memory)))
    (λ b n is y no. inr (range_at_hand sure.looks.never_fail retries stores w v quiet b n is y offset size index no o h))
refused_at_hand sure other k w v o quiet h = tt

words_refused : (words : List (List ℕ)) (d : Disk) (o : Outcome) → NoCommand words o → IfSome (command_of words) (λ c. EndsAtHand c d o)
words_refused words d (ends.Usage place why) h = go (command_line words) h where
  go : (r : Result Command WordsFault) → refusal_in r ≡ Some (place, why) → IfSome (command_said r) (λ c. EndsAtHand c d (ends.Usage place why))
  go (Ok c) is = absurd (none-some _ is)
  go (Err fault) is = tt
words_refused words d ends.Memory h = if_any (command_of words) _ (λ c. fine c d ends.Memory (inr refl))
words_refused words d other h = absurd h

pub ends_at_hand : (sure : SureTypes) (k : Heard) (words : List (List ℕ)) (w v : World) (r : Result Unit Outcome) → DesyncEnds sure k words w r v → DiskQuiet w.disk v.disk → IfSome (command_of words) (λ c. EndsAtHand c w.disk (outcome_of r))
ends_at_hand sure k words w v (Ok u) h quiet = if_any (command_of words) _ (λ c. fine c w.disk ends.Done (inl refl))
ends_at_hand sure k words w v (Err o) (inl h) quiet = words_refused words w.disk o h.0
ends_at_hand sure k words w v (Err o) (inr h) quiet = let b = begun sure k words w v (Err o) h in if_some (command_of words) _ b.0 b.1 (refused_at_hand sure b.0 k w v o quiet b.2)
