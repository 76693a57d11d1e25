-- A folder that was served in turn, and is given back.
use Rattle.std.proofs.Common.{◌≡◌, ℕ, Bool, List, [], Option, Some, Result, Ok, Err, OnOk, refl, subst, inl}
use Rattle.std.specs.Option.{option_map}
use Rattle.command_outcome.specs.declared.outcome.Outcome.TheVariants as ends
use Rattle.command_steps.proofs.Taken.{gives_adds}
use Rattle.dsy_base.specs.Counts.{Rose}
use Rattle.dsy_base.specs.Disk.{Disk, GivesFolder}
use Rattle.dsy_base.specs.Links.{ListenState}
use Rattle.dsy_base.specs.Maps.{Map, at_name}
use Rattle.dsy_base.specs.declared.fault.IoFault.{IoFault}
use Rattle.dsy_base.specs.declared.fault.IoFault.TheVariants as io
use Rattle.http_serve.specs.Protocols.{Protocol}
use Rattle.http_serve.specs.Steps.{ServedState}
use Rattle.server_commands.proofs.Listened.{idle_self, listens_none}
use Rattle.server_commands.specs.Serving.{FolderServed, Heard, ServesInTurn, ServesInTurnShort, Listens, RunsOut, ServedBack, answer_of_serving, fresh, heard}

module _ {R : Type 0} (p : Protocol R (Map (List ℕ))) (h : Heard) (q : List ℕ) (held : Option (Map (List ℕ))) (first left : ServedState (Map (List ℕ))) (taken : first ≡ fresh held)
    (d e : Disk) (given : GivesFolder d e q left.faults) (back : e.folders ≡ option_map (λ m. at_name m q left.files) d.folders) where
  back_as : (P : ServedState (Map (List ℕ)) → ServedState (Map (List ℕ)) → Type 0) → P first left → ServedBack q held P d e
  back_as P s = record {
    left = left;
    back = back;
    counted = given.folder_counts.added;
    serving = subst (λ (x : ServedState (Map (List ℕ))). P x left) taken s;
  }

  pub serving_ends : (r : Result Unit IoFault) → OnOk r (h.new.coming ≡ Some []) → OnOk r (Listens p h.old h.new first left) → (r ≡ Err io.Failed → Rose h.old.faults h.new.faults × Listens p h.old h.new first left)
      → (r ≡ Err io.Memory → RunsOut p h.old h.new first left × (h.new.faults ≡ h.old.faults)) → FolderServed h q held (ServesInTurn p h) (ServesInTurnShort p h) d (answer_of_serving r) e
  serving_ends (Ok u) over all failed lacking = ((over, back_as (ServesInTurn p h) all), gives_adds d e q left.faults given)
  serving_ends (Err io.Failed) over all failed lacking = (((failed refl).0, back_as (ServesInTurn p h) (failed refl).1), gives_adds d e q left.faults given)
  serving_ends (Err io.Memory) over all failed lacking = (back_as (ServesInTurnShort p h) (lacking refl), gives_adds d e q left.faults given)

-- the folder is given back as it was taken, and nobody was heard
pub unserved : {R : Type 0} (p : Protocol R (Map (List ℕ))) (never_fails : Bool) (l : ListenState) (q : List ℕ) (held : Option (Map (List ℕ))) (left : ServedState (Map (List ℕ))) → left ≡ fresh held → (d e : Disk) → GivesFolder d e q left.faults
    → e.folders ≡ option_map (λ m. at_name m q left.files) d.folders → FolderServed (heard never_fails l l) q held (ServesInTurn p (heard never_fails l l)) (ServesInTurnShort p (heard never_fails l l)) d (Err ends.Memory) e
unserved p never_fails l q held left taken d e given back =
    (record { left = left; back = back; counted = given.folder_counts.added; serving = (inl (listens_none p l l (fresh held) left (idle_self l) taken), refl) }, gives_adds d e q left.faults given)
