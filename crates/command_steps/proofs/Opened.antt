-- A folder that wasn't reached, over more than one step.
use Rattle.std.proofs.Common.{◌≡◌, ℕ, List, None, IfSome, subst}
use Rattle.std.specs.Map.{count_at}
use Rattle.command_outcome.specs.declared.outcome.Outcome.{Outcome}
use Rattle.command_outcome.specs.declared.outcome.Outcome.TheVariants as ends
use Rattle.command_steps.specs.Stores.{NotReached}
use Rattle.command_worlds.specs.Worlds.{Reads}
use Rattle.command_steps.proofs.Numbers.{rose_later, rose_longer}
use Rattle.dsy_base.specs.Disk.{Disk}

pub later : (d b e : Disk) → Reads d b → (q : List ℕ) (o : Outcome) → NotReached b e q o → NotReached d e q o
later d b e r q (ends.NoFolder name) h = (h.0, subst (λ f. IfSome f (λ m. m q ≡ None)) r.folders h.1)
later d b e r q (ends.FileFault name) h = (h.0, rose_later (count_at d.folder_counts q) (count_at b.folder_counts q) (count_at e.folder_counts q) (r.folder_counts q) h.1)
later d b e r q ends.Memory h = tt
later d b e r q other h = absurd h

-- what was refused before more was given back
pub given_back : (d e f : Disk) → Reads e f → (q : List ℕ) (o : Outcome) → NotReached d e q o → NotReached d f q o
given_back d e f r q (ends.NoFolder name) h = h
given_back d e f r q (ends.FileFault name) h = (h.0, rose_longer (count_at d.folder_counts q) (count_at e.folder_counts q) (count_at f.folder_counts q) (r.folder_counts q) h.1)
given_back d e f r q ends.Memory h = tt
given_back d e f r q other h = absurd h
