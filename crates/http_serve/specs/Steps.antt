-- How one request changes what is served from.
use Rattle.std.specs.Prelude.{◌≡◌, ℕ, ◌≤◌, ◌⊎◌, List, Option, Some, None, IfSome}
use Rattle.std.specs.Option.{option_map}
use Rattle.dsy_base.specs.Counts.{Rose}
use Rattle.http_serve.specs.Answers.{Answer, bare}
use Rattle.http_serve.specs.Protocols.{Answering}

-- what is served from, where it is told, and how often a call on it has failed
pub record ServedState (M : Type 0) : Type 0 where
  pub files : Option M
  pub faults : ℕ

-- both are told and alike, or none is told
abbrev pub AreBothAlike : {M : Type 0} → (M → M → Type 0) → Option M → Option M → Type 0
AreBothAlike alike (Some m) (Some n) = alike m n
AreBothAlike alike (Some m) None = ⊥
AreBothAlike alike None (Some n) = ⊥
AreBothAlike alike None None = Unit {0}

-- the request was answered as what is held says
pub record IsAnsweredStep {M : Type 0} (says : M → Answer) (leaves : M → M) (old : ServedState M) (r : Answer)
    (new : ServedState M) : Type 0 where
  pub answer : IfSome old.files (λ m. r ≡ says m)
  pub files : new.files ≡ option_map leaves old.files
  pub faults : old.faults ≤ new.faults

-- a call has failed, and was counted
pub record IsFailedStep {M : Type 0} (alike : M → M → Type 0) (old : ServedState M) (r : Answer)
    (new : ServedState M) : Type 0 where
  pub answer : r ≡ bare 500
  pub files : AreBothAlike alike old.files new.files
  pub faults : old.faults ≤ new.faults
  pub cause : Rose old.faults new.faults

-- one or the other
abbrev pub AnswersOrFails : {M : Type 0} → (M → Answer) → (M → M) → (M → M → Type 0) → ServedState M → Answer
    → ServedState M → Type 0
AnswersOrFails says leaves alike old r new = IsAnsweredStep says leaves old r new ⊎ IsFailedStep alike old r new

-- there was no memory: all is as before the step, or as after it, and no call has failed
pub record RunsShort {M : Type 0} (leaves : M → M) (alike : M → M → Type 0) (old new : ServedState M) : Type 0 where
  pub files : AreBothAlike alike old.files new.files ⊎ AreBothAlike alike (option_map leaves old.files) new.files
  pub unfailed : new.faults ≡ old.faults

-- the same of a request with its body
abbrev pub Steps : {R M : Type 0} → Answering R M → ServedState M → R → List ℕ → Answer → ServedState M → Type 0
Steps v old request body r new =
    AnswersOrFails (λ m. v.answer_to m request body) (λ m. v.files_after m request body) v.alike old r new

-- there was no memory in the step of a request with its body
abbrev pub StepLacks : {R M : Type 0} → Answering R M → ServedState M → R → List ℕ → ServedState M → Type 0
StepLacks v old request body new = RunsShort (λ m. v.files_after m request body) v.alike old new
