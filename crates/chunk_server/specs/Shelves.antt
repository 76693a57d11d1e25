-- What contracts see of a shelf, and how its answers change that.
use Rattle.std.specs.Prelude.{◌≡◌, ◌≢◌, ℕ, ◌⊎◌, List, [], length, false, Option}
use Rattle.chunk_store.specs.Digests.{digest_of}
use Rattle.chunk_store.specs.declared.id.DigestKind.{DigestKind}
use Rattle.dir_store.specs.Names.{is_temporary}
use Rattle.dsy_base.specs.Maps.{Map}
use Rattle.chunk_server.specs.Answers.{Answer, answer_to, bare, files_after}
pub use Rattle.http_serve.specs.Answers.{answer_in}
use Rattle.http_serve.specs.Steps.{AnswersOrFails, AreBothAlike, RunsShort, ServedState}
use Rattle.http_wire.specs.declared.request.Act.{Act}
use Rattle.http_wire.specs.declared.request.Act.TheVariants as act

-- the files of its folder, where they are told, and how often a call on it has failed
abbrev pub ServedFolder : Type 0
ServedFolder = ServedState (Map (List ℕ))

-- a folder as a shelf sees it
abbrev pub shelved : {F : Type 0} → (F → Option (Map (List ℕ))) → (F → ℕ) → F → ServedFolder
shelved files faults folder = record { files = files folder; faults = faults folder }

-- the files differ in temporary ones alone
abbrev pub AreTemporariesApart : Map (List ℕ) → Map (List ℕ) → Type 0
AreTemporariesApart m n = (q : List ℕ) → is_temporary q ≡ false → n q ≡ m q

-- so they do, or none are told
abbrev pub AreAlikeButTemporaries : Option (Map (List ℕ)) → Option (Map (List ℕ)) → Type 0
AreAlikeButTemporaries old new = AreBothAlike AreTemporariesApart old new

-- the request was answered as the files say, or a call on the folder has failed and was counted
abbrev pub ServesOrFails : DigestKind → ServedFolder → Act → List ℕ → Answer → ServedFolder → Type 0
ServesOrFails kind old a body r new =
    AnswersOrFails (λ m. answer_to kind m a body) (λ m. files_after kind m a body) AreTemporariesApart old r new

-- there was no memory: the files are as before the step, or as after it
abbrev pub StepLacksMemory : DigestKind → ServedFolder → Act → List ℕ → ServedFolder → Type 0
StepLacksMemory kind old a body new = RunsShort (λ m. files_after kind m a body) AreTemporariesApart old new

-- a status that tells of no chunk
abbrev pub IsBare : Answer → Type 0
IsBare r = (r ≡ bare 400) ⊎ ((r ≡ bare 404) ⊎ (r ≡ bare 500))

-- the chunk of this id
pub record RepliesChunk (kind : DigestKind) (id : List ℕ) (r : Answer) : Type 0 where
  pub status : r.status ≡ 200
  pub named : digest_of kind r.body ≡ id
  pub size : r.size ≡ length r.body

-- its length
pub record GivesLength (r : Answer) : Type 0 where
  pub status : r.status ≡ 200
  pub body : r.body ≡ []

-- what each shelf may answer
abbrev pub IsAnswer : DigestKind → Act → Answer → Type 0
IsAnswer kind (act.Get id) r = RepliesChunk kind id.0 r ⊎ IsBare r
IsAnswer kind (act.Head id) r = GivesLength r ⊎ IsBare r
IsAnswer kind (act.Put id) r = (r ≡ bare 200) ⊎ IsBare r
IsAnswer kind act.Lost r = r ≡ bare 404
IsAnswer kind (act.Refuse status) r = r ≡ bare status

-- bytes of another name than the id aren't put, whatever the folder does
abbrev pub RefusesOtherDigest : DigestKind → Act → List ℕ → Answer → Type 0
RefusesOtherDigest kind (act.Put id) body r = digest_of kind body ≢ id.0 → r ≡ bare 400
RefusesOtherDigest kind (act.Get id) body r = Unit {0}
RefusesOtherDigest kind (act.Head id) body r = Unit {0}
RefusesOtherDigest kind act.Lost body r = Unit {0}
RefusesOtherDigest kind (act.Refuse status) body r = Unit {0}
