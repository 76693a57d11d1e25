-- How a request is answered against the files of a folder of indexes, and which files it leaves. Statuses are those of
-- RFC 9110, section 15; when each comes is this project's own.
use Rattle.std.specs.Prelude.{◌≡◌, ℕ, ◌⊎◌, List, [], length, nat_le, if◌then◌else◌, ◌&&◌, Bool, true, false, is_ok}
use Rattle.std.specs.Prelude.{Option, Some, None}
use Rattle.caibx_codec.specs.Listing.{Listing}
use Rattle.caibx_codec.specs.Reading.{index_in}
use Rattle.caibx_codec.specs.Spelling.{IsIndexFile}
use Rattle.caibx_fields.specs.Limits.{file_limit}
use Rattle.dir_store.specs.Names.{is_temporary}
use Rattle.dsy_base.specs.Folders.{put_in}
use Rattle.dsy_base.specs.Maps.{Map}
use Rattle.http_serve.specs.Answers.{Answer, bare}
use Rattle.http_serve.specs.Steps.{AnswersOrFails, AreBothAlike, ServedState}
use Rattle.http_wire.specs.declared.index_request.IndexAct.{IndexAct}
use Rattle.http_wire.specs.declared.index_request.IndexAct.TheVariants as act

-- whether the bytes are the file of a valid index
abbrev pub is_index : List ℕ → Bool
is_index b = is_ok (index_in b)

-- so they are, or aren't
abbrev pub IsSpelled : Bool → List ℕ → Type 0
IsSpelled true b = (l : Listing) × IsIndexFile b l
IsSpelled false b = (l : Listing) → IsIndexFile b l → ⊥

-- what is held under a name, where it is the file of a valid index. No such file has more bytes
abbrev pub index_held : Option (List ℕ) → Option (List ℕ)
index_held None = None
index_held (Some b) = if nat_le (length b) file_limit && is_index b then Some b else None

-- with the file, or with its length alone (RFC 9110, section 9.3.2)
abbrev pub with_index : Option (List ℕ) → Answer
with_index None = bare 404
with_index (Some b) = record { status = 200; size = length b; body = b }

-- the length alone
abbrev pub with_index_length : Option (List ℕ) → Answer
with_index_length None = bare 404
with_index_length (Some b) = record { status = 200; size = length b; body = [] }

-- the answer against these files
unfoldable pub index_answer_to : Map (List ℕ) → IndexAct → List ℕ → Answer
index_answer_to files (act.Get name) body = with_index (index_held (files name))
index_answer_to files (act.Head name) body = with_index_length (index_held (files name))
index_answer_to files (act.Put name) body = bare (if is_index body then 200 else 400)
index_answer_to files act.Lost body = bare 404
index_answer_to files (act.Refuse status) body = bare status

-- and the files that it leaves: a PUT of the file of a valid index puts it under the name
unfoldable pub index_files_after : Map (List ℕ) → IndexAct → List ℕ → Map (List ℕ)
index_files_after files (act.Get name) body = files
index_files_after files (act.Head name) body = files
index_files_after files (act.Put name) body = if is_index body then put_in files name body else files
index_files_after files act.Lost body = files
index_files_after files (act.Refuse status) body = files

-- ---- over any folder

-- the files of the folder, where they are told, and how often a call on it has failed
abbrev pub IndexFolder : Type 0
IndexFolder = ServedState (Map (List ℕ))

-- a folder as it is served from
abbrev pub index_folder : {F : Type 0} → (F → Option (Map (List ℕ))) → (F → ℕ) → F → IndexFolder
index_folder files faults folder = record { files = files folder; faults = faults folder }

-- the files differ in temporary ones alone
abbrev pub SameButTemporaries : Map (List ℕ) → Map (List ℕ) → Type 0
SameButTemporaries m n = (q : List ℕ) → is_temporary q ≡ false → n q ≡ m q

-- so they do, or none are told
abbrev pub KeepsButTemporaries : Option (Map (List ℕ)) → Option (Map (List ℕ)) → Type 0
KeepsButTemporaries old new = AreBothAlike SameButTemporaries old new

-- the request was answered as the files say, or a call on the folder has failed and was counted
abbrev pub AnswersIndexOrFails : IndexFolder → IndexAct → List ℕ → Answer → IndexFolder → Type 0
AnswersIndexOrFails old a body r new =
    AnswersOrFails (λ m. index_answer_to m a body) (λ m. index_files_after m a body) SameButTemporaries old r new

-- the file of a valid index
pub record RepliesIndex (r : Answer) : Type 0 where
  pub status : r.status ≡ 200
  pub index : IsSpelled true r.body
  pub size : r.size ≡ length r.body

-- its length
pub record GivesIndexLength (r : Answer) : Type 0 where
  pub status : r.status ≡ 200
  pub body : r.body ≡ []

-- what may be answered
abbrev pub IsIndexAnswer : IndexAct → List ℕ → Answer → Type 0
IsIndexAnswer (act.Get name) body r = RepliesIndex r ⊎ ((r ≡ bare 404) ⊎ (r ≡ bare 500))
IsIndexAnswer (act.Head name) body r = GivesIndexLength r ⊎ ((r ≡ bare 404) ⊎ (r ≡ bare 500))
IsIndexAnswer (act.Put name) body r =
    (((r ≡ bare 200) ⊎ (r ≡ bare 500)) × IsSpelled true body) ⊎ ((r ≡ bare 400) × IsSpelled false body)
IsIndexAnswer act.Lost body r = r ≡ bare 404
IsIndexAnswer (act.Refuse status) body r = r ≡ bare status
