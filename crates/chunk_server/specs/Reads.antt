-- How a chunk's file is read, and how a request is answered by it.
use Rattle.std.specs.Prelude.{◌≡◌, ◌≢◌, ℕ, List, Err, Option, IfSome}
use Rattle.chunk_server.specs.Answers.{Answer, with_chunk, with_length}
use Rattle.chunk_server.specs.FileReads.{FileRead}
use Rattle.chunk_server.specs.Shelves.{ServedFolder}
use Rattle.chunk_server.specs.declared.chunk_file.ReadMethod.{ReadMethod}
use Rattle.chunk_server.specs.declared.chunk_file.ReadMethod.TheVariants as method
use Rattle.chunk_store.specs.Causes.{CountsCause}
use Rattle.chunk_store.specs.Folders.{chunks}
use Rattle.chunk_store.specs.Gets.{GetGives}
use Rattle.chunk_store.specs.declared.id.ChunkId.{ChunkId}
use Rattle.chunk_store.specs.declared.store.GetFault.TheVariants as get
use Rattle.http_wire.specs.declared.request.Act.{Act}
use Rattle.http_wire.specs.declared.request.Act.TheVariants as act

-- the file of this id was read, while its folder came from one state to the other
pub record ReadsFile (id : List ℕ) (old : ServedFolder) (file : FileRead) (new : ServedFolder) : Type 0 where
  pub bytes : IfSome old.files (λ m. GetGives (chunks m id) file.outcome file.bytes)
  pub kept : new.files ≡ old.files
  pub unfailed : file.outcome ≢ Err get.Failed → new.faults ≡ old.faults
  pub faults : CountsCause get.Failed old.faults new.faults file.outcome

-- what is asked for by this method
abbrev pub asked_by : ReadMethod → ChunkId → Act
asked_by method.Get id = act.Get id
asked_by method.Head id = act.Head id

-- and how it is answered, where a chunk is held or none
abbrev pub answer_by : ReadMethod → Option (List ℕ) → Answer
answer_by method.Get held = with_chunk held
answer_by method.Head held = with_length held
