-- How the file of an index is read and found, and how a request is answered by it.
use Rattle.std.specs.Prelude.{◌≡◌, ◌≢◌, ℕ, List, Option, Some, None, IfOk, IfSome, Result, Ok, Err}
use Rattle.caibx_codec.specs.Answers.{Judges}
use Rattle.caibx_codec.specs.Listing.{Listing}
use Rattle.caibx_codec.specs.Reading.{index_in}
use Rattle.caibx_codec.specs.declared.reading.ReadFault.{ReadFault}
use Rattle.caibx_codec.specs.declared.reading.ReadFault.TheVariants as errors
use Rattle.chunk_store.specs.Causes.{CountsCause}
use Rattle.dsy_base.specs.declared.fault.IoFault.{IoFault}
use Rattle.dsy_base.specs.declared.fault.IoFault.TheVariants as io
use Rattle.http_serve.specs.Answers.{Answer}
use Rattle.http_wire.specs.declared.index_request.IndexAct.{IndexAct}
use Rattle.http_wire.specs.declared.index_request.IndexAct.TheVariants as act
use Rattle.index_server.specs.Answers.{IndexFolder, index_held, with_index, with_index_length}
use Rattle.index_server.specs.declared.state.ReadMethod.{ReadMethod}
use Rattle.index_server.specs.declared.state.ReadMethod.TheVariants as method

-- all of these bytes were read as an index, or there was no memory for it
abbrev pub ReadsAsIndex : List ℕ → Result Listing ReadFault → Type 0
ReadsAsIndex b (Ok l) = index_in b ≡ Ok l
ReadsAsIndex b (Err (errors.Bad f)) = index_in b ≡ Err f
ReadsAsIndex b (Err errors.Memory) = Unit {0}
ReadsAsIndex b (Err errors.Over) = ⊥

-- a reader and the fault that it has met: it was fed these bytes in all, or shows the first fault of them
abbrev pub HasReadIndex : Option ReadFault → Option (List ℕ) → List ℕ → Type 0
HasReadIndex None reader b = reader ≡ Some b
HasReadIndex (Some e) reader b = Judges {A = Unit {0}} b (Err e)

-- the index of this name was looked for, while the folder came from one state to the other
pub record FindsFile (name : List ℕ) (old : IndexFolder) (found : Result (Option (List ℕ)) IoFault)
    (new : IndexFolder) : Type 0 where
  pub held : IfOk found (λ o. IfSome old.files (λ m. o ≡ index_held (m name)))
  pub kept : new.files ≡ old.files
  pub unfailed : found ≢ Err io.Failed → new.faults ≡ old.faults
  pub faults : CountsCause io.Failed old.faults new.faults found

-- what is asked for by this method
abbrev pub index_asked_by : ReadMethod → List ℕ → IndexAct
index_asked_by method.Get name = act.Get name
index_asked_by method.Head name = act.Head name

-- and how it is answered, where an index is held or none
abbrev pub index_answer_by : ReadMethod → Option (List ℕ) → Answer
index_answer_by method.Get held = with_index held
index_answer_by method.Head held = with_index_length held
