-- An index is obtained by the operand that names it: it is read from a file, or fetched from a server.
use Rattle.std.specs.Prelude.{◌≡◌, ℕ, List, [], ◌∷◌, Result, Ok, Err}
use Rattle.caibx_codec.specs.Listing.{Listing}
use Rattle.command_outcome.specs.declared.outcome.Outcome.{Outcome}
use Rattle.command_outcome.specs.declared.outcome.Outcome.TheVariants as ends
use Rattle.command_steps.specs.InputFiles.{IndexRead}
use Rattle.command_steps.specs.Seeds.{CountedWith}
use Rattle.command_steps.specs.Sources.{NotAsking, OnStorage, Storage}
use Rattle.command_words.specs.Locations.{index_place_of}
use Rattle.command_words.specs.declared.location.IndexPlace.{IndexPlace}
use Rattle.command_words.specs.declared.location.IndexPlace.TheVariants as places
use Rattle.command_words.specs.declared.location.NoLocation.{NoLocation}
use Rattle.command_words.specs.declared.location.NoLocation.TheVariants as no
use Rattle.command_worlds.specs.Steps.{◌>>=◌}
use Rattle.command_worlds.specs.Worlds.{Pure, Step, World}
use Rattle.index_server.specs.Fetching.{Fetched}
use Rattle.index_server.specs.declared.fetch_index.FetchFault.{FetchFault}
use Rattle.index_server.specs.declared.fetch_index.FetchFault.TheVariants as fetch

-- the outcome where no index was fetched by this operand
abbrev pub outcome_of_fetch : List ℕ → FetchFault → Outcome
outcome_of_fetch q fetch.Absent = ends.NoFile q
outcome_of_fetch q (fetch.Bad fault) = ends.BadIndex q fault
outcome_of_fetch q (fetch.Status status) = ends.FileFault q
outcome_of_fetch q (fetch.Wire fault) = ends.FileFault q
outcome_of_fetch q fetch.Failed = ends.FileFault q
outcome_of_fetch q fetch.Memory = ends.Memory

abbrev pub answer_of_fetch : List ℕ → Result Listing FetchFault → Result Listing Outcome
answer_of_fetch q (Ok l) = Ok l
answer_of_fetch q (Err fault) = Err (outcome_of_fetch q fault)

-- the index was asked for at this host, port and path. Files and folders were not touched
pub record IndexFetched (q host : List ℕ) (port : ℕ) (path : List ℕ) (w : Storage) (r : Result Listing Outcome)
    (v : Storage) : Type 0 where
  pub reply : Result Listing FetchFault
  pub answer : r ≡ answer_of_fetch q reply
  pub fetched : Fetched host port path w.dial reply v.dial
  pub kept : v.disk ≡ w.disk

-- there was no memory to read the operand; one that names no place is refused before
abbrev pub NotPlaced : NoLocation → Step Storage Listing
NotPlaced no.Memory w r v = (r ≡ Err ends.Memory) × (v ≡ w)
NotPlaced no.Bad w r v = ⊥

-- the index of the operand q, which names this place: a file is read, and no server is asked; or a server is
abbrev pub GotAt : List ℕ → Result IndexPlace NoLocation → Step Storage Listing
GotAt q (Ok (places.File name)) w r v = NotAsking (IndexRead q) w r v
GotAt q (Ok (places.Http host port path)) w r v = IndexFetched q host port path w r v
GotAt q (Err why) w r v = NotPlaced why w r v

abbrev pub IndexGot : List ℕ → Step Storage Listing
IndexGot q w r v = GotAt q (index_place_of q) w r v

-- the indexes of these operands in order, which with n items besides list no more than they may
abbrev pub IndexesGot : ℕ → List (List ℕ) → Step World (List Listing)
IndexesGot n [] = Pure (λ r. r ≡ Ok [])
IndexesGot n (q ∷ names) = do
  l ← OnStorage (IndexGot q)
  m ← Pure (CountedWith n l)
  ls ← IndexesGot m names
  Pure (λ r. r ≡ Ok (l ∷ ls))
