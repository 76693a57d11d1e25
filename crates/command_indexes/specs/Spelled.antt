-- What the operands of indexes were found to spell, over one step or several.
use Rattle.std.specs.Prelude.{◌≡◌, ◌⊎◌, ℕ, List, [], ◌∷◌, Option, IfSome, Result, Ok, Err}
use Rattle.std.specs.List.{Any}
use Rattle.caibx_codec.specs.Listing.{Listing}
use Rattle.command_outcome.specs.declared.outcome.Outcome.{Outcome}
use Rattle.command_outcome.specs.declared.outcome.Outcome.TheVariants as ends
use Rattle.command_indexes.specs.Blames.{IndexRose}
use Rattle.command_steps.specs.Dials.{since}
use Rattle.command_steps.specs.InputFiles.{Listed, NotRead}
use Rattle.command_steps.specs.Sources.{Storage}
use Rattle.command_words.specs.Locations.{index_place_of}
use Rattle.command_words.specs.declared.location.IndexPlace.{IndexPlace}
use Rattle.command_words.specs.declared.location.IndexPlace.TheVariants as places
use Rattle.command_words.specs.declared.location.NoLocation.{NoLocation}
use Rattle.dsy_base.specs.Links.{Traffic}
use Rattle.http_read.specs.Asks.{IsFront}
use Rattle.http_read.specs.Remotes.{AddsOne}
use Rattle.index_server.specs.Fetching.{RepliesOfIndex, asks_index}
use Rattle.index_server.specs.declared.fetch_index.FetchFault.{FetchFault}
use Rattle.index_server.specs.declared.fetch_index.FetchFault.TheVariants as fetch

-- ---- one operand

-- a connection that has ended since was asked for the index, and said this. Where connections aren't told, nothing is
-- known
abbrev pub HasReplied : List ℕ → ℕ → List ℕ → Storage → Storage → Result Listing FetchFault → Type 0
HasReplied host port path w v r = IfSome (since w.dial.ended v.dial.ended)
    (Any (λ t. (t.sent ≡ asks_index host port path) × RepliesOfIndex t r))

-- this index: the file held its index file, or the body of a 200 was that
abbrev pub SpellsAt : List ℕ → Result IndexPlace NoLocation → Storage → Storage → Listing → Type 0
SpellsAt q (Ok (places.File name)) w v l = Listed w.disk q l
SpellsAt q (Ok (places.Http host port path)) w v l = HasReplied host port path w v (Ok l)
SpellsAt q (Err why) w v l = ⊥

-- from w to v the operand spelled this index
abbrev pub IndexSpells : Storage → Storage → List ℕ → Listing → Type 0
IndexSpells w v q l = SpellsAt q (index_place_of q) w v l

-- why a server gave none
abbrev pub NoneServed : List ℕ → List ℕ → ℕ → List ℕ → Storage → Storage → Outcome → Type 0
NoneServed q host port path w v (ends.NoFile name) = (name ≡ q) × HasReplied host port path w v (Err fetch.Absent)
NoneServed q host port path w v (ends.BadIndex name fault) =
    (name ≡ q) × HasReplied host port path w v (Err (fetch.Bad fault))
NoneServed q host port path w v (ends.FileFault name) =
    (name ≡ q) × IndexRose w.dial v.dial (Ok (places.Http host port path))
NoneServed q host port path w v ends.Memory = Unit {0}
NoneServed q host port path w v other = ⊥

abbrev pub NotSpelledAt : List ℕ → Result IndexPlace NoLocation → Storage → Storage → Outcome → Type 0
NotSpelledAt q (Ok (places.File name)) w v o = NotRead w.disk v.disk q o
NotSpelledAt q (Ok (places.Http host port path)) w v o = NoneServed q host port path w v o
NotSpelledAt q (Err why) w v o = o ≡ ends.Memory

-- it spelled none, for this reason
abbrev pub NotSpelled : Storage → Storage → List ℕ → Outcome → Type 0
NotSpelled w v q o = NotSpelledAt q (index_place_of q) w v o

-- ---- how often servers were asked

-- at most one connection has ended, on which a front of the whole request was sent; a file asks none
abbrev pub AsksOnceAt : Result IndexPlace NoLocation → Option (List Traffic) → Option (List Traffic) → Type 0
AsksOnceAt (Ok (places.Http host port path)) old new =
    (new ≡ old) ⊎ AddsOne (λ t. IsFront (asks_index host port path) t.sent) old new
AsksOnceAt other old new = new ≡ old

-- for each of these operands in order, so it is
abbrev pub AsksInTurn : List (List ℕ) → Option (List Traffic) → Option (List Traffic) → Type 0
AsksInTurn [] old new = new ≡ old
AsksInTurn (q ∷ names) old new =
    (mid : Option (List Traffic)) × AsksOnceAt (index_place_of q) old mid × AsksInTurn names mid new
