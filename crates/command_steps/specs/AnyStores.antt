-- What contracts see of a store of a command. L is the type of its folder, D that of its dialer, and K that of
-- its connections.
use Rattle.std.specs.Prelude.{◌≡◌, ◌++◌, ◌≤◌, ℕ, List, [], ◌∷◌, length, Option, Some, None, IfSome, IsSome}
use Rattle.std.specs.Prelude.{Bool, IsTrue}
use Rattle.std.proofs.lemmas.Bool.{false≢true}
use Rattle.std.specs.Map.{count_at}
use Rattle.std.specs.Option.{option_map}
use Rattle.chunk_store.specs.Asks.{Sent, sends_nothing}
use Rattle.chunk_store.specs.Folders.{chunks}
use Rattle.chunk_store.specs.Said.{Said, SaysMap, said_by, says_map}
use Rattle.command_steps.specs.Dials.{AreAmong, since}
use Rattle.command_steps.specs.Sources.{Storage}
use Rattle.command_steps.specs.declared.any_store.AnyStore.{AnyStore}
use Rattle.command_steps.specs.declared.any_store.AnyStore.TheVariants as stores
use Rattle.command_words.specs.declared.command.Location.{Location}
use Rattle.command_words.specs.declared.command.Location.TheVariants as locations
use Rattle.dir_store.specs.Stores.{lies_map, unasked_map}
use Rattle.dsy_base.specs.Counts.{raised}
use Rattle.dsy_base.specs.Links.{DialState, Traffic, with_all}
use Rattle.dsy_base.specs.Maps.{Map}
use Rattle.http_read.specs.Asks.{Server, sent_on, times_asked}
use Rattle.http_read.specs.Remotes.{HasCause, said_on}
use Rattle.http_wire.specs.declared.reply.Method.{Method}

-- the words that name it
abbrev pub location_in : {L D K : Type 0} → (L → List ℕ) → AnyStore L D K → Location
location_in place (stores.Folder l) = locations.Folder (place l)
location_in place (stores.Http r) = locations.Http r.server.host r.server.port r.server.prefix

-- the same as one list of numbers, which is what is seen of its place
abbrev pub code_of : Location → List ℕ
code_of (locations.Folder q) = 0 ∷ q
code_of (locations.Http host port prefix) = 1 ∷ port ∷ length host ∷ host ++ prefix

-- the location of a store as one list of numbers
abbrev pub place_in : {L D K : Type 0} → (L → List ℕ) → AnyStore L D K → List ℕ
place_in place s = code_of (location_in place s)

-- the files of its folder, where it has one and they are told, and the chunks that it holds by their ids
abbrev pub source_files : {L D K : Type 0} → (L → Option (Map (List ℕ))) → AnyStore L D K → Option (Map (List ℕ))
source_files files (stores.Folder l) = files l
source_files files (stores.Http r) = None

-- the chunks that a store holds, if its files are told
abbrev pub chunks_in : {L D K : Type 0} → (L → Option (Map (List ℕ))) → AnyStore L D K → Option (Map (List ℕ))
chunks_in files s = option_map chunks (source_files files s)

-- what it has said of them
abbrev pub said_in : {L D K : Type 0} → (L → Option (Map (List ℕ))) → (D → DialState) → AnyStore L D K → Said
said_in files state (stores.Folder l) = said_by (option_map chunks (files l))
said_in files state (stores.Http r) = said_on r.server (state r.dial).ended

-- what it was sent
abbrev pub source_sent : {L D K : Type 0} → (D → DialState) → AnyStore L D K → Sent
source_sent state (stores.Folder l) = sends_nothing
source_sent state (stores.Http r) = sent_on r.server (state r.dial).ended

-- how often a call on it has failed, or a reply to it wasn't taken
abbrev pub source_faults : {L D K : Type 0} → (L → ℕ) → (D → DialState) → AnyStore L D K → ℕ
source_faults faults state (stores.Folder l) = faults l
source_faults faults state (stores.Http r) = raised (state r.dial).faults r.refused

-- how often it was asked by this method for each id, on the connections that have ended. A folder shows no reads
abbrev pub asked_in : {L D K : Type 0} → Method → (D → DialState) → AnyStore L D K → List ℕ → ℕ
asked_in m state (stores.Folder l) = λ id. 0
asked_in m state (stores.Http r) = times_asked r.server m (state r.dial).ended

-- no connection has ended on it
abbrev pub IsUnused : {L D K : Type 0} → (D → DialState) → AnyStore L D K → Type 0
IsUnused state (stores.Folder l) = Unit {0}
IsUnused state (stores.Http r) = IfSome (state r.dial).ended (λ ended. ended ≡ [])

-- ---- giving it back

-- connections that had ended, and then those on it
abbrev pub with_those : {L D K : Type 0} → (D → DialState) → Option (List Traffic) → AnyStore L D K
    → Option (List Traffic)
with_those state ended (stores.Folder l) = ended
with_those state ended (stores.Http r) = with_all ended (state r.dial).ended

-- its place has a number, where it is a folder
abbrev pub IsKnown : Map ℕ → Location → Type 0
IsKnown counts (locations.Folder q) = IsSome (counts q)
IsKnown counts (locations.Http host port prefix) = Unit {0}

-- what a store over connections has counted and heard, with this dialer, was added to a dialer; and replies weren't
-- taken only where a connection shows one
pub record IsJoined (k j : DialState) (server : Server) (dial : DialState) (refused : ℕ) : Type 0 where
  pub faults : raised k.faults dial.faults ≤ j.faults
  pub ended : AreAmong dial.ended (since k.ended j.ended)
  pub cause : HasCause server refused dial.ended

-- what it has counted was added to the number of its folder, at the least, or to what was dialed
abbrev pub IsGiven : {L D K : Type 0} → (L → List ℕ) → (L → ℕ) → (D → DialState)
    → Storage → Storage → AnyStore L D K → Type 0
IsGiven place faults state w v (stores.Folder l) =
    raised (count_at w.disk.folder_counts (place l)) (faults l) ≤ count_at v.disk.folder_counts (place l)
IsGiven place faults state w v (stores.Http r) = IsJoined w.dial v.dial r.server (state r.dial) r.refused

-- ---- what each store of a command keeps to

-- what a store says is exactly what it holds, if that is told
pub says_any : {L D K : Type 0} (files : L → Option (Map (List ℕ))) (state : D → DialState) (s : AnyStore L D K)
    → IfSome (chunks_in files s) (SaysMap (said_in files state s))
says_any files state (stores.Folder l) = says_map (option_map chunks (files l))
says_any files state (stores.Http r) = tt

-- what a store holds are the chunk files of its folder, if they are told
pub lies_any : {L D K : Type 0} (files : L → Option (Map (List ℕ))) (s : AnyStore L D K)
    → IfSome (source_files files s) (λ m. chunks_in files s ≡ Some (chunks m))
lies_any files (stores.Folder l) = lies_map (files l)
lies_any files (stores.Http r) = tt

-- a store whose files are told counts no question
pub unasked_any : {L D K : Type 0} (files : L → Option (Map (List ℕ))) (m n : Method) (state : D → DialState)
    (s : AnyStore L D K)
    → IfSome (chunks_in files s) (λ _. (q : List ℕ) → (asked_in m state s q ≡ 0) × (asked_in n state s q ≡ 0))
unasked_any files m n state (stores.Folder l) = unasked_map (option_map chunks (files l))
unasked_any files m n state (stores.Http r) = tt

-- a store whose files are told is a folder, and counts no fault where folders never fail
pub steady_any : {L D K : Type 0} (files : L → Option (Map (List ℕ))) (faults : L → ℕ) (state : D → DialState)
    (sure : Bool) → ((l : L) → IsTrue sure → faults l ≡ 0) → (s : AnyStore L D K) → IsTrue sure
    → IsSome (chunks_in files s) → source_faults faults state s ≡ 0
steady_any files faults state sure none (stores.Folder l) t told = none l t
steady_any files faults state sure none (stores.Http r) t told = absurd (false≢true told)
