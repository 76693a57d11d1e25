-- What a store sends to its server: the head of an ask, and after that of a PUT the chunk. Which paths there are is
-- this project's own.
use Rattle.std.specs.Prelude.{◌≡◌, ℕ, ◌≤◌, List, [], ◌∷◌, ◌++◌, length, map, take, Option, Some, None, Bool, codes}
use Rattle.std.specs.List.{count_by}
use Rattle.std.specs.Option.{option_map}
use Rattle.std.specs.Str.{bytes_eq}
use Rattle.chunk_store.specs.Asks.{Ask, Get, Has, Put, Sent}
use Rattle.chunk_store.specs.Paths.{path_of}
use Rattle.dsy_base.specs.Links.{Traffic}
use Rattle.http_wire.specs.Ask.{ask, method_name}
use Rattle.http_wire.specs.declared.reply.Method.{Method}
use Rattle.http_wire.specs.declared.reply.Method.TheVariants as method

-- a server of chunks: its host and port, and what stands before the paths of chunks
pub record Server : Type 0 where
  pub host : List ℕ
  pub port : ℕ
  pub prefix : List ℕ

-- where the chunk of this id lies on the server
abbrev pub target : Server → List ℕ → List ℕ
target s id = s.prefix ++ (codes "/" ++ path_of id)

-- the whole ask for this id, with these bytes where it is a PUT
abbrev pub asks : Server → Method → List ℕ → List ℕ → List ℕ
asks s method.Get id b = ask method.Get s.host s.port (target s id) None
asks s method.Head id b = ask method.Head s.host s.port (target s id) None
asks s method.Put id b = ask method.Put s.host s.port (target s id) (Some (length b)) ++ b

abbrev pub asks_get : Server → List ℕ → List ℕ
asks_get s id = asks s method.Get id []

-- the whole request for a chunk by HEAD
abbrev pub asks_head : Server → List ℕ → List ℕ
asks_head s id = asks s method.Head id []

abbrev pub asks_put : Server → List ℕ → List ℕ → List ℕ
asks_put s id b = asks s method.Put id b

-- the whole request for what a store is asked
abbrev pub ask_bytes : Server → Ask → List ℕ
ask_bytes s (Get id) = asks_get s id
ask_bytes s (Has id) = asks_head s id
ask_bytes s (Put id b) = asks_put s id b

-- what was sent to the server on the connections that have ended, where they are told
abbrev pub sent_on : Server → Option (List Traffic) → Sent
sent_on s ended n = record { spells = ask_bytes s; ended = option_map (map (λ t. t.sent)) ended }

-- a front of these bytes was sent
abbrev pub IsFront : List ℕ → List ℕ → Type 0
IsFront b sent = (n : ℕ) × (n ≤ length b) × (sent ≡ take n b)

-- the server as one list of numbers, which is what is seen of the place of its store
abbrev pub server_place : Server → List ℕ
server_place s = s.port ∷ length s.host ∷ s.host ++ s.prefix

-- ---- how often a server was asked

-- an ask's bytes up to the space behind its path (RFC 9112, section 3): they name the method and the id
abbrev pub front_of : Server → Method → List ℕ → List ℕ
front_of s m id = method_name m ++ (codes " " ++ (target s id ++ codes " "))

-- whether a connection was asked by this method for the chunk of this id
abbrev pub is_asked : Server → Method → List ℕ → Traffic → Bool
is_asked s m id t = bytes_eq (take (length (front_of s m id)) t.sent) (front_of s m id)

-- on how many of the connections that have ended. Where they aren't told none is known
abbrev pub times_asked : Server → Method → Option (List Traffic) → List ℕ → ℕ
times_asked s m None id = 0
times_asked s m (Some ended) id = count_by (is_asked s m id) ended
