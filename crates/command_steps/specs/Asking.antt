-- How servers are asked over a command: by which methods, for which ids, and how often.
use Rattle.std.specs.Prelude.{◌≡◌, ℕ, zero, suc, ◌≤◌, List, [], ◌∷◌, Option, Some, IfSome}
use Rattle.std.specs.List.{All}
use Rattle.chunk_store.specs.Asks.{Ask, IsFrontOf}
use Rattle.command_steps.specs.Sources.{server_at}
use Rattle.command_words.specs.declared.command.Location.{Location}
use Rattle.command_words.specs.declared.command.Location.TheVariants as locations
use Rattle.dsy_base.specs.Links.{Traffic, with_all}
use Rattle.http_read.specs.Asks.{Server, ask_bytes, times_asked}
use Rattle.http_wire.specs.declared.reply.Method.{Method}
use Rattle.http_wire.specs.declared.reply.Method.TheVariants as method

-- a server was asked by this method at most so often for each id, on these connections
abbrev pub AsksFew : Method → (List ℕ → ℕ) → Server → List Traffic → Type 0
AsksFew m n s ended = (id : List ℕ) → times_asked s m (Some ended) id ≤ n id

-- for chunks it was asked at most so often, and so often whether it has them
abbrev pub Asks : (List ℕ → ℕ) → (List ℕ → ℕ) → Server → List Traffic → Type 0
Asks gets heads s ended = AsksFew method.Get gets s ended × AsksFew method.Head heads s ended

-- it was sent nothing but fronts of requests for asks of which P holds
abbrev pub SendsFronts : (Ask → Type 0) → Server → List Traffic → Type 0
SendsFronts P s ended = All (λ t. IsFrontOf P (ask_bytes s) t.sent) ended

-- it was asked so often, and sent nothing else
abbrev pub AsksOnly : (List ℕ → ℕ) → (List ℕ → ℕ) → (Ask → Type 0) → Server → List Traffic → Type 0
AsksOnly gets heads P s ended = Asks gets heads s ended × SendsFronts P s ended

-- those that have ended since are, in the order of the stores, some on the server of each: P holds for these. A folder
-- has none
abbrev pub EachDialed : (Server → List Traffic → Type 0) → List Location → Option (List Traffic)
    → Option (List Traffic) → Type 0
EachDialed P [] old new = new ≡ old
EachDialed P (locations.Folder q ∷ stores) old new = EachDialed P stores old new
EachDialed P (locations.Http host port prefix ∷ stores) old new = (ended : Option (List Traffic))
    × IfSome ended (P (server_at host port prefix)) × EachDialed P stores (with_all old ended) new

-- the connections of the workers' stores have ended one worker's after the other, those of the last first: P k holds
-- for those of worker k
abbrev pub WorkersDialed : (ℕ → Server → List Traffic → Type 0) → ℕ → List Location → Option (List Traffic)
    → Option (List Traffic) → Type 0
WorkersDialed P zero stores old new = new ≡ old
WorkersDialed P (suc k) stores old new = (ended : Option (List Traffic)) × EachDialed (P k) stores old ended
    × WorkersDialed P k stores ended new
