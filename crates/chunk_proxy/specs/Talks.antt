-- A connection to a cache before stores as a whole.
use Rattle.std.specs.Prelude.{◌≡◌, ℕ, ◌+◌, ◌<◌, ◌^◌, List, [], ◌∷◌, ◌++◌, false, Option, Some, None, IfSome}
use Rattle.chunk_server.specs.Requests.{AreRequests, Asked, IsOver, reading}
use Rattle.chunk_server.specs.Turns.{replies}
use Rattle.chunk_store.specs.declared.id.DigestKind.{DigestKind}
use Rattle.dsy_base.specs.Links.{Traffic}
use Rattle.dsy_base.specs.Maps.{Map}
use Rattle.http_serve.specs.Protocols.{Answering, Protocol}
use Rattle.http_serve.specs.Steps.{ServedState}
use Rattle.http_serve.specs.Turns.{files_left, turns_of}
use Rattle.http_wire.specs.declared.request.Act.{Act}
use Rattle.http_wire.specs.declared.request.Act.TheVariants as act
use Rattle.http_wire.specs.declared.request.Request.{Request}
use Rattle.chunk_proxy.specs.Answers.{IsProxyAnswer, given_by_cache, proxy_after, proxy_answer}
use Rattle.chunk_proxy.specs.States.{AreCachesAlike, ProxyFiles}

-- how requests are answered
abbrev pub proxy_answering : DigestKind → List (Map (List ℕ)) → Answering Request ProxyFiles
proxy_answering kind maps = record {
  answer_to = λ f r body. proxy_answer kind maps f r.act;
  files_after = λ f r body. proxy_after kind maps f r.act;
  alike = AreCachesAlike;
}

-- how they are read and answered. A PUT is refused before its body is read
abbrev pub proxy_protocol : DigestKind → List (Map (List ℕ)) → Protocol Request ProxyFiles
proxy_protocol kind maps = record {
  reading = reading false;
  answering = proxy_answering kind maps;
  fair = λ t. IsProxyAnswer kind t.asked.request.act t.answer;
}

-- one where the cache holds no such chunk
abbrev pub one_where_none : Option (List ℕ) → ℕ
one_where_none None = 1
one_where_none (Some b) = 0

-- how often the stores are asked for an answer: once for a chunk that the cache doesn't give
abbrev pub ask_made : DigestKind → ProxyFiles → Act → ℕ
ask_made kind f (act.Get id) = one_where_none (given_by_cache kind f id.0)
ask_made kind f (act.Head id) = one_where_none (given_by_cache kind f id.0)
ask_made kind f (act.Put id) = 0
ask_made kind f act.Lost = 0
ask_made kind f (act.Refuse status) = 0

-- how many of the requests ask for a chunk that the cache, as it is then, doesn't give
unfoldable pub asks_made : DigestKind → List (Map (List ℕ)) → ProxyFiles → List Asked → ℕ
asks_made kind maps f [] = 0
asks_made kind maps f (a ∷ more) =
    ask_made kind f a.request.act + asks_made kind maps (proxy_after kind maps f a.request.act) more

-- the bytes that are sent, and what is left, where b is all that comes, and the cache and the stores hold these. The
-- count of asks stays at its greatest value
pub record ProxyTalk (kind : DigestKind) (maps : List (Map (List ℕ))) (b : List ℕ) (files : ProxyFiles) (sent : List ℕ)
    (left : ProxyFiles) : Type 0 where
  pub asked : List Asked
  pub rest : Option (List ℕ)
  pub comes : AreRequests false (Some b) asked rest
  pub over : IsOver false rest
  pub answers : sent ≡ replies (turns_of (proxy_answering kind maps) files asked)
  pub leaves : left ≡ files_left (proxy_answering kind maps) files asked
  pub asks : files.asks + asks_made kind maps files asked < 2 ^ 64
      → left.asks ≡ files.asks + asks_made kind maps files asked

-- exactly the bytes of the talk were sent on a connection, and what is held is what the talk leaves, where that is told
abbrev pub TalksExactly : DigestKind → List (Map (List ℕ)) → Traffic → ServedState ProxyFiles → Traffic
    → ServedState ProxyFiles → Type 0
TalksExactly kind maps t old u new = IfSome old.files (λ files. (sent : List ℕ) × (left : ProxyFiles)
    × ProxyTalk kind maps t.coming files sent left × (u.sent ≡ t.sent ++ sent) × (new.files ≡ Some left))
