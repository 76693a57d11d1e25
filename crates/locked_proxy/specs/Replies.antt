-- What a proxy may reply whose cache began with named files and whose stores hold named maps, whatever other
-- connections do.
use Rattle.std.specs.Prelude.{◌≡◌, ◌≢◌, ℕ, Bool, false, List, Option, IfSome, IsSome, IsTrue}
use Rattle.chunk_proxy.specs.Answers.{IsProxyAnswer, given_by_stores}
use Rattle.chunk_server.specs.Answers.{Answer, chunk_held}
use Rattle.chunk_server.specs.Reads.{asked_by}
use Rattle.chunk_server.specs.declared.chunk_file.ReadMethod.{ReadMethod}
use Rattle.chunk_store.specs.Folders.{chunks}
use Rattle.chunk_store.specs.declared.id.ChunkId.{ChunkId}
use Rattle.chunk_store.specs.declared.id.DigestKind.{DigestKind}
use Rattle.dsy_base.specs.Links.{LinkState}
use Rattle.dsy_base.specs.Maps.{Map}
use Rattle.http_wire.specs.declared.request.Act.{Act}
use Rattle.http_wire.specs.declared.request.Act.TheVariants as act
use Rattle.locked_shelf.specs.Endings.{EndsServing}

-- a chunk that is asked for, and that this function gives by its id, is answered 200
abbrev pub GivesWhere : (List ℕ → Option (List ℕ)) → Act → Answer → Type 0
GivesWhere given (act.Get id) r = IsSome (given id.0) → r.status ≡ 200
GivesWhere given (act.Head id) r = IsSome (given id.0) → r.status ≡ 200
GivesWhere given (act.Put id) r = Unit {0}
GivesWhere given act.Lost r = Unit {0}
GivesWhere given (act.Refuse status) r = Unit {0}

-- over a cache that began with these files, and stores that hold these maps, where they are named, and which maybe
-- never fail
pub record MayProxy
    (kind : DigestKind) (opening : Option (Map (List ℕ))) (maps : Option (List (Map (List ℕ))))
    (cache_sure stores_sure : Bool) (a : Act) (r : Answer) : Type 0 where
  pub only : IsProxyAnswer kind a r
  pub cached : IsTrue cache_sure → IfSome opening (λ first. GivesWhere (λ id. chunk_held kind id (chunks first id)) a r)
  pub stored : IsTrue stores_sure → IfSome maps (λ ms. GivesWhere (given_by_stores kind ms) a r)
  pub sure : IsTrue stores_sure → r.status ≢ 500

-- what is replied where the cache didn't give a chunk that was asked for: the stores' chunk, or that there is none, or
-- that a store has failed
pub record Supplies (kind : DigestKind) (maps : Option (List (Map (List ℕ)))) (stores_sure : Bool) (m : ReadMethod)
    (id : ChunkId) (r : Answer) : Type 0 where
  pub only : IsProxyAnswer kind (asked_by m id) r
  pub given : IsTrue stores_sure → IfSome maps (λ ms. IsSome (given_by_stores kind ms id.0) → r.status ≡ 200)
  pub sure : IsTrue stores_sure → r.status ≢ 500

-- how a connection to such a proxy has ended
abbrev pub EndsThrough : DigestKind → Option (Map (List ℕ)) → Option (List (Map (List ℕ))) → Bool → Bool → Bool → Bool
    → LinkState → Type 0
EndsThrough kind opening maps cache_sure stores_sure tells =
    EndsServing kind (λ a body r. MayProxy kind opening maps cache_sure stores_sure a r) false tells
