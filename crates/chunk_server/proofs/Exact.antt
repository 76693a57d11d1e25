-- Where no fault is counted, turns are those of the files.
use Rattle.std.proofs.Common.{◌≡◌, ℕ, List, map, Some}
use Rattle.chunk_store.specs.declared.id.DigestKind.{DigestKind}
use Rattle.dsy_base.specs.Counts.{Quiet}
use Rattle.dsy_base.specs.Maps.{Map}
use Rattle.http_serve.proofs.Exact as serving
use Rattle.chunk_server.specs.Shelves.{ServedFolder}
use Rattle.chunk_server.specs.Turns.{Takes, Turn, answering, files_left, turns_of}

pub exact : (kind : DigestKind) (old new : ServedFolder) (m : Map (List ℕ)) (ts : List Turn) → Takes kind old ts new → old.files ≡ Some m → Quiet old.faults new.faults
    → (ts ≡ turns_of kind m (map (λ t. t.asked) ts)) × (new.files ≡ Some (files_left kind m (map (λ t. t.asked) ts)))
exact kind old new m ts h is quiet = serving.exact (answering kind) old new m ts h is quiet
