use Rattle.std.proofs.lemmas.Str.{IsUtf8-from_ascii}
use Rattle.chunk_store.proofs.path.ChunkPath.as_str.Goals as goal

pub unreachable-requires : goal.unreachable-requires
unreachable-requires c = c.in_default.ensures.cases.0 (IsUtf8-from_ascii c.self.inside.bytes c.self.invariant)
