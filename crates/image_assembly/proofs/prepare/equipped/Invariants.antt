use Rattle.std.proofs.Common.{◌≡◌, ◌+◌, ◌<◌, ℕ, All, length, map, slice_index_or}
use Rattle.caibx_codec.specs.Listing.{Listing}
use Rattle.chunk_sources.specs.declared.kit.Kit.{Kit}
use Rattle.image_assembly.specs.Readied.{IsRoomOf}
use Rattle.image_assembly.proofs.prepare.equipped.Given as goal

-- the first k kits have a buffer, and there is one for each other
abbrev pub invariant-loop-k : goal.invariant-loop-k
invariant-loop-k g l = record {
  size : length l.kits.items ≡ length l.fn.kits.items;
  left : length l.buffers.items + l.k ≡ length l.fn.kits.items;
  chain : map (λ q. q.chain) l.kits.items ≡ map (λ q. q.chain) l.fn.kits.items;
  seeds : map (λ q. q.seeds) l.kits.items ≡ map (λ q. q.seeds) l.fn.kits.items;
  room : (n : Listing) → All (λ b. IsRoomOf n (length b.items)) l.fn.buffers.items → All (λ b. IsRoomOf n (length b.items)) l.buffers.items
      × ((j : ℕ) (q : Kit g.row.S.Denot g.row.V.Denot) → j < l.k → IsRoomOf n (length (slice_index_or l.kits.items j q).buffer.items));
}
