use Rattle.std.proofs.Common.{◌≡◌, ◌-◌, ◌≤◌, length, vec_len, All}
use Rattle.chunk_store.specs.declared.id.DigestKind.TheVariants as kinds
use Rattle.image_cases.proofs.scene_tests.scene_kits.Given as goal

abbrev pub invariant-loop-alloc : goal.invariant-loop-alloc
invariant-loop-alloc g l = (vec_len l.kits ≤ l.count)
    × All (λ k. k.chain.kind ≡ kinds.Sha512T256) l.kits.items
    × All (λ k. length k.seeds.items ≡ 1) l.kits.items

abbrev pub decreases-loop-alloc : goal.decreases-loop-alloc
decreases-loop-alloc g l = l.count - vec_len l.kits
