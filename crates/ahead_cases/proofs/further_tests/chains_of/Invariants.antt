use Rattle.std.proofs.Common.{◌≡◌, ◌∷◌, ◌-◌, ◌≤◌, [], All, None, map, vec_len}
use Rattle.std.specs.Option.{option_map}
use Rattle.ahead_cases.specs.contracts.gated_folder.GatedFolderLook.TheImpl.{ghosts}
use Rattle.chunk_store.specs.Folders.{chunks}
use Rattle.chunk_store.specs.Said.{just_one}
use Rattle.chunk_store.specs.declared.id.DigestKind.TheVariants as kinds
use Rattle.ahead_cases.proofs.further_tests.chains_of.Given as goal

abbrev pub invariant-loop-alloc : goal.invariant-loop-alloc
invariant-loop-alloc g l = (vec_len l.chains ≤ l.count)
    × All (λ c. c.kind ≡ kinds.Sha512T256) l.chains.items
    × All (λ c. map (λ s. option_map chunks (ghosts.files s)) c.stores ≡ None ∷ []) l.chains.items
    × All (λ c. map (λ s. just_one (option_map chunks (ghosts.files s))) c.stores ≡ None ∷ []) l.chains.items

abbrev pub decreases-loop-alloc : goal.decreases-loop-alloc
decreases-loop-alloc g l = l.count - vec_len l.chains
