-- Two passes as one.
use Rattle.std.proofs.Common.{◌≡◌, ℕ, Result, Ok, Err, IfErr, refl, inl, inr}
use Rattle.assembler.specs.Faults.{fault_of}
use Rattle.assembler.specs.Passes.{EndsBy}
use Rattle.assembler.specs.declared.fault.ExtractFault.{ExtractFault}
use Rattle.assembler.specs.declared.fault.ExtractFault.TheVariants as faults
use Rattle.assembler.specs.declared.fault.Lost.{Lost}
use Rattle.chunk_store.specs.declared.id.ChunkId.{ChunkId}
use Rattle.store_chain.specs.declared.refused.Refused.{Refused}
use Rattle.store_chain.specs.declared.refused.Refused.TheVariants as refused

pub ends_map : {A : Type 0} (P Q : Lost → Type 0) (F G : Type 0) (r : Result A ExtractFault) → ((lost : Lost) → P lost → Q lost) → (F → G) → EndsBy P F r → EndsBy Q G r
ends_map P Q F G (Ok u) f g ends = tt
ends_map P Q F G (Err e) f g (inl (lost, is, holds)) = inl (lost, is, f lost holds)
ends_map P Q F G (Err e) f g (inr (inl (is, holds))) = inr (inl (is, g holds))
ends_map P Q F G (Err e) f g (inr (inr is)) = inr (inr is)

pub err_map : {A : Type 0} (P Q : ExtractFault → Type 0) (r : Result A ExtractFault) → ((e : ExtractFault) → P e → Q e) → IfErr r P → IfErr r Q
err_map P Q (Ok u) f holds = tt
err_map P Q (Err e) f holds = f e holds

-- what stores answered never says that the target failed
pub fault_apart : (k : ℕ) (id : ChunkId) (r : Refused) → fault_of k id r ≡ faults.TargetFault → ⊥
fault_apart k id refused.Missing is = let no : faults.Missing k id ≡ faults.TargetFault = is in absurd (cc)
fault_apart k id (refused.Damaged s x) is = let no : faults.Damaged k id s x ≡ faults.TargetFault = is in absurd (cc)
fault_apart k id (refused.StoreFault s) is = let no : faults.StoreFault s ≡ faults.TargetFault = is in absurd (cc)
fault_apart k id refused.Memory is = let no : faults.Memory ≡ faults.TargetFault = is in absurd (cc)

abbrev Settled : Type 0
Settled = Result (Unit {0}) ExtractFault

pub err_same : (e f : ExtractFault) → Path Settled (Err e) (Err f) → e ≡ f
err_same e f is = cc

pub ok_apart : (u : Unit {0}) → Path Settled (Ok u) (Err faults.TargetFault) → ⊥
ok_apart u is = absurd (cc)

pub memory_apart : Path Settled (Err faults.Memory) (Err faults.TargetFault) → ⊥
memory_apart is = absurd (cc)

pub target_apart : faults.TargetFault ≡ faults.Memory → ⊥
target_apart is = absurd (cc)

-- nor that there was no memory, unless it was so
pub memory_never : (k : ℕ) (id : ChunkId) (r : Refused) → (r ≡ refused.Memory → ⊥) → fault_of k id r ≡ faults.Memory → ⊥
memory_never k id refused.Missing had is = let no : faults.Missing k id ≡ faults.Memory = is in absurd (cc)
memory_never k id (refused.Damaged s x) had is = let no : faults.Damaged k id s x ≡ faults.Memory = is in absurd (cc)
memory_never k id (refused.StoreFault s) had is = let no : faults.StoreFault s ≡ faults.Memory = is in absurd (cc)
memory_never k id refused.Memory had is = had refl
