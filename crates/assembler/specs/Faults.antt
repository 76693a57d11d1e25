-- The answers of an assembly.
use Rattle.std.specs.Prelude.{ℕ}
use Rattle.chunk_store.specs.declared.id.ChunkId.{ChunkId}
use Rattle.store_chain.specs.declared.refused.Refused.{Refused}
use Rattle.store_chain.specs.declared.refused.Refused.TheVariants as refused
use Rattle.assembler.specs.declared.fault.ExtractFault.{ExtractFault}
use Rattle.assembler.specs.declared.fault.ExtractFault.TheVariants as faults

-- the answer where no source gave the chunk of an entry, and the stores answered so
abbrev pub fault_of : ℕ → ChunkId → Refused → ExtractFault
fault_of entry id refused.Missing = faults.Missing entry id
fault_of entry id (refused.Damaged store shows) = faults.Damaged entry id store shows
fault_of entry id (refused.StoreFault store) = faults.StoreFault store
fault_of entry id refused.Memory = faults.Memory
