pub mod Trees
pub mod MemFiles
pub mod MemSinks
pub mod SlotFiles
