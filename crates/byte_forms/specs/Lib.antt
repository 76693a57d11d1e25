pub mod Ranges
pub mod MemTargets
