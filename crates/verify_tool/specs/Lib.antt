pub mod Texts
pub mod Counts
pub mod Blocks
pub mod Figures
pub mod Pruning
