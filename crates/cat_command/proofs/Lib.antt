pub mod Between
pub mod Entries
pub mod Given
pub mod Parts
pub mod Pieces
pub mod Ranges
