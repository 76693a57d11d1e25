pub mod Extents
pub mod Fills
pub mod Machine
pub mod Runs
pub mod Steps
