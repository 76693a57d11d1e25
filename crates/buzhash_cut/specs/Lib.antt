pub mod Sizes
pub mod Right
pub mod Image
pub mod Entries
pub mod Slicing
pub mod Runs
