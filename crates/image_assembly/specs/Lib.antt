pub mod Endings
pub mod Readied
