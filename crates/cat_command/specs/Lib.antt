pub mod Putting
pub mod Cat
