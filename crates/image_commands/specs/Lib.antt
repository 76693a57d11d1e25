pub mod Chop
pub mod Make
