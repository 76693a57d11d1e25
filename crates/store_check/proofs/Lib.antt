pub mod Looks
pub mod Verified
pub mod Progress
