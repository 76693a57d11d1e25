pub mod Checks
pub mod CheckProgress
