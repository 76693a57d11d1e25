pub mod Info
pub mod Prune
pub mod Verify
pub mod VerifyIndex
