pub mod Verifying
pub mod Verdicts
pub mod Reading
pub mod VerifyProgress
