pub mod Sending
pub mod Distinct
pub mod Counted
pub mod Asked
pub mod InfoText
pub mod Pruned
pub mod Kept
