pub mod Digits
pub mod Paths
pub mod Said
pub mod Sends
pub mod Chunks
pub mod Members
