pub mod Demo
pub mod ListChunks
