pub mod Chained
pub mod Replying
