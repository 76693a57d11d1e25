pub mod Caching
pub mod Filling
