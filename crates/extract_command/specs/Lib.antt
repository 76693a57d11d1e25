pub mod Extract
pub mod Held
pub mod Kits
