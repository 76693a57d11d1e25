pub mod AnyCaches
pub mod Wants
pub mod Caches
pub mod Sources
pub mod Losses
pub mod Asks
pub mod Economy
