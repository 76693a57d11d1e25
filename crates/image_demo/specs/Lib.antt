pub mod Images
pub mod Figures
pub mod Stocks
pub mod Tasks
pub mod SharedKits
